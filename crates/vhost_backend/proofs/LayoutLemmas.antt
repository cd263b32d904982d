-- Regions that become guest memory, one after another.
use Rattle.std.proofs.Common.{◌≡◌, ◌∙◌, ℕ, ◌+◌, ◌<◌, List, [], ◌∷◌, ◌++◌, length, length-take, take, get_or, ap, sym, subst, arith}
use Rattle.std.proofs.lemmas.List.{take_more}
use Rattle.vhost_message.specs.declared.regions.MemoryRegion.{MemoryRegion}
use Rattle.vm_memory_guest.specs.Host.{Host}
use Rattle.vm_memory_guest.specs.Layout.{inserted}
use Rattle.vm_memory_guest.specs.Mmap.{PlacedBlock, mmap_region}
use Rattle.vhost_backend.specs.ConnectionMemory.{IsBlockAt, LiesOver}

-- one region more
Adds : Host (Unit {0}) → ℕ → MemoryRegion → List PlacedBlock → List PlacedBlock → Type 0
Adds host k region mid new =
    (r : PlacedBlock) × IsBlockAt host k region.guest_address.0 r × (new ≡ inserted mmap_region mid r)

over_more : (host : Host (Unit {0})) (n k : ℕ) (old mid new : List PlacedBlock) (rs : List MemoryRegion)
    (region : MemoryRegion) → k ≡ n + length rs → LiesOver host n old rs mid → Adds host k region mid new
    → LiesOver host n old (rs ++ region ∷ []) new
unfolding Adds
over_more host n k old mid new [] region at is (r, block, added) =
    let same : k ≡ n = omega (arith, at) in (
      r,
      subst (λ j. IsBlockAt host j region.guest_address.0 r) same block,
      added ∙ ap (λ (l : List PlacedBlock). inserted mmap_region l r) is,
    )
over_more host n k old mid new (s ∷ rs) region at (q, first, rest) adds =
    (q, first, over_more host (n + 1) k (inserted mmap_region old q) mid new rs region (omega (arith, at)) rest adds)

pub layout_more : (host : Host (Unit {0})) (regions : List MemoryRegion) (k : ℕ) (d : MemoryRegion)
    (mid new : List PlacedBlock) → k < length regions → LiesOver host 0 [] (take k regions) mid
    → (r : PlacedBlock) × IsBlockAt host k (get_or regions k d).guest_address.0 r × (new ≡ inserted mmap_region mid r)
    → LiesOver host 0 [] (take (k + 1) regions) new
unfolding Adds
layout_more host regions k d mid new less lies adds =
    let many : k ≡ 0 + length (take k regions) = omega (arith, length-take k regions) in
    subst (λ (rs : List MemoryRegion). LiesOver host 0 [] rs new) (sym (take_more regions k d less))
    (over_more host 0 k [] mid new (take k regions) (get_or regions k d) many lies adds)
