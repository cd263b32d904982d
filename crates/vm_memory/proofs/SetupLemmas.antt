-- What is made for a machine.
use Rattle.std.proofs.Common.{◌≡◌, ◌==◌, ◌&&◌, ◌∙◌, ℕ, ◌+◌, ◌<◌, ◌^◌, true, Ok, set, List, [], ◌∷◌, ◌++◌, length, map, Some, refl, sym, ap, subst, inl, inr, arith}
use Rattle.std.proofs.lemmas.Bool.{lt-ltb}
use Rattle.std.proofs.lemmas.List.{map-append, map-set, length-map}
use Rattle.vm_memory_base.specs.Exclusive.{pages_of}
use Rattle.vm_memory_base.specs.Pages.{PageSet, new_pages}
use Rattle.vm_memory_base.specs.declared.address.GuestAddress.{GuestAddress}
use Rattle.vm_memory_base.specs.declared.bitmap.exclusive.ExclusiveBitmap.{ExclusiveBitmap}
use Rattle.vm_memory_guest.specs.Host.{Host, block_at, has_bytes, shape_of, without_block}
use Rattle.vm_memory_guest.specs.Mmap.{mmap_region}
use Rattle.vm_memory_guest.specs.Region.{Region}
use Rattle.vm_memory_guest.specs.declared.host.BlockId.{BlockId}
use Rattle.vm_memory_guest.specs.declared.mmap.GuestRegionMmap.{GuestRegionMmap}
use Rattle.vm_memory.specs.State.{State}
use Rattle.vm_memory.specs.ScriptMachine.{ScriptParts, state_made}
use Rattle.vm_memory.specs.Setup.{GivesBack, SetsUp, IsMade, names_no_block, region_at, set_up}
use Rattle.vm_memory.specs.declared.machine.setup.Setup.TheVariants as setup
use Rattle.vm_memory.specs.declared.machine.setup.SetupReply.{SetupReply}
use Rattle.vm_memory.specs.declared.machine.setup.SetupReply.TheVariants.{RegionMade, Memory}
use Rattle.vm_memory.proofs.SpellingLemmas.{first}

-- a region of a whole block that is there
pub record IsWhole (host : Host ExclusiveBitmap) (block : BlockId) (addr : GuestAddress) (r : GuestRegionMmap)
    : Type 0 where
  pub there : has_bytes (shape_of host) block.0 ≡ true
  pub start : r.start ≡ addr.0
  pub block_is : r.mapping.block ≡ block.0
  pub size : r.mapping.size ≡ length (block_at host.blocks block.0)

made : (m : ScriptParts) (block : BlockId) (addr : GuestAddress) (r : GuestRegionMmap) → IsWhole m.host block addr r
    → set_up (state_made m) (setup.Region block addr)
    ≡ (RegionMade (length m.regions), state_made (record m { regions = m.regions ++ r ∷ [] }))
made m block addr r h =
    let bytes = block_at m.host.blocks block.0 in
    let old = state_made m in
    let fits = r.fits in
    let start = h.start in
    let size = h.size in
    let below : addr.0 + length bytes < 2 ^ 64 = omega arith in
    let is : region_at addr.0 block.0 (length bytes) ≡ mmap_region r = same (h.start) (h.block_is) (h.size) in
    let grown : old.regions ++ region_at addr.0 block.0 (length bytes) ∷ [] ≡ map mmap_region (m.regions ++ r ∷ []) =
    ap (λ q. old.regions ++ q ∷ []) is ∙ sym (map-append mmap_region m.regions (r ∷ [])) in
    let count : length (map mmap_region m.regions) ≡ length m.regions = simp length-map in
    let add : List Region → ℕ → SetupReply × State = λ rs n. (RegionMade n, record old { regions = rs }) in
    first _ _ _ h.there ∙ first _ _ _ (lt-ltb _ _ below)
    ∙ ap (λ rs. add rs (length old.regions)) grown
    ∙ ap (λ n. add (map mmap_region (m.regions ++ r ∷ [])) n) count
  where
    same : r.start ≡ addr.0 → r.mapping.block ≡ block.0 → r.mapping.size ≡ length (block_at m.host.blocks block.0)
        → region_at addr.0 block.0 (length (block_at m.host.blocks block.0)) ≡ mmap_region r
    same a b c = cc

pub region_added : (m : ScriptParts) (pool : List GuestRegionMmap) (block : BlockId) (addr : GuestAddress)
    (r : GuestRegionMmap) (n : ℕ) → IsWhole m.host block addr r → n ≡ length m.regions
    → pool ≡ m.regions ++ r ∷ []
    → SetsUp (state_made m) (setup.Region block addr) (RegionMade n) (state_made (record m { regions = pool }))
region_added m pool block addr r n h count grown =
    inl (ap (λ k. (RegionMade k, state_made (record m { regions = pool }))) count
    ∙ ap (λ p. (RegionMade (length m.regions), state_made (record m { regions = p }))) grown
    ∙ sym (made m block addr r h))

pub region_refused : (m : ScriptParts) (pool : List GuestRegionMmap) (block : BlockId) (addr : GuestAddress)
    (r : GuestRegionMmap) → IsWhole m.host block addr r → pool ≡ m.regions
    → SetsUp (state_made m) (setup.Region block addr) Memory (state_made (record m { regions = pool }))
region_refused m pool block addr r h same =
    inr (
      refl,
      subst (λ (o : SetupReply × State). IsMade o.0) (sym (made m block addr r h)) tt,
      ap (λ p. state_made (record m { regions = p })) same,
    )

-- a block is given back where nothing names one
pub block_given_back : (m : ScriptParts) (block : ℕ) (bitmap : ExclusiveBitmap) (host : Host ExclusiveBitmap)
    → has_bytes (shape_of m.host) block ≡ true
    → (length m.regions == 0 && length m.layouts == 0 && length m.memories == 0) ≡ true
    → Some (pages_of bitmap) ≡ new_pages 1 0 → host ≡ without_block m.host block bitmap
    → GivesBack (state_made m) block (Ok tt) (state_made (record m { host = host }))
block_given_back m block bitmap host there none pages left =
    let old = state_made m in
    let seen : PageSet → State = λ set. record old { host = without_block old.host block set } in
    let lengths : names_no_block old ≡ true = simp length-map none in
    let is : state_made (record m { host = host }) ≡ seen (new_pages 1 0) =
    ap (λ h. state_made (record m { host = h })) left
    ∙ ap (λ (sets : List PageSet). record old {
      host = record old.host {
        blocks = set old.host.blocks block [];
        bitmaps = sets;
      };
    }) (map-set (λ b. Some (pages_of b)) m.host.bitmaps block bitmap)
    ∙ ap seen pages in
    inl (ap (λ s. (Ok tt, s)) is ∙ sym (first _ _ _ there ∙ first _ _ _ lengths))
