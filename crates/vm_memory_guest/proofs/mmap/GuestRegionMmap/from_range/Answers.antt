use Rattle.std.proofs.Common.{◌≡◌, ℕ, ◌-◌, ◌^◌, ◌<◌, ◌≤◌, Option, None, unwrap_or, Err, refl, sym, ap, ◌∙◌, inl, inr, arith, rules}
use Rattle.std.proofs.lemmas.Bool.Decides.{nat_tests}
use Rattle.std.proofs.lemmas.Result.{err_from_is_err_and}
use Rattle.vm_memory_base.specs.declared.address.GuestAddress.{GuestAddress}
use Rattle.vm_memory_guest.specs.Ranges.{range_error, range_refusal}
use Rattle.vm_memory_guest.specs.declared.mmap.FromRangesError.{FromRangesError}
use Rattle.vm_memory_guest.specs.declared.mmap.FromRangesError.TheVariants.{MmapRegion}
use Rattle.vm_memory_guest.specs.declared.host.MmapRegionError.{MmapRegionError}
use Rattle.vm_memory_guest.specs.declared.host.MmapRegionError.TheVariants as block
use Rattle.vm_memory_guest.proofs.mmap.GuestRegionMmap.from_range.Goals as goal

-- of a range that makes a region only memory can be wanting
told : (addr : GuestAddress) (size : ℕ) (e : MmapRegionError) → (e ≡ block.InvalidSize → ⊥)
    → range_error addr size ≡ None → MmapRegion e ≡ range_refusal addr size
told addr size block.InvalidSize other none = absurd (other refl)
told addr size block.Memory other none =
    ap (λ (o : Option FromRangesError). unwrap_or o (MmapRegion block.Memory)) (sym none)

fits : (addr : GuestAddress) (size : ℕ) → 0 < size → size < 2 ^ 63 → size ≤ 18446744073709551615 - addr.0
    → range_error addr size ≡ None
fits addr size some bound room = grind (arith, nat_tests)

pub returns-in_err-new-clause-region : goal.returns-in_err-new-clause-region
returns-in_err-new-clause-region g c =
    let e = c.in_err-new.field-0.0 in
    let size = c.args.size in
    let sized : (0 < size) × (size < 2 ^ 63) = c.is_block_size.ensures.0 (search rules) in
    let valid : e ≡ block.InvalidSize → ⊥ =
    λ is. elim (c.new.ensures.invalid.0 (c.in_err-new.was ∙ ap (λ (x : MmapRegionError). Err x) is)) [
      | inl none ↦ omega (arith, sized.0)
      | inr long ↦ omega (arith, sized.1, long)
    ] in
    let good = fits c.args.addr size sized.0 sized.1 c.if-size-addr.false in
    let p = err_from_is_err_and c.from_residual.result c.from_residual.ensures.1 in
    rw (p.1, p.2) (told c.args.addr size e valid good)
