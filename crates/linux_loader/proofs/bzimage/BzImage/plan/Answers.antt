use Rattle.std.proofs.Common.{◌≡◌, ap, length}
use Rattle.std.proofs.lemmas.Result.{err_from_is_err_and}
use Rattle.vm_memory_base.specs.declared.address.GuestAddress.{GuestAddress}
use Rattle.linux_loader.specs.Plan.{address_or}
use Rattle.linux_loader.proofs.PlanLemmas.{bz_is_named, bz_no_header, bz_not_named}
use Rattle.linux_loader.proofs.bzimage.BzImage.plan.Goals as goal

pub returns-in_err-header-clause-planned : goal.returns-in_err-header-clause-planned
returns-in_err-header-clause-planned g c = λ all known.
    let size = rw known at c.in_ok-size.ensures in
    let h = c.in_err-header.ensures.known all size.0 in
    let sized : c.in_ok-size.size ≡ length all = let e = size.1 in cc in
    let lowest : c.unwrap_or-lowest.result.0 ≡ address_or 0 c.args.highmem_start =
    ap (λ (a : GuestAddress). a.0) c.unwrap_or-lowest.ensures in
    let p = err_from_is_err_and c.from_residual-in_err-header.result c.from_residual-in_err-header.ensures.1 in (
      h.0,
      rw (p.1, p.2, ← lowest)
          (bz_no_header all c.args.kernel_offset c.unwrap_or-lowest.result.0 _ (h.1 sized)
          (λ less. let is = c.in_err-header.ensures.short (rw sized less) in cc)),
    )

pub returns-in_err-plan-clause-planned : goal.returns-in_err-plan-clause-planned
returns-in_err-plan-clause-planned g c = λ all known.
    let size = rw known at c.in_ok-size.ensures in
    let h = c.in_ok-header.ensures.known all size.0 in
    let sized : c.in_ok-size.size ≡ length all = let e = size.1 in cc in
    let n = rw (c.as_slice.ensures.value, sized) at c.in_err-plan.ensures.named in
    let lowest : c.unwrap_or-lowest.result.0 ≡ address_or 0 c.args.highmem_start =
    ap (λ (a : GuestAddress). a.0) c.unwrap_or-lowest.ensures in
    let p = err_from_is_err_and c.from_residual-in_err-plan.result c.from_residual-in_err-plan.ensures.1 in (
      h.0,
      rw (p.1, p.2, ← lowest)
          (bz_not_named all c.args.kernel_offset c.unwrap_or-lowest.result.0 c.in_ok-header.header.items (h.1 sized)
          _ n),
    )

pub returns-clause-planned : goal.returns-clause-planned
returns-clause-planned g c = λ all known.
    let size = rw known at c.in_ok-size.ensures in
    let h = c.in_ok-header.ensures.known all size.0 in
    let sized : c.in_ok-size.size ≡ length all = let e = size.1 in cc in
    let n = rw (c.as_slice.ensures.value, sized) at c.in_ok-plan.ensures.named in
    let lowest : c.unwrap_or-lowest.result.0 ≡ address_or 0 c.args.highmem_start =
    ap (λ (a : GuestAddress). a.0) c.unwrap_or-lowest.ensures in (
      h.0,
      rw (← lowest)
          (bz_is_named all c.args.kernel_offset c.unwrap_or-lowest.result.0 c.in_ok-header.header.items (h.1 sized)
          c.in_ok-plan.plan c.apart.result n c.apart.ensures),
    )
