use Rattle.std.proofs.Common.{◌≡◌, arith, length, ap, inl, inr}
use Rattle.std.proofs.lemmas.Bool.{cases_lt}
use Rattle.std.proofs.lemmas.Result.{err_from_is_err_and}
use Rattle.vm_memory_base.specs.declared.address.GuestAddress.{GuestAddress}
use Rattle.linux_loader.specs.Plan.{address_or}
use Rattle.linux_loader.proofs.PlanLemmas.{plan_named, plan_no_header, plan_not_named}
use Rattle.linux_loader.proofs.elf.Elf.plan.Goals as goal

pub returns-in_err-header-clause-planned : goal.returns-in_err-header-clause-planned
returns-in_err-header-clause-planned g c = λ all known.
    let size = rw known at c.in_ok-size.ensures in
    let h = c.in_err-header.ensures.known all size.0 in
    let sized : c.in_ok-size.size ≡ length all = let e = size.1 in cc in
    let offset : c.unwrap_or-offset.result.0 ≡ address_or 0 c.args.kernel_offset =
    ap (λ (a : GuestAddress). a.0) c.unwrap_or-offset.ensures in
    let lowest : c.unwrap_or-lowest.result.0 ≡ address_or 0 c.args.highmem_start =
    ap (λ (a : GuestAddress). a.0) c.unwrap_or-lowest.ensures in
    let p = err_from_is_err_and c.from_residual-in_err-header.result c.from_residual-in_err-header.ensures.1 in (
      h.0,
      rw (p.1, p.2, ← offset, ← lowest)
          (plan_no_header all c.unwrap_or-offset.result.0 c.unwrap_or-lowest.result.0 _ (h.1 sized)),
    )

pub returns-in_err-plan-clause-planned : goal.returns-in_err-plan-clause-planned
returns-in_err-plan-clause-planned g c = λ all known.
    let size = rw known at c.in_ok-size.ensures in
    let h = c.in_ok-header.ensures.known all size.0 in
    let sized : c.in_ok-size.size ≡ length all = let e = size.1 in cc in
    let n = c.in_err-plan.ensures.named all h.0 in
    let offset : c.unwrap_or-offset.result.0 ≡ address_or 0 c.args.kernel_offset =
    ap (λ (a : GuestAddress). a.0) c.unwrap_or-offset.ensures in
    let lowest : c.unwrap_or-lowest.result.0 ≡ address_or 0 c.args.highmem_start =
    ap (λ (a : GuestAddress). a.0) c.unwrap_or-lowest.ensures in
    let p = err_from_is_err_and c.from_residual-in_err-plan.result c.from_residual-in_err-plan.ensures.1 in (
      n.0,
      rw (p.1, p.2, ← offset, ← lowest)
          (plan_not_named all c.unwrap_or-offset.result.0 c.unwrap_or-lowest.result.0 c.in_ok-header.header
          (h.1 sized) _ (n.1 sized) (λ none. let is = c.in_err-plan.ensures.none none in cc)),
    )

pub returns-clause-planned : goal.returns-clause-planned
returns-clause-planned g c = λ all known.
    let size = rw known at c.in_ok-size.ensures in
    let h = c.in_ok-header.ensures.known all size.0 in
    let sized : c.in_ok-size.size ≡ length all = let e = size.1 in cc in
    let n = c.in_ok-plan.ensures.named all h.0 in
    let offset : c.unwrap_or-offset.result.0 ≡ address_or 0 c.args.kernel_offset =
    ap (λ (a : GuestAddress). a.0) c.unwrap_or-offset.ensures in
    let lowest : c.unwrap_or-lowest.result.0 ≡ address_or 0 c.args.highmem_start =
    ap (λ (a : GuestAddress). a.0) c.unwrap_or-lowest.ensures in (
      n.0,
      rw (← offset, ← lowest)
          (plan_named all c.unwrap_or-offset.result.0 c.unwrap_or-lowest.result.0 c.in_ok-header.header (h.1 sized)
          c.in_ok-plan.plan c.apart.result (elim (cases_lt 0 c.in_ok-header.header.count) [
            | inl some ↦ some
            | inr less ↦ let is = c.in_ok-plan.ensures.none (omega arith) in absurd (cc)
          ]) (n.1 sized) c.apart.ensures),
    )
