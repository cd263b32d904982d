use Rattle.vm_memory_base.specs.declared.iotlb.mapped_run.RunTail.{RunTail}
use Rattle.std.proofs.Common.{ℕ, ◌≡◌, ◌+◌, ◌++◌, ◌∷◌, [], List, sym, ap, subst, ◌∙◌}
use Rattle.vm_memory_base.specs.Change.{runs_below}
use Rattle.vm_memory_base.specs.Stored.{run_in, runs_in}
use Rattle.vm_memory_base.specs.Runs.{AddressRun}
use Rattle.vm_memory_base.specs.Table.{Mapping}
use Rattle.vm_memory_base.proofs.StoredLemmas.{between_upto, last_stored}
use Rattle.vm_memory_base.proofs.iotlb.run_map.RunMap.last_upto.Goals as goal

pub returns-in_err-start-clause-last : goal.returns-in_err-start-clause-last
returns-in_err-start-clause-last c =
    let none : runs_below (c.args.limit + 1) c.args.self.now ≡ [] =
    subst (λ (rs : List (AddressRun Mapping)). runs_below (c.args.limit + 1) rs ≡ []) c.self.view_is
    (sym (between_upto c.args.limit c.self.inside.tails.entries)
    ∙ ap runs_in (sym (c.range.ensures.between tt) ∙ c.in_err-start.ensures.steps.0)) in
    rw c.from_residual.ensures none

pub of_tail-requires : goal.of_tail-requires
of_tail-requires c =
    (last_stored c.args.limit c.self.inside.tails.entries c.range.result c.next_back.new.self
    (c.in_ok-start.start.now, c.in_ok-start.tail.now) c.self.invariant (c.range.ensures.between tt)
    c.in_ok-start.ensures.steps).0

pub returns-clause-last : goal.returns-clause-last
returns-clause-last c =
    let e : ℕ × RunTail = (c.in_ok-start.start.now, c.in_ok-start.tail.now) in
    let told = (last_stored c.args.limit c.self.inside.tails.entries c.range.result c.next_back.new.self e
    c.self.invariant (c.range.ensures.between tt) c.in_ok-start.ensures.steps).1 in
    rw c.of_tail.ensures
    (subst (λ (rs : List (AddressRun Mapping)). runs_below (c.args.limit + 1) rs
    ≡ runs_below c.in_ok-start.start.now rs ++ run_in e ∷ []) c.self.view_is told)
