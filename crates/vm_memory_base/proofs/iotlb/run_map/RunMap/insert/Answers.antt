use Rattle.std.proofs.Common.{◌≡◌, ◌+◌, ◌++◌, ◌∷◌, List, sym, ap, subst, ◌∙◌}
use Rattle.vm_memory_base.specs.Change.{AreAscending, runs_below, runs_from}
use Rattle.vm_memory_base.specs.Runs.{AddressRun}
use Rattle.vm_memory_base.specs.Stored.{run_in, runs_in}
use Rattle.vm_memory_base.specs.Table.{Mapping}
use Rattle.vm_memory_base.proofs.StoredLemmas.{inserted}
use Rattle.vm_memory_base.proofs.StartLemmas.{ascending_put}
use Rattle.vm_memory_base.proofs.iotlb.run_map.RunMap.insert.Goals as goal

pub invariant_of-self : goal.invariant_of-self
invariant_of-self c = subst AreAscending (sym (ap runs_in c.in_err-insert.ensures.err)) c.self.invariant

put : (c : goal.In_ok-insert) → runs_in c.insert.new.self.entries
    ≡ runs_below c.args.run.start (runs_in c.self.inside.tails.entries)
    ++ c.args.run ∷ runs_from (c.args.run.start + 1) (runs_in c.self.inside.tails.entries)
put c =
    let es = c.self.inside.tails.entries in
    let told = ap runs_in c.in_ok-insert.ensures.entries
    ∙ inserted c.start.result c.tail.result es c.self.invariant in
    let told' : runs_in c.insert.new.self.entries
    ≡ runs_below c.args.run.start (runs_in es)
    ++ run_in (c.args.run.start, c.tail.result) ∷ runs_from (c.args.run.start + 1) (runs_in es) =
    rw c.start.ensures at told in
    rw c.tail.ensures.value at told'

pub invariant_of-self-2 : goal.invariant_of-self-2
invariant_of-self-2 c =
    subst AreAscending (sym (put c))
    (ascending_put c.args.run (runs_in c.self.inside.tails.entries) c.tail.ensures.some c.self.invariant)

pub returns-clause-ok : goal.returns-clause-ok
returns-clause-ok c =
    subst (λ (rs : List (AddressRun Mapping)). runs_in c.insert.new.self.entries
    ≡ runs_below c.args.run.start rs ++ c.args.run ∷ runs_from (c.args.run.start + 1) rs) c.self.view_is (put c)

pub returns-clause-ascending : goal.returns-clause-ascending
returns-clause-ascending c =
    subst AreAscending (sym (put c))
    (ascending_put c.args.run (runs_in c.self.inside.tails.entries) c.tail.ensures.some c.self.invariant)
