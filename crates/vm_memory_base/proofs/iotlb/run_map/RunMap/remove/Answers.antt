use Rattle.std.proofs.Common.{◌≡◌, ◌+◌, ◌++◌, List, sym, ap, subst, ◌∙◌, arith}
use Rattle.vm_memory_base.specs.Change.{AreAscending, runs_below, runs_from}
use Rattle.vm_memory_base.specs.Runs.{AddressRun}
use Rattle.vm_memory_base.specs.Stored.{runs_in}
use Rattle.vm_memory_base.specs.Table.{Mapping}
use Rattle.vm_memory_base.proofs.StoredLemmas.{removed, ascending_without}
use Rattle.vm_memory_base.proofs.iotlb.run_map.RunMap.remove.Goals as goal

pub invariant_of-self : goal.invariant_of-self
invariant_of-self c =
    let es = c.self.inside.tails.entries in
    subst AreAscending (sym (ap runs_in c.remove.ensures.entries ∙ removed c.args.start es c.self.invariant))
    (ascending_without c.args.start (c.args.start + 1) (runs_in es) (omega arith) c.self.invariant)

pub returns : goal.returns
returns c =
    let es = c.self.inside.tails.entries in
    subst (λ (rs : List (AddressRun Mapping)). runs_in c.remove.new.self.entries
    ≡ runs_below c.args.start rs ++ runs_from (c.args.start + 1) rs) c.self.view_is
    (ap runs_in c.remove.ensures.entries ∙ removed c.args.start es c.self.invariant)
