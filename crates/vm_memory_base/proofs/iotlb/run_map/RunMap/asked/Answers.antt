use Rattle.std.proofs.Common.{◌≡◌, ◌+◌, List, sym, ap, subst, ◌∙◌}
use Rattle.vm_memory_base.specs.Change.{AreAscending, runs_below, runs_from}
use Rattle.vm_memory_base.specs.Runs.{AddressRun}
use Rattle.vm_memory_base.specs.Stored.{runs_in}
use Rattle.vm_memory_base.specs.Table.{Mapping}
use Rattle.vm_memory_base.proofs.StoredLemmas.{between_from}
use Rattle.vm_memory_base.proofs.SideLemmas.{asked_parts}
use Rattle.vm_memory_base.proofs.StartLemmas.{ascending_below, ascending_from}
use Rattle.vm_memory_base.proofs.iotlb.run_map.RunMap.asked.Goals as goal
use Rattle.vm_memory_base.proofs.iotlb.run_map.RunMap.asked.Goals.{After-range}

found : (c : After-range) → runs_in c.range.result
    ≡ runs_below c.args.end (runs_from (c.args.start + 1) (runs_in c.self.inside.tails.entries))
found c = ap runs_in (c.range.ensures.between tt)
    ∙ between_from (c.args.start + 1) c.args.end c.self.inside.tails.entries

pub invariant_of-result : goal.invariant_of-result
invariant_of-result c =
    let rs = runs_in c.self.inside.tails.entries in
    subst AreAscending (sym (found c))
    (ascending_below c.args.end (runs_from (c.args.start + 1) rs)
    (ascending_from (c.args.start + 1) rs c.self.invariant))

pub returns : goal.returns
returns c =
    let rs = c.args.self.now in
    let is = subst (λ (ys : List (AddressRun Mapping)). runs_in c.range.result
    ≡ runs_below c.args.end (runs_from (c.args.start + 1) ys)) c.self.view_is (found c) in
    asked_parts rs (runs_in c.range.result) c.requires.canonical c.args.start c.args.end c.requires.some is
    c.holder-held.result c.holder-held.ensures.none c.holder-held.ensures.some
