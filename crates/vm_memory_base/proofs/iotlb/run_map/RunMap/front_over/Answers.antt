use Rattle.std.proofs.Common.{ℕ, ◌≡◌, ◌+◌, subst, sym, ◌∙◌}
use Rattle.vm_memory_base.specs.Change.{EndBelow, runs_below}
use Rattle.vm_memory_base.specs.Table.{same_mapping}
use Rattle.vm_memory_base.proofs.SideLemmas.{known, ends_before_last, front_upto}
use Rattle.vm_memory_base.proofs.iotlb.run_map.RunMap.front_over.Goals as goal

pub returns-then-start-at-clause-front : goal.returns-then-start-at-clause-front
returns-then-start-at-clause-front c = record { there = tt; whole = λ t. tt }

pub returns-then-start-at-clause-cut : goal.returns-then-start-at-clause-cut
returns-then-start-at-clause-cut c =
    let rs = c.args.self.now in
    let run = c.in-Some.run' in
    let is = known c.args.near.now.before rs c.args.end c.requires.near.before run c.in-Some.is in
    let at : run.start ≡ c.args.at = sym c.start.ensures ∙ c.if-start-at.true in
    let ends : EndBelow (run.start + 1) (runs_below run.start rs) =
    ends_before_last same_mapping c.args.end rs c.requires.canonical run is in
    front_upto same_mapping c.args.at rs c.requires.canonical
    (subst (λ (n : ℕ). EndBelow (n + 1) (runs_below n rs)) at ends)
