use Rattle.std.proofs.Common.{◌≡◌, ◌+◌, [], arith}
use Rattle.vm_memory_base.specs.Change.{EndBelow, runs_below}
use Rattle.vm_memory_base.specs.Table.{same_mapping}
use Rattle.vm_memory_base.proofs.ChangeLemmas.{EndBelow-weaker}
use Rattle.vm_memory_base.proofs.StartLemmas.{ascending_canonical}
use Rattle.vm_memory_base.proofs.SideLemmas.{all_end, ends_before_last, starts_limit, front_apart, front_cut}
use Rattle.vm_memory_base.proofs.iotlb.run_map.RunMap.front.Goals as goal

pub returns-in_default-clause-front : goal.returns-in_default-clause-front
returns-in_default-clause-front c = record { there = tt; whole = λ t. tt }

pub returns-in_default-clause-cut : goal.returns-in_default-clause-cut
returns-in_default-clause-cut c =
    let none : runs_below c.args.at c.args.self.now ≡ [] = c.in_default.ensures in
    let apart : EndBelow c.args.at (runs_below c.args.at c.args.self.now) = rw none tt in
    front_apart same_mapping c.args.at c.args.self.now c.requires.canonical apart

pub returns-then-end-at-clause-front : goal.returns-then-end-at-clause-front
returns-then-end-at-clause-front c = record { there = tt; whole = λ t. tt }

pub returns-then-end-at-clause-apart : goal.returns-then-end-at-clause-apart
returns-then-end-at-clause-apart c =
    let e = c.end.ensures.value in
    all_end same_mapping c.args.at c.args.self.now c.requires.canonical c.in-Some.run' c.in-Some.ensures
    c.args.at (omega arith)

pub returns-then-end-at-clause-cut : goal.returns-then-end-at-clause-cut
returns-then-end-at-clause-cut c =
    front_apart same_mapping c.args.at c.args.self.now c.requires.canonical (returns-then-end-at-clause-apart c)

pub before-requires : goal.before-requires
before-requires c =
    let s = starts_limit same_mapping c.args.at c.args.self.now c.requires.canonical c.in-Some.run'
    c.in-Some.ensures in
    record { some = s }

pub returns-clause-cut : goal.returns-clause-cut
returns-clause-cut c =
    let e = c.end.ensures.value in
    let cut = front_cut same_mapping c.args.at c.args.self.now c.requires.canonical c.in-Some.run'
    c.in-Some.ensures (omega arith) in
    rw c.before-2.ensures cut

pub returns-clause-apart : goal.returns-clause-apart
returns-clause-apart c =
    let is = c.in-Some.ensures in
    let s = starts_limit same_mapping c.args.at c.args.self.now c.requires.canonical c.in-Some.run' is in
    let e = ends_before_last same_mapping c.args.at c.args.self.now c.requires.canonical c.in-Some.run' is in
    rw c.before-2.ensures
    (EndBelow-weaker (c.in-Some.run'.start + 1) c.args.at (runs_below c.in-Some.run'.start c.args.self.now)
    (omega arith) e)

pub last_below-requires-clause-ascending : goal.last_below-requires-clause-ascending
last_below-requires-clause-ascending c = ascending_canonical same_mapping c.args.self.now c.requires.canonical
