use Rattle.std.proofs.Common.{ℕ, ◌≡◌, ◌+◌, ◌-◌, ◌^◌, ◌<◌, true, false, List, refl, arith}
use Rattle.std.proofs.lemmas.Bool.{eqb-true}
use Rattle.vm_memory_base.specs.Change.{EndBelow, IsKept, runs_below}
use Rattle.vm_memory_base.specs.Runs.{AddressRun}
use Rattle.vm_memory_base.specs.Table.{Mapping, same_mapping}
use Rattle.vm_memory_base.proofs.ChangeLemmas.{EndBelow-weaker}
use Rattle.vm_memory_base.proofs.StartLemmas.{ascending_canonical, StartsBelow}
use Rattle.vm_memory_base.proofs.SideLemmas.{known, all_end, starts_limit, back_apart, back_cut, from_next, from_absent, from_here}
use Rattle.vm_memory_base.proofs.iotlb.run_map.RunMap.edge_from.Goals as goal

never : false ≡ true → ⊥
never t = cc

-- all runs end below the end of what is cut
ends : (rs : List (AddressRun Mapping)) (at : ℕ) → IsKept rs → at < 2 ^ 64 → EndBelow (at + (2 ^ 64 - at) + 1) rs
ends rs at k fits = EndBelow-weaker (2 ^ 64) (at + (2 ^ 64 - at) + 1) rs (omega arith) k.ends

pub returns-in_default-clause-edge : goal.returns-in_default-clause-edge
returns-in_default-clause-edge c =
    let rs = c.args.self.now in
    let none = rw c.in_default.is at c.requires.near.last in
    let apart : StartsBelow c.args.at (runs_below (c.args.at + 1) rs) = rw none tt in
    record {
      starts = tt;
      stored = λ t. absurd (never t);
      absent = λ t. from_next c.args.at rs (ascending_canonical same_mapping rs c.requires.kept.canonical) apart;
    }

pub returns-in_default-clause-cut : goal.returns-in_default-clause-cut
returns-in_default-clause-cut c =
    let rs = c.args.self.now in
    let none = rw c.in_default.is at c.requires.near.last in
    let apart : EndBelow (c.args.at + 1) (runs_below (c.args.at + 1) rs) = rw none tt in
    back_apart same_mapping c.args.at (2 ^ 64 - c.args.at) rs c.requires.kept.canonical
    (ends rs c.args.at c.requires.kept (omega arith)) apart

pub returns-then-end-at-clause-edge : goal.returns-then-end-at-clause-edge
returns-then-end-at-clause-edge c =
    let rs = c.args.self.now in
    let e = c.end.ensures in
    let is = known c.args.near.now.last rs (c.args.at + 1) c.requires.near.last c.in-Some.run' c.in-Some.is in
    record {
      starts = tt;
      stored = λ t. absurd (never t);
      absent = λ t. from_absent c.args.at rs (ascending_canonical same_mapping rs c.requires.kept.canonical)
          c.in-Some.run' is (omega arith);
    }

pub returns-then-end-at-clause-cut : goal.returns-then-end-at-clause-cut
returns-then-end-at-clause-cut c =
    let rs = c.args.self.now in
    let e = c.end.ensures.value in
    let is = known c.args.near.now.last rs (c.args.at + 1) c.requires.near.last c.in-Some.run' c.in-Some.is in
    let apart = all_end same_mapping (c.args.at + 1) rs c.requires.kept.canonical c.in-Some.run' is (c.args.at + 1)
    (omega arith) in
    back_apart same_mapping c.args.at (2 ^ 64 - c.args.at) rs c.requires.kept.canonical
    (ends rs c.args.at c.requires.kept (omega arith)) apart

pub returns-clause-edge : goal.returns-clause-edge
returns-clause-edge c =
    let rs = c.args.self.now in
    let s = c.start.ensures in
    let run = c.in-Some.run' in
    let h = ascending_canonical same_mapping rs c.requires.kept.canonical in
    let is = known c.args.near.now.last rs (c.args.at + 1) c.requires.near.last run c.in-Some.is in
    let l = starts_limit same_mapping (c.args.at + 1) rs c.requires.kept.canonical run is in
    rw c.part_from.ensures (record {
      starts = refl;
      stored = λ t. let e = eqb-true c.start.result c.args.at t in from_here c.args.at rs h run is (omega arith);
      absent = λ t. from_absent c.args.at rs h run is (grind (arith));
    })

pub returns-clause-cut : goal.returns-clause-cut
returns-clause-cut c =
    let rs = c.args.self.now in
    let e = c.end.ensures.value in
    let cut = back_cut same_mapping c.args.at (2 ^ 64 - c.args.at) rs c.requires.kept.canonical
    (ends rs c.args.at c.requires.kept (omega arith)) c.in-Some.run'
    (known c.args.near.now.last rs (c.args.at + 1) c.requires.near.last c.in-Some.run' c.in-Some.is) (omega arith) in
    rw c.part_from.ensures cut
