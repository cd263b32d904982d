use Rattle.std.proofs.Common.{◌+◌, ◌∷◌, [], sym, subst, ◌∙◌, arith}
use Rattle.vm_memory_base.specs.Change.{runs_below}
use Rattle.vm_memory_base.proofs.StartLemmas.{StartsBelow, StartsBelow-weaker, below_starts}
use Rattle.vm_memory_base.proofs.SideLemmas.{StartsBelow-append, first_goes_last}
use Rattle.vm_memory_base.proofs.StoredLemmas.{last_starts}
use Rattle.vm_memory_base.proofs.PutLemmas.{nothing_between, one_less, outer_stay}
use Rattle.vm_memory_base.proofs.iotlb.run_map.RunMap.remove_between.Goals as goal

pub returns-then-start-first : goal.returns-then-start-first
returns-then-start-first c =
    let rs = c.loop-run.self in
    let run = c.in-Some.run' in
    let s = c.start.ensures in
    let is = c.in-Some.ensures.last in
    let below : StartsBelow c.args.first (runs_below (c.args.last + 1) rs) =
    subst (StartsBelow c.args.first) (sym is)
    (StartsBelow-append c.args.first (runs_below run.start rs) (run ∷ [])
    (StartsBelow-weaker run.start c.args.first (runs_below run.start rs) (omega arith) (below_starts run.start rs))
    (omega arith, tt)) in
    nothing_between c.args.first (c.args.last + 1) rs c.in-Some.ensures.ascending c.requires below
    ∙ c.loop-run.invariant

pub loop-run-smaller : goal.loop-run-smaller
loop-run-smaller c =
    one_less (c.args.last + 1) c.loop-run.self c.remove.new.self c.in-Some.run' c.in-Some.ensures.ascending
    c.in-Some.ensures.last (rw c.start-in-Some.ensures at c.remove.ensures)

pub loop-run-preserved : goal.loop-run-preserved
loop-run-preserved c =
    let run = c.in-Some.run' in
    let s = c.start.ensures in
    let l = last_starts (c.args.last + 1) (runs_below run.start c.loop-run.self) run
    (subst (StartsBelow (c.args.last + 1)) c.in-Some.ensures.last (below_starts (c.args.last + 1) c.loop-run.self)) in
    outer_stay c.args.first run.start (c.args.last + 1) c.loop-run.self c.remove.new.self (omega arith) l
    (rw c.start-in-Some.ensures at c.remove.ensures) ∙ c.loop-run.invariant

pub returns : goal.returns
returns c =
    let rs = c.loop-run.self in
    let none = c.in_default.ensures.last in
    let below : StartsBelow c.args.first (runs_below (c.args.last + 1) rs) = rw none tt in
    nothing_between c.args.first (c.args.last + 1) rs c.in_default.ensures.ascending c.requires below
    ∙ c.loop-run.invariant

pub returns-then-start-first-2 : goal.returns-then-start-first-2
returns-then-start-first-2 c =
    let s = c.start-in-Some-2.ensures in
    first_goes_last c.args.first (c.args.last + 1) c.in-Some.run' c.loop-run.self c.remove.new.self
    c.in-Some.ensures.ascending (sym s ∙ c.if-start-first-2.true) c.in-Some.ensures.last
    (rw c.start-in-Some.ensures at c.remove.ensures)
    ∙ c.loop-run.invariant
