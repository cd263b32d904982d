use Rattle.std.proofs.Common.{◌≡◌, ◌+◌, ◌<◌, ◌∷◌, [], sym, subst, arith}
use Rattle.vm_memory_base.specs.Change.{runs_below}
use Rattle.vm_memory_base.proofs.SideLemmas.{known, none_from, StartsBelow-append}
use Rattle.vm_memory_base.proofs.StartLemmas.{StartsBelow, StartsBelow-weaker, below_starts}
use Rattle.vm_memory_base.proofs.iotlb.run_map.RunMap.is_clear.Goals as goal

pub returns-in-Some : goal.returns-in-Some
returns-in-Some c t =
    let s = c.start.ensures in
    let rs = c.args.self.now in
    let run = c.in-Some.run' in
    let is = known c.args.near.now.before rs c.args.end c.requires.near.before run c.in-Some.is in
    let low : run.start < c.args.at + 1 = grind (arith) in
    let all : StartsBelow (c.args.at + 1) (runs_below c.args.end rs) =
    subst (StartsBelow (c.args.at + 1)) (sym is)
    (StartsBelow-append (c.args.at + 1) (runs_below run.start rs) (run ∷ [])
    (StartsBelow-weaker run.start (c.args.at + 1) (runs_below run.start rs) (omega arith) (below_starts run.start rs))
    (low, tt)) in
    none_from (c.args.at + 1) c.args.end rs c.requires.ascending (omega arith) all

pub returns-in-None : goal.returns-in-None
returns-in-None c t =
    let none : runs_below c.args.end c.args.self.now ≡ [] = rw c.in-None.is at c.requires.near.before in
    let all : StartsBelow (c.args.at + 1) (runs_below c.args.end c.args.self.now) = rw none tt in
    none_from (c.args.at + 1) c.args.end c.args.self.now c.requires.ascending (omega arith) all
