use Rattle.std.proofs.Common.{ℕ, ◌≡◌, ◌+◌, ◌-◌, sym, subst, ◌∙◌, arith}
use Rattle.vm_memory_base.specs.Site.{IsLastBelow}
use Rattle.vm_memory_base.proofs.ChangeLemmas.{StartFrom-zero}
use Rattle.vm_memory_base.proofs.SideLemmas.{known, last_stays, none_stay}
use Rattle.vm_memory_base.proofs.StartLemmas.{below-none}
use Rattle.vm_memory_base.proofs.iotlb.run_map.RunMap.last_below.Goals as goal

pub returns-in_default : goal.returns-in_default
returns-in_default c =
    none_stay c.args.at c.args.end c.args.self.now (omega arith) (rw c.in_default.is at c.requires.near.before)

pub returns-then-start-at : goal.returns-then-start-at
returns-then-start-at c =
    let s = c.start.ensures in
    let is = known c.args.near.now.before c.args.self.now c.args.end c.requires.near.before c.in-Some.run' c.in-Some.is
    in
    sym (last_stays c.args.at c.args.end c.args.self.now c.in-Some.run' (omega arith) (omega arith) is) ∙ is

pub returns-then-at-eq0 : goal.returns-then-at-eq0
returns-then-at-eq0 c =
    let none = below-none 0 c.args.self.now (StartFrom-zero c.args.self.now) in rw c.if-at-eq0.true none

pub returns : goal.returns
returns c =
    let to : c.args.at - 1 + 1 ≡ c.args.at = omega arith in
    subst (λ (n : ℕ). IsLastBelow c.args.self.now n c.last_upto.result) to c.last_upto.ensures.last
