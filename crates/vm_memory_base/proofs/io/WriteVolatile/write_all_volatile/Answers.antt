use Rattle.std.proofs.Common.{◌≡◌, ◌-◌, ◌≤◌, ℕ, List, length, take, drop, refl, ap, subst, ◌∙◌, Ok, Err, arith}
use Rattle.std.proofs.lemmas.List.{length-drop, take_rest}
use Rattle.vm_memory_base.specs.Transfer.{Answer, Again, TakesOnce, AllMoved, NoneMoved, TurnFailed, Whole, Dry, Failed}
use Rattle.vm_memory_base.specs.lemmas.Turns.{rest_more}
use Rattle.vm_memory_base.proofs.io.WriteVolatile.write_all_volatile.Goals as goal
use Rattle.vm_memory_base.proofs.io.WriteVolatile.write_all_volatile.Given.{Over}
use Rattle.vm_memory_base.proofs.io.WriteVolatile.write_all_volatile.Goals.{After-offer_again}

-- what was offered is what is left of the buffer
turn : (g : Over) (c : After-offer_again g) (answer : Answer) → c.offer_again.result ≡ answer
    → let w = g.Self.WriteVolatile in
    Again (TakesOnce w.sink w.taken w.may_want w.writes (drop c.loop-done.done c.args.buf.now)) c.loop-done.self answer
    c.offer_again.new.sink
turn g c answer is =
    let w = g.Self.WriteVolatile in
    let offer = c.offer_again in
    let here = subst (λ (bs : List ℕ). Again (TakesOnce w.sink w.taken w.may_want w.writes bs) c.loop-done.self
    offer.result offer.new.sink)
    (take_rest c.args.buf.now c.loop-done.done) offer.ensures.writes in
    rw is at here

pub loop-done-init : goal.loop-done-init
loop-done-init g c = record { within = omega arith; rest = λ total stop new so. so }

pub loop-done-preserved : goal.loop-done-preserved
loop-done-preserved g c =
    let l = c.loop-done in
    let buf = c.args.buf.now in
    let count = c.in-Ok.count in
    let fits : count ≤ length (take (length buf - l.done) (drop l.done buf)) = c.in-Ok.ensures.count in
    let long = ap length (take_rest buf l.done) ∙ length-drop l.done buf in
    record {
      within = let a = l.invariant.within in omega arith;
      rest = rest_more _ (length buf) count l.invariant.rest c.loop-done-test.true
          (turn g (goal.at.loop-done-preserved g c).After-offer_again (Ok count) c.in-Ok.is) c.in-Ok.count-test.1;
    }

pub returns-in-Ok-eq0 : goal.returns-in-Ok-eq0
returns-in-Ok-eq0 g c =
    let l = c.loop-done in
    let none = c.in-Ok-eq0.is ∙ ap (λ (n : ℕ). Ok n) c.in-Ok-eq0.field-0-test in
    let t = turn g (goal.at.returns-in-Ok-eq0 g c).After-offer_again (Ok 0) none in
    let whole = l.invariant.rest _ _ _ (NoneMoved c.loop-done-test.true t) in
    rw c.refused.ensures (record { sends = (l.done, l.invariant.within, tt, (Dry, whole, refl)) })

pub returns-in-Err : goal.returns-in-Err
returns-in-Err g c =
    let l = c.loop-done in
    let e = c.in-Err.error in
    let t = turn g (goal.at.returns-in-Err g c).After-offer_again (Err e) c.in-Err.is in
    let whole = l.invariant.rest _ _ _ (TurnFailed c.loop-done-test.true t) in
    record { sends = (l.done, l.invariant.within, tt, (Failed e, whole, refl)) }

pub returns : goal.returns
returns g c =
    let l = c.loop-done in
    let full : l.done ≡ length c.args.buf.now = let a = l.invariant.within in
    let b = c.loop-done-test.false in
    omega arith in
    let whole = l.invariant.rest _ _ _ (AllMoved c.loop-done-test.false) in
    record { sends = (l.done, l.invariant.within, full, (Whole, whole, refl)) }
