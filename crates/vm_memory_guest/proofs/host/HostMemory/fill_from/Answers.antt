use Rattle.std.proofs.Common.{◌≡◌, ℕ, ◌-◌, ◌<◌, ◌≤◌, ◌∙◌, refl, ap, subst, Ok, Err, arith}
use Rattle.vm_memory_base.specs.Transfer.{Answer, Again, Whole, Dry, Failed, AllMoved, NoneMoved, TurnFailed}
use Rattle.vm_memory_base.specs.lemmas.Turns.{rest_more}
use Rattle.vm_memory_guest.specs.Transfer.{LendsWindow}
use Rattle.vm_memory_guest.specs.Window.{Window, part}
use Rattle.vm_memory_guest.proofs.host.HostMemory.fill_from.Given.{Over}
use Rattle.vm_memory_guest.proofs.host.HostMemory.fill_from.Goals as goal
use Rattle.vm_memory_guest.proofs.host.HostMemory.fill_from.Goals.{After-read_from}

left : (g : Over) (c : After-read_from g) → c.loop-filled.filled < c.args.window.now.size
left g c = let a = c.loop-filled-test.true in let b = c.len-size.ensures in omega arith

-- the part that is lent is the rest of the window
is_rest : (g : Over) (c : After-read_from g) → let w = c.args.window.now in
    c.part-rest.result ≡ part w c.loop-filled.filled (w.size - c.loop-filled.filled)
is_rest g c =
    c.part-rest.ensures
    ∙ ap (λ n. part c.args.window.now c.loop-filled.filled (n - c.loop-filled.filled)) c.len-size.ensures

turn : (g : Over) (c : After-read_from g) (answer : Answer) → c.read_from.result ≡ answer
    → let w = c.args.window.now in let l = c.loop-filled in
    Again (LendsWindow g.S.ReadVolatile.source g.S.ReadVolatile.reads g.B.Bitmap.marks
    (part w l.filled (w.size - l.filled))) (l.source, l.self) answer
    (c.read_from.new.source, c.read_from.new.self)
turn g c answer is = rw is at (subst
    (λ (v : Window). Again (LendsWindow g.S.ReadVolatile.source g.S.ReadVolatile.reads g.B.Bitmap.marks v)
    (c.loop-filled.source, c.loop-filled.self) c.read_from.result (c.read_from.new.source, c.read_from.new.self))
    (is_rest g c) c.read_from.ensures.lends)

pub loop-filled-init : goal.loop-filled-init
loop-filled-init g c = record { shape = refl; within = omega arith; rest = λ total stop new so. so }

pub loop-filled-preserved : goal.loop-filled-preserved
loop-filled-preserved g c =
    let l = c.loop-filled in
    let w = c.args.window.now in
    let here = (goal.at.loop-filled-preserved g c).After-read_from in
    let count = c.in-Ok.count in
    let fits : count ≤ w.size - l.filled =
    subst (λ (v : Window). count ≤ v.size) (is_rest g here) c.in-Ok.ensures.count in
    record {
      shape = c.read_from.ensures.shape ∙ l.invariant.shape;
      within = let a = l.invariant.within in omega arith;
      rest = rest_more _ w.size count l.invariant.rest (left g here)
          (turn g here (Ok count) c.in-Ok.is) c.in-Ok.count-test.1;
    }

pub returns-in-Ok-eq0-clause-lends : goal.returns-in-Ok-eq0-clause-lends
returns-in-Ok-eq0-clause-lends g c =
    let here = (goal.at.returns-in-Ok-eq0-clause-lends g c).After-read_from in
    let none = c.in-Ok-eq0.is ∙ ap (λ (n : ℕ). Ok n) c.in-Ok-eq0.field-0-test in
    record {
      count = c.loop-filled.filled;
      stop = Dry;
      tried = c.loop-filled.invariant.rest _ _ _ (NoneMoved (left g here) (turn g here (Ok 0) none));
      told = refl;
    }

pub returns-in-Err-clause-lends : goal.returns-in-Err-clause-lends
returns-in-Err-clause-lends g c =
    let here = (goal.at.returns-in-Err-clause-lends g c).After-read_from in
    let failed = turn g here (Err c.in-Err.error) c.in-Err.is in
    record {
      count = c.loop-filled.filled;
      stop = Failed c.in-Err.error;
      tried = c.loop-filled.invariant.rest _ _ _ (TurnFailed (left g here) failed);
      told = refl;
    }

pub returns-clause-lends : goal.returns-clause-lends
returns-clause-lends g c =
    let full : c.args.window.now.size ≤ c.loop-filled.filled =
    let a = c.loop-filled-test.false in let b = c.len-size.ensures in omega arith in
    record {
      count = c.loop-filled.filled;
      stop = Whole;
      tried = c.loop-filled.invariant.rest _ _ _ (AllMoved full);
      told = refl;
    }
