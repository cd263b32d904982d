use Rattle.std.proofs.Common.{◌≡◌, ◌∙◌, ℕ, false, length, refl, sym, ap, Ok, arith}
use Rattle.vm_memory_base.specs.Transfer.{is_short, AllMoved, NoneMoved, TurnFailed, Whole, Dry, Failed}
use Rattle.vm_memory_base.proofs.TransferLemmas.{reads_after, fills_by, length-placed}
use Rattle.vm_memory_base.specs.lemmas.Turns.{rest_more}
use Rattle.vm_memory_base.proofs.io.ReadVolatile.read_exact_volatile.Goals as goal
use Rattle.vm_memory_base.proofs.io.ReadVolatile.read_exact_volatile.Given.{Over}
use Rattle.vm_memory_base.proofs.io.ReadVolatile.read_exact_volatile.Goals.{At-loop-done}

long : (g : Over) (c : At-loop-done g)
    → is_short (g.Self.ReadVolatile.known_left c.args.self.now) (length c.args.buf.now) ≡ false
long g c = rw (sym c.known_left.ensures) (sym c.is_short.ensures ∙ c.if-is_short.false)

pub loop-done-init : goal.loop-done-init
loop-done-init g c = record { within = omega arith; rest = λ total stop new so. so }

pub loop-done-preserved : goal.loop-done-preserved
loop-done-preserved g c =
    let source = g.Self.ReadVolatile.source in
    let reads = g.Self.ReadVolatile.reads in
    let l = c.loop-done in
    let read = c.read_again in
    let long = length-placed l.done l.buf read.new.buf l.invariant.within read.auto.buf in
    let fits = c.in-Ok.ensures.count in
    let count = long.1 in
    record {
      within = omega (arith, long.0);
      rest = rest_more _ (length c.args.buf.now) c.in-Ok.count l.invariant.rest c.loop-done-test.true
          (reads_after source reads l.done l.buf read.ensures.reads c.in-Ok.is) c.in-Ok.count-test.1;
    }

pub returns-in-Ok-eq0-clause-reads : goal.returns-in-Ok-eq0-clause-reads
returns-in-Ok-eq0-clause-reads g c =
    let source = g.Self.ReadVolatile.source in
    let reads = g.Self.ReadVolatile.reads in
    let l = c.loop-done in
    let read = c.read_again in
    let none = c.in-Ok-eq0.is ∙ ap (λ (n : ℕ). Ok n) c.in-Ok-eq0.field-0-test in
    rw (c.ended-in-Ok-eq0.ensures, c.touched.ensures) (
    fills_by source reads g.Self.ReadVolatile.known_left c.args.self.now read.new.source c.args.buf.now _
    read.new.interrupted l.done Dry _
    (long g (goal.at.returns-in-Ok-eq0-clause-reads g c).At-loop-done)
    (l.invariant.rest _ _ _
    (NoneMoved c.loop-done-test.true (reads_after source reads l.done l.buf read.ensures.reads none)))
    refl)

pub returns-in-Err-clause-reads : goal.returns-in-Err-clause-reads
returns-in-Err-clause-reads g c =
    let source = g.Self.ReadVolatile.source in
    let reads = g.Self.ReadVolatile.reads in
    let l = c.loop-done in
    let read = c.read_again in
    fills_by source reads g.Self.ReadVolatile.known_left c.args.self.now read.new.source c.args.buf.now _
    read.new.interrupted l.done
    (Failed c.in-Err.error) _
    (long g (goal.at.returns-in-Err-clause-reads g c).At-loop-done)
    (l.invariant.rest _ _ _
    (TurnFailed c.loop-done-test.true (reads_after source reads l.done l.buf read.ensures.reads c.in-Err.is)))
    refl

pub returns-clause-reads : goal.returns-clause-reads
returns-clause-reads g c =
    let l = c.loop-done in
    fills_by g.Self.ReadVolatile.source g.Self.ReadVolatile.reads g.Self.ReadVolatile.known_left c.args.self.now l.self
    c.args.buf.now l.buf l.interrupted l.done Whole _
    (long g (goal.at.returns-clause-reads g c).At-loop-done)
    (l.invariant.rest _ _ _ (AllMoved c.loop-done-test.false)) refl
