use Rattle.std.proofs.Common.{ℕ, ◌+◌, ap}
use Rattle.std.proofs.lemmas.Result.{err_from_is_err_and}
use Rattle.linux_loader.proofs.NoteLemmas.{ended_at, found_at, on_at, passed_none, short_at, wrong_at}
use Rattle.linux_loader.proofs.elf.notes.entry_in.Goals as goal

pub loop-place-init : goal.loop-place-init
loop-place-init c = passed_none c.args.align c.args.notes.now

pub returns-then-rest-lt-NOTE_HEADER_SIZE : goal.returns-then-rest-lt-NOTE_HEADER_SIZE
returns-then-rest-lt-NOTE_HEADER_SIZE c =
    let l = c.loop-place in
    short_at c.args.align c.args.notes.now l._place l.at l.invariant c.loop-place-test.true
    c.if-rest-lt-NOTE_HEADER_SIZE.true

pub returns-in_err-note : goal.returns-in_err-note
returns-in_err-note c =
    let l = c.loop-place in
    let p = err_from_is_err_and c.from_residual.result c.from_residual.ensures.1 in
    rw (p.1, p.2)
    (wrong_at c.args.align c.args.notes.now l._place l.at c.in_err-note.field-0.0 l.invariant c.loop-place-test.true
    c.if-rest-lt-NOTE_HEADER_SIZE.false c.in_err-note.ensures)

pub returns-in-Some : goal.returns-in-Some
returns-in-Some c =
    let l = c.loop-place in
    found_at c.args.align c.args.notes.now l._place l.at c.in_ok-note.note c.in-Some.entry l.invariant
    c.loop-place-test.true c.if-rest-lt-NOTE_HEADER_SIZE.false c.in_ok-note.ensures c.in-Some.is

pub loop-place-preserved : goal.loop-place-preserved
loop-place-preserved c =
    let l = c.loop-place in
    on_at c.args.align c.args.notes.now l._place l.at _ c.in_ok-note.note l.invariant
    c.loop-place-test.true c.if-rest-lt-NOTE_HEADER_SIZE.false c.in_ok-note.ensures c.in-None.is
    (ap (λ (n : ℕ). l.at + n) c.min-at.ensures)

pub returns : goal.returns
returns c =
    let l = c.loop-place in
    ended_at c.args.align c.args.notes.now l._place l.at l.invariant c.loop-place-test.false
