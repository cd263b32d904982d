use Rattle.std.proofs.Common.{◌∙◌, refl, sym, subst, arith}
use Rattle.std.proofs.lemmas.Result.{err_from_is_err_and}
use Rattle.vm_memory_guest.specs.Host.{Holds, Shape, shape_of}
use Rattle.vm_memory_guest.specs.Transfer.{Fills, filling}
use Rattle.vm_memory_guest.specs.Window.{window_names}
use Rattle.vm_memory_guest.proofs.AccessLemmas.{Gave, gave, ends_in, ends_whole, next_all}
use Rattle.vm_memory_guest.proofs.OrderLemmas.{moved_first, moved_next, moved_part, moved_fails, moved_within, moved_ends, moved_whole}
use Rattle.vm_memory_guest.proofs.guest_memory.transfer.receive_windows.Given.{Over}
use Rattle.vm_memory_guest.proofs.guest_memory.transfer.receive_windows.Goals as goal
use Rattle.vm_memory_guest.proofs.guest_memory.transfer.receive_windows.Goals.{In-Ok}

gives : (g : Over) (c : In-Ok g) → Gave c.loop-item.item-iterator c.next.new.self c.in-Ok.window
gives g c = gave c.loop-item.item-iterator c.next.new.self _ _ c.in-Some.ensures.steps c.in-Ok.is

pub loop-item-init : goal.loop-item-init
loop-item-init g c = record {
  moved = rw c.into_iter-item-iterator.ensures.into_iter_gives
      (moved_first (Fills g.S.ReadVolatile.source g.S.ReadVolatile.reads g.S.ReadVolatile.known_left g.B.Bitmap.marks
      (filling c.args.until_full)) c.args.walk (c.args.source.now, c.args.host.now));
  shape = refl;
}

pub receive-requires : goal.receive-requires
receive-requires g c =
    subst (λ (shape : Shape). Holds shape (window_names c.in-Ok.window)) (sym c.loop-item.invariant.shape)
    (next_all c.loop-item.invariant.moved.came c.in-Some.ensures.steps c.in-Ok.is
    (λ v. Holds (shape_of c.args.host.now) (window_names v)) c.requires.held)

pub returns-in_err-count-in-Ok-clause-answer : goal.returns-in_err-count-in-Ok-clause-answer
returns-in_err-count-in-Ok-clause-answer g c =
    let next = gives g (goal.at.returns-in_err-count-in-Ok-clause-answer g c).In-Ok in
    let p = err_from_is_err_and c.from_residual.result c.from_residual.ensures.1 in
    rw (p.1, p.2) (moved_fails _ c.loop-item.invariant.moved next
    (c.receive.new.source, c.receive.new.self) c.receive.result c.receive.ensures.fills
    c.in_err-count-in-Ok.field-0.0 c.in_err-count-in-Ok.was)

pub overflow_add-total : goal.overflow_add-total
overflow_add-total g c =
    let next = gives g (goal.at.overflow_add-total g c).In-Ok in
    let within = moved_within _ c.loop-item.invariant.moved next
    (c.receive.new.source, c.receive.new.self) c.receive.result c.receive.ensures.fills
    c.in_ok-count-in-Ok.count c.in_ok-count-in-Ok.ensures.count in
    omega (arith, c.requires.fits)

pub returns-then-count-len-clause-answer : goal.returns-then-count-len-clause-answer
returns-then-count-len-clause-answer g c =
    let next = gives g (goal.at.returns-then-count-len-clause-answer g c).In-Ok in
    moved_part _ c.loop-item.invariant.moved next
    (c.receive.new.source, c.receive.new.self) c.receive.result c.receive.ensures.fills
    c.in_ok-count-in-Ok.count c.in_ok-count-in-Ok.was (λ same. c.if-count-len.true (same ∙ sym c.len.ensures))

pub returns-then-count-len-clause-at_most : goal.returns-then-count-len-clause-at_most
returns-then-count-len-clause-at_most g c =
    let next = gives g (goal.at.returns-then-count-len-clause-at_most g c).In-Ok in
    moved_within _ c.loop-item.invariant.moved next
    (c.receive.new.source, c.receive.new.self) c.receive.result c.receive.ensures.fills
    c.in_ok-count-in-Ok.count c.in_ok-count-in-Ok.ensures.count

pub loop-item-preserved : goal.loop-item-preserved
loop-item-preserved g c =
    let next = gives g (goal.at.loop-item-preserved g c).In-Ok in
    record {
      moved = moved_next _ c.loop-item.invariant.moved next
          (c.receive.new.source, c.receive.new.self) c.receive.result c.receive.ensures.fills
          c.in_ok-count-in-Ok.count c.in_ok-count-in-Ok.was (c.if-count-len.false ∙ c.len.ensures);
      shape = c.receive.ensures.shape ∙ c.loop-item.invariant.shape;
    }

pub returns-in-Err-clause-answer : goal.returns-in-Err-clause-answer
returns-in-Err-clause-answer g c =
    rw c.ended.ensures (moved_ends _ c.loop-item.invariant.moved
    (ends_in c.loop-item.item-iterator _ _ _ c.in-Some.ensures.steps c.in-Err.is))

pub returns-clause-answer : goal.returns-clause-answer
returns-clause-answer g c =
    moved_whole _ c.loop-item.invariant.moved (ends_whole c.loop-item.item-iterator c.in-None.ensures.steps.0)
