use Rattle.std.proofs.Common.{◌≡◌, [], ◌∷◌, ◌∙◌, ap, ap₂, sym, subst, Ok, Err, Some, None}
use Rattle.vm_memory_guest.specs.Pieces.{PiecesLeft, left_of, walk_of_pieces}
use Rattle.vm_memory_guest.specs.Walk.{items_of}
use Rattle.vm_memory_guest.specs.Window.{Window}
use Rattle.vm_memory_guest.proofs.PieceWalk.{left-gives, left-refuses, left-none, left-next}
use Rattle.vm_memory_guest.proofs.guest_memory.pieces.next_of_pieces.Goals as goal

pub returns-in-Some-Ok : goal.returns-in-Some-Ok
returns-in-Some-Ok g c =
    let walk = c.pieces.walk in
    let new = c.next.new.self in
    let steps = subst (λ item. items_of walk ≡ item
    ∷ items_of new) c.in-Some-Ok.field-0-is c.in-Some-Ok.ensures.steps in
    ap items_of c.pieces.invariant.2
    ∙ (left-gives walk new c.in-Some-Ok.window c.pieces.later steps
    ∙ ap₂ (λ (w : Window) (p : PiecesLeft). Ok w ∷ items_of (left_of new (Some p))) (sym c.marked.ensures.window)
    (sym c.marked.ensures.later))

pub returns-in-Some-Err : goal.returns-in-Some-Err
returns-in-Some-Err g c =
    let walk = c.pieces.walk in
    let new = c.next.new.self in
    let steps = subst (λ item. items_of walk ≡ item
    ∷ items_of new) c.in-Some-Err.field-0-is c.in-Some-Err.ensures.steps in
    ap items_of c.pieces.invariant.2
    ∙ (left-refuses walk new c.in-Some-Err.error c.pieces.later steps
    ∙ ap (λ (p : PiecesLeft). Err c.in-Some-Err.error ∷ items_of (left_of new (Some p))) (sym c.end.ensures))

pub returns-in_err-walk-in-None : goal.returns-in_err-walk-in-None
returns-in_err-walk-in-None g c =
    let left = c.in_err-walk-in-None.ensures in
    let old = c.pieces.later in
    let nothing = λ (p : PiecesLeft). walk_of_pieces p.regions p.pieces ≡ record { windows = []; fault = None } in
    rw c.from_residual.ensures (
      ap items_of c.pieces.invariant.2 ∙ left-none c.pieces.walk old c.in-None.ensures.steps.0 left.walk,
      left-none c.next.new.self c.next_walk.new.self c.in-None.ensures.steps.1
          (subst nothing (sym left.left.0) left.walk),
    )

pub pieces-preserved : goal.pieces-preserved
pieces-preserved g c =
    let now = left-next c.pieces.walk c.in_ok-walk-in-None.field-0 c.pieces.later c.next_walk.new.self
    c.in-None.ensures.steps.0 c.in_ok-walk-in-None.ensures.walk c.in_ok-walk-in-None.ensures.left.0 in
    (tt, tt, c.pieces.invariant.2 ∙ now)
