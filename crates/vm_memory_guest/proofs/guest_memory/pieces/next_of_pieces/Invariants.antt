use Rattle.std.proofs.Common.{◌≡◌, length, Some}
use Rattle.vm_memory_guest.specs.Pieces.{left_of}
use Rattle.vm_memory_guest.proofs.guest_memory.pieces.next_of_pieces.Given as goal

-- all that was left is still to come
abbrev pub invariant-pieces : goal.invariant-pieces
invariant-pieces g l =
    (goal.iterator-pieces g).can_next l.walk × (goal.iterator-pieces g).is_finite l.walk
    × (left_of l.fn.walk (Some l.fn.later) ≡ left_of l.walk (Some l.later))

abbrev pub decreases-pieces : goal.decreases-pieces
decreases-pieces g l = length l.later.pieces
