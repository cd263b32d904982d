use Rattle.std.proofs.Common.{◌≡◌, drop}
use Rattle.vhost_backend.specs.Pieces.{piece_from, side}
use Rattle.vhost_backend.proofs.pieces.piece_from.Given as goal

-- what comes from here on is what comes from the first segment on
abbrev pub invariant-loop-i : goal.invariant-loop-i
invariant-loop-i l = piece_from (side l.writable (drop l.i l.segments)) l.left l.fn.len
    ≡ piece_from (side l.writable l.segments) l.fn.offset l.fn.len
