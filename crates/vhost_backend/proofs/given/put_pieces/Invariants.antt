use Rattle.std.proofs.Common.{◌-◌, List, map}
use Rattle.vhost_backend.specs.Given.{Lays, Puts, piece_row}
use Rattle.vhost_backend.specs.declared.connection_memory.RegionPiece.{RegionPiece}
use Rattle.vhost_backend.proofs.given.put_pieces.Given as goal

abbrev pub invariant-loop-given : goal.invariant-loop-given
invariant-loop-given l = (ps : List RegionPiece) × Lays l.memory l.chain l.part.step l.part.given ps l.given
    × Puts l.initial.pieces l.initial.count (map piece_row ps) l.pieces l.count

abbrev pub decreases-loop-given : goal.decreases-loop-given
decreases-loop-given l = l.len - l.given
