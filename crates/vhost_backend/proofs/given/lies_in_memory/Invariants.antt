use Rattle.std.proofs.Common.{◌-◌, List}
use Rattle.vhost_backend.specs.Given.{Lays}
use Rattle.vhost_backend.specs.declared.connection_memory.RegionPiece.{RegionPiece}
use Rattle.vhost_backend.proofs.given.lies_in_memory.Given as goal

abbrev pub invariant-loop-given : goal.invariant-loop-given
invariant-loop-given l = (ps : List RegionPiece) × Lays l.memory l.chain l.step 0 ps l.given

abbrev pub decreases-loop-given : goal.decreases-loop-given
decreases-loop-given l = l.len - l.given
