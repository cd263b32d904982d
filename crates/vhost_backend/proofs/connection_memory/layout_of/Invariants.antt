use Rattle.std.proofs.Common.{[], take}
use Rattle.vhost_backend.specs.ConnectionMemory.{LiesOver}
use Rattle.vhost_backend.proofs.connection_memory.layout_of.Given as goal

abbrev pub invariant-loop-number : goal.invariant-loop-number
invariant-loop-number l = LiesOver l.host 0 [] (take l.number l.regions) l.layout
