use Rattle.vhost_backend.specs.TableUse.{ChangesTo}
use Rattle.vhost_backend.proofs.block_queues.BlockQueues.change.Given as goal

abbrev pub invariant-loop-ring : goal.invariant-loop-ring
invariant-loop-ring g l = record {
  held : g.D.RingMemory.held l.mem l.host;
  changes : ChangesTo (g.D.RingMemory.steps l.mem) l.change l.ring l.fn.self l.fn.kicks l.fn.host l.self l.kicks l.host;
}
