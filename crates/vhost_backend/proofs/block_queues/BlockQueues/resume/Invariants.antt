use Rattle.vm_memory_base.specs.Table.{says}
use Rattle.vhost_backend.specs.TableUse.{ResumesTo}
use Rattle.vhost_backend.proofs.block_queues.BlockQueues.resume.Given as goal

abbrev pub invariant-loop-ring : goal.invariant-loop-ring
invariant-loop-ring l = ResumesTo (says l.table) l.ring l.fn.self l.fn.kicks l.self l.kicks
