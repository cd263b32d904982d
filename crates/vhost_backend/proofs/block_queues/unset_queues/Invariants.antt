use Rattle.std.proofs.Common.{◌≡◌, ◌<◌, true}
use Rattle.virtio_queue.specs.Packed.{is_packed_size}
use Rattle.vhost_backend.specs.BlockQueues.{new_queues}
use Rattle.vhost_backend.proofs.block_queues.unset_queues.Given as goal

abbrev pub invariant-loop-made : goal.invariant-loop-made
invariant-loop-made l = record {
  made : l.queues.items ≡ new_queues l._made l.max_size;
  sized : 0 < l._made → is_packed_size l.max_size ≡ true;
}
