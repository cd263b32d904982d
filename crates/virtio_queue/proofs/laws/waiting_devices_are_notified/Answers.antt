use Rattle.std.proofs.Common.{arith}
use Rattle.std.proofs.lemmas.Bool.{lt-ltb}
use Rattle.virtio_queue.specs.Rings.{ahead, before}
use Rattle.virtio_queue.proofs.laws.waiting_devices_are_notified.Goals as goal

pub returns : goal.returns
returns c old new count low high differ among =
    lt-ltb (ahead (before new) old) count (omega (arith, low, high, differ, among))
