use Rattle.std.proofs.Common.{Some, None, Ok, List, refl, ℕ, Option}
use Rattle.vm_memory_device.specs.declared.chain.Segment.{Segment}
use Rattle.virtio_queue.specs.Any.{by_head}
use Rattle.virtio_queue.specs.Looks.{Tree, gives}
use Rattle.virtio_queue.specs.Popping.{popping}
use Rattle.virtio_queue.specs.declared.packed.state.PackedBuffer.{PackedBuffer}
use Rattle.virtio_queue.proofs.LookLemmas.{then_fails, then_follows}
use Rattle.virtio_queue.proofs.any.AnyQueue.pop_from.Goals as goal

abbrev named : Option (ℕ × List Segment) → Tree (Option (PackedBuffer × List Segment))
named found = gives (by_head (Ok found))

pub returns-in-Ok-Some-clause-looks : goal.returns-in-Ok-Some-clause-looks
returns-in-Ok-Some-clause-looks g c =
    let q = c.in-Split.queue.state in
    let new = c.pop_from.new.looks in
    let found = Some (c.in-Ok-Some.id, c.in-Ok-Some.chain) in
    rw c.in-Split.is
    (then_follows g.L.Looks.looks (popping q) named c.args.looks.now new new found
    (Ok (Some (record { id = c.in-Ok-Some.id; slots = 1 }, c.in-Ok-Some.chain)))
    (rw c.in-Ok-Some.field-0-is at c.in-Ok-Some.ensures.looks) (refl, refl))

pub returns-in-Ok-None-clause-looks : goal.returns-in-Ok-None-clause-looks
returns-in-Ok-None-clause-looks g c =
    let q = c.in-Split.queue.state in
    let new = c.pop_from.new.looks in
    rw c.in-Split.is
    (then_follows g.L.Looks.looks (popping q) named c.args.looks.now new new None (Ok None)
    (rw c.in-Ok-None.field-0-is at c.in-Ok-None.ensures.looks) (refl, refl))

pub returns-in-Err-clause-looks : goal.returns-in-Err-clause-looks
returns-in-Err-clause-looks g c =
    let q = c.in-Split.queue.state in
    rw c.in-Split.is
    (then_fails g.L.Looks.looks (popping q) named c.args.looks.now c.pop_from.new.looks c.in-Err.error
    c.in-Err.ensures.looks)
