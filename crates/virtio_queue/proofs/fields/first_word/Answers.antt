use Rattle.vm_memory_guest.specs.Host.{Holds, shape_of}
use Rattle.vm_memory_guest.specs.Walk.{items_of}
use Rattle.vm_memory_guest.specs.Window.{window_names}
use Rattle.virtio_queue.proofs.RingLemmas.{first_given}
use Rattle.virtio_queue.proofs.fields.first_word.Goals as goal

pub is_word-requires : goal.is_word-requires
is_word-requires g c =
    let gives = rw (c.in-Some-Ok.is, c.in-Some-Ok.field-0-is) at c.next.ensures.steps in
    first_given (λ w. Holds (shape_of c.args.host.now) (window_names w)) c.args.walk.windows c.args.walk.fault
    c.in-Some-Ok.window (items_of c.next.new.self) gives c.requires
