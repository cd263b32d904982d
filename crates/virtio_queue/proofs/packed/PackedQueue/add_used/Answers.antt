use Rattle.virtio_queue.proofs.StepLemmas.{packed_returned}
use Rattle.virtio_queue.proofs.packed.PackedQueue.add_used.Goals as goal

pub returns-clause-added : goal.returns-clause-added
returns-clause-added g c =
    (packed_returned g.B.Bitmap.marks (g.M.GuestMemory.memory c.args.mem.now) c.args.self.now.state c.args.buffer c.args.len c.args.host.now
    c.add_used_in-done.new.host c.add_used_in-done.result c.add_used_in-done.ensures.stores).0

pub returns-clause-shape : goal.returns-clause-shape
returns-clause-shape g c =
    (packed_returned g.B.Bitmap.marks (g.M.GuestMemory.memory c.args.mem.now) c.args.self.now.state c.args.buffer c.args.len c.args.host.now
    c.add_used_in-done.new.host c.add_used_in-done.result c.add_used_in-done.ensures.stores).1
