use Rattle.virtio_queue.proofs.StepLemmas.{returned}
use Rattle.virtio_queue.proofs.queue.Queue.add_used.Goals as goal

pub returns-clause-added : goal.returns-clause-added
returns-clause-added g c =
    (returned g.B.Bitmap.marks (g.M.GuestMemory.memory c.args.mem.now) c.args.self.now.state c.args.head c.args.len c.args.host.now
    c.add_used_in-done.new.host c.add_used_in-done.result c.add_used_in-done.ensures.stores).0

pub returns-clause-shape : goal.returns-clause-shape
returns-clause-shape g c =
    (returned g.B.Bitmap.marks (g.M.GuestMemory.memory c.args.mem.now) c.args.self.now.state c.args.head c.args.len c.args.host.now
    c.add_used_in-done.new.host c.add_used_in-done.result c.add_used_in-done.ensures.stores).1
