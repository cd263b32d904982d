use Rattle.virtio_queue.proofs.StepLemmas.{disabled}
use Rattle.virtio_queue.proofs.queue.Queue.disable_notification.Goals as goal

pub returns-clause-disabled : goal.returns-clause-disabled
returns-clause-disabled g c =
    (disabled g.B.Bitmap.marks (g.M.GuestMemory.memory c.args.mem.now) c.args.self.now.state c.args.host.now
    c.disable_notification_in-done.new.host c.disable_notification_in-done.result c.disable_notification_in-done.ensures.stores).0

pub returns-clause-shape : goal.returns-clause-shape
returns-clause-shape g c =
    (disabled g.B.Bitmap.marks (g.M.GuestMemory.memory c.args.mem.now) c.args.self.now.state c.args.host.now
    c.disable_notification_in-done.new.host c.disable_notification_in-done.result c.disable_notification_in-done.ensures.stores).1
