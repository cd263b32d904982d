use Rattle.virtio_queue.proofs.StepLemmas.{enabled}
use Rattle.virtio_queue.proofs.queue.Queue.enable_notification.Goals as goal

pub returns-clause-enabled : goal.returns-clause-enabled
returns-clause-enabled g c =
    (enabled g.B.Bitmap.marks (g.M.GuestMemory.memory c.args.mem.now) c.args.self.now.state c.args.host.now
    c.enable_notification_in-done.new.host c.enable_notification_in-done.result c.enable_notification_in-done.ensures.stores).0

pub returns-clause-asks : goal.returns-clause-asks
returns-clause-asks g c =
    (enabled g.B.Bitmap.marks (g.M.GuestMemory.memory c.args.mem.now) c.args.self.now.state c.args.host.now
    c.enable_notification_in-done.new.host c.enable_notification_in-done.result c.enable_notification_in-done.ensures.stores).1

pub returns-clause-waits : goal.returns-clause-waits
returns-clause-waits g c =
    (enabled g.B.Bitmap.marks (g.M.GuestMemory.memory c.args.mem.now) c.args.self.now.state c.args.host.now
    c.enable_notification_in-done.new.host c.enable_notification_in-done.result c.enable_notification_in-done.ensures.stores).2

pub returns-clause-shape : goal.returns-clause-shape
returns-clause-shape g c =
    (enabled g.B.Bitmap.marks (g.M.GuestMemory.memory c.args.mem.now) c.args.self.now.state c.args.host.now
    c.enable_notification_in-done.new.host c.enable_notification_in-done.result c.enable_notification_in-done.ensures.stores).3
