use Rattle.virtio_queue.proofs.StepLemmas.{packed_enabled}
use Rattle.virtio_queue.proofs.packed.PackedQueue.enable_notification.Goals as goal

pub returns-clause-enabled : goal.returns-clause-enabled
returns-clause-enabled g c =
    (packed_enabled g.B.Bitmap.marks (g.M.GuestMemory.memory c.args.mem.now) c.other_bytes_stay.ensures.bytes c.writes_keep_shapes.ensures.tables c.args.self.now.state c.args.host.now
    c.enable_notification_in-done.new.host c.enable_notification_in-done.result c.enable_notification_in-done.ensures.stores).0

pub returns-clause-offers : goal.returns-clause-offers
returns-clause-offers g c =
    (packed_enabled g.B.Bitmap.marks (g.M.GuestMemory.memory c.args.mem.now) c.other_bytes_stay.ensures.bytes c.writes_keep_shapes.ensures.tables c.args.self.now.state c.args.host.now
    c.enable_notification_in-done.new.host c.enable_notification_in-done.result c.enable_notification_in-done.ensures.stores).1

pub returns-clause-waits : goal.returns-clause-waits
returns-clause-waits g c =
    (packed_enabled g.B.Bitmap.marks (g.M.GuestMemory.memory c.args.mem.now) c.other_bytes_stay.ensures.bytes c.writes_keep_shapes.ensures.tables c.args.self.now.state c.args.host.now
    c.enable_notification_in-done.new.host c.enable_notification_in-done.result c.enable_notification_in-done.ensures.stores).2

pub returns-clause-shape : goal.returns-clause-shape
returns-clause-shape g c =
    (packed_enabled g.B.Bitmap.marks (g.M.GuestMemory.memory c.args.mem.now) c.other_bytes_stay.ensures.bytes c.writes_keep_shapes.ensures.tables c.args.self.now.state c.args.host.now
    c.enable_notification_in-done.new.host c.enable_notification_in-done.result c.enable_notification_in-done.ensures.stores).3
