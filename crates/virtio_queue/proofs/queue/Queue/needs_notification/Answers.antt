use Rattle.virtio_queue.specs.Notification.{needing}
use Rattle.virtio_queue.proofs.AskingLemmas.{needs_held}
use Rattle.virtio_queue.proofs.StillLemmas.{still}
use Rattle.virtio_queue.proofs.queue.Queue.needs_notification.Goals as goal

pub returns-clause-needs : goal.returns-clause-needs
returns-clause-needs g c =
    let m = g.M.GuestMemory.memory c.args.mem.now in
    let host = c.args.host.now in
    let r = c.needs_notification_from-found in
    needs_held m host c.args.self.now r.result
    (still m host _ _ (λ p found new looked. looked) (needing c.args.self.now) r.new.looks r.result r.ensures.looks)
