use Rattle.std.proofs.Common.{inl, refl, true, Err, Ok}
use Rattle.std.proofs.lemmas.Result.{err_from_is_err_and}
use Rattle.virtio_blk.proofs.ProcessFacts.{idled, tried, tried_again}
use Rattle.virtio_blk.proofs.device.BlockDevice.serve_or_wait.Goals as goal

pub returns-in_err-serve_next-clause-tries : goal.returns-in_err-serve_next-clause-tries
returns-in_err-serve_next-clause-tries g c =
    let next = c.serve_next.new in
    let p = err_from_is_err_and c.from_residual.result c.from_residual.ensures.1 in
    rw (p.1, p.2) (tried g.B.Bitmap.marks g.D.Disk.bytes g.D.Disk.sectors g.D.Disk.calls
    (g.M.GuestMemory.memory c.args.mem.now)
    (record { device = c.args.self.now; queue = c.args.queue.now; host = c.args.host.now })
    (record { device = next.self; queue = next.queue; host = next.host }) c.in_err-serve_next.field-0.0
    c.in_err-serve_next.ensures.turn)

pub returns-then-branch-clause-tries : goal.returns-then-branch-clause-tries
returns-then-branch-clause-tries g c = (
  record { device = c.args.self.now; queue = c.args.queue.now; host = c.args.host.now },
  inl refl,
  rw c.if-branch.true at c.in_ok-serve_next.ensures.turn,
)

pub returns-in_err-enable_notification-clause-tries : goal.returns-in_err-enable_notification-clause-tries
returns-in_err-enable_notification-clause-tries g c =
    let first = c.serve_next.new in
    let r = c.from_residual-in_err-enable_notification in
    let p = err_from_is_err_and r.result r.ensures.1 in
    rw (p.1, p.2) (inl (idled g.B.Bitmap.marks g.D.Disk.bytes g.D.Disk.sectors g.D.Disk.calls
    (g.M.GuestMemory.memory c.args.mem.now)
    (record { device = c.args.self.now; queue = c.args.queue.now; host = c.args.host.now })
    (record { device = first.self; queue = first.queue; host = first.host })
    (Err c.in_err-enable_notification.field-0.0) c.enable_notification.new.host
    (rw c.if-branch.false at c.in_ok-serve_next.ensures.turn) c.in_err-enable_notification.ensures.enabled))

pub returns-clause-tries : goal.returns-clause-tries
returns-clause-tries g c =
    let m = g.M.GuestMemory.memory c.args.mem.now in
    let first = c.serve_next.new in
    let last = c.serve_next-2.new in
    let host = c.enable_notification.new.host in
    let idles = idled g.B.Bitmap.marks g.D.Disk.bytes g.D.Disk.sectors g.D.Disk.calls m
    (record { device = c.args.self.now; queue = c.args.queue.now; host = c.args.host.now })
    (record { device = first.self; queue = first.queue; host = first.host }) (Ok true) host
    (rw c.if-branch.false at c.in_ok-serve_next.ensures.turn)
    (rw c.if-not-branch.false at c.in_ok-enable_notification.ensures.enabled) in
    tried_again g.B.Bitmap.marks g.D.Disk.bytes g.D.Disk.sectors g.D.Disk.calls m
    (record { device = c.args.self.now; queue = c.args.queue.now; host = c.args.host.now })
    (record { device = first.self; queue = first.queue; host = host })
    (record { device = last.self; queue = last.queue; host = last.host }) idles c.serve_next-2.result
    c.serve_next-2.ensures.turn c.serve_next-2.ensures.none
