use Rattle.std.proofs.Common.{refl, Ok, Err, false}
use Rattle.virtio_blk.proofs.ProcessFacts.{ended_early, ended_full, served_more}
use Rattle.virtio_blk.proofs.device.BlockDevice.serve_all.Goals as goal

pub loop-count-preserved : goal.loop-count-preserved
loop-count-preserved g c =
    let l = c.loop-count in
    let next = c.serve_or_wait in
    served_more g.B.Bitmap.marks g.D.Disk.bytes g.D.Disk.sectors g.D.Disk.calls
    (g.M.GuestMemory.memory c.args.mem.now) c.args.most l.count
    (record { device = c.args.self.now; queue = c.args.queue.now; host = c.args.host.now })
    (record { device = l.self; queue = l.queue; host = l.host })
    (record { device = next.new.self; queue = next.new.queue; host = next.new.host }) l.invariant
    c.loop-count-test.true (rw c.in-Ok-true.field-0-test at c.in-Ok-true.ensures.tries) next.ensures.shape

pub returns-in-Ok-false-clause-runs : goal.returns-in-Ok-false-clause-runs
returns-in-Ok-false-clause-runs g c =
    let l = c.loop-count in
    let next = c.serve_or_wait in
    ended_early g.B.Bitmap.marks g.D.Disk.bytes g.D.Disk.sectors g.D.Disk.calls
    (g.M.GuestMemory.memory c.args.mem.now) c.args.most l.count
    (record { device = c.args.self.now; queue = c.args.queue.now; host = c.args.host.now })
    (record { device = l.self; queue = l.queue; host = l.host })
    (record { device = next.new.self; queue = next.new.queue; host = next.new.host }) (Ok false)
    l.invariant c.loop-count-test.true refl (rw c.in-Ok-false.field-0-test at c.in-Ok-false.ensures.tries)

pub returns-in-Err-clause-runs : goal.returns-in-Err-clause-runs
returns-in-Err-clause-runs g c =
    let l = c.loop-count in
    let next = c.serve_or_wait in
    ended_early g.B.Bitmap.marks g.D.Disk.bytes g.D.Disk.sectors g.D.Disk.calls
    (g.M.GuestMemory.memory c.args.mem.now) c.args.most l.count
    (record { device = c.args.self.now; queue = c.args.queue.now; host = c.args.host.now })
    (record { device = l.self; queue = l.queue; host = l.host })
    (record { device = next.new.self; queue = next.new.queue; host = next.new.host }) (Err c.in-Err.error)
    l.invariant c.loop-count-test.true tt c.in-Err.ensures.tries

pub returns-clause-runs : goal.returns-clause-runs
returns-clause-runs g c =
    let l = c.loop-count in
    ended_full g.B.Bitmap.marks g.D.Disk.bytes g.D.Disk.sectors g.D.Disk.calls
    (g.M.GuestMemory.memory c.args.mem.now) c.args.most l.count
    (record { device = c.args.self.now; queue = c.args.queue.now; host = c.args.host.now })
    (record { device = l.self; queue = l.queue; host = l.host }) l.invariant c.loop-count-test.false
