use Rattle.std.proofs.Common.{ap, inr, Err, Ok}
use Rattle.std.proofs.lemmas.Result.{err_from_is_err_and}
use Rattle.virtio_blk.proofs.ProcessFacts.{turned}
use Rattle.virtio_blk.proofs.device.BlockDevice.serve_next.Goals as goal

pub returns-in_err-add_used-clause-turn : goal.returns-in_err-add_used-clause-turn
returns-in_err-add_used-clause-turn g c =
    let r = c.from_residual-in_err-add_used in
    let p = err_from_is_err_and r.result r.ensures.1 in
    rw (← c.self.view_is, p.1, p.2, c.keep_list.ensures) (inr (turned g.B.Bitmap.marks g.D.Disk.bytes g.D.Disk.sectors g.D.Disk.calls
    (g.M.GuestMemory.memory c.args.mem.now) _ c.args.queue.now c.args.host.now (Ok c.in_ok-buffer.field-0)
    c.in-Some.buffer c.in-Some.chain c.in_ok-buffer.ensures.popped (ap Ok c.in-Some.is) c.pop_into.new.self
    c.in_ok-buffer.ensures.moved c.serve-len.result c.serve-len.new.self c.serve-len.new.host c.serve-len.ensures.served
    (Err c.in_err-add_used.field-0.0) c.add_used.new.self c.add_used.new.host c.in_err-add_used.ensures.added
    c.in_err-add_used.ensures.moved))

pub returns-clause-turn : goal.returns-clause-turn
returns-clause-turn g c =
    rw (← c.self.view_is, c.keep_list.ensures)
    (turned g.B.Bitmap.marks g.D.Disk.bytes g.D.Disk.sectors g.D.Disk.calls (g.M.GuestMemory.memory c.args.mem.now)
    _ c.args.queue.now c.args.host.now (Ok c.in_ok-buffer.field-0) c.in-Some.buffer c.in-Some.chain
    c.in_ok-buffer.ensures.popped (ap Ok c.in-Some.is) c.pop_into.new.self c.in_ok-buffer.ensures.moved
    c.serve-len.result c.serve-len.new.self c.serve-len.new.host c.serve-len.ensures.served
    (Ok c.in_ok-add_used.field-0) c.add_used.new.self c.add_used.new.host c.in_ok-add_used.ensures.added
    c.in_ok-add_used.ensures.moved)
