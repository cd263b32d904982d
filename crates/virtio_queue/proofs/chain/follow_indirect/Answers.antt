use Rattle.std.proofs.Common.{Some, None}
use Rattle.std.proofs.lemmas.Result.{err_from_is_err_and}
use Rattle.virtio_queue.proofs.LookLemmas.{table_followed, table_refused}
use Rattle.virtio_queue.proofs.chain.follow_indirect.Goals as goal

pub returns-in_err-follow : goal.returns-in_err-follow
returns-in_err-follow g c =
    let r = c.from_residual-in_err-follow in
    let p = err_from_is_err_and r.result r.ensures.1 in
    rw (p.1, p.2)
    (table_refused g.L.Looks.looks c.args.segments.now.items c.args.descriptor.now c.in_ok-len.len c.args.looks.now
    c.follow.new.looks c.in_ok-len.ensures c.in_err-follow.field-0.0 c.in_err-follow.ensures)

pub returns-in-None : goal.returns-in-None
returns-in-None g c =
    table_followed g.L.Looks.looks c.args.segments.now.items c.args.descriptor.now c.in_ok-len.len c.args.looks.now
    c.follow.new.looks c.in_ok-len.ensures (record { segments = c.follow.new.segments.items; indirect = None })
    (rw c.in-None.is at c.in_ok-follow.ensures)

pub returns-in-Some : goal.returns-in-Some
returns-in-Some g c =
    table_followed g.L.Looks.looks c.args.segments.now.items c.args.descriptor.now c.in_ok-len.len c.args.looks.now
    c.follow.new.looks c.in_ok-len.ensures
    (record { segments = c.follow.new.segments.items; indirect = Some c.in-Some.field-0 })
    (rw c.in-Some.is at c.in_ok-follow.ensures)
