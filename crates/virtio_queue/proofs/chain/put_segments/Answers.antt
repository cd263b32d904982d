use Rattle.std.proofs.Common.{Some, None, Ok, Err, refl}
use Rattle.std.proofs.lemmas.Result.{err_from_is_err_and}
use Rattle.virtio_queue.proofs.LookLemmas.{segments_follow, segments_refused}
use Rattle.virtio_queue.proofs.chain.put_segments.Goals as goal

pub returns-in_err-descriptor : goal.returns-in_err-descriptor
returns-in_err-descriptor g c =
    let p = err_from_is_err_and c.from_residual.result c.from_residual.ensures.1 in
    rw (p.1, p.2)
    (segments_refused g.L.Looks.looks c.args.state.now c.args.head c.args.looks.now c.follow.new.looks
    c.in_err-descriptor.field-0.0 (rw c.clear.ensures.items at c.in_err-descriptor.ensures))

pub returns-in_default : goal.returns-in_default
returns-in_default g c =
    segments_follow g.L.Looks.looks c.args.state.now c.args.head c.args.looks.now c.follow.new.looks
    c.follow.new.looks (record { segments = c.follow.new.segments.items; indirect = None })
    (Ok c.follow.new.segments.items)
    (rw (c.clear.ensures.items, c.in_default.is) at c.in_ok-descriptor.ensures) (refl, refl)

pub returns-in_err-follow_indirect : goal.returns-in_err-follow_indirect
returns-in_err-follow_indirect g c =
    let r = c.from_residual-in_err-follow_indirect in
    let p = err_from_is_err_and r.result r.ensures.1 in
    rw (p.1, p.2)
    (segments_follow g.L.Looks.looks c.args.state.now c.args.head c.args.looks.now c.follow.new.looks
    c.follow_indirect.new.looks
    (record { segments = c.follow.new.segments.items; indirect = Some c.in-Some.descriptor })
    (Err c.in_err-follow_indirect.field-0.0)
    (rw (c.clear.ensures.items, c.in-Some.is) at c.in_ok-descriptor.ensures)
    c.in_err-follow_indirect.ensures)

pub returns : goal.returns
returns g c =
    segments_follow g.L.Looks.looks c.args.state.now c.args.head c.args.looks.now c.follow.new.looks
    c.follow_indirect.new.looks
    (record { segments = c.follow.new.segments.items; indirect = Some c.in-Some.descriptor })
    (Ok c.follow_indirect.new.segments.items)
    (rw (c.clear.ensures.items, c.in-Some.is) at c.in_ok-descriptor.ensures)
    c.in_ok-follow_indirect.ensures
