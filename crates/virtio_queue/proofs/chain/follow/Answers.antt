use Rattle.std.proofs.Common.{sym, ◌∙◌, Ok, Err, Some, None}
use Rattle.std.proofs.lemmas.Result.{err_from_is_err_and}
use Rattle.virtio_queue.specs.declared.error.QueueError.TheVariants as errors
use Rattle.virtio_queue.proofs.LookLemmas.{at_full, at_indirect, at_last, at_loop, at_next, at_outside, at_past, at_refused}
use Rattle.virtio_queue.proofs.chain.follow.Goals as goal

pub returns-then-index-len : goal.returns-then-index-len
returns-then-index-len g c =
    let l = c.loop-step in
    l.invariant (Err errors.InvalidDescriptorIndex) l.looks
    (at_past g.L.Looks.looks c.args.table c.args.len l.segments.items l.index l._step l.looks c.loop-step-test.true
    c.if-index-len.true)

pub returns-in_err-descriptor : goal.returns-in_err-descriptor
returns-in_err-descriptor g c =
    let l = c.loop-step in
    let e = c.in_err-descriptor.field-0.0 in
    let p = err_from_is_err_and c.from_residual.result c.from_residual.ensures.1 in
    rw (p.1, p.2)
    (l.invariant (Err e) c.row.new.self
    (at_refused g.L.Looks.looks c.args.table c.args.len l.segments.items l.index l._step l.looks c.row.new.self e
    c.loop-step-test.true c.if-index-len.false c.in_err-descriptor.ensures))

pub returns-then-refers_to_indirect_table : goal.returns-then-refers_to_indirect_table
returns-then-refers_to_indirect_table g c =
    let l = c.loop-step in
    let d = c.in_ok-descriptor.descriptor in
    l.invariant (Ok (record { segments = l.segments.items; indirect = Some d })) c.row.new.self
    (at_indirect g.L.Looks.looks c.args.table c.args.len l.segments.items l.index l._step l.looks c.row.new.self d
    c.loop-step-test.true c.if-index-len.false c.in_ok-descriptor.ensures
    (sym c.refers_to_indirect_table.ensures ∙ c.if-refers_to_indirect_table.true))

pub returns-then-is_err : goal.returns-then-is_err
returns-then-is_err g c =
    let l = c.loop-step in
    let d = c.in_ok-descriptor.descriptor in
    l.invariant (Err errors.Memory) c.row.new.self
    (at_full g.L.Looks.looks c.args.table c.args.len l.segments.items l.index l._step l.looks c.row.new.self d
    c.loop-step-test.true c.if-index-len.false c.in_ok-descriptor.ensures
    (sym c.refers_to_indirect_table.ensures ∙ c.if-refers_to_indirect_table.false))

pub returns-then-not-has_next : goal.returns-then-not-has_next
returns-then-not-has_next g c =
    let l = c.loop-step in
    let d = c.in_ok-descriptor.descriptor in
    l.invariant (Ok (record { segments = c.push.new.self.items; indirect = None })) c.row.new.self
    (at_last g.L.Looks.looks c.args.table c.args.len l.segments.items l.index l._step l.looks c.row.new.self d
    c.loop-step-test.true c.if-index-len.false c.in_ok-descriptor.ensures c.push.new.self.items
    (sym c.refers_to_indirect_table.ensures ∙ c.if-refers_to_indirect_table.false)
    (sym c.has_next.ensures ∙ c.if-not-has_next.true)
    (rw (← c.segment.ensures) (rw c.if-is_err.ensures.negation at c.push.ensures.items)))

pub loop-step-preserved : goal.loop-step-preserved
loop-step-preserved g c result end rest =
    let l = c.loop-step in
    let d = c.in_ok-descriptor.descriptor in
    l.invariant result end
    (at_next g.L.Looks.looks c.args.table c.args.len l.segments.items l.index l._step l.looks c.row.new.self d
    c.loop-step-test.true c.if-index-len.false c.in_ok-descriptor.ensures c.push.new.self.items result end
    (sym c.refers_to_indirect_table.ensures ∙ c.if-refers_to_indirect_table.false)
    (sym c.has_next.ensures ∙ c.if-not-has_next.false)
    (rw (← c.segment.ensures) (rw c.if-is_err.ensures.negation at c.push.ensures.items)) rest)

pub returns-then-index-len-2 : goal.returns-then-index-len-2
returns-then-index-len-2 g c =
    let l = c.loop-step in
    l.invariant (Err errors.InvalidDescriptorIndex) l.looks
    (at_outside g.L.Looks.looks c.args.table c.args.len l.segments.items l.index l._step l.looks
    c.loop-step-test.false c.if-index-len-2.true)

pub returns : goal.returns
returns g c =
    let l = c.loop-step in
    l.invariant (Err errors.DescriptorLoop) l.looks
    (at_loop g.L.Looks.looks c.args.table c.args.len l.segments.items l.index l._step l.looks c.loop-step-test.false
    c.if-index-len-2.false)
