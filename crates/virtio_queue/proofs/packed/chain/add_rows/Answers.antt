use Rattle.std.proofs.Common.{Ok, Err}
use Rattle.std.proofs.lemmas.Result.{err_from_is_err_and}
use Rattle.virtio_queue.specs.declared.error.QueueError.TheVariants as errors
use Rattle.virtio_queue.proofs.PackedLookLemmas.{rows_done, rows_full, rows_next, rows_refused}
use Rattle.virtio_queue.proofs.packed.chain.add_rows.Goals as goal

pub returns-in_err-row : goal.returns-in_err-row
returns-in_err-row g c =
    let l = c.loop-index in
    let e = c.in_err-row.field-0.0 in
    let p = err_from_is_err_and c.from_residual.result c.from_residual.ensures.1 in
    rw (p.1, p.2)
    (l.invariant (Err e) c.row.new.self
    (rows_refused g.L.Looks.looks c.args.table c.args.len l.segments.items l.index l.looks c.row.new.self e
    c.loop-index-test.true c.in_err-row.ensures))

pub returns-then-is_err : goal.returns-then-is_err
returns-then-is_err g c =
    let l = c.loop-index in
    l.invariant (Err errors.Memory) c.row.new.self
    (rows_full g.L.Looks.looks c.args.table c.args.len l.segments.items l.index l.looks c.row.new.self
    c.in_ok-row.field-0 c.loop-index-test.true c.in_ok-row.ensures)

pub loop-index-preserved : goal.loop-index-preserved
loop-index-preserved g c result end rest =
    let l = c.loop-index in
    l.invariant result end
    (rows_next g.L.Looks.looks c.args.table c.args.len l.segments.items l.index l.looks c.row.new.self
    c.in_ok-row.field-0 c.of_split-descriptor.result c.push.new.self.items result end c.loop-index-test.true
    c.in_ok-row.ensures c.of_split-descriptor.ensures
    (rw (← c.segment.ensures) (rw c.if-is_err.ensures.negation at c.push.ensures.items)) rest)

pub returns : goal.returns
returns g c =
    let l = c.loop-index in
    l.invariant (Ok l.segments.items) l.looks
    (rows_done g.L.Looks.looks c.args.table c.args.len l.segments.items l.index l.looks c.loop-index-test.false)
