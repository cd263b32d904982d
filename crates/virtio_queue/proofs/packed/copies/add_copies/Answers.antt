use Rattle.std.proofs.Common.{sym, ◌∙◌, Ok, Err, arith}
use Rattle.std.proofs.lemmas.Grind.{common_steps}
use Rattle.std.proofs.lemmas.Result.{err_from_is_err_and}
use Rattle.virtio_queue.specs.declared.error.QueueError.TheVariants as errors
use Rattle.virtio_queue.proofs.PackedCopyLemmas.{copy_full, copy_last, copy_loop, copy_next, copy_refused}
use Rattle.virtio_queue.proofs.packed.copies.add_copies.Goals as goal

pub returns-in_err-row-clause-copies : goal.returns-in_err-row-clause-copies
returns-in_err-row-clause-copies g c =
    let q = c.args.state.now in
    let l = c.loop-count in
    let e = c.in_err-row.field-0.0 in
    let p = err_from_is_err_and c.from_residual.result c.from_residual.ensures.1 in
    rw (p.1, p.2)
    (l.invariant.rest (Err e) c.row.new.self
    (copy_refused g.L.Looks.looks q.desc_ring q.size c.args.room l.list.items l._count l.slot l.known l.looks
    c.row.new.self e c.loop-count-test.true c.in_err-row.ensures))

pub returns-then-is_err-clause-copies : goal.returns-then-is_err-clause-copies
returns-then-is_err-clause-copies g c =
    let q = c.args.state.now in
    let l = c.loop-count in
    l.invariant.rest (Err errors.Memory) c.row.new.self
    (copy_full g.L.Looks.looks q.desc_ring q.size c.args.room l.list.items l._count l.slot l.known l.looks
    c.row.new.self c.in_ok-row.row c.with_known-descriptor.result c.loop-count-test.true c.in_ok-row.ensures
    c.of_split.result c.of_split.ensures c.with_known-descriptor.ensures)

pub returns-then-is_last-clause-copies : goal.returns-then-is_last-clause-copies
returns-then-is_last-clause-copies g c =
    let q = c.args.state.now in
    let l = c.loop-count in
    l.invariant.rest (Ok c.push.new.self.items) c.row.new.self
    (copy_last g.L.Looks.looks q.desc_ring q.size c.args.room l.list.items l._count l.slot l.known l.looks
    c.row.new.self c.in_ok-row.row c.with_known-descriptor.result c.loop-count-test.true c.in_ok-row.ensures
    c.of_split.result c.of_split.ensures c.with_known-descriptor.ensures c.push.new.self.items
    (sym c.is_last.ensures ∙ c.if-is_last.true) (rw c.if-is_err.ensures.negation at c.push.ensures.items))

pub loop-count-preserved : goal.loop-count-preserved
loop-count-preserved g c =
    let q = c.args.state.now in
    let l = c.loop-count in record {
      rest = λ result end rest. l.invariant.rest result end
          (copy_next g.L.Looks.looks q.desc_ring q.size c.args.room l.list.items l._count l.slot l.known l.looks
          c.row.new.self c.in_ok-row.row c.with_known-descriptor.result c.loop-count-test.true c.in_ok-row.ensures
          c.of_split.result c.of_split.ensures c.with_known-descriptor.ensures c.push.new.self.items result
          end (sym c.is_last.ensures ∙ c.if-is_last.false)
          (rw c.if-is_err.ensures.negation at c.push.ensures.items) (rw (← c.slot_after-slot.ensures.after) rest));
      inside = c.slot_after-slot.ensures.within;
      count = grind (arith, common_steps);
    }

pub returns-clause-copies : goal.returns-clause-copies
returns-clause-copies g c =
    let q = c.args.state.now in
    let l = c.loop-count in
    l.invariant.rest (Err errors.DescriptorLoop) l.looks
    (copy_loop g.L.Looks.looks q.desc_ring q.size c.args.room l.list.items l._count l.slot l.known l.looks
    c.loop-count-test.false)
