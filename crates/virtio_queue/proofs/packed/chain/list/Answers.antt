use Rattle.std.proofs.Common.{sym, ◌∙◌, ◌+◌, ◌≤◌, ◌<◌, Ok, Err, None, Some, ap, arith}
use Rattle.std.proofs.lemmas.Result.{err_from_is_err_and}
use Rattle.virtio_queue.specs.PackedPopping.{with_known}
use Rattle.virtio_queue.specs.declared.error.QueueError.TheVariants as errors
use Rattle.virtio_queue.proofs.PackedLookLemmas.{list_all, list_full, list_last, list_loop, list_next, list_refused}
use Rattle.virtio_queue.proofs.packed.chain.list.Goals as goal

pub returns-then-room-eq0-clause-lists : goal.returns-then-room-eq0-clause-lists
returns-then-room-eq0-clause-lists g c =
    let look = g.L.Looks.looks in
    let q = c.args.state.now in
    let front = c.args.segments.now.items in
    let slot = q.next_avail.slot in
    let s = c.args.looks.now in
    let none : c.args.room ≤ 0 = omega (arith, c.if-room-eq0.true) in
    list_all look q.desc_ring q.size c.args.room front slot (Some c.args.flags) s s (Err errors.DescriptorLoop)
    (list_loop look q.desc_ring q.size c.args.room front 0 slot (Some c.args.flags) s none)

pub returns-in_err-begin-clause-lists : goal.returns-in_err-begin-clause-lists
returns-in_err-begin-clause-lists g c =
    let look = g.L.Looks.looks in
    let q = c.args.state.now in
    let front = c.args.segments.now.items in
    let slot = q.next_avail.slot in
    let s = c.args.looks.now in
    let new = c.row.new.self in
    let e = c.in_err-begin.field-0.0 in
    let some : 0 < c.args.room = omega (arith, c.if-room-eq0.false) in
    let p = err_from_is_err_and c.from_residual.result c.from_residual.ensures.1 in
    rw (p.1, p.2)
    (list_all look q.desc_ring q.size c.args.room front slot (Some c.args.flags) s new (Err e)
    (list_refused look q.desc_ring q.size c.args.room front 0 slot (Some c.args.flags) s new e some
    c.in_err-begin.ensures))

pub returns-then-is_last-clause-lists : goal.returns-then-is_last-clause-lists
returns-then-is_last-clause-lists g c =
    let look = g.L.Looks.looks in
    let q = c.args.state.now in
    let front = c.args.segments.now.items in
    let slot = q.next_avail.slot in
    let s = c.args.looks.now in
    let new = c.row.new.self in
    let known = Some c.args.flags in
    let d = c.with_flags-first.result in
    let some : 0 < c.args.room = omega (arith, c.if-room-eq0.false) in
    list_all look q.desc_ring q.size c.args.room front slot known s new
    (Ok (record { segments = front; last = d; slots = 1 }))
    (list_last look q.desc_ring q.size c.args.room front 0 slot known s new c.in_ok-begin.begin d some
    c.in_ok-begin.ensures (c.with_flags-first.ensures ∙ ap (with_known known) c.of_split.ensures)
    (sym c.is_last.ensures ∙ c.if-is_last.true))

pub returns-then-is_err-clause-lists : goal.returns-then-is_err-clause-lists
returns-then-is_err-clause-lists g c =
    let look = g.L.Looks.looks in
    let q = c.args.state.now in
    let front = c.args.segments.now.items in
    let slot = q.next_avail.slot in
    let s = c.args.looks.now in
    let new = c.row.new.self in
    let known = Some c.args.flags in
    let some : 0 < c.args.room = omega (arith, c.if-room-eq0.false) in
    list_all look q.desc_ring q.size c.args.room front slot known s new (Err errors.Memory)
    (list_full look q.desc_ring q.size c.args.room front 0 slot known s new c.in_ok-begin.begin
    c.with_flags-first.result some c.in_ok-begin.ensures
    (c.with_flags-first.ensures ∙ ap (with_known known) c.of_split.ensures)
    (sym c.is_last.ensures ∙ c.if-is_last.false))

pub loop-count-init : goal.loop-count-init
loop-count-init g c =
    let look = g.L.Looks.looks in
    let q = c.args.state.now in
    let front = c.args.segments.now.items in
    let slot = q.next_avail.slot in
    let s = c.args.looks.now in
    let new = c.row.new.self in
    let known = Some c.args.flags in
    let some : 0 < c.args.room = omega (arith, c.if-room-eq0.false) in record {
      rest = λ result end rest. list_all look q.desc_ring q.size c.args.room front slot known s end result
          (list_next look q.desc_ring q.size c.args.room front 0 slot known s new c.in_ok-begin.begin
          c.with_flags-first.result some c.in_ok-begin.ensures
          (c.with_flags-first.ensures ∙ ap (with_known known) c.of_split.ensures) c.push.new.self.items result end
          (sym c.is_last.ensures ∙ c.if-is_last.false)
          (rw (← c.segment.ensures) (rw c.if-is_err.ensures.negation at c.push.ensures.items))
          (rw (← c.slot_after-slot.ensures.after) rest));
      inside = c.slot_after-slot.ensures.within;
    }

pub returns-in_err-row-clause-lists : goal.returns-in_err-row-clause-lists
returns-in_err-row-clause-lists g c =
    let q = c.args.state.now in
    let l = c.loop-count in
    let new = c.row-in-loop-count.new.self in
    let e = c.in_err-row.field-0.0 in
    let r = c.from_residual-in_err-row in
    let p = err_from_is_err_and r.result r.ensures.1 in
    rw (p.1, p.2)
    (l.invariant.rest (Err e) new
    (list_refused g.L.Looks.looks q.desc_ring q.size c.args.room l.segments.items l.count l.slot None l.looks new e
    c.loop-count-test.true c.in_err-row.ensures))

pub returns-then-is_last-2-clause-lists : goal.returns-then-is_last-2-clause-lists
returns-then-is_last-2-clause-lists g c =
    let q = c.args.state.now in
    let l = c.loop-count in
    let new = c.row-in-loop-count.new.self in
    let d = c.of_split-descriptor.result in
    l.invariant.rest (Ok (record { segments = l.segments.items; last = d; slots = l.count + 1 })) new
    (list_last g.L.Looks.looks q.desc_ring q.size c.args.room l.segments.items l.count l.slot None l.looks new
    c.in_ok-row.field-0 d c.loop-count-test.true c.in_ok-row.ensures c.of_split-descriptor.ensures
    (sym c.is_last-in-loop-count.ensures ∙ c.if-is_last-2.true))

pub returns-then-is_err-2-clause-lists : goal.returns-then-is_err-2-clause-lists
returns-then-is_err-2-clause-lists g c =
    let q = c.args.state.now in
    let l = c.loop-count in
    let new = c.row-in-loop-count.new.self in
    l.invariant.rest (Err errors.Memory) new
    (list_full g.L.Looks.looks q.desc_ring q.size c.args.room l.segments.items l.count l.slot None l.looks new
    c.in_ok-row.field-0 c.of_split-descriptor.result c.loop-count-test.true c.in_ok-row.ensures
    c.of_split-descriptor.ensures (sym c.is_last-in-loop-count.ensures ∙ c.if-is_last-2.false))

pub loop-count-preserved : goal.loop-count-preserved
loop-count-preserved g c =
    let q = c.args.state.now in
    let l = c.loop-count in
    let new = c.row-in-loop-count.new.self in record {
      rest = λ result end rest. l.invariant.rest result end
          (list_next g.L.Looks.looks q.desc_ring q.size c.args.room l.segments.items l.count l.slot None l.looks new
          c.in_ok-row.field-0 c.of_split-descriptor.result c.loop-count-test.true c.in_ok-row.ensures
          c.of_split-descriptor.ensures c.push-in-loop-count.new.self.items result end
          (sym c.is_last-in-loop-count.ensures ∙ c.if-is_last-2.false)
          (rw (← c.segment-in-loop-count.ensures)
          (rw c.if-is_err-2.ensures.negation at c.push-in-loop-count.ensures.items))
          (rw (← c.slot_after-slot-in-loop-count.ensures.after) rest));
      inside = c.slot_after-slot-in-loop-count.ensures.within;
    }

pub returns-clause-lists : goal.returns-clause-lists
returns-clause-lists g c =
    let q = c.args.state.now in
    let l = c.loop-count in
    l.invariant.rest (Err errors.DescriptorLoop) l.looks
    (list_loop g.L.Looks.looks q.desc_ring q.size c.args.room l.segments.items l.count l.slot None l.looks
    c.loop-count-test.false)
