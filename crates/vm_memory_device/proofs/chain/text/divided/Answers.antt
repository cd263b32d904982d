use Rattle.std.proofs.Common.{false}
use Rattle.std.proofs.lemmas.Result.{err_from_is_err_and}
use Rattle.vm_memory_device.specs.declared.chain.Segment.{Segment}
use Rattle.vm_memory_device.proofs.TextLemmas.{divided_next_writable, divided_next_readable, divided_all, fault_found, fault_passed, no_fault}
use Rattle.vm_memory_device.proofs.chain.text.divided.Goals as goal
use Rattle.vm_memory_device.proofs.chain.text.divided.Goals.{then-segment, else-segment}

none_there : Segment
none_there = record { addr = record { 0 = 0 }; len = 0; writable = false }

pub returns-in_err-total : goal.returns-in_err-total
unfolding none_there
returns-in_err-total c =
    let p = err_from_is_err_and c.from_residual.result c.from_residual.ensures.1 in
    rw (p.1, p.2) (fault_found c.args.segments.now c.loop-segment.segment-index none_there c.loop-segment.readable
    c.loop-segment.readable_len c.loop-segment.total c.loop-segment.writes c.in_err-total.field-0.0
    c.loop-segment-test.true
    c.loop-segment.invariant.1 c.loop-segment.invariant.0 c.in_err-total.ensures)

pub loop-segment-preserved : goal.loop-segment-preserved
unfolding none_there
loop-segment-preserved c =
    let ss = c.args.segments.now in
    let i = c.loop-segment.segment-index in
    let l = c.loop-segment in
    let within = c.loop-segment-test.true in
    let tested = c.in_ok-total.ensures in (
      fault_passed ss i none_there l.readable l.readable_len l.total l.writes within l.invariant.1 l.invariant.0
          tested.0,
      elim c.if-segment.branch [
        | then-segment w ↦ rw (w.readable-is, w.readable_len-is, w.writes-is)
            (divided_next_writable ss i none_there l.readable l.readable_len l.total c.in_ok-total.total l.writes within
            l.invariant.1 w.if-segment.true tested.1 tested.2)
        | else-segment w ↦ rw (w.readable-is, w.readable_len-is, w.writes-is)
            (divided_next_readable ss i none_there l.readable l.readable_len l.total c.in_ok-total.total l.writes within
            l.invariant.1 w.if-segment.false tested.0 tested.1 tested.2)
      ],
    )

pub returns : goal.returns
returns c =
    let ss = c.args.segments.now in
    let l = c.loop-segment in (
      no_fault ss l.segment-index c.loop-segment-test.false l.invariant.0,
      divided_all ss l.segment-index l.readable l.readable_len l.total l.writes c.loop-segment-test.false l.invariant.1,
    )
