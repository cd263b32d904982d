use Rattle.std.proofs.Common.{◌∙◌, ◌+◌, ◌≤◌, sym, ap, length, arith}
use Rattle.vm_memory_guest.specs.Host.{Holds, shape_of}
use Rattle.vm_memory_guest.specs.Window.{window_names}
use Rattle.vm_memory_guest.proofs.HostLemmas.{length-bytes}
use Rattle.vm_memory_guest.proofs.AccessLemmas.{gave, ends_in, ends_whole, next_all, next_fits, answer-whole, answer-ends, filled_first, filled-more, length-part, filled-ends}
use Rattle.vm_memory_guest.proofs.guest_memory.access.read_windows.Goals as goal

pub loop-item-init : goal.loop-item-init
loop-item-init g c = rw c.into_iter-item-iterator.ensures.into_iter_gives
    (filled_first c.args.walk c.args.host.now.blocks c.args.buf.now)

pub overflow_add-end : goal.overflow_add-end
overflow_add-end g c =
    let fits = next_fits c.loop-item.invariant.came c.in-Some.ensures.steps c.in-Ok.is _ c.requires.fits in
    let same = c.loop-item.auto.buf in
    omega (arith, c.len.ensures)

pub slice_bounds-copy_from_slice-end : goal.slice_bounds-copy_from_slice-end
slice_bounds-copy_from_slice-end g c =
    let fits = next_fits c.loop-item.invariant.came c.in-Some.ensures.steps c.in-Ok.is _ c.requires.fits in
    let same = c.loop-item.auto.buf in
    omega (arith, c.len.ensures)

pub bytes-requires : goal.bytes-requires
bytes-requires g c =
    next_all c.loop-item.invariant.came c.in-Some.ensures.steps c.in-Ok.is
    (λ v. Holds (shape_of c.args.host.now) (window_names v)) c.requires.held

pub copy_from_slice-requires : goal.copy_from_slice-requires
copy_from_slice-requires g c =
    let fits = next_fits c.loop-item.invariant.came c.in-Some.ensures.steps c.in-Ok.is _ c.requires.fits in
    let len = c.len.ensures in
    let same = c.loop-item.auto.buf in
    let inside : c.loop-item.total + c.len.result ≤ length c.loop-item.buf = omega arith in
    length-part c.loop-item.buf c.bytes.result.now c.loop-item.total c.len.result inside
    (ap length c.bytes.ensures ∙ (length-bytes c.args.host.now.blocks c.in-Ok.window ∙ sym len))

pub loop-item-preserved : goal.loop-item-preserved
loop-item-preserved g c =
    filled-more c.loop-item.invariant
    (gave c.loop-item.item-iterator c.next.new.self _ _ c.in-Some.ensures.steps c.in-Ok.is)
    c.copy_from_slice.new.self c.len.result c.len.ensures (c.copy_from_slice.ensures.after ∙ c.bytes.ensures)

pub returns-in-Err : goal.returns-in-Err
returns-in-Err g c =
    let end = ends_in c.loop-item.item-iterator _ _ _ c.in-Some.ensures.steps c.in-Err.is in record {
      answer = c.ended.ensures ∙ answer-ends c.loop-item.invariant.came end;
      bytes = filled-ends c.loop-item.invariant end;
    }

pub returns : goal.returns
returns g c =
    let end = ends_whole c.loop-item.item-iterator c.in-None.ensures.steps.0 in record {
      answer = answer-whole c.loop-item.invariant.came end;
      bytes = filled-ends c.loop-item.invariant end;
    }
