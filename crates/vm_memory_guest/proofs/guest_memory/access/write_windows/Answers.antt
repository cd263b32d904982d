use Rattle.std.proofs.Common.{arith, ◌∙◌}
use Rattle.vm_memory_guest.proofs.AccessLemmas.{gave, ends_in, ends_whole, next_fits, answer-whole, answer-ends, wrote_first, wrote_more, wrote-held, wrote-ends}
use Rattle.vm_memory_guest.proofs.guest_memory.access.write_windows.Goals as goal

pub loop-item-init : goal.loop-item-init
loop-item-init g c = rw c.into_iter-item-iterator.ensures.into_iter_gives
    (wrote_first g.B.Bitmap.marks c.args.walk c.args.buf.now c.args.host.now)

pub overflow_add-end : goal.overflow_add-end
overflow_add-end g c =
    let fits = next_fits c.loop-item.invariant.came c.in-Some.ensures.steps c.in-Ok.is _ c.requires.fits in
    omega (arith, c.len.ensures)

pub slice_bounds-write-end : goal.slice_bounds-write-end
slice_bounds-write-end g c =
    let fits = next_fits c.loop-item.invariant.came c.in-Some.ensures.steps c.in-Ok.is _ c.requires.fits in
    omega (arith, c.len.ensures)

pub write-requires-clause-held : goal.write-requires-clause-held
write-requires-clause-held g c =
    wrote-held g.B.Bitmap.marks c.loop-item.invariant c.in-Some.ensures.steps c.in-Ok.is c.requires.held

pub loop-item-preserved : goal.loop-item-preserved
loop-item-preserved g c =
    wrote_more g.B.Bitmap.marks c.loop-item.invariant
    (gave c.loop-item.item-iterator c.next.new.self _ _ c.in-Some.ensures.steps c.in-Ok.is)
    c.write.new.self c.len.result c.len.ensures c.requires.fits c.write.ensures.bytes

pub returns-in-Err : goal.returns-in-Err
returns-in-Err g c =
    let end = ends_in c.loop-item.item-iterator _ _ _ c.in-Some.ensures.steps c.in-Err.is in record {
      answer = c.ended.ensures ∙ answer-ends c.loop-item.invariant.came end;
      bytes = wrote-ends g.B.Bitmap.marks c.loop-item.invariant end;
    }

pub returns : goal.returns
returns g c =
    let end = ends_whole c.loop-item.item-iterator c.in-None.ensures.steps.0 in record {
      answer = answer-whole c.loop-item.invariant.came end;
      bytes = wrote-ends g.B.Bitmap.marks c.loop-item.invariant end;
    }
