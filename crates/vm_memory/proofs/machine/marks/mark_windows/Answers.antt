use Rattle.std.proofs.Common.{arith}
use Rattle.vm_memory_guest.specs.Window.{span}
use Rattle.vm_memory_guest.proofs.AccessLemmas.{ends_in, ends_whole, gave, next_fits}
use Rattle.vm_memory.proofs.MarkLemmas.{marked_first, marked_more, marked-all, marked-count, marked-fault, marked-held, marked-shape}
use Rattle.vm_memory.proofs.machine.marks.mark_windows.Goals as goal

pub loop-item-init : goal.loop-item-init
loop-item-init g c =
    rw c.into_iter-item-iterator.ensures.into_iter_gives (marked_first g.B.Bitmap.marks c.args.walk c.args.host.now)

pub mark_window-requires : goal.mark_window-requires
mark_window-requires g c =
    (marked-held g.B.Bitmap.marks c.loop-item.invariant c.in-Some.ensures.steps c.in-Ok.is c.requires.held).1

pub overflow_add-total : goal.overflow_add-total
overflow_add-total g c =
    let fits = next_fits c.loop-item.invariant.came c.in-Some.ensures.steps c.in-Ok.is (span c.args.walk.windows)
    (omega arith) in
    omega (arith, c.len-total.ensures, c.requires.fits)

pub loop-item-preserved : goal.loop-item-preserved
loop-item-preserved g c =
    marked_more g.B.Bitmap.marks c.loop-item.invariant
    (gave c.loop-item.item-iterator c.next.new.self _ _ c.in-Some.ensures.steps c.in-Ok.is)
    c.mark_window.new.self c.len-total.result c.len-total.ensures c.mark_window.ensures.marks

pub returns-in-Err : goal.returns-in-Err
returns-in-Err g c =
    let marks = g.B.Bitmap.marks in
    let here = c.loop-item.invariant in
    let end = ends_in c.loop-item.item-iterator _ _ _ c.in-Some.ensures.steps c.in-Err.is in record {
      count = marked-count marks here end;
      fault = marked-fault marks here end;
      marks = marked-all marks here end;
      shape = marked-shape marks here end;
    }

pub returns : goal.returns
returns g c =
    let marks = g.B.Bitmap.marks in
    let here = c.loop-item.invariant in
    let end = ends_whole c.loop-item.item-iterator c.in-None.ensures.steps.0 in record {
      count = marked-count marks here end;
      fault = marked-fault marks here end;
      marks = marked-all marks here end;
      shape = marked-shape marks here end;
    }
