use Rattle.std.proofs.Common.{◌∙◌, refl, sym, ap}
use Rattle.std.proofs.lemmas.Result.{err_from_is_err_and}
use Rattle.vm_memory_guest.specs.Transfer.{only}
use Rattle.vm_memory_guest.proofs.OrderLemmas.{part_refused, part_moved}
use Rattle.vm_memory_guest.proofs.volatile_memory.slice.VolatileSliceBytesUsize.read_volatile_from.Goals as goal

pub returns-in_err-window-clause-answer : goal.returns-in_err-window-clause-answer
returns-in_err-window-clause-answer g c =
    let p = err_from_is_err_and c.from_residual.result c.from_residual.ensures.1 in
    rw (p.1, p.2) (part_refused _ _ _ (c.args.src.now, c.args.host.now) c.in_err-window.field-0.0
    (sym c.cut.ensures.cut ∙ ap only c.in_err-window.was) refl)

pub returns-clause-answer : goal.returns-clause-answer
returns-clause-answer g c =
    let read = c.read_from in
    part_moved _ _ _ c.in_ok-window.window (c.args.src.now, c.args.host.now)
    (read.new.source, read.new.self) read.result
    read.result (sym c.cut.ensures.cut ∙ ap only c.in_ok-window.was) read.ensures.lends refl
