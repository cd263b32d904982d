use Rattle.std.proofs.Common.{◌∙◌, refl, sym, ap}
use Rattle.std.proofs.lemmas.Result.{err_from_is_err_and}
use Rattle.vm_memory_base.specs.declared.io.VolatileMemoryError.TheVariants.{PartialBuffer}
use Rattle.vm_memory_guest.specs.Transfer.{all_of, only}
use Rattle.vm_memory_guest.specs.Typed.{answered}
use Rattle.vm_memory_guest.proofs.OrderLemmas.{all_of_one, part_refused, part_moved, size-given}
use Rattle.vm_memory_guest.proofs.volatile_memory.slice.VolatileSliceBytesUsize.read_exact_volatile_from.Goals as goal

pub returns-in_err-window-clause-answer : goal.returns-in_err-window-clause-answer
returns-in_err-window-clause-answer g c =
    let p = err_from_is_err_and c.from_residual.result c.from_residual.ensures.1 in
    rw (p.1, p.2) (part_refused _ _ _ (c.args.src.now, c.args.host.now) c.in_err-window.field-0.0
    (ap only (sym c.subslice.ensures ∙ c.in_err-window.was)) refl)

pub returns-in_err-fill_whole-clause-answer : goal.returns-in_err-fill_whole-clause-answer
returns-in_err-fill_whole-clause-answer g c =
    let fill = c.fill_whole in
    let p = err_from_is_err_and c.from_residual-in_err-fill_whole.result c.from_residual-in_err-fill_whole.ensures.1 in
    rw (p.1, p.2) (part_moved _ _ _ c.in_ok-window.window (c.args.src.now, c.args.host.now)
    (fill.new.source, fill.new.self)
    fill.result _ (ap only (sym c.subslice.ensures ∙ c.in_ok-window.was)) fill.ensures.lends
    (sym (ap (all_of PartialBuffer c.args.count) c.in_err-fill_whole.was)))

pub returns-clause-answer : goal.returns-clause-answer
returns-clause-answer g c =
    let w = c.in_ok-window.window in
    let fill = c.fill_whole in
    let size = size-given c.args.self.now w c.args.addr c.args.count c.subslice.result c.subslice.ensures
    c.in_ok-window.was in
    part_moved _ _ _ w (c.args.src.now, c.args.host.now) (fill.new.source, fill.new.self) fill.result _
    (ap only (sym c.subslice.ensures ∙ c.in_ok-window.was)) fill.ensures.lends
    (sym (ap (answered (λ all. tt)) c.in_ok-fill_whole.was)
    ∙ all_of_one c.args.count w fill.result fill.ensures.count size)
