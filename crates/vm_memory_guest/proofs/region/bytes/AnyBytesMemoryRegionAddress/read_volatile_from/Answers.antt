use Rattle.std.proofs.Common.{◌∙◌, refl, sym}
use Rattle.std.proofs.lemmas.Result.{err_from_is_err_and}
use Rattle.vm_memory_guest.proofs.OrderLemmas.{region_refused, region_moved}
use Rattle.vm_memory_guest.proofs.region.bytes.AnyBytesMemoryRegionAddress.read_volatile_from.Goals as goal

pub returns-in_err-window-clause-answer : goal.returns-in_err-window-clause-answer
returns-in_err-window-clause-answer g c =
    let p = err_from_is_err_and c.from_residual.result c.from_residual.ensures.1 in
    rw (p.1, p.2) (region_refused _ _ _ (λ total. refl) _ _ (c.args.src.now, c.args.host.now) c.in_err-window.field-0.0
    (sym c.as_volatile_slice.ensures ∙ c.in_err-window.was) refl)

pub returns-clause-answer : goal.returns-clause-answer
returns-clause-answer g c =
    rw c.told.ensures (region_moved _ _ _ (λ total. refl) _ _ c.in_ok-window.window
    (sym c.as_volatile_slice.ensures ∙ c.in_ok-window.was) (c.args.src.now, c.args.host.now)
    (c.read_volatile_from.new.src, c.read_volatile_from.new.host)
    c.read_volatile_from.result c.read_volatile_from.ensures.answer)
