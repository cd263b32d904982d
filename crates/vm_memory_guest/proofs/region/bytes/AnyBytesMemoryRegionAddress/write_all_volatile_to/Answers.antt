use Rattle.std.proofs.Common.{◌∙◌, refl, sym}
use Rattle.std.proofs.lemmas.Result.{err_from_is_err_and}
use Rattle.vm_memory_guest.proofs.OrderLemmas.{all_of_told, region_refused, region_moved}
use Rattle.vm_memory_guest.proofs.region.bytes.AnyBytesMemoryRegionAddress.write_all_volatile_to.Goals as goal

pub returns-in_err-window : goal.returns-in_err-window
returns-in_err-window g c =
    let p = err_from_is_err_and c.from_residual.result c.from_residual.ensures.1 in
    record {
      answer = rw (p.1, p.2) (region_refused _ _ _ (all_of_told c.args.count) _ _ c.args.dst.now
          c.in_err-window.field-0.0 (sym c.as_volatile_slice.ensures ∙ c.in_err-window.was) refl);
    }

pub returns : goal.returns
returns g c =
    record {
      answer = rw c.told.ensures (region_moved _ _ _ (all_of_told c.args.count) _ _ c.in_ok-window.window
          (sym c.as_volatile_slice.ensures ∙ c.in_ok-window.was) c.args.dst.now c.write_all_volatile_to.new.dst
          c.write_all_volatile_to.result c.write_all_volatile_to.ensures.answer);
    }
