use Rattle.std.proofs.Common.{◌∙◌, refl, sym, ap}
use Rattle.std.proofs.lemmas.Result.{err_from_is_err_and}
use Rattle.vm_memory_guest.specs.Transfer.{only}
use Rattle.vm_memory_guest.specs.Typed.{answered}
use Rattle.vm_memory_guest.proofs.TransferLemmas.{sends_of}
use Rattle.vm_memory_guest.proofs.OrderLemmas.{all_of_sent, part_refused, part_moved, size-given}
use Rattle.vm_memory_guest.proofs.volatile_memory.slice.VolatileSliceBytesUsize.write_all_volatile_to.Goals as goal

pub returns-in_err-window : goal.returns-in_err-window
returns-in_err-window g c =
    let p = err_from_is_err_and c.from_residual.result c.from_residual.ensures.1 in
    record {
      answer = rw (p.1, p.2) (part_refused _ _ _ c.args.dst.now c.in_err-window.field-0.0
          (ap only (sym c.subslice.ensures ∙ c.in_err-window.was)) refl);
    }

pub returns : goal.returns
returns g c =
    let w = c.in_ok-window.window in
    let sent = c.write_all_volatile in
    let size = size-given c.args.self.now w c.args.addr c.args.count c.subslice.result c.subslice.ensures
    c.in_ok-window.was in
    let sends = sends_of g.F.WriteVolatile.sink g.F.WriteVolatile.taken g.F.WriteVolatile.may_want
    g.F.WriteVolatile.writes c.args.host.now.blocks w c.args.dst.now sent.new.self c.bytes.result.now c.bytes.ensures
    sent.result sent.ensures.sends in
    record {
      answer = part_moved _ _ _ w c.args.dst.now sent.new.self (answered (λ all. w.size) sent.result) _
          (ap only (sym c.subslice.ensures ∙ c.in_ok-window.was)) sends (all_of_sent c.args.count w sent.result size);
    }
