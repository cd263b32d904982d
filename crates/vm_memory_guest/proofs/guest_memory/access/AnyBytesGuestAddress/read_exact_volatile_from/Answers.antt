use Rattle.std.proofs.Common.{◌∙◌, ap, refl, sym}
use Rattle.std.proofs.lemmas.Result.{err_from_is_err_and}
use Rattle.vm_memory_guest.specs.Transfer.{all_of}
use Rattle.vm_memory_guest.specs.declared.region.error.GuestMemoryError.TheVariants as errors
use Rattle.vm_memory_guest.proofs.OrderLemmas.{transfers-refused, transfers-walked}
use Rattle.vm_memory_guest.proofs.guest_memory.access.AnyBytesGuestAddress.read_exact_volatile_from.Goals as goal

pub returns-in_err-windows-clause-answer : goal.returns-in_err-windows-clause-answer
returns-in_err-windows-clause-answer g c =
    let p = err_from_is_err_and c.from_residual.result c.from_residual.ensures.1 in
    rw (p.1, p.2) (transfers-refused _ _ _ _ _ _ _ (c.args.src.now, c.args.host.now) c.in_err-windows.field-0.0 refl
    c.in_err-windows.ensures.answer)

pub returns-in_err-completed-clause-answer : goal.returns-in_err-completed-clause-answer
returns-in_err-completed-clause-answer g c =
    let receive = c.receive_windows in
    let p = err_from_is_err_and c.from_residual-in_err-completed.result c.from_residual-in_err-completed.ensures.1 in
    rw (p.1, p.2) (transfers-walked _ _ _ _ _ _ _ c.in_ok-windows.windows c.in_ok-windows.ensures.answer
    (c.args.src.now, c.args.host.now) (receive.new.source, receive.new.host) receive.result _ receive.ensures.answer
    (sym (ap (all_of errors.PartialBuffer c.args.count) c.in_err-completed.was)))

pub returns-clause-answer : goal.returns-clause-answer
returns-clause-answer g c =
    let receive = c.receive_windows in
    transfers-walked _ _ _ _ _ _ _ c.in_ok-windows.windows c.in_ok-windows.ensures.answer
    (c.args.src.now, c.args.host.now)
    (receive.new.source, receive.new.host) receive.result _ receive.ensures.answer
    (c.whole.ensures ∙ sym (ap (all_of errors.PartialBuffer c.args.count) c.in_ok-completed.was))
