use Rattle.std.proofs.Common.{refl}
use Rattle.std.proofs.lemmas.Result.{err_from_is_err_and}
use Rattle.vm_memory_guest.proofs.OrderLemmas.{at_most-all, transfers-refused, transfers-walked}
use Rattle.vm_memory_guest.proofs.guest_memory.access.AnyBytesGuestAddress.write_volatile_to.Goals as goal

pub returns-in_err-walk-clause-answer : goal.returns-in_err-walk-clause-answer
returns-in_err-walk-clause-answer g c =
    let p = err_from_is_err_and c.from_residual.result c.from_residual.ensures.1 in
    rw (p.1, p.2) (transfers-refused _ _ _ _ _ _ _ c.args.dst.now c.in_err-walk.field-0.0 refl
    c.in_err-walk.ensures.answer)

pub returns-clause-at_most : goal.returns-clause-at_most
returns-clause-at_most g c =
    at_most-all c.send_windows.result _ c.args.count c.send_windows.ensures.at_most c.in_ok-walk.ensures.fits

pub returns-clause-answer : goal.returns-clause-answer
returns-clause-answer g c =
    let send = c.send_windows in
    transfers-walked _ _ _ _ _ _ _ c.in_ok-walk.walk c.in_ok-walk.ensures.answer c.args.dst.now send.new.sink
    send.result send.result send.ensures.answer refl
