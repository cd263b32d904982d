use Rattle.std.proofs.Common.{refl}
use Rattle.std.proofs.lemmas.Result.{err_from_is_err_and}
use Rattle.vm_memory_guest.proofs.OrderLemmas.{transfers-refused}
use Rattle.vm_memory_guest.proofs.guest_memory.access.AnyBytesGuestAddress.write_all_volatile_to.Goals as goal

pub returns-in_err-walk : goal.returns-in_err-walk
returns-in_err-walk g c =
    let p = err_from_is_err_and c.from_residual.result c.from_residual.ensures.1 in
    record {
      answer = rw (p.1, p.2) (transfers-refused _ _ _ _ _ _ _ c.args.dst.now c.in_err-walk.field-0.0 refl
          c.in_err-walk.ensures.answer);
    }
