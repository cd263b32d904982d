use Rattle.std.proofs.Common.{inr, refl, rules}
use Rattle.vm_session.proofs.MessageLemmas.{always}
use Rattle.vm_session.proofs.messages.apply_with.Goals as goal

pub returns-in-Err : goal.returns-in-Err
returns-in-Err c = always _ refl (inr (search rules, c.of_code.ensures, refl))
