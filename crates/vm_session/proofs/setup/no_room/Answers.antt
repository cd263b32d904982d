use Rattle.std.proofs.Common.{inl, inr, refl}
use Rattle.vm_memory.specs.State.{State}
use Rattle.vm_memory.specs.declared.machine.setup.SetupReply.TheVariants as reply
use Rattle.vm_session.proofs.RetryLemmas.{table_made}
use Rattle.vm_session.proofs.setup.no_room.Goals as goal

pub returns-in-Some-clause-answers : goal.returns-in-Some-clause-answers
returns-in-Some-clause-answers c = λ (now : State). inl (
  c.in-Some.field-0,
  reply.Memory,
  c.in-Some.ensures,
  inr (refl, table_made c.args.kind c.requires c.args.call.now c.in-Some.field-0 now c.in-Some.ensures, refl),
  c.of_code.ensures,
)
