use Rattle.std.proofs.Common.{◌∙◌, false, true, sym}
use Rattle.vm_memory.specs.ScriptMachine.{state_made}
use Rattle.vm_memory.specs.declared.machine.command.Reply.TheVariants as reply
use Rattle.vm_session.specs.Requests.{address}
use Rattle.vm_session.proofs.ReadLemmas.{wide_stores}
use Rattle.vm_session.proofs.commands.too_wide.Goals as goal

pub returns-then-has_memory : goal.returns-then-has_memory
returns-then-has_memory c =
    let call = c.args.call.now in (
      reply.BadRange,
      wide_stores (state_made c.args.machine.now) call.first c.args.width (address call.address) call.value true
          c.requires (sym c.if-has_memory.true ∙ c.has_memory.ensures),
      c.of_code.ensures,
    )

pub returns-else-has_memory : goal.returns-else-has_memory
returns-else-has_memory c =
    let call = c.args.call.now in (
      reply.NoSuch,
      wide_stores (state_made c.args.machine.now) call.first c.args.width (address call.address) call.value false
          c.requires (sym c.if-has_memory.false ∙ c.has_memory.ensures),
      c.of_code-else-has_memory.ensures,
    )
