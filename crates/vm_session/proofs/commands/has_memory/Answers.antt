use Rattle.std.proofs.Common.{◌∙◌}
use Rattle.vm_memory.specs.ScriptMachine.{state_made}
use Rattle.vm_memory_base.specs.declared.iotlb.Permissions.TheVariants as permissions
use Rattle.vm_session.specs.Requests.{address}
use Rattle.vm_session.proofs.ReadLemmas.{check_asks}
use Rattle.vm_session.proofs.commands.has_memory.Goals as goal

pub returns : goal.returns
returns c =
    c.is_ok.ensures.value
    ∙ check_asks (state_made c.args.machine.now) c.args.memory (address 0) permissions.No c.check_range.result
    c.check_range.ensures
