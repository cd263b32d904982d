use Rattle.std.proofs.Common.{◌∙◌}
use Rattle.vhost_backend.proofs.StepLemmas.{quiet_goes_on}
use Rattle.vhost_backend.proofs.block_backend.BlockBackend.step_on.Goals as goal

pub returns-then-is_quiet : goal.returns-then-is_quiet
returns-then-is_quiet c =
    c.go_further.ensures ∙ quiet_goes_on c.args.self.now c.args.self.now.todo.message c.if-is_quiet.ensures
