use Rattle.std.proofs.Common.{[], refl}
use Rattle.vhost_backend.specs.Run.{goes_on, output_of}
use Rattle.vhost_backend.proofs.MoveLemmas.{idle_same, puts_no_moves}
use Rattle.vhost_backend.proofs.block_connection.BlockConnection.give_made.Goals as goal

pub returns-in-Again-clause-gives : goal.returns-in-Again-clause-gives
returns-in-Again-clause-gives c = (
  goes_on,
  (c.requires.step, c.requires.part, c.in-Again.ensures),
  puts_no_moves (output_of c.args.counts.now c.args.actions.now [] c.args.output.now),
)

pub returns-in-Idle-clause-gives : goal.returns-in-Idle-clause-gives
returns-in-Idle-clause-gives c =
    let t = idle_same c.args.self.now c.step.new.self c.in-Idle.ensures in (t.0, t.1, refl)
