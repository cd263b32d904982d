use Rattle.vhost_backend.proofs.HoldLemmas.{each, gone, idle, pops_nothing, waits}
use Rattle.vhost_backend.proofs.laws.held_rings_touch_nothing.Goals as goal

pub returns : goal.returns
returns c = record { idle = idle; pops_nothing = pops_nothing; gone = gone; each = each; waits = waits }
