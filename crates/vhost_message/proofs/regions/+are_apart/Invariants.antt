use Rattle.std.proofs.Common.{length}
use Rattle.vhost_message.proofs.regions.+are_apart.Given as goal

abbrev pub decreases-are_apart : goal.decreases-are_apart
decreases-are_apart l = length l.regions.now
