use Rattle.vhost_iotlb.proofs.CallLemmas.{updates_are}
use Rattle.vhost_iotlb.proofs.laws.ranges_are_set_for_updates.Goals as goal

pub returns : goal.returns
returns g c = λ number regions ms calls old new iova to len perm h among.
    updates_are number regions ms calls old new iova to len perm h among
