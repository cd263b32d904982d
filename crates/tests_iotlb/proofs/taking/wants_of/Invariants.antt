use Rattle.vhost_iotlb.specs.Taking.{AreReal}
use Rattle.tests_iotlb.proofs.taking.wants_of.Given as goal

abbrev pub invariant-loop-iova : goal.invariant-loop-iova
invariant-loop-iova l = AreReal l.wants.items
