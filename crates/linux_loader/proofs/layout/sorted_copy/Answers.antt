use Rattle.std.proofs.Common.{rules}
use Rattle.std.proofs.lemmas.List.Sorted.{answers_always}
use Rattle.linux_loader.specs.declared.segment.Segment.{Segment}
use Rattle.linux_loader.proofs.layout.sorted_copy.Goals as goal

pub returns-clause-sorted : goal.returns-clause-sorted
returns-clause-sorted c = c.sort_unstable_by_key.ensures.sorted (λ (s : Segment). s.addr.0)
    (answers_always _ _ _ (λ f a r g h. search rules))
