use Rattle.std.proofs.lemmas.List.Sorted.{All-permutation, IsPermutation-sym}
use Rattle.linux_loader.specs.Plan.{HasBytes}
use Rattle.linux_loader.proofs.LayoutLemmas.{apart_moved}
use Rattle.linux_loader.proofs.layout.lie_apart.Goals as goal

pub sorted_lie_apart-requires-clause-some : goal.sorted_lie_apart-requires-clause-some
sorted_lie_apart-requires-clause-some c = rw c.as_slice.ensures.value
    (All-permutation HasBytes c.args.segments.now c.in_ok-sorted.sorted.items c.in_ok-sorted.ensures.permutation
    c.requires)

pub returns : goal.returns
returns c =
    let moved = c.in_ok-sorted.ensures.permutation in
    let items = c.in_ok-sorted.sorted.items in
    let is = rw c.as_slice.ensures.value at c.sorted_lie_apart.ensures in (
      λ yes. apart_moved items c.args.segments.now (IsPermutation-sym c.args.segments.now items moved) (is.0 yes),
      λ apart. is.1 (apart_moved c.args.segments.now items moved apart),
    )
