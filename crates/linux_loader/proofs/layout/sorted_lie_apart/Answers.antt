use Rattle.linux_loader.proofs.LayoutLemmas.{scanned_meets}
use Rattle.linux_loader.proofs.layout.sorted_lie_apart.Goals as goal

pub returns-then-segment-end : goal.returns-then-segment-end
returns-then-segment-end c =
    let l = c.loop-segment in (
      λ no. absurd (cc),
      λ apart. absurd (scanned_meets c.args.sorted.now l.segment-index l.end _ c.requires.some c.requires.sorted
          l.invariant c.loop-segment-test.true c.if-segment-end.true apart),
    )
