use Rattle.linux_loader.proofs.LayoutLemmas.{Scanned}
use Rattle.linux_loader.proofs.layout.sorted_lie_apart.Given as goal

abbrev pub invariant-loop-segment : goal.invariant-loop-segment
invariant-loop-segment l = Scanned l.sorted l.segment-index l.end
