use Rattle.std.proofs.Common.{◌≡◌, map, take}
use Rattle.live_migration.specs.Targets.{AreTargets, asked, place_of}
use Rattle.live_migration.proofs.sender.stream.targets_of.Given as goal

abbrev pub invariant-loop-block : goal.invariant-loop-block
invariant-loop-block g l = record {
  are : AreTargets g.B.ExactBitmap.pages l.host l.targets.items;
  named : map place_of l.targets.items ≡ map asked (take l.block-index l.blocks);
}
