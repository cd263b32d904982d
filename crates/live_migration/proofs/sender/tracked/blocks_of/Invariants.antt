use Rattle.std.proofs.Common.{◌≡◌, map, take}
use Rattle.live_migration.specs.Targets.{AreBlocks, sized_asked, sized_place_of}
use Rattle.live_migration.proofs.sender.tracked.blocks_of.Given as goal

abbrev pub invariant-loop-place : goal.invariant-loop-place
invariant-loop-place g l = record {
  are : AreBlocks l.host l.targets.items;
  named : map sized_place_of l.targets.items ≡ map sized_asked (take l.place-index l.blocks);
}
