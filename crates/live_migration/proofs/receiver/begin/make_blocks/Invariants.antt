use Rattle.std.proofs.Common.{◌≡◌, ◌<◌, length, take}
use Rattle.live_migration.specs.Receiving.{MakesBlocks}
use Rattle.live_migration.proofs.receiver.begin.make_blocks.Given as goal

abbrev pub invariant-loop-i : goal.invariant-loop-i
invariant-loop-i g l = record {
  made : MakesBlocks g.B.Bitmap.made (take l.i l.entries) l.initial.host l.host;
  base : 0 < l.i → l.base ≡ length l.initial.host.blocks;
}
