-- The other items so far are written, each after a space.
use Rattle.std.proofs.Common.{flat_map, map, take}
use Rattle.std.specs.Fmt.{HasWritten, IsPlainFormatter}
use Rattle.vm_memory.specs.Texts.{after_space}
use Rattle.vm_memory.proofs.script.reply.SpacedDisplay.fmt.Given as goal

abbrev pub invariant-loop-item : goal.invariant-loop-item
invariant-loop-item g l =
    IsPlainFormatter l.initial.f
    → HasWritten g.W.Write.write_str_gives l.initial.f
    (flat_map after_space (map g.T.Item.text (take l.item-index l.others))) l.f
