-- The digits of the bytes so far are written.
use Rattle.std.proofs.Common.{flat_map, take}
use Rattle.std.specs.Fmt.{HasWritten, IsPlainFormatter}
use Rattle.vm_memory.specs.Texts.{two_digits}
use Rattle.vm_memory.proofs.script.reply.HexDisplay.fmt.Given as goal

abbrev pub invariant-loop-byte : goal.invariant-loop-byte
invariant-loop-byte g l =
    IsPlainFormatter l.initial.f
    → HasWritten g.W.Write.write_str_gives l.initial.f (flat_map two_digits (take l.byte-index l.byte-items)) l.f
