use Rattle.std.proofs.Common.{◌≡◌, length, take}
use Rattle.vm_memory_base.proofs.FlagsLemmas.{dirty_by, all_set}
use Rattle.vm_memory_base.proofs.bitmap.exclusive.add_all.Given as goal

abbrev pub invariant-loop-bit : goal.invariant-loop-bit
invariant-loop-bit l =
    (length l.numbers ≡ 64) × (take l.bit l.numbers ≡ dirty_by (all_set l.fn.first) l.fn.first l.bit)
