use Rattle.std.proofs.Common.{All, drop}
use Rattle.linux_loader.specs.Plan.{HasBytes}
use Rattle.linux_loader.proofs.ElfLemmas.{Comes}
use Rattle.linux_loader.proofs.elf.header.segments_of.Given as goal

abbrev pub invariant-loop-header : goal.invariant-loop-header
invariant-loop-header l = Comes l.size l.kernel_offset l.headers l.segments.items (drop l.header-index l.headers)
    × All HasBytes l.segments.items
