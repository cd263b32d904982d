use Rattle.std.proofs.Common.{◌≡◌, All, length}
use Rattle.vm_memory_device.specs.Chain.{text}
use Rattle.vm_memory_device.specs.ChainText.{Fits}
use Rattle.vm_memory_device.proofs.chain.text.beginning.Given as goal

abbrev pub invariant-loop-first : goal.invariant-loop-first
invariant-loop-first l = record { text : text l.later ≡ text l.segments; fit : All Fits l.later }

abbrev pub decreases-loop-first : goal.decreases-loop-first
decreases-loop-first l = length l.later
