use Rattle.std.proofs.Common.{◌≡◌, ◌-◌, ◌≤◌, drop}
use Rattle.vm_memory_device.proofs.chain.text.Text.skip.Given as goal

abbrev pub invariant-loop-most : goal.invariant-loop-most
invariant-loop-most l = (l.passed ≤ l.total) × (l.self ≡ drop l.passed l.fn.self)

abbrev pub decreases-loop-most : goal.decreases-loop-most
decreases-loop-most l = l.total - l.passed
