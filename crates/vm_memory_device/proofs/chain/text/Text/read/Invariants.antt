use Rattle.std.proofs.Common.{◌-◌, length}
use Rattle.vm_memory_base.specs.declared.iotlb.Permissions.TheVariants as permissions
use Rattle.vm_memory_device.proofs.CallsOfText.{CameTo}
use Rattle.vm_memory_device.proofs.ReadsOfText.{Filled}
use Rattle.vm_memory_device.proofs.chain.text.Text.read.Given as goal

abbrev pub invariant-loop-addr : goal.invariant-loop-addr
invariant-loop-addr g l =
    CameTo (g.M.GuestMemory.memory l.fn.mem) l.fn.host.tables permissions.Read l.fn.self (length l.initial.buf)
    (Filled l.fn.host l.initial.buf l.buf) l.total l.self

abbrev pub decreases-loop-addr : goal.decreases-loop-addr
decreases-loop-addr g l = length l.initial.buf - l.total
