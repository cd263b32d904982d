use Rattle.std.proofs.Common.{◌≡◌, ◌-◌, length}
use Rattle.vm_memory_base.specs.declared.iotlb.Permissions.TheVariants as permissions
use Rattle.vm_memory_guest.specs.Host.{shape_of}
use Rattle.vm_memory_device.proofs.CallsOfText.{CameTo}
use Rattle.vm_memory_device.proofs.WritesOfText.{Wrote}
use Rattle.vm_memory_device.proofs.chain.text.Text.write.Given as goal

abbrev pub invariant-loop-addr : goal.invariant-loop-addr
invariant-loop-addr g l = record {
  call : CameTo (g.M.GuestMemory.memory l.fn.mem) l.fn.host.tables permissions.Write l.fn.self (length l.buf)
      (Wrote g.B.Bitmap.marks l.fn.self l.buf l.fn.host l.host) l.total l.self;
  shape : shape_of l.host ≡ shape_of l.fn.host;
}

abbrev pub decreases-loop-addr : goal.decreases-loop-addr
decreases-loop-addr g l = length l.buf - l.total
