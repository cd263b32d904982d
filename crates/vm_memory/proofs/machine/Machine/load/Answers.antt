use Rattle.std.proofs.Common.{◌≡◌, ◌⊎◌, Some, Err, slice_get, sym}
use Rattle.vm_memory_base.specs.declared.iotlb.Permissions.TheVariants as permissions
use Rattle.vm_memory.specs.Calls.{loaded}
use Rattle.vm_memory.specs.Commands.{MayTranslate}
use Rattle.vm_memory_device.specs.Memories.{memory_meant}
use Rattle.vm_memory.specs.Parts.{state_of}
use Rattle.vm_memory.specs.declared.machine.refusal.Refusal.TheVariants as refusal
use Rattle.vm_memory.proofs.CallsLemmas.{loaded_is_step, there_meant}
use Rattle.vm_memory.proofs.machine.Machine.load.Goals as goal

pub returns-clause-integer : goal.returns-clause-integer
returns-clause-integer g c = λ width number are.
    let m = c.args.self.now in
    let meant = memory_meant g.R.GuestMemoryRegion.region g.I.Iommu.number in
    let now = state_of g.R.GuestMemoryRegion.region g.I.Iommu.number g.B.ExactBitmap.pages m in
    let value = g.T.ByteValued.value_of in
    let n = g.T.ByteSized.width in
    let memory = c.args.memory in
    let there : slice_get m.memories memory ≡ Some c.in-Some.memory.now = sym c.in-Some.ensures.found in
    let told : (c.load_any.result ≡ loaded value (slice_get now.memories memory) now.host c.args.addr.0 n)
    ⊎ ((c.load_any.result ≡ Err refusal.Memory) × MayTranslate now memory c.args.addr.0 n permissions.Read) =
    rw (there_meant meant m.memories memory c.in-Some.memory.now there, ← c.self.view_is) c.load_any.ensures in
    loaded_is_step now memory c.args.addr value n c.load_any.result told width number are
