use Rattle.std.proofs.Common.{◌≡◌, true, Some, slice_get, refl, sym}
use Rattle.vm_memory_base.specs.declared.iotlb.Permissions.TheVariants as permissions
use Rattle.vm_memory_guest.specs.Memory.{route}
use Rattle.vm_memory_guest.specs.Walk.{NeedsPieces}
use Rattle.vm_memory_guest.proofs.PieceLemmas.{split-some}
use Rattle.vm_memory_device.specs.Memories.{memory_meant}
use Rattle.vm_memory.specs.Parts.{state_of}
use Rattle.vm_memory.specs.Reply.{as_done, replied}
use Rattle.vm_memory.specs.Transfers.{sends}
use Rattle.vm_memory.specs.declared.machine.command.Command.TheVariants as command
use Rattle.vm_memory.proofs.CallsLemmas.{sends_are_step, there_meant}
use Rattle.vm_memory.proofs.machine.Machine.write_all_volatile_to.Goals as goal

pub returns-clause-step : goal.returns-clause-step
returns-clause-step g c = λ steps sink.
    let m = c.args.self.now in
    let meant = memory_meant g.R.GuestMemoryRegion.region g.I.Iommu.number in
    let now = state_of g.R.GuestMemoryRegion.region g.I.Iommu.number g.B.ExactBitmap.pages m in
    let there : slice_get m.memories c.args.memory ≡ Some c.in-Some.memory.now = sym c.in-Some.ensures.found in
    let here = there_meant meant m.memories c.args.memory c.in-Some.memory.now there in
    let it = meant c.in-Some.memory.now in
    sends_are_step now (NeedsPieces it now.host.tables c.args.addr.0 c.args.count permissions.Read)
    (command.WriteAllTo c.args.memory c.args.addr c.args.count steps)
    (sends true it now.host c.args.addr.0 c.args.count steps) (rw here refl) (λ wants. rw here (refl, split-some (route it now.host.tables) c.args.addr.0 c.args.count wants.1))
    (g.F.WriteVolatile.taken c.send_whole.new.dst) (replied as_done c.send_whole.result)
    (rw (← c.self.view_is) (c.send_whole.ensures.step steps sink))
