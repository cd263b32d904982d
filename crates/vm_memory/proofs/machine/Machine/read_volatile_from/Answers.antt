use Rattle.std.proofs.Common.{◌≡◌, false, Some, length, slice_get, sym, refl}
use Rattle.std.proofs.lemmas.Bool.{ltb-true}
use Rattle.std.proofs.lemmas.Option.{slice_get_read}
use Rattle.vm_memory_guest.specs.Dirt.{with_pages}
use Rattle.vm_memory.specs.Inside.{parts_of}
use Rattle.vm_memory_device.specs.Memories.{memory_meant}
use Rattle.vm_memory.specs.Parts.{state_of}
use Rattle.vm_memory.specs.declared.machine.command.Reply.TheVariants as reply
use Rattle.vm_memory.specs.Transfers.{receives}
use Rattle.vm_memory.proofs.CallsLemmas.{changes_are_step, there_meant}
use Rattle.vm_memory.proofs.machine.Machine.read_volatile_from.Goals as goal

pub returns-clause-moved : goal.returns-clause-moved
returns-clause-moved g c =
    let m = parts_of c.self.inside in
    let meant = memory_meant g.R.GuestMemoryRegion.region g.I.Iommu.number in
    let seen = rw c.deref.ensures.value at c.in-Some.ensures.lookup in
    let there : slice_get m.memories c.args.memory ≡ Some c.in-Some.memory.now =
    slice_get_read m.memories (length m.memories) c.args.memory c.in-Some.memory.now refl
    (ltb-true c.args.memory (length m.memories) (sym seen.0)) seen.1 in
    rw (← c.self.view_is, there_meant meant m.memories c.args.memory c.in-Some.memory.now there) c.receive.ensures.moved

pub returns-clause-step : goal.returns-clause-step
returns-clause-step g c = λ steps tells.
    let m = parts_of c.self.inside in
    let meant = memory_meant g.R.GuestMemoryRegion.region g.I.Iommu.number in
    let pages = g.B.ExactBitmap.pages in
    let seen = rw c.deref.ensures.value at c.in-Some.ensures.lookup in
    let there : slice_get m.memories c.args.memory ≡ Some c.in-Some.memory.now =
    slice_get_read m.memories (length m.memories) c.args.memory c.in-Some.memory.now refl
    (ltb-true c.args.memory (length m.memories) (sym seen.0)) seen.1 in
    rw (← c.self.view_is)
    (changes_are_step (state_of g.R.GuestMemoryRegion.region g.I.Iommu.number pages m) c.args.memory
    (meant c.in-Some.memory.now) (there_meant meant m.memories c.args.memory c.in-Some.memory.now there)
    c.args.addr.0 c.args.count
    (λ x host. receives false x host c.args.addr.0 c.args.count steps) (λ k. reply.Count k) c.receive.result
    (with_pages pages c.receive.new.host) (c.receive.ensures.step steps tells))
