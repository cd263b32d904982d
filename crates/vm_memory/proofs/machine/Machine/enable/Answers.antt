use Rattle.std.proofs.Common.{◌≡◌, length, Some, refl, sym, slice_get}
use Rattle.std.proofs.lemmas.Bool.{ltb-true}
use Rattle.std.proofs.lemmas.Option.{slice_get_read}
use Rattle.vm_memory.specs.Inside.{parts_of}
use Rattle.vm_memory.specs.Reply.{as_done, replied}
use Rattle.vm_memory.proofs.MemoryLemmas.{enable-step}
use Rattle.vm_memory.proofs.machine.Machine.enable.Goals as goal

pub returns : goal.returns
returns g c =
    let m = parts_of c.self.inside in
    let it = c.in-Some.memory.now in
    let within = ltb-true c.args.memory (length m.memories) (sym c.in-Some.ensures.item.0) in
    let there : slice_get m.memories c.args.memory ≡ Some it =
    slice_get_read m.memories (length m.memories) c.args.memory it refl within c.in-Some.ensures.value in
    rw (← c.self.view_is)
    (enable-step g.R.GuestMemoryRegion.region g.I.Iommu.number g.B.ExactBitmap.pages m c.args.memory c.args.on it there
    (replied as_done c.turn.result) c.turn.new.self c.turn.ensures)
