use Rattle.vm_memory_guest.specs.Host.{cells_from}
use Rattle.vm_memory_guest.specs.Inside.{blocks_of}
use Rattle.vm_memory_guest.proofs.TypedLemmas.{sound-written}
use Rattle.vm_memory_guest.proofs.host.HostMemory.read_place.Goals as goal

pub invariant_of-self : goal.invariant_of-self
invariant_of-self g c =
    let w = c.place.result in
    let host = c.self.inside in
    let put = c.read_in.ensures.tried in
    sound-written (cells_from w.block w.offset w.len) put.0 (blocks_of host.blocks)
    (blocks_of c.read_in.new.blocks) put.4
    host.bitmaps.items host.spaces.items host.tables.items host.shape c.self.invariant
