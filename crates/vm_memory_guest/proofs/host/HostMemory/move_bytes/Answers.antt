use Rattle.vm_memory_guest.specs.Host.{bytes_at, cells_from}
use Rattle.vm_memory_guest.specs.Inside.{blocks_of}
use Rattle.vm_memory_guest.proofs.TypedLemmas.{sound-written}
use Rattle.vm_memory_guest.proofs.host.HostMemory.move_bytes.Goals as goal

pub invariant_of-self : goal.invariant_of-self
invariant_of-self g c =
    let to = c.place.result in
    let from = c.host_address.result in
    let host = c.self.inside in
    sound-written (cells_from to.block to.offset to.len)
    (bytes_at (blocks_of host.blocks) (cells_from from.block.0 from.offset to.len))
    (blocks_of host.blocks) (blocks_of c.copy_in.new.blocks) c.copy_in.ensures
    host.bitmaps.items host.spaces.items host.tables.items host.shape c.self.invariant
