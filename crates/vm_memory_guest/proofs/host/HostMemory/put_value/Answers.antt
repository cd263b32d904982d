use Rattle.std.proofs.Common.{take, drop}
use Rattle.vm_memory_guest.specs.Host.{cells_from}
use Rattle.vm_memory_guest.specs.Inside.{blocks_of}
use Rattle.vm_memory_guest.proofs.TypedLemmas.{sound-written}
use Rattle.vm_memory_guest.proofs.host.HostMemory.put_value.Goals as goal

pub invariant_of-self : goal.invariant_of-self
invariant_of-self g c =
    let w = c.place.result in
    let host = c.self.inside in
    sound-written (cells_from w.block w.offset w.len)
    (take w.len (drop c.args.from (g.T.ByteValued.bytes c.args.value.now)))
    (blocks_of host.blocks) (blocks_of c.put_value_in.new.blocks) c.put_value_in.ensures
    host.bitmaps.items host.spaces.items host.tables.items host.shape c.self.invariant
