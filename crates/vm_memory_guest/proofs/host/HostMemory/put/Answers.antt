use Rattle.std.proofs.Common.{length}
use Rattle.vm_memory_guest.specs.Host.{cells_from}
use Rattle.vm_memory_guest.specs.Inside.{blocks_of}
use Rattle.vm_memory_guest.proofs.TypedLemmas.{sound-written}
use Rattle.vm_memory_guest.proofs.host.HostMemory.put.Goals as goal

pub invariant_of-self : goal.invariant_of-self
invariant_of-self g c =
    let host = c.self.inside in
    sound-written (cells_from c.args.block c.args.offset (length c.args.bytes.now)) c.args.bytes.now
    (blocks_of host.blocks) (blocks_of c.put_in.new.blocks) c.put_in.ensures
    host.bitmaps.items host.spaces.items host.tables.items host.shape c.self.invariant
