use Rattle.std.proofs.Common.{◌*◌}
use Rattle.vm_memory_guest.specs.Host.{shape_of}
use Rattle.vm_memory_guest.specs.Typed.{size_of}
use Rattle.vm_memory_guest.proofs.ElementLemmas.{Holds-part}
use Rattle.vm_memory_guest.proofs.volatile_memory.array.VolatileArrayRef.store.Goals as goal

pub store-requires : goal.store-requires
store-requires g c =
    let size = size_of g.T.ByteSized.width in
    rw c.ref_at.ensures.value
    (Holds-part (shape_of c.args.host.now) c.args.self.now.window
    (c.args.index * size) size c.ref_at.ensures.inside c.requires.held)
