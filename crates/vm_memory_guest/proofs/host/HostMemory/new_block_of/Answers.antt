use Rattle.std.proofs.Common.{[], ◌∷◌, ◌++◌}
use Rattle.vm_memory_guest.specs.BlockBytes.{bytes_of}
use Rattle.vm_memory_guest.proofs.HoldsLemmas.{Holds-block, Holds-made}
use Rattle.vm_memory_guest.proofs.host.HostMemory.new_block_of.Goals as goal

pub returns-clause-kept : goal.returns-clause-kept
returns-clause-kept g c =
    let old = c.args.self.now in
    let bytes = bytes_of c.args.bytes in
    let made = c.add_bytes.ensures in
    Holds-made old c.add_bytes.new.self
    (record old { blocks = old.blocks ++ bytes ∷ []; bitmaps = old.bitmaps ++ c.args.bitmap ∷ [] })
    (Holds-block old bytes c.args.bitmap) c.add_bytes.result made.ok made.err
