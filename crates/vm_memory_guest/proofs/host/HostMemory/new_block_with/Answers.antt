use Rattle.std.proofs.Common.{[], ◌∷◌, ◌++◌, replicate}
use Rattle.vm_memory_guest.proofs.HoldsLemmas.{Holds-block, Holds-made}
use Rattle.vm_memory_guest.proofs.host.HostMemory.new_block_with.Goals as goal

pub returns-clause-kept : goal.returns-clause-kept
returns-clause-kept g c =
    let old = c.args.self.now in
    let bytes = replicate c.args.size 0 in
    let made = c.add_block.ensures in
    Holds-made old c.add_block.new.self
    (record old { blocks = old.blocks ++ bytes ∷ []; bitmaps = old.bitmaps ++ c.args.bitmap ∷ [] })
    (Holds-block old bytes c.args.bitmap) c.add_block.result made.ok made.err
