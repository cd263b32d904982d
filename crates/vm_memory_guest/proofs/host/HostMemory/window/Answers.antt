use Rattle.std.proofs.Common.{arith}
use Rattle.vm_memory_guest.proofs.HostLemmas.{slice_index-lengths}
use Rattle.vm_memory_guest.proofs.host.HostMemory.window.Goals as goal

pub of_block-requires : goal.of_block-requires
of_block-requires g c =
    let block = c.args.block.0 in
    omega (arith, c.recall_law.ensures block, slice_index-lengths c.args.self.now.blocks block)

pub returns-clause-short : goal.returns-clause-short
returns-clause-short g c =
    let block = c.args.block.0 in
    omega (arith, c.recall_law.ensures block, slice_index-lengths c.args.self.now.blocks block)
