use Rattle.std.proofs.Common.{◌≡◌, ◌<◌, ◌^◌, length, map, arith}
use Rattle.std.proofs.lemmas.Grind.{common_steps}
use Rattle.vm_memory_guest.specs.Host.{block_at}
use Rattle.vm_memory_guest.specs.Inside.{blocks_of}
use Rattle.vm_memory_guest.proofs.WrittenLaws.{length-block_at}
use Rattle.vm_memory_guest.proofs.host.HostMemory.block_len.Given.{Over}
use Rattle.vm_memory_guest.proofs.host.HostMemory.block_len.Goals as goal
use Rattle.vm_memory_guest.proofs.host.HostMemory.block_len.Goals.{After-len}

pub returns-clause-bound : goal.returns-clause-bound
returns-clause-bound g c =
    let blocks = blocks_of c.self.inside.blocks in
    let there : c.args.block.0 < length (map length blocks) = grind (arith, common_steps) in
    let value : c.len.result ≡ length (block_at blocks c.args.block.0) = grind (arith, common_steps) in
    rw (value, length-block_at blocks c.args.block.0) (c.self.invariant.sized c.args.block.0 0 there)
