use Rattle.std.proofs.Common.{◌≡◌, ◌+◌, ◌<◌, take, drop, length, ◌++◌, arith}
use Rattle.std.proofs.lemmas.Grind.{common_steps}
use Rattle.vm_memory_guest.specs.Host.{block_at}
use Rattle.vm_memory_guest.specs.BlockBytes.{bytes_of}
use Rattle.vm_memory_guest.specs.Inside.{blocks_of}
use Rattle.vm_memory_guest.proofs.WrittenLaws.{put-block}
use Rattle.vm_memory_guest.proofs.host.block.put_in.Goals as goal

pub returns : goal.returns
returns c =
    let blocks = blocks_of c.args.blocks.now in
    let all = c.index_mut-all.result.now in
    let there : c.args.block < length blocks = grind (arith, common_steps) in
    let is : (bytes_of all) ≡ block_at blocks c.args.block = grind (arith, common_steps) in
    let same : c.as_mut_slice.result.now ≡ block_at blocks c.args.block = grind (arith, common_steps) in
    let moved : c.move_into.new.block ≡ take c.args.offset (block_at blocks c.args.block) ++ c.args.bytes.now
    ++ drop (c.args.offset + length c.args.bytes.now) (block_at blocks c.args.block) =
    rw (← same) c.move_into.ensures in
    put-block c.args.blocks.now.items c.args.block c.args.offset all c.args.bytes.now c.move_into.new.block there is
    c.requires.within moved
