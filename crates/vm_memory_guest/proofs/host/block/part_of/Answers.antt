use Rattle.std.proofs.Common.{◌≡◌, ◌+◌, ◌-◌, arith, sym}
use Rattle.std.proofs.lemmas.Grind.{common_steps}
use Rattle.vm_memory_guest.specs.Host.{block_at}
use Rattle.vm_memory_guest.specs.Inside.{blocks_of}
use Rattle.vm_memory_guest.proofs.WrittenLaws.{bytes_at-block}
use Rattle.vm_memory_guest.proofs.host.block.part_of.Goals as goal

pub returns : goal.returns
returns c =
    let same : c.as_slice.result.now ≡ block_at (blocks_of c.args.blocks.now) c.args.at.block =
    grind (arith, common_steps) in
    let count : c.args.at.offset + c.args.at.len - c.args.at.offset ≡ c.args.at.len = omega arith in
    rw (same, count) (sym (bytes_at-block c.args.at.block c.args.at.offset c.args.at.len
    (blocks_of c.args.blocks.now) c.requires.within))
