use Rattle.std.proofs.Common.{◌≡◌, ◌+◌, ◌*◌, length, min, arith}
use Rattle.vm_memory.proofs.PatchLemmas.{page_copied}
use Rattle.vm_memory.proofs.machine.rounds.copy_page.Goals as goal

pub returns : goal.returns
returns c =
    let size = c.args.page_size in
    let len = length c.args.block.now in
    let start = c.min-start.result in
    let first : start ≡ min (c.args.page * size) len = omega arith in
    let last : c.min-end.result ≡ min (start + size) len = omega arith in
    rw c.copy_part.ensures
    (page_copied size c.args.page c.requires.some c.args.block.now c.args.image.now c.requires.len start
    c.min-end.result first last)
