use Rattle.std.proofs.Common.{◌≡◌, ◌+◌, ◌-◌, ◌<◌, ◌≤◌, ℕ, List, ◌++◌, ◌∙◌, set, sym, ap, subst, get_or, take, drop, length, arith}
use Rattle.std.proofs.lemmas.Grind.{common_steps}
use Rattle.vm_memory_guest.specs.Host.{block_at}
use Rattle.vm_memory_guest.specs.BlockBytes.{bytes_of, with_bytes}
use Rattle.vm_memory_guest.specs.Inside.{blocks_of}
use Rattle.vm_memory_guest.proofs.CopyLemmas.{moved, moved-inside, low-at, high-at, set-low, set-high}
use Rattle.vm_memory_guest.proofs.host.block.copy_in.Goals as goal

pub returns-then-source-target : goal.returns-then-source-target
returns-then-source-target c =
    let blocks = c.args.blocks.now in
    let from = c.args.from in
    let to = c.args.to in
    let low = c.split_at_mut-low.result.0.now in
    let high = c.split_at_mut-low.result.1.now in
    let split = sym c.as_mut_slice.ensures.value ∙ c.split_at_mut-low.ensures.value in
    let seam : length low ≡ to.block = c.split_at_mut-low.ensures.front_len in
    let inside : from.block.0 < length low = omega arith in
    let s = get_or low from.block.0 c.index-low-source.result in
    let t = get_or high 0 c.index-high-0.result in
    let new = c.move_into.new.block in
    let part = λ (xs : List ℕ). take (from.offset + to.len - from.offset) (drop from.offset xs) in
    let taken : part c.as_slice.result.now ≡ part (bytes_of s) = ap part c.as_slice.ensures in
    moved blocks (low ++ set high 0 (with_bytes t new)) from.block.0 from.offset to.block to.offset to.len s t
    c.index-low-source.result c.index-high-0.result c.as_mut_slice-then-source-target.result.now
    (part c.as_slice.result.now) new c.requires.source c.requires.target
    (low-at blocks.items low high split from.block.0 c.index-low-source.result inside)
    (high-at blocks.items low high split to.block c.index-high-0.result seam)
    c.requires.readable c.requires.writable taken c.as_mut_slice-then-source-target.ensures.value c.move_into.ensures
    (set-high blocks.items low high split to.block (with_bytes t new) seam)

pub returns-then-target-source : goal.returns-then-target-source
returns-then-target-source c =
    let blocks = c.args.blocks.now in
    let from = c.args.from in
    let to = c.args.to in
    let low = c.split_at_mut-low-then-target-source.result.0.now in
    let high = c.split_at_mut-low-then-target-source.result.1.now in
    let split = sym c.as_mut_slice-then-target-source.ensures.value
    ∙ c.split_at_mut-low-then-target-source.ensures.value in
    let seam : length low ≡ from.block.0 = c.split_at_mut-low-then-target-source.ensures.front_len in
    let inside : to.block < length low = omega arith in
    let s = get_or high 0 c.index-high-0-then-target-source.result in
    let t = get_or low to.block c.index-low-target.result in
    let new = c.move_into-then-target-source.new.block in
    let read = c.as_slice-then-target-source.result.now in
    let part = λ (xs : List ℕ). take (from.offset + to.len - from.offset) (drop from.offset xs) in
    let taken : part read ≡ part (bytes_of s) = ap part c.as_slice-then-target-source.ensures in
    moved blocks (set low to.block (with_bytes t new) ++ high) from.block.0 from.offset to.block to.offset to.len s t
    c.index-high-0-then-target-source.result c.index-low-target.result
    c.as_mut_slice-then-target-source-2.result.now (part read) new c.requires.source c.requires.target
    (high-at blocks.items low high split from.block.0 c.index-high-0-then-target-source.result seam)
    (low-at blocks.items low high split to.block c.index-low-target.result inside)
    c.requires.readable c.requires.writable taken c.as_mut_slice-then-target-source-2.ensures.value
    c.move_into-then-target-source.ensures
    (set-low blocks.items low high split to.block (with_bytes t new) inside)

pub returns : goal.returns
returns c =
    let from = c.args.from in
    let to = c.args.to in
    let blocks = blocks_of c.args.blocks.now in
    let all = c.index_mut-all.result.now in
    let there : to.block < length blocks = grind (arith, common_steps) in
    let same : (bytes_of all) ≡ block_at blocks to.block = grind (arith, common_steps) in
    let one : from.block.0 ≡ to.block = omega arith in
    let readable = subst (λ s. from.offset + to.len ≤ length (block_at blocks s)) one c.requires.readable in
    rw one (moved-inside c.args.blocks.now to.block from.offset to.offset to.len all
    c.as_mut_slice-2.result.now c.copy_inside.new.block there same c.as_mut_slice-2.ensures.value readable
    c.requires.writable c.copy_inside.ensures)
