use Rattle.std.proofs.Common.{◌≡◌, ◌+◌, ◌^◌, ◌≤◌, true, refl, subst}
use Rattle.vm_memory_guest.specs.Copy.{Copies}
use Rattle.vm_memory_guest.specs.Window.{Window}
use Rattle.vm_memory_guest.specs.Dirt.{with_pages}
use Rattle.vm_memory.specs.Copy.{has_block, ends_inside}
use Rattle.vm_memory.specs.Parts.{range_window}
use Rattle.vm_memory.proofs.CopyLemmas.{found, done}
use Rattle.vm_memory.proofs.machine.copies.copy_in.Goals as goal

pub returns-clause-copied : goal.returns-clause-copied
returns-clause-copied g c =
    let pages = g.B.ExactBitmap.pages in
    let marks = g.B.Bitmap.marks in
    let old = c.args.host.now in
    let new = c.copy_to_volatile_slice.new.host in
    let from = c.args.from in
    let to = c.args.to in
    let first = found (ends_inside old from) c.in-Some-Some.from (range_window from) c.in-Some-Some.ensures.value in
    let second = found (ends_inside old to) c.in-Some-Some.to (range_window to) c.in-Some-Some.ensures'.value in
    let there : has_block old from ≡ true = rw (← c.has_block.ensures.value) c.if-not-has_block.false in
    let other : has_block old to ≡ true = rw (← c.has_block-else-not-has_block.ensures.value) c.if-not-has_block-2.false in
    let bytes : Copies marks (range_window from) (range_window to) old new =
    subst (λ (v : Window). Copies marks v (range_window to) old new) first.1
    (subst (λ (v : Window). Copies marks c.in-Some-Some.from v old new) second.1
    c.copy_to_volatile_slice.ensures.bytes) in
    done (with_pages pages old) (with_pages pages new) from to there other first.0 second.0
    (c.copies_are_by_bytes.ensures (range_window from) (range_window to) old new refl
    (subst (λ (v : Window). v.offset + v.size ≤ 2 ^ 64) second.1 c.in-Some-Some.ensures'.short) bytes)
