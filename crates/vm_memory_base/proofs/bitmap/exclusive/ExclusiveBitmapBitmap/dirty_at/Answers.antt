use Rattle.std.proofs.Common.{◌%◌, ◌<◌, ◌≤◌, ℕ, sym, subst, ◌∙◌, ap, eqb}
use Rattle.std.proofs.lemmas.Bool.{le-ltb}
use Rattle.std.proofs.lemmas.Nat.Bits.{shr_and_one}
use Rattle.std.specs.Int.{bit_at}
use Rattle.vm_memory_base.specs.Paging.{count_of}
use Rattle.vm_memory_base.proofs.FlagsLemmas.{flag-told, word_read}
use Rattle.vm_memory_base.proofs.bitmap.exclusive.ExclusiveBitmapBitmap.dirty_at.Goals as goal

pub returns-then-page-count : goal.returns-then-page-count
returns-then-page-count c =
    let b = c.args.self.now in
    let page = c.page_of-page.result in
    let inside = subst (λ (n : ℕ). page < n) c.count.ensures c.if-page-count.true in
    let word = word_read b.words.items (count_of b.paging) page c.index.result.now b.whole inside c.index.ensures in
    rw (flag-told b.words.items (count_of b.paging) b.clear, ← c.page_of-page.ensures)
    (ap (λ (n : ℕ). eqb n 1) (shr_and_one c.index.result.now (page % 64))
    ∙ ap (λ (n : ℕ). eqb (bit_at n (page % 64)) 1) word)

pub returns-else-page-count : goal.returns-else-page-count
returns-else-page-count c =
    let b = c.args.self.now in
    let page = c.page_of-page.result in
    let past = subst (λ (n : ℕ). n ≤ page) c.count.ensures c.if-page-count.false in
    rw (flag-told b.words.items (count_of b.paging) b.clear, ← c.page_of-page.ensures)
    (le-ltb page c.count.result c.if-page-count.false ∙ sym (b.clear page past))
