use Rattle.std.proofs.Common.{ℕ, ◌<◌, ◌^◌, get_or, ap}
use Rattle.vm_memory_base.specs.Pages.{pages_with}
use Rattle.vm_memory_base.specs.Paging.{page_size_of, count_of}
use Rattle.vm_memory_base.proofs.FlagsLemmas.{flags_of-clean, words_are}
use Rattle.vm_memory_base.proofs.bitmap.exclusive.ExclusiveBitmap.get_and_reset.Goals as goal

pub returns-clause-words : goal.returns-clause-words
returns-clause-words c =
    let old = c.args.self.now in
    let small : (k : ℕ) → get_or old.words.items k 0 < 2 ^ 64 = rw c.deref.ensures.value at c.fit.ensures in
    rw c.replace.ensures.value
    (words_are old.words.items (count_of old.paging) old.clear (page_size_of old.paging) old.whole small)

pub returns-clause-clean : goal.returns-clause-clean
returns-clause-clean c =
    let old = c.args.self.now in
    let zeros = c.in_ok-clean.ensures.items_if_clones_equal (λ y e. e) in
    ap (pages_with (page_size_of old.paging))
    (rw (c.replace.ensures.after, zeros) (flags_of-clean old.words.items _ (count_of old.paging)))
