use Rattle.std.proofs.Common.{ℕ, ap, ◌∙◌}
use Rattle.std.proofs.lemmas.List.{length-replicate}
use Rattle.std.specs.Int.{div_ceil}
use Rattle.vm_memory_base.specs.Pages.{pages_with}
use Rattle.vm_memory_base.specs.Paging.{page_size_of, count_of}
use Rattle.vm_memory_base.proofs.FlagsLemmas.{flags_of-zeros, flag-zeros}
use Rattle.vm_memory_base.proofs.bitmap.exclusive.ExclusiveBitmap.new.Goals as goal

pub invariant_of-result : goal.invariant_of-result
invariant_of-result c =
    let zeros = c.in_ok-words.ensures.items_if_clones_equal (λ y e. e) in
    record {
      whole = rw zeros (length-replicate {A = ℕ} c.div_ceil.result 0 ∙ c.div_ceil.ensures
          ∙ ap (λ (n : ℕ). div_ceil n 64) c.count.ensures);
      clear = λ page past. rw zeros (flag-zeros c.div_ceil.result page);
    }

pub returns-clause-pages : goal.returns-clause-pages
returns-clause-pages c =
    let paging = c.new-paging.result in
    let zeros = c.in_ok-words.ensures.items_if_clones_equal (λ y e. e) in
    rw (zeros, ← c.new-paging.ensures.page_size, ← c.new-paging.ensures.bytes)
    (ap (pages_with (page_size_of paging)) (flags_of-zeros c.div_ceil.result (count_of paging)))
