use Rattle.std.proofs.Common.{◌≡◌, ◌<◌, ℕ, List, [], ◌++◌, ◌*◌, get_or, length, ◌∙◌, sym, ap, arith, append-nil}
use Rattle.std.proofs.lemmas.Grind.{div_ceil_times}
use Rattle.std.proofs.lemmas.Result.{err_from_is_err_and}
use Rattle.vm_memory_base.specs.Flags.{flag, dirty_among}
use Rattle.vm_memory_base.specs.Paging.{count_of}
use Rattle.vm_memory_base.proofs.FlagsLemmas.{dirty_by, dirty_of_word, dirty_of_words, no_bits, some_dirty}
use Rattle.vm_memory_base.proofs.bitmap.exclusive.ExclusiveBitmapExactBitmap.dirty_pages.Goals as goal
use Rattle.vm_memory_base.proofs.bitmap.exclusive.ExclusiveBitmapExactBitmap.dirty_pages.Goals.{then-word-ne0+in_ok-add_pages, else-word-ne0}

pub returns-in_err-add_pages-clause-refused : goal.returns-in_err-add_pages-clause-refused
returns-in_err-add_pages-clause-refused c =
    let b = c.args.self.now in
    let k = c.loop-k.k in
    let value = c.as_slice-words.ensures.value in
    let inside : k < length b.words.items = rw value at c.loop-k-test.true in
    let p = err_from_is_err_and c.from_residual.result c.from_residual.ensures.1 in
    rw p.1
    (some_dirty b.words.items (count_of b.paging) k b.whole inside b.clear
    (rw value at c.in_err-add_pages.ensures.refused))

pub loop-k-preserved : goal.loop-k-preserved
loop-k-preserved c =
    let words = c.args.self.now.words.items in
    let k = c.loop-k.k in
    let value = c.as_slice-words.ensures.value in
    let before = dirty_by (flag words) 0 (64 * k) in
    elim c.if-word-ne0.branch [
      | then-word-ne0+in_ok-add_pages w ↦
          rw w.pages-is
          (w.in_ok-add_pages.ensures.added
          ∙ ap (λ (ws : List ℕ). c.loop-k.pages.items ++ dirty_among (get_or ws k 0) (64 * k)) value
          ∙ ap (λ (ps : List ℕ). ps ++ dirty_among (get_or words k 0) (64 * k)) c.loop-k.invariant
          ∙ sym (dirty_of_word words k))
      | else-word-ne0 w ↦
          let none : dirty_among (get_or words k 0) (64 * k) ≡ [] =
          ap (λ (ws : List ℕ). dirty_among (get_or ws k 0) (64 * k)) (sym value)
          ∙ ap (λ (n : ℕ). dirty_among n (64 * k)) w.if-word-ne0.false
          ∙ no_bits (64 * k) in
          rw w.pages-is
          (c.loop-k.invariant ∙ sym (append-nil before) ∙ ap (λ (ps : List ℕ). before ++ ps) (sym none)
          ∙ sym (dirty_of_word words k))
    ]

pub returns-clause-dirty : goal.returns-clause-dirty
returns-clause-dirty c =
    let b = c.args.self.now in
    let enough = div_ceil_times (count_of b.paging) 64 (omega arith) in
    c.loop-k.invariant ∙ dirty_of_words b.words.items (count_of b.paging) (64 * c.loop-k.k)
    (omega (arith, enough.0, b.whole)) b.clear
