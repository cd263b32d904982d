use Rattle.std.proofs.Common.{rules, ◌≡◌, ℕ, List, [], ◌∷◌, replicate, sym, ap, ◌∙◌, subst}
use Rattle.vm_memory_base.specs.Tracked.{newcomer, words_for, IsRuled, AreCounted}
use Rattle.vm_memory_base.proofs.TrackedSeats.{begins}
use Rattle.vm_memory_base.proofs.bitmap.tracked.TrackedBitmap.new.Goals as goal

pub of_words-requires : goal.of_words-requires
of_words-requires c =
    let zeros : c.in_ok-zeros.zeros.items ≡ replicate c.max-words.result 0 = search rules in
    let count : ℕ = c.count-count.result in
    let words : c.max-words.result ≡ words_for count = search rules in
    subst (λ (l : List ℕ). IsRuled count l (newcomer count ∷ []) × AreCounted (newcomer count ∷ []))
    (sym (c.deref.ensures.value ∙ zeros ∙ ap (λ (n : ℕ). replicate n 0) words))
    (begins count)
