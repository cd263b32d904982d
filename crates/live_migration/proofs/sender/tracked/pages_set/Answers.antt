use Rattle.std.proofs.Common.{◌≡◌, ◌++◌, ◌∷◌, [], List, ℕ, ◌∙◌, ap, sym, arith}
use Rattle.std.specs.Global.{Vec}
use Rattle.std.proofs.lemmas.Grind.{common_steps}
use Rattle.live_migration.proofs.WordsLemmas.{page_clear, page_set}
use Rattle.live_migration.proofs.sender.tracked.pages_set.Goals as goal
use Rattle.live_migration.proofs.sender.tracked.pages_set.Goals.{then-is_set+in_ok-push, else-is_set}

pub loop-page-preserved : goal.loop-page-preserved
loop-page-preserved c =
    let words = c.args.words.now in
    let page = c.loop-page.page in
    elim c.if-is_set.branch [
      | then-is_set+in_ok-push w ↦
          (let pushed : w.push.new.self.items ≡ c.loop-page.pages.items ++ page ∷ [] = grind (arith, common_steps) in
          ap (λ (v : Vec ℕ). v.items) w.pages-is ∙ pushed ∙ ap (λ (xs : List ℕ). xs ++ page ∷ []) c.loop-page.invariant
          ∙ sym (page_set words page (sym c.is_set.ensures ∙ w.if-is_set.true)))
      | else-is_set w ↦
          ap (λ (v : Vec ℕ). v.items) w.pages-is ∙ c.loop-page.invariant
          ∙ sym (page_clear words page (sym c.is_set.ensures ∙ w.if-is_set.false))
    ]
