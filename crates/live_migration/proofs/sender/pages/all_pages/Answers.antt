use Rattle.std.proofs.Common.{◌≡◌, ◌++◌, ◌∷◌, [], ℕ, List, ◌∙◌, ap, sym, arith}
use Rattle.std.proofs.lemmas.Grind.{common_steps}
use Rattle.live_migration.proofs.SenderLemmas.{numbers_more}
use Rattle.live_migration.proofs.sender.pages.all_pages.Goals as goal

pub loop-page-preserved : goal.loop-page-preserved
loop-page-preserved c =
    let pushed : c.push.new.self.items ≡ c.loop-page.pages.items ++ c.loop-page.page ∷ [] =
    grind (arith, common_steps) in
    pushed ∙ ap (λ (xs : List ℕ). xs ++ c.loop-page.page ∷ []) c.loop-page.invariant
    ∙ sym (numbers_more c.loop-page.page)
