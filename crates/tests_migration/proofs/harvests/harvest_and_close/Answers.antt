use Rattle.std.proofs.Common.{◌≡◌, ◌+◌, ◌*◌, ◌++◌, [], ◌∷◌, List, ℕ, inl, inr, ap, subst, sym, ◌∙◌}
use Rattle.std.specs.Prelude.{Contains}
use Rattle.vm_memory_base.specs.Markers.{harvests_of, known_by, known_to, paging_of}
use Rattle.vm_memory_base.specs.Notes.{IsNoted, Note}
use Rattle.vm_memory_base.specs.Paging.{count_of}
use Rattle.vm_memory_base.specs.declared.bitmap.tracked.view.View.{View}
use Rattle.live_migration.specs.Words.{noted, pages_set}
use Rattle.tests_migration.proofs.HarvestLemmas.{noted_among, one_of}
use Rattle.tests_migration.proofs.harvests.harvest_and_close.Goals as goal

pub returns-in-Ok : goal.returns-in-Ok
returns-in-Ok c =
    let law = c.marks_are_harvested_or_left.ensures in
    let p = paging_of c.in_ok-bitmap.bitmap in
    let first = c.in_ok-bitmap.harvester in
    let start = known_to c.in_ok-marker.marker in
    let mid = known_to c.mark.new.marker in
    let marked = known_to c.mark-2.new.marker in
    let words = c.in_ok-words.words.items in
    let left = c.in-Ok.left.items in
    let round = harvests_of first in
    let old = c.get_and_reset.new.harvester in
    let last = c.join.new.harvester in
    let none : (known_by first).harvests ≡ [] = ap (λ (v : View). v.harvests) c.in_ok-bitmap.ensures.harvester.1 in
    let one : (known_by old).harvests ≡ noted ((round, words) ∷ []) =
    law.more first old [] round words none c.in_ok-words.ensures.taken.1 in
    let all : (known_by last).harvests ≡ noted ((round, words) ∷ []) =
    ap (λ (v : View). v.harvests) c.join.ensures.joins ∙ one in
    let marks : (known_by last).marks ≡ marked.marks ++ (known_by old).marks =
    ap (λ (v : View). v.marks) c.join.ensures.joins in (
      p,
      c.in_ok-bitmap.ensures.pages.0,
      start,
      mid,
      marked,
      c.mark.ensures.marks,
      c.mark-2.ensures.marks,
      λ word r page among within low below.
          elim (law.kept last ((round, words) ∷ []) left (count_of p) word r page all c.in-Ok.ensures.left.1
          (inl (subst (λ (ns : List Note). IsNoted word r page ns) (sym marks)
          (noted_among word r page marked.marks (known_by old).marks among))) within low below) [
            | inl taken ↦
                inl (subst (λ (ws : List ℕ). Contains (pages_set (count_of p) ws) (32 * word + page))
                (sym (ap (λ (x : ℕ × List ℕ). x.1) (one_of (round, words) (r, taken.0) taken.1))) taken.2)
            | inr set ↦ inr set
          ],
    )
