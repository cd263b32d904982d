use Rattle.std.proofs.Common.{◌∙◌, List, inl, inr, ap, subst}
use Rattle.vm_memory_base.specs.Notes.{IsNoted, Note, gathered}
use Rattle.live_migration.proofs.WordsLemmas.{noted_in, set_listed}
use Rattle.live_migration.proofs.laws.marks_are_harvested_or_left.Goals as goal

pub returns-clause-kept : goal.returns-clause-kept
returns-clause-kept c = λ harvester harvests left count word round page is_noted is_left known within low below.
    elim (is_left word round page within known) [
      | inl taken ↦
          (let r = noted_in harvests word round page
          (subst (λ (notes : List Note). IsNoted word round page notes) is_noted taken) in
          inl (r.words, r.among, set_listed count r.words word page low below r.bit))
      | inr set ↦ inr (set_listed count left word page low below set.1)
    ]

pub returns-clause-more : goal.returns-clause-more
returns-clause-more c = λ old new harvests round words is_noted after.
    ap (λ v. v.harvests) after ∙ ap (gathered 0 round words) is_noted
