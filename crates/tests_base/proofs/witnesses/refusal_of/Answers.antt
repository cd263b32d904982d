use Rattle.std.proofs.Common.{◌≡◌, List, [], ◌∷◌, inl, inr, refl}
use Rattle.vm_memory_base.specs.Table.{Range, misses, reason, says}
use Rattle.vm_memory_base.specs.declared.iotlb.Reason.{Reason}
use Rattle.vm_memory_base.specs.declared.iotlb.Reason.TheVariants.{AccessNotAllowed, MissingMapping}
use Rattle.tests_base.proofs.witnesses.refusal_of.Goals as goal

-- what is refused for its permissions has no miss
no_miss : (ms : List Range) (r : Reason) → (((ms ≡ []) → ⊥) → r ≡ MissingMapping) → r ≡ AccessNotAllowed → ms ≡ []
no_miss [] r law e = refl
no_miss (m ∷ ms) r law e = let is : r ≡ MissingMapping = law (λ none. absurd (cc)) in absurd (cc)

pub returns : goal.returns
returns c = λ e.
    let f = says c.args.table.now in
    no_miss (misses f c.args.iova.0 c.args.length) (reason f c.args.iova.0 c.args.length)
    (c.reason_of_a_refusal.ensures.missing f c.args.iova.0 c.args.length)
    (elim c.in-Err-CannotResolve.ensures [ inl wanting ↦ absurd (cc) | inr refused ↦ (cc) ])
