-- What calls make of the table of one number.
use Rattle.std.proofs.Common.{◌≡◌, ◌≢◌, cond, ◌==◌, ℕ, zero, suc, ◌<◌, List, [], ◌∷◌, ◌++◌, length, set, Some, refl, sym}
use Rattle.std.proofs.Common.{ap, subst, ◌∙◌, inl, inr, arith, slice_get}
use Rattle.std.proofs.lemmas.Bool.{cases_Bool, cond-true, cond-false, eqb-true, eqb-false}
use Rattle.std.proofs.lemmas.List.{length-set}
use Rattle.std.proofs.lemmas.Option.{slice_get_within, same_Some}
use Rattle.vm_memory_base.specs.Table.{TableEvent, Table}
use Rattle.vm_memory_base.specs.Table.{changed, changed_by}

changed_by-append : (xs ys : List TableEvent) (t : Table) → changed_by (xs ++ ys) t ≡ changed_by ys (changed_by xs t)
changed_by-append [] ys t = refl
changed_by-append (call ∷ xs) ys t = changed_by-append xs ys (changed call t)

slice_get-set_same : {X : Type 0} (xs : List X) (i : ℕ) (y : X) → i < length xs → slice_get (set xs i y) i ≡ Some y
slice_get-set_same [] i y within = absurd (omega arith)
slice_get-set_same (x ∷ xs) zero y within = refl
slice_get-set_same (x ∷ xs) (suc i) y within = slice_get-set_same xs i y (omega arith)

slice_get-set_other : {X : Type 0} (xs : List X) (i j : ℕ) (y : X) → j ≢ i → slice_get (set xs i y) j ≡ slice_get xs j
slice_get-set_other [] i j y other = refl
slice_get-set_other (x ∷ xs) zero zero y other = absurd (other refl)
slice_get-set_other (x ∷ xs) zero (suc j) y other = refl
slice_get-set_other (x ∷ xs) (suc i) zero y other = refl
slice_get-set_other (x ∷ xs) (suc i) (suc j) y other =
    slice_get-set_other xs i j y (λ e. other (ap (λ (k : ℕ). suc k) e))

-- as many tables as before, of which the one of this number is what these calls made of it
pub record AreLeftBy (number : ℕ) (calls : List TableEvent) (before after : List Table) : Type 0 where
  pub count : length after ≡ length before
  pub left : (t : Table) → slice_get before number ≡ Some t → slice_get after number ≡ Some (changed_by calls t)

pub same : (number : ℕ) (before after : List Table) → after ≡ before → AreLeftBy number [] before after
same number before after e = record {
  count = ap (λ (ts : List Table). length ts) e;
  left = λ t there. ap (λ (ts : List Table). slice_get ts number) e ∙ there;
}

pub one_after_the_other : (number : ℕ) (xs ys : List TableEvent) (before mid after : List Table)
    → AreLeftBy number xs before mid → AreLeftBy number ys mid after → AreLeftBy number (xs ++ ys) before after
one_after_the_other number xs ys before mid after first second = record {
  count = second.count ∙ first.count;
  left = λ t there.
      second.left (changed_by xs t) (first.left t there)
      ∙ ap (λ (u : Table). Some u) (sym (changed_by-append xs ys t));
}

pub changed_own : (number : ℕ) (call : TableEvent) (t : Table) (ts : List Table) → slice_get ts number ≡ Some t
    → AreLeftBy number (call ∷ []) ts (set ts number (changed call t))
changed_own number call t ts there = record {
  count = length-set ts number (changed call t);
  left = λ u is.
      slice_get-set_same ts number (changed call t) (slice_get_within ts number t there)
      ∙ ap (λ (v : Table). Some (changed call v)) (same_Some t u (sym there ∙ is));
}

pub changed_at : (n number : ℕ) (call : TableEvent) (t : Table) (ts : List Table) → slice_get ts n ≡ Some t
    → AreLeftBy number (cond (n == number) (call ∷ []) []) ts (set ts n (changed call t))
changed_at n number call t ts there = elim (cases_Bool (n == number)) [
  | inl e ↦
      rw (cond-true (n == number) (call ∷ []) [] e)
      (subst (λ (k : ℕ). AreLeftBy k (call ∷ []) ts (set ts n (changed call t))) (eqb-true n number e)
      (changed_own n call t ts there))
  | inr e ↦
      rw (cond-false (n == number) (call ∷ []) [] e)
      (let other : number ≢ n = λ f. eqb-false n number e (sym f) in
      record {
        count = length-set ts n (changed call t);
        left = λ u is. slice_get-set_other ts n number (changed call t) other ∙ is;
      })
]
