-- Rings that were kicked.
use Rattle.std.proofs.Common.{◌≡◌, ◌∙◌, ℕ, ◌+◌, Bool, true, false, List, Some, sym, ap, inl, inr, arith}
use Rattle.std.proofs.lemmas.Bool.{cases_order}
use Rattle.std.specs.List.{slice_get}
use Rattle.vhost_backend.specs.Kicks.{NoneBefore}

-- one more was not kicked
pub none_more : (kicks : List Bool) (n : ℕ) → NoneBefore n kicks → slice_get kicks n ≡ Some false
    → NoneBefore (n + 1) kicks
none_more kicks n before other k below is = elim (cases_order k n) [
  | inl same ↦ (let at : slice_get kicks n ≡ Some true = ap (λ i. slice_get kicks i) (sym same) ∙ is in
      let e : Some false ≡ Some true = sym other ∙ at in cc)
  | inr (inl less) ↦ before k less is
  | inr (inr more) ↦ omega arith
]
