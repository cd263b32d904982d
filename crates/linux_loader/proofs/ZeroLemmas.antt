-- Zeros as a source.
use Rattle.std.proofs.Common.{◌≡◌, ◌∙◌, ℕ, ◌-◌, ◌≤◌, List, [], ◌++◌, arith, drop, inl, inr, length, min, replicate, take, Ok, Some, ap, refl, sym}
use Rattle.std.proofs.lemmas.Bool.{cases_lt}
use Rattle.std.proofs.lemmas.List.{drop-replicate, length-replicate, take-replicate, take_all}
use Rattle.vm_memory_base.specs.Transfer.{Next, giving, over_front, tried}
use Rattle.vm_memory_base.proofs.TransferLemmas.{gives_front}

take_zeros : (n left : ℕ) → take n (replicate {A = ℕ} left 0) ≡ replicate (min left n) 0
take_zeros n left = elim (cases_lt n left) [
  | inl l ↦ (let e : min left n ≡ n = omega arith in rw e (take-replicate n left 0 (omega arith)))
  | inr l ↦ (let e : min left n ≡ left = omega arith in let k : length (replicate {A = ℕ} left 0) ≡ left =
      length-replicate left 0 in rw e (take_all n (replicate left 0) (omega arith)))
]

pub zeros_tried : (left count : ℕ) (buf new : List ℕ) → count ≡ min left (length buf)
    → new ≡ replicate count 0 ++ drop count buf
    → (let t = tried (length buf) (giving (replicate left 0) []) in
    (Ok count ≡ t.answer) × (new ≡ over_front t.bytes buf)
    × (Some (giving (replicate (left - count) 0) []) ≡ Some t.left))
zeros_tried left count buf new is made =
    let n = length buf in
    let gives = gives_front n (replicate left 0) in
    let size : length (replicate {A = ℕ} left 0) ≡ left = length-replicate left 0 in
    let counted : count ≡ min n (length (replicate {A = ℕ} left 0)) = omega arith in
    let bytes : (tried n (giving (replicate left 0) [])).bytes ≡ replicate count 0 =
    gives.bytes ∙ take_zeros n left ∙ ap (λ (k : ℕ). replicate k 0) (sym is) in
    let long : count ≤ left = omega arith in (
      ap (λ (k : ℕ). Ok k) counted ∙ sym gives.answer,
      made ∙ over count bytes,
      ap (λ (xs : List Next). Some xs) (rest counted ∙ sym gives.left),
    )
  where
    rest : {k : ℕ} → count ≡ k → giving (replicate (left - count) 0) [] ≡ giving (drop k (replicate left 0)) []
    rest e = rw (← e, drop-replicate) refl

    over : (k : ℕ) → (tried (length buf) (giving (replicate left 0) [])).bytes ≡ replicate k 0
        → replicate k 0 ++ drop k buf ≡ over_front (tried (length buf) (giving (replicate left 0) [])).bytes buf
    over k e = rw e (rw length-replicate refl)
