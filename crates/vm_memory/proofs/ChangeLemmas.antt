-- Which bytes a write changes.
use Rattle.std.proofs.Common.{◌≡◌, ◌≢◌, ◌⊎◌, inl, inr, ℕ, suc, List, [], ◌∷◌, Contains, refl, sym, ap, ap₂, ◌∙◌, arith}
use Rattle.std.proofs.lemmas.Bool.{cases_eq}
use Rattle.vm_memory_guest.specs.Host.{Cell, byte_at, with_byte, written}
use Rattle.vm_memory_guest.proofs.WrittenLaws.{byte_at-with_byte_other}

same_or_not : (c d : Cell) → (c ≡ d) ⊎ (c ≢ d)
same_or_not c d = elim (cases_eq c.block d.block) [
  | inl p ↦ elim (cases_eq c.offset d.offset) [
    | inl q ↦ inl (ap₂ (λ (b o : ℕ). record { block = b; offset = o }) p q)
    | inr q ↦ inr (λ (e : c ≡ d). q (ap (λ (z : Cell). z.offset) e))
  ]
  | inr p ↦ inr (λ (e : c ≡ d). p (ap (λ (z : Cell). z.block) e))
]

-- a byte that changes is one of those that are written
pub changed_cell : (cs : List Cell) (bytes : List ℕ) (blocks : List (List ℕ)) (cell : Cell)
    → (byte_at (written cs bytes blocks) cell ≡ byte_at blocks cell) ⊎ Contains cs cell
changed_cell [] bytes blocks cell = inl refl
changed_cell (c ∷ cs) [] blocks cell = inl refl
changed_cell (c ∷ cs) (b ∷ bytes) blocks cell =
    elim (changed_cell cs bytes (with_byte blocks c b) cell) [
      | inl e ↦ elim (same_or_not cell c) [
        | inl p ↦ inr (0, omega arith, sym p)
        | inr p ↦ inl (e ∙ byte_at-with_byte_other blocks cell c b p)
      ]
      | inr m ↦ inr (suc m.0, omega (arith, m.1), m.2)
    ]
