-- The block that a sender was asked for.
use Rattle.std.proofs.Common.{◌≡◌, ℕ, List, [], ◌∷◌, map, Some, refl, ap}
use Rattle.std.specs.Prelude.{slice_get}
use Rattle.live_migration.specs.Targets.{place_of}
use Rattle.live_migration.specs.declared.sender.pages.Target.{Target}

-- the one block that was asked for
pub record FirstIs (ts : List Target) (block : ℕ) : Type 0 where
  pub target : Target
  pub at : slice_get ts 0 ≡ Some target
  pub is : target.block.0 ≡ block

pub first_is : (ts : List Target) (x : ℕ × ℕ) → map place_of ts ≡ x ∷ [] → FirstIs ts x.0
first_is [] x e = absurd cc
first_is (t ∷ ts) x e =
    let here : place_of t ≡ x = cc in record { target = t; at = refl; is = ap (λ (p : ℕ × ℕ). p.0) here }
