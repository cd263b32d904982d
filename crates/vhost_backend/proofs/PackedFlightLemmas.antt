-- Lists of what a packed ring has in flight.
use Rattle.std.proofs.Common.{◌≡◌, ℕ, zero, suc, List, [], ◌∷◌, drop, Option, Some, None, refl, ap}

pub same_some : {X : Type 0} {x y : X} → Some x ≡ Some y → x ≡ y
same_some {X} {x} {y} is = ap (λ (o : Option X). or x o) is
  where
    or : X → Option X → X
    or d (Some v) = v
    or d None = d

-- one more is left out
pub drop_once : {X : Type 0} (p : ℕ) (xs : List X) → drop (suc p) xs ≡ drop 1 (drop p xs)
drop_once zero xs = refl
drop_once (suc p) [] = refl
drop_once (suc p) (x ∷ xs) = drop_once p xs
