-- Steps that numbers list, as far as a list of them was read.
use Rattle.std.proofs.Common.{List, ◌++◌, Option, Some, None}

-- what was read, before what is read of the rest
abbrev pub prepend : {X : Type 0} → List X → Option (List X) → Option (List X)
prepend xs None = None
prepend xs (Some ys) = Some (xs ++ ys)
