-- The line of rings that want a turn.
use Rattle.std.specs.Prelude.{ℕ, Bool, true, not, ◌&&◌, ◌==◌, nat_lt, if◌then◌else◌, List, [], ◌∷◌, ◌++◌}
use Rattle.std.specs.List.{filter, list_any}

-- whether a ring stands in it
abbrev pub stands_in : ℕ → List ℕ → Bool
stands_in ring line = list_any (λ other. other == ring) line

-- a ring stands last
abbrev pub joined : List ℕ → ℕ → List ℕ
joined line ring = if stands_in ring line then line else line ++ ring ∷ []

abbrev pub without : List ℕ → ℕ → List ℕ
without line ring = filter (λ other. not (other == ring)) line

-- a ring stands in the line while it wants a turn
abbrev pub settled : List ℕ → ℕ → Bool → List ℕ
settled line ring wants = if wants then joined line ring else without line ring

-- each ring in it is there, and stands in it once
abbrev pub is_line : ℕ → List ℕ → Bool
is_line rings [] = true
is_line rings (ring ∷ rest) = nat_lt ring rings && (not (stands_in ring rest) && is_line rings rest)
