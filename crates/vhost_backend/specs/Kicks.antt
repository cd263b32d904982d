-- The rings that were kicked.
use Rattle.std.specs.Prelude.{◌≡◌, ℕ, ◌<◌, Bool, true, false, List, slice_get, slice_set, Option, Some, None, MatchOption}

-- none before this one was
abbrev pub NoneBefore : ℕ → List Bool → Type 0
NoneBefore n kicks = (k : ℕ) → k < n → slice_get kicks k ≡ Some true → ⊥

-- a ring that was kicked, or none was
abbrev pub IsKicked : List Bool → Option ℕ → Type 0
IsKicked kicks None = (k : ℕ) → slice_get kicks k ≡ Some true → ⊥
IsKicked kicks (Some ring) = slice_get kicks ring ≡ Some true

-- it is taken
abbrev pub TakesKick : List Bool → Option ℕ → List Bool → Type 0
TakesKick kicks ring kicks' =
    IsKicked kicks ring × MatchOption ring (kicks' ≡ kicks) (λ i. kicks' ≡ slice_set kicks i false)
