-- Disks: their calls, and their bytes, if they are known.
use Rattle.std.specs.Prelude.{◌≡◌, ℕ, ◌+◌, ◌/◌, Bool, true, List, [], ◌∷◌, ◌++◌, length, take, drop, Option, Some, None, option_map}

-- a call of a disk: a read from a sector on, with what it gave, a write from one on, with what it was given, a flush
pub data Call : Type 0 where
  reads : ℕ → List ℕ → Call
  writes : ℕ → List ℕ → Call
  flushes : Call

-- pieces put together, of which the last comes first
abbrev pub joined : List (List ℕ) → List ℕ
joined [] = []
joined (p ∷ ps) = joined ps ++ p

-- pieces were moved one after the other, from a sector on, each by a call that was done
abbrev pub Moves : {D : Type 0} → (D → Call → Bool → D → Type 0) → (ℕ → List ℕ → Call) → ℕ → List (List ℕ) → D → D
    → Type 0
Moves calls move sector [] old new = new ≡ old
Moves {D} calls move sector (p ∷ ps) old new = (mid : D) × Moves calls move sector ps old mid
    × calls mid (move (sector + length (joined ps) / 512) p) true new

-- a list with other elements from one on
abbrev pub patched : ℕ → List ℕ → List ℕ → List ℕ
patched at bytes all = take at all ++ bytes ++ drop (at + length bytes) all

-- the bytes of a disk after others were written from one on
abbrev pub after_write : ℕ → List ℕ → Option (List ℕ) → Option (List ℕ)
after_write at bytes all = option_map (patched at bytes) all

-- if the bytes of a disk are known, it has these from one on
abbrev pub LieAt : ℕ → List ℕ → Option (List ℕ) → Type 0
LieAt at bytes None = Unit {0}
LieAt at bytes (Some all) = bytes ≡ take (length bytes) (drop at all)
