-- A bitmap that may be missing.
use Rattle.std.specs.Prelude.{◌≡◌, ℕ, Bool, false, Option, Some, None}

-- a mark changes the bitmap that is there
abbrev pub MarksOption : {B : Type 0} → (B → ℕ → ℕ → B → Type 0) → Option B → ℕ → ℕ → Option B → Type 0
MarksOption marks None offset len new = new ≡ None
MarksOption {B} marks (Some b) offset len new = (c : B) × (new ≡ Some c) × marks b offset len c

-- every byte of a missing bitmap is reported clean
abbrev pub TellsOption : {B : Type 0} → (B → ℕ → Bool → Type 0) → Option B → ℕ → Bool → Type 0
TellsOption tells None offset told = told ≡ false
TellsOption tells (Some b) offset told = tells b offset told
