-- What runs keep: which pages wait to be marked, and which were given.
use Rattle.std.specs.Prelude.{◌⊎◌, ℕ, Bool, true, false, List, [], ◌∷◌}
use Rattle.vhost_backend.specs.PageList.{InRange, IsToMark}
use Rattle.vhost_backend.specs.Run.{Course, Move, gives_marks}

-- a page waits to be marked
abbrev pub Waits : ℕ → Course → Type 0
Waits page c = IsToMark page c.connection.memory.logged.pages

-- a move gives it, to be marked
abbrev pub GivesPage : ℕ → Move → Type 0
GivesPage page (gives_marks range) = InRange page range
GivesPage page _ = ⊥

-- one of these does
abbrev pub IsGiven : ℕ → List Move → Type 0
IsGiven page [] = ⊥
IsGiven page (m ∷ ms) = GivesPage page m ⊎ IsGiven page ms

-- a move gives pages
abbrev pub is_marks : Move → Bool
is_marks (gives_marks range) = true
is_marks _ = false
