-- What becomes of a page of a bitmap that any number of actors mark and clear, one word a step.
use Rattle.std.specs.Prelude.{ℕ, zero, suc, ◌/◌, Bool, false, not, ◌&&◌, ◌||◌, ◌==◌, List, [], ◌∷◌}

-- a step of an actor: it sets a page, or takes a word, which it leaves empty
pub data Event : Type 0 where
  Mark : ℕ → Event
  Clear : ℕ → Event

-- whether a step sets this page
abbrev pub sets : ℕ → Event → Bool
sets page (Mark p) = p == page
sets page (Clear word) = false

-- whether a step takes the word of this page
abbrev pub takes_word : ℕ → Event → Bool
takes_word page (Mark p) = false
takes_word page (Clear word) = word == page / 64

-- whether the page is set after a step, by whether it was before
abbrev pub after : ℕ → Bool → Event → Bool
after page set e = (set || sets page e) && not (takes_word page e)

-- whether the page is set after these steps, by whether it was before them
abbrev pub is_left : ℕ → Bool → List Event → Bool
is_left page set [] = set
is_left page set (e ∷ history) = is_left page (after page set e) history

-- whether the step of this number marks the page
abbrev pub marks_at : ℕ → List Event → ℕ → Bool
marks_at page [] i = false
marks_at page (e ∷ history) zero = sets page e
marks_at page (e ∷ history) (suc i) = marks_at page history i

-- whether the step of this number is a clear that returns the page: it takes its word, in which the page is set
abbrev pub answers_at : ℕ → Bool → List Event → ℕ → Bool
answers_at page set [] i = false
answers_at page set (e ∷ history) zero = set && takes_word page e
answers_at page set (e ∷ history) (suc i) = answers_at page (after page set e) history i
