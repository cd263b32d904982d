-- What is noted of the pages of a word in one of its rounds.
use Rattle.std.specs.Prelude.{ℕ, ◌+◌, ◌≡◌, ◌⊎◌, ◌==◌, List, [], ◌∷◌, max, if◌then◌else◌}
use Rattle.std.specs.Int.{bit_at}
use base.Stored.{Coded, coded×, coded_ℕ, coded_list, coded_via}

-- pages of a word, as bits, in a round
pub record Note : Type 0 where
  pub word : ℕ
  pub round : ℕ
  pub pages : ℕ

abbrev pub note_coded : Coded Note
note_coded =
    coded_via (coded× coded_ℕ (coded× coded_ℕ coded_ℕ)) (λ (n : Note). (n.word, (n.round, n.pages)))
    (λ x y e i. record { word = (e i).0; round = (e i).1.0; pages = (e i).1.1 })

abbrev pub notes_coded : Coded (List Note)
notes_coded = coded_list note_coded

abbrev pub note : ℕ → ℕ → ℕ → Note
note word round pages = record { word = word; round = round; pages = pages }

-- the page of this word is noted in this round
abbrev pub IsNoted : ℕ → ℕ → ℕ → List Note → Type 0
IsNoted word round page [] = ⊥
IsNoted word round page (n ∷ notes) =
    ((n.word ≡ word) × (n.round ≡ round) × (bit_at n.pages page ≡ 1)) ⊎ IsNoted word round page notes

-- the rounds that are noted of a word, in the order of the notes
abbrev pub rounds_of : ℕ → List Note → List ℕ
rounds_of word [] = []
rounds_of word (n ∷ notes) = if n.word == word then (n.round ∷ rounds_of word notes) else rounds_of word notes

-- the greatest round that is noted of a word, and 0 if none is
abbrev pub greatest_of : ℕ → List Note → ℕ
greatest_of word [] = 0
greatest_of word (n ∷ notes) = if n.word == word then max n.round (greatest_of word notes) else greatest_of word notes

-- the notes with one more of each word, from this one on: of its pages, in this round
abbrev pub gathered : ℕ → ℕ → List ℕ → List Note → List Note
gathered word round [] notes = notes
gathered word round (pages ∷ words) notes = gathered (word + 1) round words (note word round pages ∷ notes)
