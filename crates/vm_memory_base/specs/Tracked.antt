-- The rule of a bitmap that several threads mark while one harvests, and what each step reveals.
-- The low half of a word has 32 pages as bits, and its high half the number of its harvests, its round.
use Rattle.std.specs.Prelude.{ℕ, zero, suc, ◌+◌, ◌-◌, ◌*◌, ◌/◌, ◌%◌, ◌^◌, ◌<◌, ◌≤◌, ◌≡◌, ◌≢◌, ◌⊎◌, List, [], ◌∷◌, ◌++◌, All, map, length, slice_index, max, Bool, false, ◌==◌}
use Rattle.std.specs.Int.{bit_at, div_ceil}
use Rattle.std.specs.List.{sum_by}
use mathlib.Core.Option.{some}
use lib.ListN.{get_elem?}
use Rattle.atomic_table.specs.Table.{State, Me, Step}
use Rattle.vm_memory_base.specs.Paging.{pages_in}
use Rattle.vm_memory_base.specs.Notes.{Note, note, IsNoted, rounds_of, greatest_of, gathered}
use Rattle.vm_memory_base.specs.declared.bitmap.paging.Paging.{Paging}
use Rattle.vm_memory_base.specs.declared.bitmap.tracked.view.View.{View}

abbrev pub set_pages : ℕ → ℕ
set_pages word = word % 2 ^ 32

abbrev pub round_of : ℕ → ℕ
round_of word = word / 2 ^ 32

-- the rounds before this one, the latest first
abbrev pub rounds_before : ℕ → List ℕ
rounds_before zero = []
rounds_before (suc round) = round ∷ rounds_before round

-- who knows no more yet than the number of pages
abbrev pub newcomer : ℕ → View
newcomer count =
    record { count = count; dealt = 0; markers = 0; marks = []; sightings = []; harvests = []; rounds = [] }

-- a harvester that dealt so many markers, and knows nothing else
abbrev pub new_harvester : ℕ → ℕ → View
new_harvester count dealt = record (newcomer count) { dealt = dealt }

-- a marker that was just dealt
abbrev pub new_marker : ℕ → View
new_marker count = record (newcomer count) { markers = 1 }

-- the view after so many more markers were dealt
abbrev pub after_deals : ℕ → View → View
after_deals markers v = record v { dealt = v.dealt + markers }

-- the greatest round that was seen of a word
abbrev pub seen_of : ℕ → View → ℕ
seen_of word v = greatest_of word v.rounds

-- the number of words for N pages, at least 1
abbrev pub words_for : ℕ → ℕ
words_for count = max 1 (div_ceil count 32)

-- each of these pages of a word, which has this number, is below the number of pages
abbrev pub IsWordBelow : ℕ → ℕ → ℕ → Type 0
IsWordBelow count word pages = (page : ℕ) → bit_at pages page ≡ 1 → 32 * word + page < count

-- and so of each of these words
abbrev pub AreWordsBelow : ℕ → List ℕ → Type 0
AreWordsBelow count words = (word : ℕ) → IsWordBelow count word (slice_index words word)

-- the page was taken in this round of the word, or the round is open and the page is set
abbrev pub IsPage : List ℕ → List Note → ℕ → ℕ → ℕ → Type 0
IsPage words harvests word round page =
    ((round ≡ round_of (slice_index words word)) × (bit_at (set_pages (slice_index words word)) page ≡ 1))
    ⊎ IsNoted word round page harvests

-- someone marked the page of the word in this round
abbrev pub IsMarked : List View → ℕ → ℕ → ℕ → Type 0
IsMarked views word round page =
    (id : ℕ) × (v : View) × (get_elem? views id ≡ some v) × IsNoted word round page v.marks

-- what the notes of one view say is so
pub record IsTrue (words : List ℕ) (harvests : List Note) (v : View) : Type 0 where
  pub marks : (word round page : ℕ) → IsNoted word round page v.marks → IsPage words harvests word round page
  pub sightings : (word round page : ℕ) → IsNoted word round page v.sightings → IsPage words harvests word round page
  pub rounds : (word : ℕ) → seen_of word v ≤ round_of (slice_index words word)

-- the first seat has these harvests, and knows the number of pages
abbrev pub HasHarvests : ℕ → List View → List Note → Type 0
HasHarvests count views harvests =
    (v : View) × (get_elem? views 0 ≡ some v) × (v.harvests ≡ harvests) × (v.count ≡ count)

-- The rule of N pages. The first seat is the harvester's, and only it harvests. A word's round is the number
-- of its harvests, one in each round before it. What was marked or seen is in the harvest of its round or still set,
-- each page that was harvested or is set was marked in its round, and no page is set past the last
pub record IsRuled (count : ℕ) (words : List ℕ) (views : List View) : Type 0 where
  pub words_are : length words ≡ words_for count
  pub harvests : List Note
  pub first : HasHarvests count views harvests
  pub alone : (id : ℕ) (v : View) → get_elem? views id ≡ some v → id ≢ 0 → v.harvests ≡ []
  pub rounds : (word : ℕ) → rounds_of word harvests ≡ rounds_before (round_of (slice_index words word))
  pub true_of : (id : ℕ) (v : View) → get_elem? views id ≡ some v → IsTrue words harvests v
  pub marked : (word round page : ℕ) → IsPage words harvests word round page → IsMarked views word round page
  pub below : (word : ℕ) → IsWordBelow count word (set_pages (slice_index words word))

-- The first seat dealt as many markers as there are: each is counted by the one seat that has its notes. Of the other
-- seats, one that counts none has no marks
abbrev pub AreCounted : List View → Type 0
AreCounted [] = ⊥
AreCounted (v ∷ vs) =
    (v.dealt ≡ v.markers + sum_by (λ w. w.markers) vs) × All (λ w. w.markers ≡ 0 → w.marks ≡ []) vs

abbrev pub KeepsRule : ℕ → State (Unit {0}) View → Type 0
KeepsRule count s = IsRuled count s.words s.views × AreCounted s.views

-- the view after these pages of a word were marked in this round
abbrev pub after_mark : ℕ → ℕ → ℕ → View → View
after_mark word round pages v =
    record v { marks = note word round pages ∷ v.marks; rounds = note word round 0 ∷ v.rounds }

-- the view after a word was seen
abbrev pub after_look : ℕ → ℕ → View → View
after_look word found v =
    record v {
      sightings = note word (round_of found) (set_pages found) ∷ v.sightings;
      rounds = note word (round_of found) 0 ∷ v.rounds;
    }

-- the view after these pages of a word were taken in this round
abbrev pub after_harvest : ℕ → ℕ → ℕ → View → View
after_harvest word round pages v =
    record v { harvests = note word round pages ∷ v.harvests; rounds = note word (round + 1) 0 ∷ v.rounds }

-- a mark of the pages that the step was given
abbrev pub Marks : Step (Unit {0}) → Me (Unit {0}) View → ℕ → Me (Unit {0}) View → Type 0
Marks s me found after =
    (seen_of s.word me.0 ≤ round_of found) × (after ≡ (after_mark s.word (round_of found) s.first me.0, me.1))

-- a page that was marked or seen set in the round that is found is still set
abbrev pub IsStillSet : ℕ → ℕ → View → Type 0
IsStillSet word found v =
    (page : ℕ) → IsNoted word (round_of found) page v.marks ⊎ IsNoted word (round_of found) page v.sightings
    → (bit_at (set_pages found) page ≡ 1)

-- a look at a word
abbrev pub Looks : Step (Unit {0}) → Me (Unit {0}) View → ℕ → Me (Unit {0}) View → Type 0
Looks s me found after =
    (seen_of s.word me.0 ≤ round_of found) × IsStillSet s.word found me.0
    × (after ≡ (after_look s.word found me.0, me.1))

-- a harvest of a word, by whom all its harvests were
abbrev pub Harvests : Step (Unit {0}) → Me (Unit {0}) View → ℕ → Me (Unit {0}) View → Type 0
Harvests s me found after =
    (length (rounds_of s.word me.0.harvests) ≡ round_of found) × IsWordBelow me.0.count s.word (set_pages found)
    × (after ≡ (after_harvest s.word (round_of found) (set_pages found) me.0, me.1))

-- what a note of the rounds that were seen says, and no more
abbrev pub note_of : View → View
note_of v = record (newcomer 0) { rounds = v.rounds }

-- what the first of two then knows
abbrev pub both : View → View → View
both v w =
    record v {
      markers = v.markers + w.markers;
      marks = w.marks ++ v.marks;
      sightings = w.sightings ++ v.sightings;
      rounds = w.rounds ++ v.rounds;
    }

-- a mark of one page, in a round no earlier than the last that was seen of its word
abbrev pub MarksPage : ℕ → View → View → Type 0
MarksPage page v w =
    (round : ℕ) × (seen_of (page / 32) v ≤ round) × (w ≡ after_mark (page / 32) round (2 ^ (page % 32)) v)

-- a mark of N pages from the first on, ascending
abbrev pub MarksPages : ℕ → ℕ → View → View → Type 0
MarksPages zero first v w = w ≡ v
MarksPages (suc n) first v w = (u : View) × MarksPages n first v u × MarksPage (first + n) u w

-- a mark of the pages of len bytes from addr on
abbrev pub MarksRange : Paging → ℕ → ℕ → View → View → Type 0
MarksRange p addr len v w = let taken = pages_in p addr len in MarksPages (taken.1 - taken.0) taken.0 v w

-- the view after these pages of the words, from the first on, were taken in this round
abbrev pub after_harvests : ℕ → List ℕ → View → View
after_harvests round words v =
    record v {
      harvests = gathered 0 round words v.harvests;
      rounds = gathered 0 (round + 1) (map (λ _. 0) words) v.rounds;
    }

-- each of N words was harvested M times
abbrev pub AreHarvested : ℕ → ℕ → List Note → Type 0
AreHarvested words round harvests = (word : ℕ) → word < words → length (rounds_of word harvests) ≡ round

-- of each of N words, this round was seen
abbrev pub AreSeen : ℕ → ℕ → View → Type 0
AreSeen words round v = (word : ℕ) → word < words → round ≤ seen_of word v

-- the harvester saw no round but those that it opened
abbrev pub Counts : Step (Unit {0}) → Me (Unit {0}) View → ℕ → Me (Unit {0}) View → Type 0
Counts s me found after =
    ((word : ℕ) → seen_of word me.0 ≤ length (rounds_of word me.0.harvests)) × (after ≡ me)

-- the same except for the rounds that were seen
abbrev pub HasSameRecords : View → View → Type 0
HasSameRecords v w =
    (w.marks ≡ v.marks) × (w.sightings ≡ v.sightings) × (w.harvests ≡ v.harvests)
    × (w.markers ≡ v.markers) × (w.dealt ≡ v.dealt)

-- A look at a page: some round of its word is seen, no earlier than the last that was seen, with the pages that are
-- then set. If the page is reported clean, it was not marked and not seen set in that round
abbrev pub Sees : ℕ → View → View → Bool → Type 0
Sees page v w told =
    (found : ℕ) × (seen_of (page / 32) v ≤ round_of found) × (w ≡ after_look (page / 32) found v)
    × (told ≡ (bit_at (set_pages found) (page % 32) == 1))
    × (told ≡ false
    → IsNoted (page / 32) (round_of found) (page % 32) v.marks
    ⊎ IsNoted (page / 32) (round_of found) (page % 32) v.sightings → ⊥)

-- Of what is noted as marked or as seen set, each page is in the harvest of its round or, in the open round, left
abbrev pub IsLeft : View → List ℕ → Type 0
IsLeft v words =
    (word round page : ℕ) → word < length words → IsNoted word round page v.marks ⊎ IsNoted word round page v.sightings
    → IsNoted word round page v.harvests
    ⊎ ((round ≡ length (rounds_of word v.harvests)) × (bit_at (slice_index words word) page ≡ 1))

-- each marker that this harvester dealt was joined
abbrev pub HasAllMarkers : View → Type 0
HasAllMarkers v = v.markers ≡ v.dealt

-- Each page that is in a harvest or, in the open round, left, is noted as marked in its round
abbrev pub WereMarked : View → List ℕ → Type 0
WereMarked v words =
    (word round page : ℕ)
    → IsNoted word round page v.harvests
    ⊎ ((round ≡ length (rounds_of word v.harvests)) × (bit_at (slice_index words word) page ≡ 1))
    → IsNoted word round page v.marks

-- Some state keeps the rule, with this view at the harvester's seat, and these are the pages of its words, from the
-- first on
abbrev pub AreLastPages : ℕ → View → List ℕ → Type 0
AreLastPages count v words =
    (s : State (Unit {0}) View) × KeepsRule count s × (get_elem? s.views 0 ≡ some v)
    × ((word : ℕ) → word < length words → slice_index words word ≡ set_pages (slice_index s.words word))
