-- Pages as bits of words, as a `TrackedBitmap` gives them: page n is bit n % 32 of word n / 32.
use Rattle.std.specs.Prelude.{◌≡◌, ℕ, ◌+◌, ◌/◌, ◌%◌, ◌≤◌, Bool, ◌==◌, if◌then◌else◌, List, [], ◌∷◌, length, filter, slice_get, slice_index, Some}
use Rattle.std.specs.Int.{bit_at, div_ceil}
use Rattle.vm_memory_base.specs.Address.{numbers}
use Rattle.vm_memory_base.specs.Notes.{Note, gathered}
use Rattle.live_migration.specs.declared.header.BlockEntry.{BlockEntry}
use Rattle.live_migration.specs.declared.sender.pages.Target.{Target}
use Rattle.live_migration.specs.declared.sender.rounds.Rounds.{Rounds}

-- how many pages a block has
abbrev pub pages_in : BlockEntry → ℕ
pages_in e = div_ceil e.len e.page_size

-- whether the bit of a page is set
abbrev pub is_set : List ℕ → ℕ → Bool
is_set words page = bit_at (slice_index words (page / 32)) (page % 32) == 1

-- those of N pages whose bits are set
abbrev pub pages_set : ℕ → List ℕ → List ℕ
pages_set count words = filter (is_set words) (numbers 0 count)

-- the pages of a block that a harvest takes: in the first round all, whoever harvested before
abbrev pub taken_by : BlockEntry → ℕ → List ℕ → List ℕ
taken_by e round words = if round == 0 then numbers 0 (pages_in e) else pages_set (pages_in e) words

-- the pages of the next block of the round were taken, and wait to be copied
pub record TakesWords (words : List ℕ) (old new : Rounds) : Type 0 where
  pub target : Target
  pub there : slice_get old.targets.items old.turn ≡ Some target
  pub idle : length old.waiting.items ≤ old.next
  pub count : length words ≡ div_ceil (pages_in target.entry) 32
  pub pages : new.waiting.items ≡ taken_by target.entry old.round words
  pub start : new.next ≡ 0
  pub turn : new.turn ≡ old.turn + 1
  pub last : new.last ≡ old.turn
  pub same : (new.targets ≡ old.targets) × (new.round ≡ old.round) × (new.batch ≡ old.batch)

-- what is noted of harvests, of each its round and its words, the last of them first
abbrev pub noted : List (ℕ × List ℕ) → List Note
noted [] = []
noted (h ∷ hs) = gathered 0 h.0 h.1 (noted hs)
