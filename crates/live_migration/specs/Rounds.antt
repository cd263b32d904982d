-- The rounds of a migration: what its two ends have, and what becomes of it while the guest is written.
use Rattle.std.specs.Prelude.{◌≡◌, ℕ, ◌+◌, ◌/◌, ◌<◌, ◌⊎◌, Bool, true, false, ◌&&◌, ◌||◌, ◌==◌, if◌then◌else◌, nat_lt, nat_le, List, [], ◌∷◌, ◌++◌, length, take, drop, replicate, slice_index, slice_index_or, Some}
use Rattle.std.specs.Int.{div_ceil}
use Rattle.std.specs.List.{list_any, flat_map}
use Rattle.vm_memory_base.specs.Address.{numbers}
use Rattle.vm_memory_base.specs.Pages.{Pages, is_dirty_at, dirty_pages}
use Rattle.live_migration.specs.Frame.{Message}
use Rattle.live_migration.specs.Image.{arrived, carries, copied}

-- a block of the sender: its bytes, and which of its pages are dirty
pub record Source : Type 0 where
  pub bytes : List ℕ
  pub pages : Pages

-- What the two ends have. Of each block, by its number, the sender has a source and the receiver an image. In this
-- round N blocks were harvested. Pages of the last of them wait to be copied, and what was copied waits to be
-- sent
pub record Ends : Type 0 where
  pub count : ℕ
  pub sources : ℕ → Source
  pub images : ℕ → List ℕ
  pub round : ℕ
  pub turn : ℕ
  pub last : ℕ
  pub waiting : List ℕ
  pub batch : List Message

abbrev pub size_of : Ends → ℕ → ℕ
size_of s block = (s.sources block).pages.page_size

abbrev pub with_at : {X : Type 0} → (ℕ → X) → ℕ → X → ℕ → X
with_at f i x j = if j == i then x else f j

-- the pages that a harvest takes: in the first round all, whoever harvested before
abbrev pub taken : ℕ → Source → List ℕ
taken round x = if round == 0 then numbers 0 (div_ceil (length x.bytes) x.pages.page_size)
    else dirty_pages (Some x.pages)

-- a block of which no page is dirty
abbrev pub clean : Source → Source
clean x = record x { pages = record x.pages { flags = replicate (length x.pages.flags) false } }

-- a round harvests each block once, in order, and no block while pages of another wait
abbrev pub may_harvest : Ends → Bool
may_harvest s = length s.waiting == 0 && nat_lt s.turn s.count

abbrev pub after_harvest : Ends → Ends
after_harvest s = record s {
  sources = with_at s.sources s.turn (clean (s.sources s.turn));
  turn = s.turn + 1;
  last = s.turn;
  waiting = taken s.round (s.sources s.turn);
}

-- the first pages that wait are copied, as they are now
abbrev pub after_copy : ℕ → Ends → Ends
after_copy n s = record s {
  waiting = drop n s.waiting;
  batch = s.batch
      ++ flat_map (copied (size_of s s.last) s.last (s.sources s.last).bytes) (take n s.waiting);
}

abbrev pub after_send : Ends → Ends
after_send s = record s {
  images = λ block. arrived (size_of s block) block s.batch (s.images block);
  batch = [];
}

abbrev pub is_round_over : Ends → Bool
is_round_over s = s.turn == s.count && (length s.waiting == 0 && length s.batch == 0)

abbrev pub after_round : Ends → Ends
after_round s = record s { round = s.round + 1; turn = 0 }

-- a block is written, the next block is harvested, pages are copied, what was copied is sent, a round ends
pub data Event : Type 0 where
  Write : (block : ℕ) (source : Source) → Event
  Harvest : Event
  Copy : (count : ℕ) → Event
  Send : Event
  EndRound : Event

abbrev pub after : Event → Ends → Ends
after (Write block source) s = record s { sources = with_at s.sources block source }
after Harvest s = if may_harvest s then after_harvest s else s
after (Copy n) s = after_copy n s
after Send s = after_send s
after EndRound s = if is_round_over s then after_round s else s

-- a block after writes that leave each page dirty of which they changed a byte, and make no page clean
pub record IsWritten (old new : Source) : Type 0 where
  pub size : new.pages.page_size ≡ old.pages.page_size
  pub len : length new.bytes ≡ length old.bytes
  pub bytes : (k : ℕ) → k < length old.bytes → is_dirty_at (Some new.pages) k ≡ false
      → slice_index new.bytes k ≡ slice_index old.bytes k
  pub dirt : (k : ℕ) → is_dirty_at (Some old.pages) k ≡ true → is_dirty_at (Some new.pages) k ≡ true

-- an event that may come: writes mark what they change
abbrev pub May : Event → Ends → Type 0
May (Write block source) s = IsWritten (s.sources block) source
May e s = Unit {0}

-- an event that leaves the guest's memory as it is
abbrev pub IsStill : Event → Type 0
IsStill (Write block source) = ⊥
IsStill e = Unit {0}

-- what comes of events, one after the other
unfoldable pub story : List Event → Ends → Ends
story [] s = s
story (e ∷ es) s = story es (after e s)

unfoldable pub AllMay : List Event → Ends → Type 0
AllMay [] s = Unit {0}
AllMay (e ∷ es) s = May e s × AllMay es (after e s)

unfoldable pub AllStill : List Event → Type 0
AllStill [] = Unit {0}
AllStill (e ∷ es) = IsStill e × AllStill es

-- before the first round: images are as long as their blocks, and nothing was taken
pub record IsBeginning (s : Ends) : Type 0 where
  pub round : s.round ≡ 0
  pub turn : s.turn ≡ 0
  pub waiting : s.waiting ≡ []
  pub batch : s.batch ≡ []
  pub sized : (block : ℕ) → block < s.count → 0 < size_of s block
  pub long : (block : ℕ) → block < s.count → length (s.images block) ≡ length (s.sources block).bytes

-- a page of a block that the next harvest takes: it is dirty, or in the first round its block was not harvested yet
abbrev pub is_fresh : Ends → ℕ → Bool
is_fresh s block = s.round == 0 && nat_le s.turn block

abbrev pub is_due : Ends → ℕ → ℕ → Bool
is_due s block page = is_fresh s block || slice_index_or (s.sources block).pages.flags page false

-- it waits to be copied
abbrev pub waits : Ends → ℕ → ℕ → Bool
waits s block page = s.last == block && list_any (λ p. page == p) s.waiting

-- it was copied, and waits to be sent
abbrev pub is_batched : Ends → ℕ → ℕ → Bool
is_batched s block page = list_any (carries (size_of s block) block page) s.batch

-- its bytes are equal at both ends
abbrev pub IsEqual : Ends → ℕ → ℕ → Type 0
IsEqual s block page = (k : ℕ) → k < length (s.sources block).bytes → k / size_of s block ≡ page
    → slice_index (s.images block) k ≡ slice_index (s.sources block).bytes k

-- the page is not lost
abbrev pub IsKept : Ends → ℕ → ℕ → Type 0
IsKept s block page = (is_due s block page ≡ true)
    ⊎ ((waits s block page ≡ true) ⊎ ((is_batched s block page ≡ true) ⊎ IsEqual s block page))

-- a round was gone through to its end
pub record IsThrough (s : Ends) : Type 0 where
  pub turn : s.turn ≡ s.count
  pub waiting : s.waiting ≡ []
  pub batch : s.batch ≡ []
