-- What a sender's calls do, in the words of the rounds.
use Rattle.std.specs.Prelude.{◌≡◌, ℕ, ◌+◌, ◌*◌, ◌^◌, ◌<◌, ◌≤◌, ◌⊎◌, ◌==◌, false, if◌then◌else◌, List, [], ◌∷◌, ◌++◌, length, take, drop, flat_map, slice_get, Option, Some, None}
use Rattle.std.specs.List.{AllByRecursion}
use Rattle.vm_memory_base.specs.Pages.{PageSet, Pages, cleaned, dirty_pages, marked}
use Rattle.vm_memory_base.specs.declared.bitmap.BitmapId.TheVariants.{Block}
use Rattle.vm_memory_guest.specs.Host.{Host, block_at}
use Rattle.vm_memory_guest.specs.Window.{bitmap_of, with_bitmap}
use Rattle.live_migration.specs.Frame.{IsMessage, Message, spelling}
use Rattle.live_migration.specs.Image.{are_zero, copied, one_by_one, page_bytes}
use Rattle.live_migration.specs.Rounds.{Source, taken}
use Rattle.live_migration.specs.declared.sender.pages.Target.{Target}
use Rattle.live_migration.specs.declared.sender.rounds.Rounds.{Rounds}

-- the source that a block of a host is, with these pages of its bitmap
abbrev pub source_of : {B : Type 0} → Target → Pages → Host B → Source
source_of t pages host = record { bytes = block_at host.blocks t.block.0; pages = pages }

-- a block's bitmap tracks all of it, in pages of the size that the header says
pub record IsTracked {B : Type 0} (pages_of : B → PageSet) (t : Target) (host : Host B) : Type 0 where
  pub bitmap : B
  pub tracked : Pages
  pub was : bitmap_of host (Block t.block.0) ≡ Some bitmap
  pub dirty : pages_of bitmap ≡ Some tracked
  pub size : tracked.page_size ≡ t.entry.page_size
  pub some : 0 < t.entry.page_size
  pub covers : length (block_at host.blocks t.block.0) ≤ length tracked.flags * tracked.page_size

-- the dirty pages of a block were taken, and none of it is dirty then. Nothing else changed
pub record Harvests {B : Type 0} (pages_of : B → PageSet) (block : ℕ) (pages : List ℕ) (old new : Host B) : Type 0 where
  pub before : B
  pub after : B
  pub was : bitmap_of old (Block block) ≡ Some before
  pub pages_are : pages ≡ dirty_pages (pages_of before)
  pub clean : pages_of after ≡ cleaned (pages_of before)
  pub is : new ≡ with_bitmap old (Block block) after

-- the pages of a block were taken, and none of it is dirty then. Nothing else changed
pub record TakesPages {B : Type 0} (pages_of : B → PageSet) (t : Target) (round : ℕ) (pages : List ℕ) (old new : Host B)
    : Type 0 where
  pub before : B
  pub after : B
  pub tracked : Pages
  pub was : bitmap_of old (Block t.block.0) ≡ Some before
  pub dirty : pages_of before ≡ Some tracked
  pub size : tracked.page_size ≡ t.entry.page_size
  pub pages_are : pages ≡ taken round (source_of t tracked old)
  pub clean : pages_of after ≡ cleaned (Some tracked)
  pub is : new ≡ with_bitmap old (Block t.block.0) after

-- the pages of the next block of the round were taken, and wait to be copied
pub record HarvestsNext {B : Type 0} (pages_of : B → PageSet) (old new : Rounds) (host next : Host B) : Type 0 where
  pub target : Target
  pub there : slice_get old.targets.items old.turn ≡ Some target
  pub idle : length old.waiting.items ≤ old.next
  pub takes : TakesPages pages_of target old.round new.waiting.items host next
  pub start : new.next ≡ 0
  pub turn : new.turn ≡ old.turn + 1
  pub last : new.last ≡ old.turn
  pub same : (new.targets ≡ old.targets) × (new.round ≡ old.round) × (new.batch ≡ old.batch)

-- pages of a block still wait, or the round has no more blocks
abbrev pub IsBusy : Rounds → Type 0
IsBusy r = (r.next < length r.waiting.items) ⊎ (length r.targets.items ≤ r.turn)

-- there is no block whose pages wait, or none that a frame can name
abbrev pub NoneHarvested : Rounds → Type 0
NoneHarvested r = (length r.targets.items ≤ r.last) ⊎ (2 ^ 32 ≤ r.last)

-- the size of the pages of a target
abbrev pub page_size_of : Option Target → ℕ
page_size_of (Some t) = t.entry.page_size
page_size_of None = 0

abbrev pub page_size_at : List Target → ℕ → ℕ
page_size_at ts j = page_size_of (slice_get ts j)

-- a block has this page, and a byte of it is not zero
pub record IsWrittenPage (size : ℕ) (bytes : List ℕ) (page : ℕ) : Type 0 where
  pub within : page * size < length bytes
  pub written : are_zero (page_bytes size page bytes) ≡ false

-- pages that follow one another from this on, and have bytes that are not zero
abbrev pub IsRun : ℕ → List ℕ → ℕ → List ℕ → Type 0
IsRun size bytes first [] = Unit {0}
IsRun size bytes first (page ∷ pages) =
    (page ≡ first) × IsWrittenPage size bytes first × IsRun size bytes (first + 1) pages

-- Pages of a block were put after other bytes, in messages of one page or of several that follow one another: one by
-- one these are what is sent of each page
pub record CopiesRuns (size number : ℕ) (bytes pages old new : List ℕ) : Type 0 where
  pub messages : List Message
  pub fit : AllByRecursion IsMessage messages
  pub spelled : new ≡ old ++ flat_map spelling messages
  pub copies : (sizes : ℕ → ℕ) → sizes number ≡ size
      → flat_map (one_by_one sizes) messages ≡ flat_map (copied size number bytes) pages

-- a number of pages that waited were copied after what waits to be sent. They have at most 2^20 bytes
pub record CopiesPages {B : Type 0} (count : ℕ) (old new : Rounds) (host : Host B) : Type 0 where
  pub target : Target
  pub there : slice_get old.targets.items old.last ≡ Some target
  pub inside : old.next + count ≤ length old.waiting.items
  pub next : new.next ≡ old.next + count
  pub most : count * target.entry.page_size ≤ 2 ^ 20
  pub batch : CopiesRuns target.entry.page_size old.last (block_at host.blocks target.block.0)
      (take count (drop old.next old.waiting.items)) old.batch.items new.batch.items
  pub same : (new.targets ≡ old.targets) × (new.round ≡ old.round) × (new.waiting ≡ old.waiting)
      × (new.turn ≡ old.turn) × (new.last ≡ old.last)

-- nothing waits to be copied or sent
abbrev pub IsIdle : Rounds → Type 0
IsIdle r = (length r.waiting.items ≤ r.next) × (r.batch.items ≡ [])

-- each block of a round was harvested, nothing waits, and one more round has a number
abbrev pub IsThrough : Rounds → Type 0
IsThrough r = IsIdle r × (r.turn ≡ length r.targets.items) × (r.round + 1 < 2 ^ 32)

-- the host has a target's block, as long as at the beginning
abbrev pub IsAsItWas : {B : Type 0} → Target → Host B → Type 0
IsAsItWas t host = (t.block.0 < length host.blocks) × (length (block_at host.blocks t.block.0) ≡ t.entry.len)

-- len bytes of a block were marked, from the first on. Nothing else changed
pub record MarksBlock {B : Type 0} (pages_of : B → PageSet) (block len : ℕ) (old new : Host B) : Type 0 where
  pub before : B
  pub after : B
  pub was : bitmap_of old (Block block) ≡ Some before
  pub dirty : pages_of after ≡ marked 0 len (pages_of before)
  pub is : new ≡ with_bitmap old (Block block) after

-- all pages of a target are dirty again, if the host has it as it was
abbrev pub IsMarkedAgain : {B : Type 0} → (B → PageSet) → Target → Host B → Host B → Type 0
IsMarkedAgain pages_of t old new =
    MarksBlock pages_of t.block.0 t.entry.len old new ⊎ ((new ≡ old) × (IsAsItWas t old → ⊥))

-- and so of targets, one after the other
abbrev pub AreMarkedAgain : {B : Type 0} → (B → PageSet) → List Target → Host B → Host B → Type 0
AreMarkedAgain pages_of [] old new = new ≡ old
AreMarkedAgain {B} pages_of (t ∷ ts) old new =
    (mid : Host B) × IsMarkedAgain pages_of t old mid × AreMarkedAgain pages_of ts mid new

-- the targets of which pages were harvested
abbrev pub harvested : Rounds → List Target
harvested r = if r.round == 0 then take r.turn r.targets.items else r.targets.items
