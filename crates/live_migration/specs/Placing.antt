-- What a message leaves of the host that receives it.
use Rattle.std.specs.Prelude.{◌≡◌, ℕ, ◌+◌, ◌-◌, ◌*◌, ◌%◌, ◌<◌, ◌≤◌, ◌⊎◌, true, List, length, min, slice_get, Some}
use Rattle.vm_memory_guest.specs.Host.{Host, block_at, shape_of}
use Rattle.vm_memory_guest.specs.Window.{MarksOne}
use Rattle.live_migration.specs.Frame.{Message, Pages, ZeroPage}
use Rattle.live_migration.specs.Image.{are_zero, page_bytes, placed, received}
use Rattle.live_migration.specs.declared.header.BlockEntry.{BlockEntry}

-- pages lie in a block of a header, as whole pages or up to its end
pub record LieIn (e : BlockEntry) (first count : ℕ) : Type 0 where
  pub some : 0 < count
  pub within : first * e.page_size + count ≤ e.len
  pub whole : (count % e.page_size ≡ 0) ⊎ (first * e.page_size + count ≡ e.len)

-- what a message has of pages lies in its block, which is one of these
abbrev pub IsInside : List BlockEntry → Message → Type 0
IsInside entries (Pages block first bytes) =
    (e : BlockEntry) × (slice_get entries block ≡ Some e) × LieIn e first (length bytes)
IsInside entries (ZeroPage block page) =
    (e : BlockEntry) × (slice_get entries block ≡ Some e) × (page * e.page_size < e.len)
IsInside entries m = Unit {0}

-- these bytes came into a block, from a place on, and nothing else changed but bitmaps
pub record HasPlaced {B : Type 0} (old new : Host B) (block at : ℕ) (bytes : List ℕ) : Type 0 where
  pub block_is : block_at new.blocks block ≡ placed at bytes (block_at old.blocks block)
  pub others : (c : ℕ) → (c ≡ block → ⊥) → block_at new.blocks c ≡ block_at old.blocks c
  pub shape : shape_of new ≡ shape_of old
  pub spaces : new.spaces ≡ old.spaces
  pub tables : new.tables ≡ old.tables

-- a message that says of a page that is zero that it is, or that is about no page
abbrev pub TellsNothing : {B : Type 0} → ℕ → List BlockEntry → Message → Host B → Type 0
TellsNothing base entries (Pages block first bytes) host = ⊥
TellsNothing base entries (ZeroPage block page) host = (e : BlockEntry) × (slice_get entries block ≡ Some e)
    × (are_zero (page_bytes e.page_size page (block_at host.blocks (base + block))) ≡ true)
TellsNothing base entries m host = Unit {0}

-- A message to a receiver whose blocks are those of a host from base on: each block is the image that the message
-- leaves, no other block changed, no block its length, no space and no table. If it tells nothing, nothing changes, and
-- no mark either
pub record Applies {B : Type 0} (base : ℕ) (entries : List BlockEntry) (m : Message) (old new : Host B) : Type 0 where
  pub images : (j : ℕ) (e : BlockEntry) → slice_get entries j ≡ Some e
      → block_at new.blocks (base + j) ≡ received e.page_size j m (block_at old.blocks (base + j))
  pub others : (c : ℕ) → (c < base) ⊎ (base + length entries ≤ c) → block_at new.blocks c ≡ block_at old.blocks c
  pub shape : shape_of new ≡ shape_of old
  pub spaces : new.spaces ≡ old.spaces
  pub tables : new.tables ≡ old.tables
  pub same : TellsNothing base entries m old → new ≡ old

-- the pages of a message were marked in the bitmap of their block, and no other bitmap changed
abbrev pub MarksPages : {B : Type 0} → (B → ℕ → ℕ → B → Type 0) → ℕ → List BlockEntry → Message → List B → List B
    → Type 0
MarksPages marks base entries (Pages block first bytes) old new = (e : BlockEntry) × (slice_get entries block ≡ Some e)
    × MarksOne marks (base + block) (first * e.page_size) (length bytes) old new
MarksPages marks base entries (ZeroPage block page) old new = (e : BlockEntry) × (slice_get entries block ≡ Some e)
    × MarksOne marks (base + block) (page * e.page_size) (min e.page_size (e.len - page * e.page_size)) old new
MarksPages marks base entries m old new = ⊥

-- what a message changes is marked, unless it tells nothing
abbrev pub MarksChanged : {B : Type 0} → (B → ℕ → ℕ → B → Type 0) → ℕ → List BlockEntry → Message → Host B → Host B
    → Type 0
MarksChanged marks base entries m old new =
    TellsNothing base entries m old ⊎ MarksPages marks base entries m old.bitmaps new.bitmaps
