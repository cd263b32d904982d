-- What a receiver took from its stream.
use Rattle.std.specs.Prelude.{◌≡◌, ℕ, ◌+◌, ◌<◌, ◌≤◌, ◌⊎◌, Bool, List, [], ◌∷◌, ◌++◌, length, map, flat_map, replicate, slice_get, sum_by, take, Option, Some, Ok}
use Rattle.std.specs.List.{AllByRecursion}
use Rattle.std.specs.Io.KnownBytes.{Appends, Consumes}
use Rattle.vm_memory_guest.specs.Host.{Host, block_at, shape_of}
use Rattle.live_migration.specs.Digests.{HasNoted, digest_of}
use Rattle.live_migration.specs.Frame.{Message, Pages, RoundEnd, Section, IsMessage, spelling}
use Rattle.live_migration.specs.Header.{IsHeader, header_bytes}
use Rattle.live_migration.specs.Image.{arrived}
use Rattle.live_migration.specs.Placing.{Applies, IsInside, MarksChanged, MarksPages}
use Rattle.live_migration.specs.Replies.{replies_to}
use Rattle.live_migration.specs.Stages.{stage_after, stage_after_all}
use Rattle.live_migration.specs.declared.header.BlockEntry.{BlockEntry}
use Rattle.live_migration.specs.declared.receiver.Stage.TheVariants as stage
use Rattle.live_migration.specs.declared.refusal.Refusal.{Refusal}
use Rattle.live_migration.specs.declared.refusal.Refusal.TheVariants as refusal
use Rattle.live_migration.specs.declared.receiver.end.Guest.{Guest}
use Rattle.live_migration.specs.declared.receiver.progress.Progress.{Progress}

-- the end of a round has the round's number, and the digest of all that was sent before it if digests are asked for
abbrev pub IsRightEnd : Bool → ℕ → List ℕ → Message → Type 0
IsRightEnd digests round sent (RoundEnd r digest) = (r ≡ round) × (digest ≡ digest_of digests sent)
IsRightEnd digests round sent m = Unit {0}

-- the number of the round that is next, after a message
abbrev pub round_after : ℕ → Message → ℕ
round_after round (RoundEnd r digest) = round + 1
round_after round m = round

-- blocks of zeros
abbrev pub zeroed : List BlockEntry → List (List ℕ)
zeroed entries = map (λ e. replicate e.len 0) entries

-- the names and the bytes of the sections that came
abbrev pub sections_told : Progress → List (List ℕ × List ℕ)
sections_told p = map (λ s. (s.name.items, s.bytes.items)) p.sections.items

-- the section that a message has, if it has one
abbrev pub section_in : Message → List (List ℕ × List ℕ)
section_in (Section name bytes) = (name, bytes) ∷ []
section_in m = []

-- what a section costs of the limit: its name, its bytes, and 256 bytes for its entry, however short these are
abbrev pub cost_of : List ℕ × List ℕ → ℕ
cost_of s = 256 + (length s.0 + length s.1)

-- each of these bitmaps was made for the length of its block
abbrev pub AreMadeFor : {B : Type 0} → (ℕ → B → Type 0) → List BlockEntry → List B → Type 0
AreMadeFor made [] [] = Unit {0}
AreMadeFor made [] (b ∷ bs) = ⊥
AreMadeFor made (e ∷ es) [] = ⊥
AreMadeFor made (e ∷ es) (b ∷ bs) = made e.len b × AreMadeFor made es bs

-- Blocks of zeros came after those that a host had, each with a bitmap that was made for its length. Nothing else
-- changed
pub record MakesBlocks {B : Type 0} (made : ℕ → B → Type 0) (entries : List BlockEntry) (old new : Host B) : Type 0
  where
    pub bitmaps : List B
    pub made_for : AreMadeFor made entries bitmaps
    pub is : new ≡ record old { blocks = old.blocks ++ zeroed entries; bitmaps = old.bitmaps ++ bitmaps }

-- what blocks cost of the limit: their bytes
abbrev pub memory_of : List BlockEntry → ℕ
memory_of entries = sum_by (λ e. e.len) entries

-- only sections came, and took of what is allowed
pub record IsSectionKept (old new : Progress) : Type 0 where
  pub base : new.base ≡ old.base
  pub entries : new.entries.items ≡ old.entries.items
  pub stage : new.stage ≡ old.stage
  pub round : new.round ≡ old.round
  pub hasher : new.hasher ≡ old.hasher

-- a frame was read and done
pub record TakesFrame {B : Type 0} (marks : B → ℕ → ℕ → B → Type 0) (before after : Option (List ℕ))
    (old new : Progress) (host next : Host B) : Type 0
  where
    pub message : Message
    pub fits : IsMessage message
    pub consumed : Consumes before after (spelling message)
    pub inside : IsInside old.entries.items message
    pub applied : Applies old.base old.entries.items message host next
    pub marked : MarksChanged marks old.base old.entries.items message host next
    pub stage : stage_after old.stage message ≡ Ok new.stage
    pub base : new.base ≡ old.base
    pub entries : new.entries.items ≡ old.entries.items
    pub round : new.round ≡ round_after old.round message
    pub sections : sections_told new ≡ sections_told old ++ section_in message
    pub left : new.left + sum_by cost_of (section_in message) ≡ old.left
    pub right : (digests : Bool) (sent : List ℕ) → HasNoted digests old.hasher sent
        → IsRightEnd digests old.round sent message
    pub hashed : (digests : Bool) (sent : List ℕ) → HasNoted digests old.hasher sent
        → HasNoted digests new.hasher (sent ++ spelling message)

-- a header was read, and its blocks were made. What they do not cost of the limit is left for sections
pub record Begins {B : Type 0} (made : ℕ → B → Type 0) (limit : ℕ) (before after : Option (List ℕ)) (new : Progress)
    (host next : Host B) : Type 0
  where
    pub digests : Bool
    pub header : IsHeader limit new.entries.items
    pub consumed : Consumes before after (header_bytes digests new.entries.items)
    pub blocks : MakesBlocks made new.entries.items host next
    pub base : 0 < length new.entries.items → new.base ≡ length host.blocks
    pub stage : new.stage ≡ stage.Round
    pub round : new.round ≡ 0
    pub left : new.left + memory_of new.entries.items ≡ limit
    pub hashed : HasNoted digests new.hasher (header_bytes digests new.entries.items)

-- an allocation failed after a header was read, when some of its blocks had been made
pub record BreaksMaking {B : Type 0} (made : ℕ → B → Type 0) (limit : ℕ) (before after : Option (List ℕ))
    (error : Refusal) (old new : Host B) : Type 0
  where
    pub digests : Bool
    pub entries : List BlockEntry
    pub header : IsHeader limit entries
    pub consumed : Consumes before after (header_bytes digests entries)
    pub count : ℕ
    pub blocks : MakesBlocks made (take count entries) old new
    pub memory : error ≡ refusal.Memory

-- a message that may tell nothing: pages with bytes always tell something
abbrev pub MayTellNothing : Message → Type 0
MayTellNothing (Pages block first bytes) = ⊥
MayTellNothing m = Unit {0}

-- the pages of messages were marked, one message after the other, except where a message told nothing
abbrev pub MarksAllPages : {B : Type 0} → (B → ℕ → ℕ → B → Type 0) → ℕ → List BlockEntry → List Message → List B
    → List B → Type 0
MarksAllPages marks base entries [] old new = new ≡ old
MarksAllPages {B} marks base entries (m ∷ ms) old new = (mid : List B)
    × ((MayTellNothing m × (mid ≡ old)) ⊎ MarksPages marks base entries m old mid) × MarksAllPages marks base entries ms mid new

-- Messages came, one after the other, with pages inside their blocks: each block is the image that they leave, and its
-- pages that came are marked. No other block and no other bitmap changed, no block its length, no space and no table
pub record ReceivesAll {B : Type 0} (marks : B → ℕ → ℕ → B → Type 0) (before after : Option (List ℕ)) (base : ℕ)
    (entries : List BlockEntry) (host next : Host B) : Type 0 where
  pub messages : List Message
  pub fit : AllByRecursion IsMessage messages
  pub inside : AllByRecursion (IsInside entries) messages
  pub consumed : Consumes before after (flat_map spelling messages)
  pub images : (j : ℕ) (e : BlockEntry) → slice_get entries j ≡ Some e
      → block_at next.blocks (base + j) ≡ arrived e.page_size j messages (block_at host.blocks (base + j))
  pub others : (c : ℕ) → (c < base) ⊎ (base + length entries ≤ c) → block_at next.blocks c ≡ block_at host.blocks c
  pub shape : shape_of next ≡ shape_of host
  pub spaces : next.spaces ≡ host.spaces
  pub tables : next.tables ≡ host.tables
  pub marked : MarksAllPages marks base entries messages host.bitmaps next.bitmaps
  pub bitmaps : (c : ℕ) → (c < base) ⊎ (base + length entries ≤ c)
      → slice_get next.bitmaps c ≡ slice_get host.bitmaps c

-- the blocks of a receiver stay the same, these messages came in their order, and their sections, each at its cost
pub record KeepsBlocks (messages : List Message) (old new : Progress) : Type 0 where
  pub base : new.base ≡ old.base
  pub entries : new.entries.items ≡ old.entries.items
  pub stage : stage_after_all old.stage messages ≡ Ok new.stage
  pub sections : sections_told new ≡ sections_told old ++ flat_map section_in messages
  pub left : new.left + sum_by cost_of (flat_map section_in messages) ≡ old.left

module _ {B : Type 0} (marks : B → ℕ → ℕ → B → Type 0) (before : Option (List ℕ)) (old : Progress) (host next : Host B)
    (sent now : Option (List ℕ))
  where
    -- messages came up to the end, and the replies that they call for were sent
    abbrev pub Receives : Option (List ℕ) → Progress → Type 0
    Receives after new = (r : ReceivesAll marks before after old.base old.entries.items host next)
        × KeepsBlocks r.messages old new × Appends sent now (replies_to r.messages)

    -- messages came up to one that was refused, and of the replies that they call for a beginning was sent
    pub record BreaksReceiving : Type 0 where
      pub after : Option (List ℕ)
      pub reached : Progress
      pub came : ReceivesAll marks before after old.base old.entries.items host next
      pub kept : KeepsBlocks came.messages old reached
      pub count : ℕ
      pub replied : Appends sent now (take count (replies_to came.messages))

-- what a receiver gives out
pub record GivesOut (old : Progress) (new : Guest) : Type 0 where
  pub stage : old.stage ≡ stage.Gone
  pub base : new.base ≡ old.base
  pub entries : new.entries ≡ old.entries
  pub sections : new.sections ≡ old.sections
