-- Histories of a packed queue: the driver makes chains available and takes used ones, and the device pops chains and
-- returns them, in any order.
use Rattle.std.specs.Prelude.{ℕ, zero, suc, ◌+◌, ◌<◌, ◌≤◌, ◌==◌, Bool, true, false, not, ◌&&◌, if◌then◌else◌, List, [], ◌∷◌, ◌++◌, sum_by, Option, Some, None}
use Rattle.virtio_queue.specs.Packed.{beginning, moved}
use Rattle.virtio_queue.specs.declared.packed.state.PackedBuffer.{PackedBuffer}
use Rattle.virtio_queue.specs.declared.packed.position.RingPosition.{RingPosition}

-- a chain that was returned: its id and slots, and how many bytes the device wrote
pub record Entry : Type 0 where
  pub buffer : PackedBuffer
  pub len : ℕ

-- what lies in a slot: AVAIL and USED, and the chain that begins there, with a length if it was returned there
pub record Cell : Type 0 where
  pub avail : Bool
  pub used : Bool
  pub entry : Entry

-- a ring, and where its sides stand: the driver with what it makes available and what it takes, and the device with
-- what it pops and what it returns
pub record Ring : Type 0 where
  pub cells : ℕ → Cell
  pub publishes : RingPosition
  pub pops : RingPosition
  pub returns : RingPosition
  pub takes : RingPosition

-- what happened: the chains that were made available and those that were popped, the entries that were returned and
-- those that were taken, each in order; and the ring by then
pub record Story : Type 0 where
  pub ring : Ring
  pub published : List PackedBuffer
  pub popped : List PackedBuffer
  pub returned : List Entry
  pub taken : List Entry

-- the driver makes a chain available, the device pops one, the device returns one, the driver takes one
pub data Event : Type 0 where
  Publish : (buffer : PackedBuffer) → Event
  Pop : Event
  Return : (entry : Entry) → Event
  Take : Event

-- how many slots chains and entries have
abbrev pub slots_of : List PackedBuffer → ℕ
slots_of buffers = sum_by (λ b. b.slots) buffers

abbrev pub entry_slots : List Entry → ℕ
entry_slots entries = sum_by (λ e. e.buffer.slots) entries

-- slots with another value in one
abbrev pub with_cell : (ℕ → Cell) → ℕ → Cell → ℕ → Cell
with_cell cells i x j = if j == i then x else cells j

-- a slot that is given to the device, or to the driver, at a wrap counter
abbrev pub available_cell : Bool → PackedBuffer → Cell
available_cell wrap buffer =
    record { avail = wrap; used = not wrap; entry = record { buffer = buffer; len = 0 } }

abbrev pub used_cell : Bool → Entry → Cell
used_cell wrap entry = record { avail = wrap; used = wrap; entry = entry }

-- whether a slot is available, or used, at a wrap counter
abbrev pub has : Bool → Bool → Bool
has true wrap = wrap
has false wrap = not wrap

abbrev pub is_available_cell : Cell → Bool → Bool
is_available_cell c wrap = has c.avail wrap && not (has c.used wrap)

abbrev pub is_used_cell : Cell → Bool → Bool
is_used_cell c wrap = has c.avail wrap && has c.used wrap

module _ (size : ℕ) where
  -- the slots of a chain hold it from a position on
  unfoldable pub with_chain : PackedBuffer → ℕ → RingPosition → (ℕ → Cell) → ℕ → Cell
  with_chain buffer zero p cells = cells
  with_chain buffer (suc n) p cells =
      with_chain buffer n (moved size p 1) (with_cell cells p.slot (available_cell p.wrap buffer))

  -- the chain that is popped next, and the entry that is taken next
  abbrev pub chain_to_pop : Ring → Option PackedBuffer
  chain_to_pop r = let c = r.cells r.pops.slot in
      if is_available_cell c r.pops.wrap then Some c.entry.buffer else None

  abbrev pub entry_to_take : Ring → Option Entry
  entry_to_take r = let c = r.cells r.takes.slot in
      if is_used_cell c r.takes.wrap then Some c.entry else None

  abbrev pub after_publish : PackedBuffer → Story → Story
  after_publish buffer s = record s {
    ring = record s.ring {
      cells = with_chain buffer buffer.slots s.ring.publishes s.ring.cells;
      publishes = moved size s.ring.publishes buffer.slots;
    };
    published = s.published ++ buffer ∷ [];
  }

  abbrev pub after_pop : Option PackedBuffer → Story → Story
  after_pop None s = s
  after_pop (Some buffer) s = record s {
    ring = record s.ring { pops = moved size s.ring.pops buffer.slots };
    popped = s.popped ++ buffer ∷ [];
  }

  abbrev pub after_return : Entry → Story → Story
  after_return entry s = record s {
    ring = record s.ring {
      cells = with_cell s.ring.cells s.ring.returns.slot (used_cell s.ring.returns.wrap entry);
      returns = moved size s.ring.returns entry.buffer.slots;
    };
    returned = s.returned ++ entry ∷ [];
  }

  abbrev pub after_take : Option Entry → Story → Story
  after_take None s = s
  after_take (Some entry) s = record s {
    ring = record s.ring { takes = moved size s.ring.takes entry.buffer.slots };
    taken = s.taken ++ entry ∷ [];
  }

  abbrev pub after : Event → Story → Story
  after (Publish buffer) s = after_publish buffer s
  after Pop s = after_pop (chain_to_pop s.ring) s
  after (Return entry) s = after_return entry s
  after Take s = after_take (entry_to_take s.ring) s

  -- an event that may come: chains take a slot or more, the driver has at most the ring's slots out, and the device
  -- returns no more slots than it popped
  abbrev pub May : Event → Story → Type 0
  May (Publish buffer) s = (0 < buffer.slots) × (slots_of s.published + buffer.slots ≤ entry_slots s.taken + size)
  May Pop s = Unit {0}
  May (Return entry) s = (0 < entry.buffer.slots)
      × (entry_slots s.returned + entry.buffer.slots ≤ slots_of s.popped)
  May Take s = Unit {0}

  -- what comes of events, one after the other
  unfoldable pub story : List Event → Story → Story
  story [] s = s
  story (e ∷ es) s = story es (after e s)

  unfoldable pub AllMay : List Event → Story → Type 0
  AllMay [] s = Unit {0}
  AllMay (e ∷ es) s = May e s × AllMay es (after e s)

-- before the first event all bytes of the ring are 0, and the sides stand at its beginning
abbrev pub empty_ring : Ring
empty_ring = record {
  cells = λ i. record {
    avail = false;
    used = false;
    entry = record { buffer = record { id = 0; slots = 0 }; len = 0 };
  };
  publishes = beginning;
  pops = beginning;
  returns = beginning;
  takes = beginning;
}

abbrev pub first : Story
first = record { ring = empty_ring; published = []; popped = []; returned = []; taken = [] }
