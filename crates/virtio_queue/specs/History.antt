-- Histories of a queue: the driver publishes heads and takes entries, and the device pops heads and returns entries.
use Rattle.std.specs.Prelude.{ℕ, ◌+◌, ◌<◌, ◌==◌, if◌then◌else◌, List, [], ◌∷◌, ◌++◌, length, Option, Some, None, Result, Ok, Err}
use Rattle.virtio_queue.specs.Rings.{index_after, next_in, slot}
use Rattle.virtio_queue.specs.declared.error.QueueError.{QueueError}

-- a used entry: a head, and how many bytes the device wrote
pub record Entry : Type 0 where
  pub head : ℕ
  pub len : ℕ

-- the rings of a queue: what lies in each slot, and the indices of both sides
pub record Rings : Type 0 where
  pub avail : ℕ → ℕ
  pub avail_idx : ℕ
  pub next_avail : ℕ
  pub used : ℕ → Entry
  pub used_idx : ℕ
  pub next_used : ℕ

-- what happened: the heads that were published and those that were popped, the entries that were returned and those
-- that were taken, each in order; and the rings by then
pub record Story : Type 0 where
  pub rings : Rings
  pub published : List ℕ
  pub popped : List ℕ
  pub returned : List Entry
  pub taken : List Entry

-- the driver publishes a head, the device pops one, the device returns an entry, the driver takes one
pub data Event : Type 0 where
  Publish : (head : ℕ) → Event
  Pop : Event
  Return : (entry : Entry) → Event
  Take : Event

-- slots with another value in one
abbrev pub with_slot : {X : Type 0} → (ℕ → X) → ℕ → X → ℕ → X
with_slot slots i x j = if j == i then x else slots j

-- the head that is popped next: what a pop of the device finds
abbrev pub head_to_pop : ℕ → Rings → Result (Option ℕ) QueueError
head_to_pop size r = next_in size r.avail_idx r.next_avail (λ i. Ok (r.avail i))

-- the entry that is taken next, if the device has published one
abbrev pub entry_to_take : ℕ → Rings → Option Entry
entry_to_take size r = if r.used_idx == r.next_used then None else Some (r.used (slot size r.next_used))

abbrev pub after_publish : ℕ → ℕ → Story → Story
after_publish size head s = record s {
  rings = record s.rings {
    avail = with_slot s.rings.avail (slot size s.rings.avail_idx) head;
    avail_idx = index_after s.rings.avail_idx;
  };
  published = s.published ++ head ∷ [];
}

abbrev pub after_pop : Result (Option ℕ) QueueError → Story → Story
after_pop (Ok (Some head)) s = record s {
  rings = record s.rings { next_avail = index_after s.rings.next_avail };
  popped = s.popped ++ head ∷ [];
}
after_pop (Ok None) s = s
after_pop (Err e) s = s

abbrev pub after_return : ℕ → Entry → Story → Story
after_return size entry s = record s {
  rings = record s.rings {
    used = with_slot s.rings.used (slot size s.rings.used_idx) entry;
    used_idx = index_after s.rings.used_idx;
  };
  returned = s.returned ++ entry ∷ [];
}

abbrev pub after_take : Option Entry → Story → Story
after_take None s = s
after_take (Some entry) s = record s {
  rings = record s.rings { next_used = index_after s.rings.next_used };
  taken = s.taken ++ entry ∷ [];
}

module _ (size : ℕ) where
  abbrev pub after : Event → Story → Story
  after (Publish head) s = after_publish size head s
  after Pop s = after_pop (head_to_pop size s.rings) s
  after (Return entry) s = after_return size entry s
  after Take s = after_take (entry_to_take size s.rings) s

  -- an event that may come: the driver has at most the size heads out, and the device returns no more than it popped
  abbrev pub May : Event → Story → Type 0
  May (Publish head) s = length s.published < length s.taken + size
  May Pop s = Unit {0}
  May (Return entry) s = length s.returned < length s.popped
  May Take s = Unit {0}

  -- what comes of events, one after the other
  unfoldable pub story : List Event → Story → Story
  story [] s = s
  story (e ∷ es) s = story es (after e s)

  unfoldable pub AllMay : List Event → Story → Type 0
  AllMay [] s = Unit {0}
  AllMay (e ∷ es) s = May e s × AllMay es (after e s)

-- rings before the first event: nothing is in them, and the indices of each are at one place
abbrev pub empty_rings : ℕ → ℕ → Rings
empty_rings avail used = record {
  avail = λ i. 0;
  avail_idx = avail;
  next_avail = avail;
  used = λ i. record { head = 0; len = 0 };
  used_idx = used;
  next_used = used;
}

abbrev pub beginning : Rings → Story
beginning rings = record { rings = rings; published = []; popped = []; returned = []; taken = [] }
