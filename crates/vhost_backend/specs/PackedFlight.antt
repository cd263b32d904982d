-- The requests of a packed ring in its part of a region: what is kept of them, and what a pop stores.
use Rattle.std.specs.Prelude.{◌≡◌, ℕ, ◌+◌, ◌%◌, ◌^◌, Bool, if◌then◌else◌, List, [], ◌∷◌, drop, length, map, replicate, slice_get, slice_index_or, slice_set, take, Option, Some, None, option_map, Result, Ok}
use Rattle.virtio_queue.specs.declared.error.QueueError.{QueueError}
use Rattle.virtio_queue.specs.declared.packed.descriptor.PackedDescriptor.{PackedDescriptor}
use Rattle.virtio_queue.specs.declared.packed.state.PackedBuffer.{PackedBuffer}
use Rattle.vhost_inflight.specs.Packed.{PackedKept, add_stores, after_add, after_begin_pop, after_return, begin_pop_stores, begin_return_stores, can_add, can_begin_pop, can_end_pop, can_return, end_pop_stores, end_return_stores, kept_of, place}
use Rattle.vhost_inflight.specs.PackedCrash.{after_adds, id_of, pop_effect}
use Rattle.vhost_inflight.specs.declared.packed.PackedReturn.{PackedReturn}
use Rattle.vhost_inflight.specs.declared.packed.PackedStore.{PackedStore}
use Rattle.vhost_inflight.specs.declared.packed_region.PackedCopy.{PackedCopy}
use Rattle.vhost_inflight.specs.declared.packed_start.PackedAgain.{PackedAgain}
use Rattle.vhost_inflight.specs.declared.packed_start.PackedStart.{PackedStart}
use Rattle.vhost_inflight.specs.declared.store.Store.{Store}
use Rattle.vhost_backend.specs.PageList.{capped}
use Rattle.vhost_backend.specs.RingMemory.{MemoryStep, Returned, tracks}
use Rattle.vhost_backend.specs.declared.flight.FlightPlace.{FlightPlace}

pub record PackedFlightState : Type 0 where
  -- what the ring keeps of its part
  pub kept : PackedKept
  -- for each id the entry at which the chain begins that was popped last with it
  pub heads : List ℕ
  -- the chains that were in flight when the ring was started, and are popped again, in order, and their descriptors
  pub again : List PackedAgain
  pub copies : List PackedDescriptor
  -- the descriptors of the chain that was found last
  pub found : List PackedDescriptor

-- ---- descriptors, as the region has them

abbrev pub copy_by : PackedDescriptor → PackedCopy
copy_by d = record { id = d.id; flags = d.flags; len = d.len; addr = d.addr }

abbrev pub descriptor_by : PackedCopy → PackedDescriptor
descriptor_by c = record { addr = c.addr; len = c.len; id = c.id; flags = c.flags }

-- what the chain of these is returned by
abbrev pub buffer_of : List PackedDescriptor → PackedBuffer
buffer_of ds = record { id = id_of (map copy_by ds); slots = length ds % 2 ^ 16 }

-- those that a look found
abbrev pub listed : Result (Option (List PackedDescriptor)) QueueError → List PackedDescriptor
listed (Ok (Some ds)) = ds
listed r = []

-- ---- chains that were in flight

-- the ring goes on by a start: so many ids can be under way
abbrev pub flight_of : ℕ → PackedStart → PackedFlightState
flight_of ids s = record {
  kept = kept_of s.in_flight;
  heads = replicate ids 0;
  again = s.again.items;
  copies = map descriptor_by s.copies.items;
  found = [];
}

-- the descriptors of the one that is popped again next
abbrev pub first_again : PackedFlightState → Option (List PackedDescriptor)
first_again k = option_map (λ (g : PackedAgain). take g.len k.copies) (slice_get k.again 0)

-- it was popped
abbrev pub passed_by : ℕ → PackedFlightState → Option PackedAgain → PackedFlightState
passed_by id k None = k
passed_by id k (Some g) = record k {
  heads = slice_set k.heads id g.head;
  again = drop 1 k.again;
  copies = drop g.len k.copies;
}

abbrev pub passed : ℕ → PackedFlightState → PackedFlightState
passed id k = passed_by id k (slice_get k.again 0)

-- ---- what is popped anew

-- the chain that was found is popped
abbrev pub popped_found : ℕ → PackedFlightState → PackedFlightState
popped_found id k = record k {
  kept = (pop_effect k.kept (map copy_by k.found)).kept;
  heads = slice_set k.heads id k.kept.free_head;
}

-- ---- what is returned

abbrev pub head_of : PackedFlightState → ℕ → ℕ
head_of k id = slice_index_or k.heads id 0

-- what is stored before the chain with an id is returned and after that, if it is in flight
abbrev pub return_stores : ℕ → PackedFlightState → Option PackedReturn
return_stores id k = if can_return k.kept (head_of k id) then Some (record {
  before = begin_return_stores k.kept (head_of k id);
  after = end_return_stores k.kept (head_of k id);
}) else None

abbrev pub returned_by : ℕ → PackedFlightState → PackedFlightState
returned_by id k = record k { kept = after_return k.kept (head_of k id) }

-- ---- stores

-- a store to a ring's part of the region
abbrev pub packed_store_at : FlightPlace → PackedStore → Store
packed_store_at p s = let to = place s in record to { offset = capped (p.base + to.offset) }

-- what a call stores that can be made
abbrev pub stores_if : Bool → List PackedStore → List PackedStore
stores_if can stores = if can then stores else []

module _ {H : Type 0} (step : H → (s : MemoryStep) → Returned s → H → Type 0) where
  -- stores to a ring's part of the region, one after another
  abbrev pub TracksPacked : FlightPlace → List PackedStore → H → H → Type 0
  TracksPacked p [] old new = new ≡ old
  TracksPacked p (s ∷ ss) old new =
      (mid : H) × step old (tracks (packed_store_at p s)) tt mid × TracksPacked p ss mid new

  abbrev pub TracksPackedAt : Option FlightPlace → List PackedStore → H → H → Type 0
  TracksPackedAt None ss old new = new ≡ old
  TracksPackedAt (Some p) ss old new = TracksPacked p ss old new

  -- those of a pop: the chain is begun, has its descriptors one by one, and is popped by the last store
  abbrev pub AddsAll : Option FlightPlace → PackedKept → List PackedCopy → H → H → Type 0
  AddsAll o k [] old new = new ≡ old
  AddsAll o k (d ∷ ds) old new = (mid : H) × TracksPackedAt o (stores_if (can_add k) (add_stores k d)) old mid
      × AddsAll o (after_add k d) ds mid new

  abbrev pub EndsPop : Option FlightPlace → PackedKept → H → H → Type 0
  EndsPop o k old new = TracksPackedAt o (stores_if (can_end_pop k) (end_pop_stores k)) old new

  abbrev pub StoresPop : Option FlightPlace → PackedKept → List PackedCopy → H → H → Type 0
  StoresPop o k ds old new = (one two : H)
      × TracksPackedAt o (stores_if (can_begin_pop k) (begin_pop_stores k)) old one
      × AddsAll o (after_begin_pop k) ds one two × EndsPop o (after_adds (after_begin_pop k) ds) two new
