-- The stores of a packed ring to its part of a region, as those that the theorem on crashes has.
use Rattle.std.specs.Prelude.{◌≡◌, ◌⊎◌, ℕ, true, false, List, [], ◌∷◌, ◌++◌, drop, map, take, Option, Some, None}
use Rattle.virtio_queue.specs.declared.any.AnyQueue.{AnyQueue}
use Rattle.virtio_queue.specs.declared.any.AnyQueue.TheVariants.{Split, Packed}
use Rattle.virtio_queue.specs.declared.packed.descriptor.PackedDescriptor.{PackedDescriptor}
use Rattle.virtio_queue.specs.declared.packed.state.PackedState.{PackedState}
use Rattle.vhost_inflight.specs.Packed.{PackedKept}
use Rattle.vhost_inflight.specs.PackedCrash.{Deed, Effect, Flags, Id, Pop, Pops, Refused, Region, World, effect, is_next}
use Rattle.vhost_inflight.specs.declared.packed.PackedStore.{PackedStore}
use Rattle.vhost_inflight.specs.declared.packed_region.PackedCopy.{PackedCopy}
use Rattle.vhost_inflight.specs.declared.packed_region.PackedPosition.{PackedPosition}
use Rattle.vhost_inflight.specs.declared.packed_start.PackedAgain.{PackedAgain}
use Rattle.vhost_backend.specs.BlockQueue.{BlockQueueState, FlightState, GivesBack, with_flight}
use Rattle.vhost_backend.specs.Flight.{base_in}
use Rattle.vhost_backend.specs.PackedFlight.{PackedFlightState, TracksPacked, copy_by, popped_found, returned_by}
use Rattle.vhost_backend.specs.RingMemory.{MemoryStep, Returned}
use Rattle.vhost_backend.specs.declared.block_queue.GiveBack.TheVariants as back
use Rattle.vhost_backend.specs.declared.flight.FlightPlace.{FlightPlace}
use Rattle.vhost_backend.specs.declared.request.Chain.{Chain}
use Rattle.vhost_backend.specs.declared.ring.RingEvent.{RingEvent}
use Rattle.vhost_backend.specs.declared.ring.RingEvent.TheVariants.{Kick}

-- what a packed ring has of its part while it stores there
abbrev pub packed_to : FlightPlace → PackedFlightState → FlightState
packed_to p k = record { place = Some p; is_unread = false; kept = None; again = []; packed = Some k }

-- the stores to the region among what a call does
abbrev pub stores_in : List Deed → List PackedStore
stores_in [] = []
stores_in (Region s ∷ ds) = s ∷ stores_in ds
stores_in (Pops chain s ∷ ds) = s ∷ stores_in ds
stores_in (Id id ∷ ds) = stores_in ds
stores_in (Flags at ∷ ds) = stores_in ds
stores_in (Refused ∷ ds) = stores_in ds

-- the chains that are popped again, each by its descriptors
abbrev pub chains_in : List PackedAgain → List PackedDescriptor → List (List PackedCopy)
chains_in [] ds = []
chains_in (g ∷ gs) ds = map copy_by (take g.len ds) ∷ chains_in gs (drop g.len ds)

-- where a packed queue pops its next chain, and where it returns the next one
abbrev pub avail_in : PackedState → PackedPosition
avail_in s = record { slot = s.next_avail.slot; wrap = s.next_avail.wrap }

abbrev pub StandsAt : AnyQueue → PackedPosition → PackedPosition → Type 0
StandsAt (Split u) avail used = ⊥
StandsAt (Packed u) avail used = (avail_in u.state ≡ avail) × (base_in u.state ≡ used)

-- the effect of a call, whenever the theorem has one
abbrev pub IsPop : PackedKept → List PackedCopy → Effect → Type 0
IsPop k copies e = (descriptors size began : ℕ) (w : World) → is_next w copies ≡ true
    → effect descriptors size began w (Some k) (Pop copies) ≡ Some e

module _ {H : Type 0} (step : H → (s : MemoryStep) → Returned s → H → Type 0) where
  -- the stores of a pop of the descriptors that were found are the last ones
  abbrev pub PopsPackedBy : FlightPlace → PackedFlightState → ℕ → BlockQueueState → H → Type 0
  PopsPackedBy p k id q new = (ds : List PackedDescriptor) × (e : Effect) × (before : H)
      × IsPop k.kept (map copy_by ds) e × TracksPacked step p (stores_in e.deeds) before new
      × (q.flight ≡ packed_to p (popped_found id (record k { found = ds })))

  -- those of a return come before the ring's next used descriptor, and after it
  abbrev pub ReturnsPackedBy : FlightPlace → PackedFlightState → Option Effect → PackedPosition → BlockQueueState → Chain
      → ℕ → H → BlockQueueState → H → Type 0
  ReturnsPackedBy p k o at q chain len old q' new = (e : Effect) × (first last : List PackedStore) × (one two : H)
      × (o ≡ Some e)
      × (e.deeds ≡ map Region first ++ (Id chain.id ∷ Flags at ∷ map Region last))
      × TracksPacked step p first old one
      × GivesBack step (with_flight q (packed_to p (returned_by chain.id k))) chain len one back.Done q' two
      × TracksPacked step p last two new
      × (q'.flight ≡ packed_to p (returned_by chain.id k))

  -- those of a start come first. What the guest sees as popped and not returned is popped again, in order, and the queue
  -- goes on after all that was popped, and returns where the region says
  abbrev pub StartsPackedAs : FlightPlace → Option Effect → World → PackedPosition → H → Option RingEvent
      → BlockQueueState → H → Type 0
  StartsPackedAs p o w at old a q' new = (e : Effect) × (stores : List PackedStore) × (k : PackedFlightState)
      × (after : H) × (o ≡ Some e) × (e.deeds ≡ map Region stores) × TracksPacked step p stores old after
      × (a ≡ Some Kick) × (q'.flight ≡ packed_to p k) × (k.kept ≡ e.kept)
      × (w.view ≡ Some (chains_in k.again k.copies)) × StandsAt q'.queue at k.kept.used

  -- or there was no memory for it, and it is tried again
  abbrev pub GoesOnPackedAs : FlightPlace → Option Effect → World → PackedPosition → BlockQueueState → H
      → Option RingEvent → BlockQueueState → H → Type 0
  GoesOnPackedAs p o w at q old a q' new =
      ((a ≡ None) × (q' ≡ q) × (new ≡ old)) ⊎ StartsPackedAs p o w at old a q' new
