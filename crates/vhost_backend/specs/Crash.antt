-- The stores of a ring to its part of a region, as those that the theorem on crashes has.
use Rattle.std.specs.Prelude.{◌≡◌, ◌⊎◌, ℕ, ◌+◌, ◌%◌, ◌^◌, false, List, [], ◌∷◌, ◌++◌, length, map, Option, Some, None}
use Rattle.virtio_queue.specs.Any.{next_avail_of}
use Rattle.vhost_inflight.specs.SplitCrash.{Effect, Entry, Region, UsedIndex, World}
use Rattle.vhost_inflight.specs.declared.split.SplitInFlight.{SplitInFlight}
use Rattle.vhost_inflight.specs.declared.split.SplitStore.{SplitStore}
use Rattle.vhost_backend.specs.BlockQueue.{BlockQueueState, FlightState, GivesBack}
use Rattle.vhost_backend.specs.Flight.{Tracks, next_used_of, with_kept}
use Rattle.vhost_backend.specs.RingMemory.{MemoryStep, Returned}
use Rattle.vhost_backend.specs.declared.block_queue.GiveBack.TheVariants as back
use Rattle.vhost_backend.specs.declared.flight.FlightPlace.{FlightPlace}
use Rattle.vhost_backend.specs.declared.request.Chain.{Chain}
use Rattle.vhost_backend.specs.declared.ring.RingEvent.{RingEvent}
use Rattle.vhost_backend.specs.declared.ring.RingEvent.TheVariants.{Kick}

-- what a ring has of its part while it stores there, with these chains to be popped again
abbrev pub stores_to : FlightPlace → SplitInFlight → List ℕ → FlightState
stores_to p kept again = record { place = Some p; is_unread = false; kept = Some kept; again = again; packed = None }

module _ {H : Type 0} (step : H → (s : MemoryStep) → Returned s → H → Type 0) where
  -- the stores of an effect are the last of a pop
  abbrev pub PopsBy : FlightPlace → Option Effect → BlockQueueState → H → Type 0
  PopsBy p o q new = (e : Effect) × (stores : List SplitStore) × (before : H) × (o ≡ Some e)
      × (e.deeds ≡ map Region stores) × Tracks step p stores before new × (q.flight ≡ stores_to p e.kept [])

  -- those of a return come before the ring's next used entry and its used index, and after these
  abbrev pub ReturnsBy : FlightPlace → Option Effect → BlockQueueState → Chain → ℕ → H → BlockQueueState → H → Type 0
  ReturnsBy p o q chain len old q' new = (e : Effect) × (first last : List SplitStore) × (one two : H) × (o ≡ Some e)
      × (e.deeds ≡ map Region first ++ (Entry chain.id ∷ UsedIndex (next_used_of q'.queue) ∷ map Region last))
      × Tracks step p first old one × GivesBack step (with_kept q e.kept) chain len one back.Done q' two
      × Tracks step p last two new × (q'.flight ≡ stores_to p e.kept q.flight.again)

  -- those of a start come first. What the guest sees as popped and not returned is popped again, in order
  abbrev pub StartsAs : FlightPlace → Option Effect → World → H → Option RingEvent → BlockQueueState → H → Type 0
  StartsAs p o w old a q' new = (e : Effect) × (stores : List SplitStore) × (after : H) × (o ≡ Some e)
      × (e.deeds ≡ map Region stores) × Tracks step p stores old after × (a ≡ Some Kick)
      × (q'.flight ≡ stores_to p e.kept q'.flight.again) × (w.view ≡ Some q'.flight.again)
      × (next_avail_of q'.queue ≡ (w.used + length q'.flight.again) % 2 ^ 16)

  -- or there was no memory for it, and it is tried again
  abbrev pub GoesOnAs : FlightPlace → Option Effect → World → BlockQueueState → H → Option RingEvent → BlockQueueState → H
      → Type 0
  GoesOnAs p o w q old a q' new = ((a ≡ None) × (q' ≡ q) × (new ≡ old)) ⊎ StartsAs p o w old a q' new
