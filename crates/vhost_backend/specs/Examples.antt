-- A connection with one ring and a request that is under way, and what happens to it.
use Rattle.std.specs.Prelude.{ℕ, List, [], ◌∷◌, true, false, map, replicate}
use Rattle.vhost_user.specs.Connection.{connected}
use Rattle.vhost_user.specs.declared.backend_req_handler.Offer.{Offer}
use Rattle.vhost_backend.specs.Backend.{BackendState, new_backend}
use Rattle.vhost_backend.specs.Messages.{Happening, Came, Told}
use Rattle.vhost_backend.specs.Rings.{new_rings}
use Rattle.vhost_backend.specs.Turns.{after_all}
use Rattle.vhost_backend.specs.declared.backend.Outcome.{Outcome}
use Rattle.vhost_backend.specs.declared.backend.Todo.{Todo}
use Rattle.vhost_backend.specs.declared.request.PartEnd.TheVariants.{Moved}
use Rattle.vhost_backend.specs.declared.ring.RingEvent.TheVariants.{Enable, Ended, Popped, Start}
use Rattle.vhost_backend.specs.declared.rings.Event.{Event}
use Rattle.vhost_backend.specs.declared.rings.Event.TheVariants as event

abbrev pub offer : Offer
offer = record {
  features = 0;
  protocol_features = 0;
  max_queue_size = 4;
  writable_from = 0;
  writable_len = 0;
}

-- its only request, of a number of bytes, has one part
abbrev pub popped : ℕ → Event
popped bytes = event.Ring 0 (Popped (record { id = 2; slots = 1 }) 1 bytes)

abbrev pub one_busy_ring : ℕ → BackendState
one_busy_ring bytes = record (new_backend (connected offer 1 []) 4) {
  rings = after_all (event.Ring 0 Start ∷ event.Ring 0 (Enable true) ∷ event.GoOn ∷ popped bytes ∷ [])
      (new_rings 1 4);
}

-- that part moves 512 bytes
abbrev pub ended : Happening
ended = Told (event.Ring 0 (Ended 2 (Moved 512)))

-- GET_VRING_BASE of the ring
abbrev pub base_asked : List Happening
base_asked = Came (record { request = 11; flags = 1; size = 8 }) (replicate 8 0) 0 false ∷ ended ∷ []

-- SET_MEM_TABLE without regions
abbrev pub table_sent : List Happening
table_sent = Came (record { request = 5; flags = 1; size = 8 }) (replicate 8 0) 0 false ∷ Told event.GoOn ∷ ended ∷ []

abbrev pub outcomes : List Todo → List Outcome
outcomes all = map (λ t. t.message) all
