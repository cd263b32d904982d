-- A back end whose queues have the requests that its rings have under way, and those whose chains are to be returned.
use Rattle.std.specs.Prelude.{◌≡◌, ℕ, ◌+◌, ◌==◌, if◌then◌else◌, List, [], ◌∷◌, ◌++◌, length, slice_get, Option, Some, None}
use Rattle.vhost_backend.specs.BlockQueue.{BlockQueueState, asked_count}
use Rattle.vhost_backend.specs.Messages.{own_actions}
use Rattle.vhost_backend.specs.Ring.{RingState}
use Rattle.vhost_backend.specs.Story.{busy, of_id, returned}
use Rattle.vhost_backend.specs.declared.block_backend.BlockBackend.{BlockBackend}
use Rattle.vhost_backend.specs.declared.block_backend.Returning.{Returning}
use Rattle.vhost_backend.specs.declared.request.Chain.{Chain}

-- the chain of a ring whose request was ended, if there is one
abbrev pub ended_chain : ℕ → Option Returning → List Chain
ended_chain ring None = []
ended_chain ring (Some t) = if t.ring == ring then t.chain ∷ [] else []

-- the chains of a ring that are to be returned, in order
abbrev pub pending : BlockBackend → ℕ → List Chain
pending w ring = ended_chain ring w.returning ++ returned (own_actions ring w.todo)

-- of each id a queue has as many requests as chains are under way and to be returned: one at most, since it has a place
-- for one. It has as many ids as its ring
abbrev pub HasAll : BlockQueueState → RingState → List Chain → Type 0
HasAll q r chains = ((id : ℕ) → asked_count q id ≡ length (of_id id chains) + busy r id)
    × (length q.asked ≡ length r.requests)

-- there is a queue for each ring, and no chain is to be returned to a ring that is not there
abbrev pub SoundAt : Option BlockQueueState → Option RingState → List Chain → Type 0
SoundAt (Some q) (Some r) chains = HasAll q r chains
SoundAt None None chains = chains ≡ []
SoundAt (Some q) None chains = ⊥
SoundAt None (Some r) chains = ⊥

abbrev pub Sound : BlockBackend → Type 0
Sound w = (ring : ℕ) → SoundAt (slice_get w.queues ring) (slice_get w.backend.rings.rings ring) (pending w ring)

-- nothing is left to be done for a ring
abbrev pub IsClear : BlockBackend → Type 0
IsClear w = (w.todo.actions ≡ []) × (w.returning ≡ None)
