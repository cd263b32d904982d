-- What makes a ring go on that waits for a mapping.
use Rattle.std.specs.Prelude.{◌≡◌, ◌⊎◌, ℕ, ◌+◌, ◌-◌, ◌<◌, ◌≤◌, ◌||◌, not, Bool, true, false, List, [], ◌∷◌, length, slice_get, Option, Some, None, is_some, IsSomeAnd}
use Rattle.std.specs.List.{list_any}
use Rattle.vm_memory_base.specs.Table.{Says}
use Rattle.virtio_queue.specs.declared.packed.state.PackedBuffer.{PackedBuffer}
use Rattle.vhost_iotlb.specs.Kept.{differs}
use Rattle.vhost_iotlb.specs.Taking.{left}
use Rattle.vhost_iotlb.specs.declared.kept.Change.{Change}
use Rattle.vhost_iotlb.specs.declared.taking.Want.{Want}
use Rattle.vhost_user.specs.Connection.{Connection}
use Rattle.vhost_backend.specs.Backend.{BackendState, new_backend}
use Rattle.vhost_backend.specs.BlockQueue.{BlockQueueState, chain_by}
use Rattle.vhost_backend.specs.Config.{config_changed}
use Rattle.vhost_backend.specs.Fetch.{FetchState, GoesOn, is_dropped, waits}
use Rattle.vhost_backend.specs.Kicks.{IsKicked}
use Rattle.vhost_backend.specs.Messages.{Happening, stepped}
use Rattle.vhost_backend.specs.Questions.{QuestionsState, has_miss}
use Rattle.vhost_backend.specs.Reach.{ReachState}
use Rattle.vhost_backend.specs.Ring.{RingState, is_on}
use Rattle.vhost_backend.specs.TableUse.{awaited}
use Rattle.vhost_backend.specs.declared.block_backend.BlockBackend.{BlockBackend}
use Rattle.vhost_backend.specs.declared.fetch.State.TheVariants.{Begun}
use Rattle.vhost_backend.specs.declared.ring.RingEvent.{RingEvent}
use Rattle.vhost_backend.specs.declared.ring.RingEvent.TheVariants.{Popped}

-- ---- what is fetched for a ring

abbrev pub fetch_of : Option BlockQueueState → Option FetchState
fetch_of None = None
fetch_of (Some q) = q.reach.fetch

abbrev pub fetch_at : BlockBackend → ℕ → Option FetchState
fetch_at w ring = fetch_of (slice_get w.queues ring)

-- ---- a mapping that comes

-- something that was taken for a ring leads elsewhere after a change, or nowhere
abbrev pub drops : Change → ReachState → Bool
drops c r = list_any (differs c) r.pages || (list_any (differs c) r.rows || is_dropped c r.fetch)

-- a fetch goes on by what a table says and finds more, unless it has as many ranges as may be or an allocation fails
abbrev pub FindsMore : Says → ℕ → FetchState → FetchState → Type 0
FindsMore f most old new = GoesOn f most old new
    × ((length old.kept < length new.kept) ⊎ ((most ≤ length old.kept) ⊎ (new.state ≡ Begun)))

-- that of a ring did so, and the ring is looked at if it waits no more
abbrev pub IsServed : Says → ℕ → FetchState → BlockBackend → ℕ → Type 0
IsServed f most old w ring = IsSomeAnd (fetch_at w ring)
    (λ new. FindsMore f most old new × (waits new.state ≡ false → IsKicked w.kicks (Some ring)))

-- ---- how far a fetch is

-- how many bytes are wanted
abbrev pub bytes_of : List Want → ℕ
bytes_of [] = 0
bytes_of (w ∷ ws) = w.len + bytes_of ws

-- from a byte of the first range on
abbrev pub bytes_from : List Want × ℕ → ℕ
bytes_from ([], from) = 0
bytes_from (w ∷ ws, from) = (w.len - from) + bytes_of ws

-- how many were not found so far
abbrev pub bytes_left : FetchState → ℕ
bytes_left f = bytes_from (left f.wants 0 f.kept)

-- it goes on by what tables say, one after another, and finds more by each
abbrev pub FindsByEach : ℕ → List Says → FetchState → FetchState → Type 0
FindsByEach most [] old new = new ≡ old
FindsByEach most (f ∷ fs) old new = (mid : FetchState) × GoesOn f most old mid × (length old.kept < length mid.kept)
    × FindsByEach most fs mid new

-- a chain is popped, or it is to be fetched again: an allocation failed, or its header cannot be read
abbrev pub PopsOrNothing : PackedBuffer → Option RingEvent → Type 0
PopsOrNothing buffer e = (e ≡ None) ⊎ ((parts bytes : ℕ) × (e ≡ Some (Popped (chain_by buffer) parts bytes)))

-- ---- rings that wait

-- what becomes of a connection: something happens to it, or the device changes its configuration
pub data Occurrence : Type 0 where
  happens : Happening → Occurrence
  reconfigures : ℕ → List ℕ → Occurrence

abbrev pub occurred : BackendState → Occurrence → BackendState
occurred b (happens x) = stepped b x
occurred b (reconfigures offset bytes) = config_changed b offset bytes

abbrev pub after_these : List Occurrence → BackendState → BackendState
after_these [] b = b
after_these (x ∷ xs) b = after_these xs (occurred b x)

-- so a back end became what it is, from its beginning on
abbrev pub IsReached : BackendState → Type 0
IsReached b = (c : Connection) × (ids : ℕ) × (xs : List Occurrence) × (b ≡ after_these xs (new_backend c ids))

-- a ring has a turn as soon as it runs: it may have chains, or it is yet to be started
abbrev pub is_looked_at : RingState → Bool
is_looked_at r = r.kicked || not (is_on r.phase)

-- a MISS of a ring is to be sent or without a reply, or the ring is looked at
abbrev pub IsTended : QuestionsState → List Bool → Option RingState → ℕ → Type 0
IsTended asked kicks r ring = (has_miss asked.sent asked.due ring ≡ true)
    ⊎ (IsKicked kicks (Some ring) ⊎ IsSomeAnd r (λ r. is_looked_at r ≡ true))

-- each ring that waits is asked for or looked at. There are as many rings, kicks and rings that may ask as queues
pub record AreTended (qs : List BlockQueueState) (kicked : List Bool) (asked : QuestionsState) (b : BackendState)
    : Type 0 where
  pub reached : IsReached b
  pub rings : length b.rings.rings ≡ length qs
  pub kicks : length kicked ≡ length qs
  pub asks : asked.rings ≡ length qs
  pub each : (ring : ℕ) → is_some (awaited (slice_get qs ring)) ≡ true
      → IsTended asked kicked (slice_get b.rings.rings ring) ring

-- those of a back end
abbrev pub Tends : BlockBackend → Type 0
Tends w = AreTended w.queues w.kicks w.questions w.backend
