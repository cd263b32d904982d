-- Notifications: by flags, or by event indices.
use Rattle.std.specs.Prelude.{◌≡◌, ℕ, ◌+◌, ◌*◌, nat_lt, Bool, true, not, ◌==◌, if◌then◌else◌, Option, Some, None, Result, Ok, Err, MatchBool, MatchResult}
use Rattle.vm_memory_base.specs.declared.iotlb.Permissions.TheVariants.{Read, Write}
use Rattle.vm_memory_guest.specs.Host.{Host}
use Rattle.vm_memory_guest.specs.Memory.{Memory}
use Rattle.vm_memory_guest.specs.Window.{Window}
use Rattle.virtio_queue.specs.Available.{avail_idx}
use Rattle.virtio_queue.specs.Descriptor.{has_flag}
use Rattle.virtio_queue.specs.Fields.{stored_at, window_at, word_at, word_window, Refuses, StoresWord}
use Rattle.virtio_queue.specs.Looks.{MayWantAny, Tree, gives, if_ready, loads, setting, spot, stores, takes, word}
use Rattle.virtio_queue.specs.Rings.{ahead, and_then, before}
use Rattle.virtio_queue.specs.State.{Virtqueue}
use Rattle.virtio_queue.specs.declared.error.QueueError.{QueueError}
use Rattle.virtio_queue.specs.declared.error.QueueError.TheVariants as errors
use Rattle.virtio_queue.specs.declared.state.QueueState.{QueueState}

-- whether an index is one of the n before the next one, modulo 2^16
abbrev pub is_among : ℕ → ℕ → ℕ → Bool
is_among n next i = nat_lt (ahead (before next) i) n

module _ {B : Type 0} (m : Memory) (host : Host B) where
  -- whether the driver wants to know of the last n entries: with event indices if its event is among them, else
  -- if its flag NO_INTERRUPT is not set. If it is not known how many are new, it does
  abbrev pub wants_notification : QueueState → Option ℕ → Result Bool QueueError
  wants_notification q None = Ok true
  wants_notification q (Some n) = if q.event_idx_enabled
      then and_then (word_at m host q.avail_ring (4 + 2 * q.size)) (λ event. Ok (is_among n q.next_used event))
      else and_then (word_at m host q.avail_ring 0) (λ flags. Ok (not (has_flag flags 1)))

  abbrev pub needs_notification : Virtqueue → Result Bool QueueError
  needs_notification q =
      if q.state.ready then wants_notification q.state q.added else Err errors.QueueNotReady

  -- whether the driver has published more than was popped
  abbrev pub has_more : QueueState → Result Bool QueueError
  has_more q = and_then (avail_idx m host q) (λ idx. Ok (not (idx == q.next_avail)))

-- the queue after it was asked whether the driver needs a notification: from now on entries count anew
abbrev pub after_asked : Virtqueue → Result Bool QueueError → Virtqueue
after_asked q (Ok needs) = record { state = q.state; added = Some 0 }
after_asked q (Err e) = q

-- where a device says when the driver is to notify it, after the start of the used ring, and what it writes there to
-- be notified: with event indices the next entry that it waits for, else no flag
abbrev pub kick_offset : QueueState → ℕ
kick_offset q = if q.event_idx_enabled then 4 + 8 * q.size else 0

abbrev pub kick_value : QueueState → ℕ
kick_value q = if q.event_idx_enabled then q.next_avail else 0

-- where a device writes this, and where it finds the driver's index
abbrev pub kick_places : {B : Type 0} → Memory → Host B → QueueState → Result (Window × Window) QueueError
kick_places m host q = and_then (word_window m host q.used_ring (kick_offset q)) (λ kick.
    and_then (window_at m host q.avail_ring 2 Read) (λ idx. Ok (kick, idx)))

-- ---- step by step

-- whether the driver wants to know of the last entries: one look, at its event or at its flags
abbrev pub wanting : QueueState → Option ℕ → Tree Bool
wanting q None = gives (Ok true)
wanting q (Some n) = if q.event_idx_enabled
    then takes (word q.avail_ring (4 + 2 * q.size)) (λ event. gives (Ok (is_among n q.next_used event)))
    else takes (word q.avail_ring 0) (λ flags. gives (Ok (not (has_flag flags 1))))

abbrev pub needing : Virtqueue → Tree Bool
needing q = if_ready q.state.ready (wanting q.state q.added)

-- the driver is asked to notify, and after that the device looks at its index
abbrev pub enabling : QueueState → Tree Bool
enabling q = if_ready q.ready
    (takes (spot Write q.used_ring (kick_offset q)) (λ _. takes (spot Read q.avail_ring 2) (λ _.
    takes (stores q.used_ring (kick_offset q) (kick_value q)) (λ _. takes (loads q.avail_ring 2) (λ idx.
    gives (Ok (not (idx == q.next_avail))))))))

-- the driver is asked not to notify
abbrev pub disabling : QueueState → Tree (Unit {0})
disabling q = if_ready q.ready (if q.event_idx_enabled then gives (Ok tt) else setting q.used_ring 0 1)

-- ---- memory that nobody else writes

-- what a device waits for: the driver finds in memory when to notify it, the value that asks for a notification of the
-- next head, and has published no head beyond those that were popped
pub record Waits {B : Type 0} (m : Memory) (host : Host B) (q : QueueState) : Type 0 where
  pub asks : stored_at m host q.used_ring (kick_offset q) ≡ Ok (kick_value q)
  pub none : avail_idx m host q ≡ Ok q.next_avail

module _ {B : Type 0} (marks : B → ℕ → ℕ → B → Type 0) (m : Memory) (q : QueueState) where
  -- the driver is asked to notify, and then whether there is more in the ring by now is returned. Or one of the two
  -- was refused, and nothing changed
  abbrev pub Enables : Host B → Result Bool QueueError → Host B → Type 0
  Enables old answer new = MatchResult answer
      (λ more. StoresWord marks m q.used_ring (kick_offset q) (kick_value q) old (Ok tt) new
      × (has_more m new q ≡ Ok more))
      (λ e. Refuses (MayWantAny m old (enabling q)) (kick_places m old q) e × (new ≡ old))

  -- a queue that is not ready is refused, and nothing changes
  abbrev pub EnablesIfReady : Host B → Result Bool QueueError → Host B → Type 0
  EnablesIfReady old answer new =
      MatchBool q.ready (Enables old answer new) ((answer ≡ Err errors.QueueNotReady) × (new ≡ old))

  -- the driver is asked not to notify, by the flag NO_NOTIFY. With event indices nothing has to be done
  abbrev pub Disables : Host B → Result (Unit {0}) QueueError → Host B → Type 0
  Disables old answer new = MatchBool q.ready
      (MatchBool q.event_idx_enabled ((answer ≡ Ok tt) × (new ≡ old))
      (StoresWord marks m q.used_ring 0 1 old answer new))
      ((answer ≡ Err errors.QueueNotReady) × (new ≡ old))
