-- What asking of indices and notifications gives, in memory that stands still.
use Rattle.std.proofs.Common.{◌≡◌, ◌∙◌, ℕ, ◌+◌, ◌*◌, Bool, true, false, not, ◌&&◌, if◌then◌else◌, Option, Some, None, Result, Ok, Err, inl, inr, refl}
use Rattle.vm_memory_guest.specs.Host.{Host}
use Rattle.vm_memory_guest.specs.Memory.{Memory}
use Rattle.virtio_queue.specs.Descriptor.{has_flag}
use Rattle.virtio_queue.specs.Fields.{Answers, word_at}
use Rattle.virtio_queue.specs.Looks.{MayWantAny, answer, gives, takes, word}
use Rattle.virtio_queue.specs.Notification as split
use Rattle.virtio_queue.specs.Notification.{is_among, needing, wanting}
use Rattle.virtio_queue.specs.Packed as packed
use Rattle.virtio_queue.specs.Packed.{of_bits}
use Rattle.virtio_queue.specs.PackedEvents as events
use Rattle.virtio_queue.specs.PackedEvents.{by_flags, is_by_offset, is_disabled, is_passed}
use Rattle.virtio_queue.specs.Rings.{and_then}
use Rattle.virtio_queue.specs.State.{Virtqueue}
use Rattle.virtio_queue.specs.declared.error.QueueError.{QueueError}
use Rattle.virtio_queue.specs.declared.error.QueueError.TheVariants as errors
use Rattle.virtio_queue.specs.declared.packed.state.PackedState.{PackedState}
use Rattle.virtio_queue.specs.declared.state.QueueState.{QueueState}
use Rattle.virtio_queue.proofs.StillLemmas.{same_then}

module _ {B : Type 0} (m : Memory) (host : Host B) where
  -- notifications of split queues
  module _ (q : QueueState) (n : ℕ) where
    by_rule : (on : Bool) → answer m host (if on
        then takes (word q.avail_ring (4 + 2 * q.size)) (λ event. gives (Ok (is_among n q.next_used event)))
        else takes (word q.avail_ring 0) (λ flags. gives (Ok (not (has_flag flags 1)))))
        ≡ (if on
        then and_then (word_at m host q.avail_ring (4 + 2 * q.size)) (λ event. Ok (is_among n q.next_used event))
        else and_then (word_at m host q.avail_ring 0) (λ flags. Ok (not (has_flag flags 1))))
    by_rule true = refl
    by_rule false = refl

  answer_wanting : (q : QueueState) (added : Option ℕ)
      → answer m host (wanting q added) ≡ split.wants_notification m host q added
  answer_wanting q None = refl
  answer_wanting q (Some n) = by_rule q n q.event_idx_enabled

  module _ (q : Virtqueue) where
    by_ready : (ready : Bool)
        → answer m host (if ready then wanting q.state q.added else gives (Err errors.QueueNotReady))
        ≡ (if ready then split.wants_notification m host q.state q.added else Err errors.QueueNotReady)
    by_ready true = answer_wanting q.state q.added
    by_ready false = refl

    pub needs_held : (result : Result Bool QueueError)
        → Answers (MayWantAny m host (needing q)) (answer m host (needing q)) result
        → Answers (MayWantAny m host (needing q)) (split.needs_notification m host q) result
    needs_held result (inl is) = inl (is ∙ by_ready q.state.ready)
    needs_held result (inr full) = inr full

  -- notifications of packed queues
  module _ (q : PackedState) (n : ℕ) where
    by_kind : (flags : ℕ) (kind : Bool) → answer m host (if kind
        then takes (word q.driver_area 0) (λ event. gives (Ok (is_passed q.size n q.next_used (of_bits event))))
        else gives (Ok (not (is_disabled flags))))
        ≡ (if kind then events.wants_by_offset m host q n else Ok (not (is_disabled flags)))
    by_kind flags true = refl
    by_kind flags false = refl

  answer_packed : (q : PackedState) (added : Option ℕ)
      → answer m host (events.wanting q added) ≡ events.wants_notification m host q added
  answer_packed q None = refl
  answer_packed q (Some n) = same_then m host (word_at m host q.driver_area 2) (λ flags. answer m host (by_flags q n flags))
      (λ flags. if q.event_idx_enabled && is_by_offset flags then events.wants_by_offset m host q n
      else Ok (not (is_disabled flags))) (λ flags. by_kind q n flags (q.event_idx_enabled && is_by_offset flags))

  module _ (q : packed.PackedVirtqueue) where
    packed_ready : (ready : Bool)
        → answer m host (if ready then events.wanting q.state q.added else gives (Err errors.QueueNotReady))
        ≡ (if ready then events.wants_notification m host q.state q.added else Err errors.QueueNotReady)
    packed_ready true = answer_packed q.state q.added
    packed_ready false = refl

    pub packed_needs_held : (result : Result Bool QueueError)
        → Answers (MayWantAny m host (events.needing q)) (answer m host (events.needing q)) result
        → Answers (MayWantAny m host (events.needing q)) (events.needs_notification m host q) result
    packed_needs_held result (inl is) = inl (is ∙ packed_ready q.state.ready)
    packed_needs_held result (inr full) = inr full
