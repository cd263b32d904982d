-- What the calls of a queue use of a ring's areas was wanted.
use Rattle.std.proofs.Common.{◌≡◌, ℕ, ◌+◌, ◌*◌, ◌%◌, ◌^◌, ◌<◌, ◌≤◌, ◌==◌, ◌&&◌, nat_le, nat_lt, not, Bool, true, false, List, [], ◌∷◌, ◌++◌, Option, Some, None, if◌then◌else◌, refl, arith, inl, inr}
use Rattle.std.proofs.lemmas.Bool.{and_parts, cases_Bool, ltb-true}
use Rattle.std.proofs.lemmas.Nat.{mod_below}
use Rattle.vm_memory_base.specs.declared.iotlb.Permissions.{Permissions}
use Rattle.vm_memory_base.specs.Permissions.{allow}
use Rattle.vm_memory_base.specs.declared.iotlb.Permissions.TheVariants.{Read, ReadWrite, Write}
use Rattle.virtio_queue.specs.Any.{asking, enabling, returning}
use Rattle.virtio_queue.specs.Looks.{Tree, index_of}
use Rattle.virtio_queue.specs.Notification.{kick_offset}
use Rattle.virtio_queue.specs.Notification as split_events
use Rattle.virtio_queue.specs.Packed as packed
use Rattle.virtio_queue.specs.Packed.{PackedVirtqueue}
use Rattle.virtio_queue.specs.PackedEvents as packed_events
use Rattle.virtio_queue.specs.PackedEvents.{is_by_offset}
use Rattle.virtio_queue.specs.PackedUsed.{is_out}
use Rattle.virtio_queue.specs.Rings.{slot}
use Rattle.virtio_queue.specs.State as split
use Rattle.virtio_queue.specs.State.{Virtqueue}
use Rattle.virtio_queue.specs.declared.any.AnyQueue.{AnyQueue}
use Rattle.virtio_queue.specs.declared.any.AnyQueue.TheVariants.{Split, Packed}
use Rattle.virtio_queue.specs.declared.error.QueueError.{QueueError}
use Rattle.virtio_queue.specs.declared.error.QueueError.TheVariants as errors
use Rattle.virtio_queue.specs.declared.packed.state.PackedBuffer.{PackedBuffer}
use Rattle.virtio_queue.specs.declared.packed.state.PackedState.{PackedState}
use Rattle.virtio_queue.specs.declared.state.QueueState.{QueueState}
use Rattle.vhost_iotlb.specs.declared.taking.Want.{Want}
use Rattle.vhost_backend.specs.Fetch.{event_len, log_wants, ring_wants, used_of, want}
use Rattle.vhost_backend.specs.RingUse.{IsPossible, IsWanted, Uses}

-- ---- states

-- a part of a state that is not wrong
right : (b : Bool) (e : QueueError) (rest : Option QueueError) → (if not b then Some e else rest) ≡ None
    → (b ≡ true) × (rest ≡ None)
right true e rest none = (refl, none)
right false e rest none = absurd (cc)

split_size : (s : QueueState) → split.state_error s ≡ None → 0 < s.size
split_size s possible =
    let most = right (split.is_size s.max_size) errors.InvalidMaxSize _ possible in
    let size = right (split.is_size s.size && nat_le s.size s.max_size) errors.InvalidSize _ most.1 in
    let sizes = and_parts (split.is_size s.size) (nat_le s.size s.max_size) size.0 in
    ltb-true 0 s.size (and_parts (nat_lt 0 s.size) (2 ^ 15 % s.size == 0) sizes.0).0

packed_slots : (s : PackedState) → packed.state_error s ≡ None
    → (s.next_avail.slot < s.size) × (s.next_used.slot < s.size)
packed_slots s possible =
    let most = right (packed.is_packed_size s.max_size) errors.InvalidMaxSize _ possible in
    let size = right (packed.is_packed_size s.size && nat_le s.size s.max_size) errors.InvalidSize _ most.1 in
    let ring = right (s.desc_ring % 16 == 0) errors.InvalidDescTableAlign _ size.1 in
    let driver = right (s.driver_area % 4 == 0) errors.InvalidAvailRingAlign _ ring.1 in
    let device = right (s.device_area % 4 == 0) errors.InvalidUsedRingAlign _ driver.1 in
    let places = right (packed.are_positions s.size s.next_avail s.next_used) errors.InvalidAvailRingIndex None device.1 in
    let slots = and_parts (nat_lt s.next_avail.slot s.size && nat_lt s.next_used.slot s.size) _ places.0 in
    let both = and_parts (nat_lt s.next_avail.slot s.size) (nat_lt s.next_used.slot s.size) slots.0 in
    (ltb-true s.next_avail.slot s.size both.0, ltb-true s.next_used.slot s.size both.1)

-- ---- areas

wanted_later : (xs ys : List Want) (access : Permissions) (a n : ℕ) → IsWanted ys access a n
    → IsWanted (xs ++ ys) access a n
wanted_later [] ys access a n h = h
wanted_later (x ∷ xs) ys access a n h = inr (wanted_later xs ys access a n h)

uses_if : {T : Type 0} (so : Permissions → ℕ → ℕ → Type 0) (b : Bool) (x y : Tree T) → (b ≡ true → Uses so x)
    → (b ≡ false → Uses so y) → Uses so (if b then x else y)
uses_if so true x y f g = f refl
uses_if so false x y f g = g refl

-- ---- split rings

kick_fits : (s : QueueState) → kick_offset s + 2 ≤ 4 + 8 * s.size + event_len s.event_idx_enabled
kick_fits s = elim (cases_Bool s.event_idx_enabled) [ inl t ↦ rw t (omega arith) | inr t ↦ rw t (omega arith) ]

module _ (q : Virtqueue) (log : Option ℕ) where
  abbrev so : Permissions → ℕ → ℕ → Type 0
  so access a n = IsWanted (ring_wants (Split q) log) access a n

  in_avail : (offset : ℕ) → offset + 2 ≤ 4 + 2 * q.state.size + event_len q.state.event_idx_enabled
      → so Read (q.state.avail_ring + offset) 2
  in_avail offset fits = inr (inl (omega arith, omega arith, refl))

  in_used : (access : Permissions) (offset n : ℕ)
      → offset + n ≤ 4 + 8 * q.state.size + event_len q.state.event_idx_enabled → allow ReadWrite access ≡ true
      → so access (q.state.used_ring + offset) n
  in_used access offset n fits allowed =
      inr (inr (wanted_later (log_wants (used_of (Split q)) log) (used_of (Split q) ∷ []) access
      (q.state.used_ring + offset) n (inl (omega arith, omega arith, allowed))))

  split_returns : 0 < q.state.size → (buffer : PackedBuffer) (len : ℕ) → Uses so (returning (Split q) buffer len)
  split_returns some buffer len =
      let below : slot q.state.size q.state.next_used < q.state.size = mod_below q.state.next_used q.state.size some in
      uses_if so q.state.ready _ _ (λ _. uses_if so (nat_le q.state.size buffer.id) _ _ (λ _. tt) (λ _. (
        in_used Write (4 + 8 * slot q.state.size q.state.next_used) 8 (omega arith) refl,
        λ a. (
          in_used Write 2 2 (omega arith) refl,
          λ w. (
            in_used Write (4 + 8 * slot q.state.size q.state.next_used) 8 (omega arith) refl,
            (in_used Write 2 2 (omega arith) refl, tt),
          ),
        ),
      ))) (λ _. tt)

  split_waits : Uses so (enabling (Split q))
  split_waits = uses_if so q.state.ready _ _ (λ _. (
    in_used Write (kick_offset q.state) 2 (kick_fits q.state) refl,
    λ v. (
      in_avail 2 (omega arith),
      λ w. (in_used Write (kick_offset q.state) 2 (kick_fits q.state) refl, (in_avail 2 (omega arith), λ idx. tt)),
    ),
  )) (λ _. tt)

  split_wants : (added : Option ℕ) → Uses so (split_events.wanting q.state added)
  split_wants None = tt
  split_wants (Some n) = uses_if so q.state.event_idx_enabled _ _
      (λ t. let two : event_len q.state.event_idx_enabled ≡ 2 = rw t refl in
      (in_avail (4 + 2 * q.state.size) (omega arith), λ event. tt))
      (λ t. (in_avail 0 (omega arith), λ flags. tt))

  split_asks : Uses so (asking (Split q))
  split_asks = uses_if so q.state.ready _ _ (λ _. split_wants q.added) (λ _. tt)

  pub split_reads : Uses so (index_of q.state.ready q.state.used_ring)
  split_reads = uses_if so q.state.ready _ _ (λ _. (in_used Read 2 2 (omega arith) refl, λ idx. tt)) (λ _. tt)

-- ---- packed rings

module _ (q : PackedVirtqueue) (log : Option ℕ) where
  abbrev so_packed : Permissions → ℕ → ℕ → Type 0
  so_packed access a n = IsWanted (ring_wants (Packed q) log) access a n

  in_driver : (offset : ℕ) → offset + 2 ≤ 4 → so_packed Read (q.state.driver_area + offset) 2
  in_driver offset fits = inl (omega arith, omega arith, refl)

  in_device : (offset : ℕ) → offset + 2 ≤ 4 → so_packed Write (q.state.device_area + offset) 2
  in_device offset fits = inr (inl (omega arith, omega arith, refl))

  in_ring : (access : Permissions) (offset n : ℕ) → offset + n ≤ 16 * q.state.size → allow ReadWrite access ≡ true
      → so_packed access (q.state.desc_ring + offset) n
  in_ring access offset n fits allowed =
      inr (inr (wanted_later (log_wants (used_of (Packed q)) log)
      (want q.state.desc_ring (16 * q.state.size) ReadWrite ∷ []) access (q.state.desc_ring + offset) n
      (inl (omega arith, omega arith, allowed))))

  packed_returns : q.state.next_used.slot < q.state.size → (buffer : PackedBuffer) (len : ℕ)
      → Uses so_packed (returning (Packed q) buffer len)
  packed_returns below buffer len =
      uses_if so_packed q.state.ready _ _ (λ _. uses_if so_packed (not (is_out q.state buffer)) _ _ (λ _. tt) (λ _. (
        in_ring Write (16 * q.state.next_used.slot + 8) 6 (omega arith) refl,
        λ a. (
          in_ring Write (16 * q.state.next_used.slot + 14) 2 (omega arith) refl,
          λ w. (
            in_ring Write (16 * q.state.next_used.slot + 8) 6 (omega arith) refl,
            (in_ring Write (16 * q.state.next_used.slot + 14) 2 (omega arith) refl, tt),
          ),
        ),
      ))) (λ _. tt)

  packed_waits : q.state.next_avail.slot < q.state.size → Uses so_packed (enabling (Packed q))
  packed_waits below = uses_if so_packed q.state.ready _ _ (λ _. (
    in_device 0 (omega arith),
    λ v. (
      in_device 2 (omega arith),
      λ w. (
        in_ring Read (16 * q.state.next_avail.slot + 14) 2 (omega arith) refl,
        λ x. (
          in_device 0 (omega arith),
          (
            in_device 2 (omega arith),
            (in_ring Read (16 * q.state.next_avail.slot + 14) 2 (omega arith) refl, λ flags. tt),
          ),
        ),
      ),
    ),
  )) (λ _. tt)

  packed_wants : (added : Option ℕ) → Uses so_packed (packed_events.wanting q.state added)
  packed_wants None = tt
  packed_wants (Some n) = (
    in_driver 2 (omega arith),
    λ flags.
        uses_if so_packed (q.state.event_idx_enabled && is_by_offset flags) _ _
        (λ _. (in_driver 0 (omega arith), λ event. tt)) (λ _. tt),
  )

  packed_asks : Uses so_packed (asking (Packed q))
  packed_asks = uses_if so_packed q.state.ready _ _ (λ _. packed_wants q.added) (λ _. tt)

-- ---- rings

pub returns_wanted : (q : AnyQueue) (log : Option ℕ) (buffer : PackedBuffer) (len : ℕ) → IsPossible q
    → Uses (IsWanted (ring_wants q log)) (returning q buffer len)
returns_wanted (Split q) log buffer len possible = split_returns q log (split_size q.state possible) buffer len
returns_wanted (Packed q) log buffer len possible = packed_returns q log (packed_slots q.state possible).1 buffer len

pub waits_wanted : (q : AnyQueue) (log : Option ℕ) → IsPossible q → Uses (IsWanted (ring_wants q log)) (enabling q)
waits_wanted (Split q) log possible = split_waits q log
waits_wanted (Packed q) log possible = packed_waits q log (packed_slots q.state possible).0

pub asks_wanted : (q : AnyQueue) (log : Option ℕ) → Uses (IsWanted (ring_wants q log)) (asking q)
asks_wanted (Split q) log = split_asks q log
asks_wanted (Packed q) log = packed_asks q log
