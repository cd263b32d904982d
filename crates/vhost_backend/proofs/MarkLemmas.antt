-- Marks, and what they cover.
use Rattle.std.proofs.Common.{◌≡◌, ◌⊎◌, ℕ, zero, suc, ◌+◌, ◌≤◌, ◌*◌, ◌==◌, nat_le, not, Bool, true, false, List, [], ◌∷◌, ◌++◌, Option, Some, None, Ok, Err, if◌then◌else◌, refl, arith, inl, inr}
use Rattle.std.proofs.lemmas.Bool.{eqb-true}
use Rattle.std.specs.List.{flat_map, slice_get}
use Rattle.vm_memory_device.specs.Chain.{Entry, entries_from, text, writable}
use Rattle.vm_memory_device.specs.declared.chain.Segment.{Segment}
use Rattle.vm_memory_base.specs.declared.iotlb.Permissions.TheVariants.{Read, Write}
use Rattle.virtio_queue.specs.Any.{enabling, returning}
use Rattle.virtio_queue.specs.Looks.{gives, handing, if_ready, loads, spot, stores, takes}
use Rattle.virtio_queue.specs.Notification.{kick_offset, kick_value}
use Rattle.virtio_queue.specs.Packed.{PackedVirtqueue, to_bits}
use Rattle.virtio_queue.specs.PackedEvents.{kick_flags}
use Rattle.virtio_queue.specs.PackedRing.{is_available}
use Rattle.virtio_queue.specs.PackedUsed.{is_out, rest_bytes, used_flags}
use Rattle.virtio_queue.specs.Rings.{index_after, slot}
use Rattle.virtio_queue.specs.State.{Virtqueue}
use Rattle.virtio_queue.specs.Used.{entry_bytes}
use Rattle.virtio_queue.specs.declared.any.AnyQueue.{AnyQueue}
use Rattle.virtio_queue.specs.declared.any.AnyQueue.TheVariants.{Split, Packed}
use Rattle.virtio_queue.specs.declared.error.QueueError.TheVariants as errors
use Rattle.virtio_queue.specs.declared.packed.state.PackedBuffer.{PackedBuffer}
use Rattle.virtio_queue.specs.declared.packed.state.PackedState.{PackedState}
use Rattle.virtio_queue.specs.declared.state.QueueState.{QueueState}
use Rattle.vhost_backend.specs.Fetch.{used_of}
use Rattle.vhost_backend.specs.Marks.{Covered, CoveredFrom, Stores, asking_marks, chain_marks, logged_at, return_marks}
use Rattle.vhost_backend.specs.declared.pieces.Piece.{Piece}

-- ---- all writable bytes of a chain

covered_left : (xs ys : List Piece) (a n : ℕ) → Covered xs a n → Covered (xs ++ ys) a n
covered_left [] ys a n covered = absurd covered
covered_left (x ∷ xs) ys a n (inl here) = inl here
covered_left (x ∷ xs) ys a n (inr there) = inr (covered_left xs ys a n there)

covered_right : (xs ys : List Piece) (a n : ℕ) → Covered ys a n → Covered (xs ++ ys) a n
covered_right [] ys a n covered = covered
covered_right (x ∷ xs) ys a n covered = inr (covered_right xs ys a n covered)

-- where the entry of an index comes from
get-append : (xs ys : List Entry) (k : ℕ) (e : Entry) → slice_get (xs ++ ys) k ≡ Some e
    → (slice_get xs k ≡ Some e) ⊎ ((j : ℕ) × (slice_get ys j ≡ Some e))
get-append [] ys k e is = inr (k, is)
get-append (x ∷ xs) ys zero e is = inl is
get-append (x ∷ xs) ys (suc k) e is = get-append xs ys k e is

in_segment : (a len k : ℕ) (e : Entry) → slice_get (entries_from a len) k ≡ Some e
    → (a ≤ e.address) × (e.address + 1 ≤ a + len)
unfolding entries_from
in_segment a zero k e is = absurd (cc)
in_segment a (suc zero) zero e is = let same : a ≡ e.address = cc in (omega arith, omega arith)
in_segment a (suc zero) (suc k) e is = absurd (cc)
in_segment a (suc (suc len)) zero e is = let same : a ≡ e.address = cc in (omega arith, omega arith)
in_segment a (suc (suc len)) (suc k) e is =
    let (from, to) = in_segment (a + 1) (suc len) k e is in (omega arith, omega arith)

pub data_covered : (segments : List Segment) (k : ℕ) (e : Entry) → slice_get (text (writable segments)) k ≡ Some e
    → Covered (chain_marks segments) e.address 1
data_covered [] k e is = absurd (cc)
data_covered (s ∷ ss) k e is = go s.writable (λ j there. data_covered ss j e there) is
  where
    go : (b : Bool) → ((j : ℕ) → slice_get (text (writable ss)) j ≡ Some e → Covered (chain_marks ss) e.address 1)
        → slice_get (text (if b then s ∷ writable ss else writable ss)) k ≡ Some e
        → Covered ((if b then record { base = s.addr.0; offset = 0; len = s.len } ∷ [] else []) ++ chain_marks ss)
        e.address 1
    go false rest is = rest k is
    go true rest is = elim (get-append (entries_from s.addr.0 s.len) (text (writable ss)) k e is) [
      | inl here ↦ let (from, to) = in_segment s.addr.0 s.len k e here in inl (omega arith, omega arith)
      | inr (j, there) ↦ inr (rest j there)
    ]

-- ---- used rings, whose writes may be logged elsewhere

-- each mark of one is made
own_one : (log : Option ℕ) (m : Piece) (a n : ℕ) → Covered (m ∷ []) a n → Covered (logged_at log m) a n
own_one None m a n covered = covered
own_one (Some log) m a n (inl here) = inl here
own_one (Some log) m a n (inr none) = absurd none

own_two : (log : Option ℕ) (m o : Piece) (a n : ℕ) → Covered (m ∷ o ∷ []) a n
    → Covered (flat_map (logged_at log) (m ∷ o ∷ [])) a n
own_two log m o a n (inl here) =
    covered_left (logged_at log m) (logged_at log o ++ []) a n (own_one log m a n (inl here))
own_two log m o a n (inr there) = covered_right (logged_at log m) (logged_at log o ++ []) a n
    (covered_left (logged_at log o) [] a n (own_one log o a n there))

-- and so is one of the same bytes from where its writes are logged
logged_one : (log : ℕ) (m : Piece) (k n : ℕ) → m.offset ≤ k → k + n ≤ m.offset + m.len
    → Covered (logged_at (Some log) m) (log + k) n
logged_one log m k n from to = go (log == m.base) refl
  where
    go : (v : Bool) → (log == m.base) ≡ v
        → Covered (m ∷ (if v then [] else record m { base = log } ∷ [])) (log + k) n
    go true is = let same : log ≡ m.base = eqb-true log m.base is in inl (omega arith, omega arith)
    go false is = inr (inl (omega arith, omega arith))

first_logged : (log : ℕ) (m o : Piece) (k n : ℕ) → m.offset ≤ k → k + n ≤ m.offset + m.len
    → Covered (flat_map (logged_at (Some log)) (m ∷ o ∷ [])) (log + k) n
first_logged log m o k n from to = covered_left (logged_at (Some log) m) (logged_at (Some log) o ++ []) (log + k) n
    (logged_one log m k n from to)

second_logged : (log : ℕ) (m o : Piece) (k n : ℕ) → o.offset ≤ k → k + n ≤ o.offset + o.len
    → Covered (flat_map (logged_at (Some log)) (m ∷ o ∷ [])) (log + k) n
second_logged log m o k n from to = covered_right (logged_at (Some log) m) (logged_at (Some log) o ++ []) (log + k) n
    (covered_left (logged_at (Some log) o) [] (log + k) n (logged_one log o k n from to))

-- ---- the ring

-- what a return and a wait store is so, if that is so of each store
module _ (so : ℕ → ℕ → Type 0) where
  split_returns : (q : Virtqueue) (buffer : PackedBuffer) (len : ℕ)
      → so (q.state.used_ring + (4 + 8 * slot q.state.size q.state.next_used)) 8 → so (q.state.used_ring + 2) 2
      → Stores so (returning (Split q) buffer len)
  split_returns q buffer len entry index = go q.state.ready (nat_le q.state.size buffer.id)
    where
      s : QueueState
      s = q.state

      go : (ready past : Bool) → Stores so (if_ready ready (if past then gives (Err errors.InvalidDescriptorIndex)
          else handing s.used_ring (4 + 8 * slot s.size s.next_used) (entry_bytes buffer.id len) 2
          (index_after s.next_used)))
      go false past = tt
      go true true = tt
      go true false = λ a window. (entry, (index, tt))

  packed_returns : (q : PackedVirtqueue) (buffer : PackedBuffer) (len : ℕ)
      → so (q.state.desc_ring + (16 * q.state.next_used.slot + 8)) 6
      → so (q.state.desc_ring + (16 * q.state.next_used.slot + 14)) 2 → Stores so (returning (Packed q) buffer len)
  packed_returns q buffer len rest flags = go q.state.ready (not (is_out q.state buffer))
    where
      s : PackedState
      s = q.state

      go : (ready past : Bool) → Stores so (if_ready ready (if past then gives (Err errors.InvalidDescriptorIndex)
          else handing s.desc_ring (16 * s.next_used.slot + 8) (rest_bytes buffer len) (16 * s.next_used.slot + 14)
          (used_flags s.next_used.wrap len)))
      go false past = tt
      go true true = tt
      go true false = λ a window. (rest, (flags, tt))

  split_waits : (q : Virtqueue) → so (q.state.used_ring + kick_offset q.state) 2 → Stores so (enabling (Split q))
  split_waits q kick = go q.state.ready
    where
      s : QueueState
      s = q.state

      go : (ready : Bool) → Stores so (if_ready ready
          (takes (spot Write s.used_ring (kick_offset s)) (λ _. takes (spot Read s.avail_ring 2) (λ _.
          takes (stores s.used_ring (kick_offset s) (kick_value s)) (λ _. takes (loads s.avail_ring 2) (λ idx.
          gives (Ok (not (idx == s.next_avail)))))))))
      go false = tt
      go true = λ one other. (kick, λ idx. tt)

  packed_waits : (q : PackedVirtqueue) → so (q.state.device_area + 0) 2 → so (q.state.device_area + 2) 2
      → Stores so (enabling (Packed q))
  packed_waits q event flags = go q.state.ready
    where
      s : PackedState
      s = q.state

      next : ℕ
      next = 16 * s.next_avail.slot + 14

      go : (ready : Bool) → Stores so (if_ready ready
          (takes (spot Write s.device_area 0) (λ _. takes (spot Write s.device_area 2) (λ _.
          takes (spot Read s.desc_ring next) (λ _. takes (stores s.device_area 0 (to_bits s.next_avail)) (λ _.
          takes (stores s.device_area 2 (kick_flags s)) (λ _. takes (loads s.desc_ring next) (λ flags.
          gives (Ok (is_available flags s.next_avail.wrap))))))))))
      go false = tt
      go true = λ one other last. (event, (flags, λ idx. tt))

pub return_covered : (q : AnyQueue) (log : Option ℕ) (buffer : PackedBuffer) (len : ℕ)
    → Stores (Covered (return_marks q log)) (returning q buffer len)
return_covered (Split q) log buffer len = let s = q.state in
    let entry : Piece = record { base = s.used_ring; offset = 4 + 8 * slot s.size s.next_used; len = 8 } in
    let index : Piece = record { base = s.used_ring; offset = 2; len = 2 } in
    split_returns (Covered (return_marks (Split q) log)) q buffer len
    (own_two log entry index (s.used_ring + (4 + 8 * slot s.size s.next_used)) 8 (inl (omega arith, omega arith)))
    (own_two log entry index (s.used_ring + 2) 2 (inr (inl (omega arith, omega arith))))
return_covered (Packed q) log buffer len = packed_returns (Covered (return_marks (Packed q) log)) q buffer len
    (inl (omega arith, omega arith)) (inr (inl (omega arith, omega arith)))

pub asking_covered : (q : AnyQueue) (log : Option ℕ) → Stores (Covered (asking_marks q log)) (enabling q)
asking_covered (Split q) log = let s = q.state in
    split_waits (Covered (asking_marks (Split q) log)) q
    (own_one log (record { base = s.used_ring; offset = kick_offset s; len = 2 }) (s.used_ring + kick_offset s) 2
    (inl (omega arith, omega arith)))
asking_covered (Packed q) log = let s = q.state in
    let event : Piece = record { base = s.device_area; offset = 0; len = 2 } in
    let flags : Piece = record { base = s.device_area; offset = 2; len = 2 } in
    packed_waits (Covered (asking_marks (Packed q) log)) q
    (own_two log event flags (s.device_area + 0) 2 (inl (omega arith, omega arith)))
    (own_two log event flags (s.device_area + 2) 2 (inr (inl (omega arith, omega arith))))

-- ---- the same from where writes to the used ring are logged

pub return_logged : (q : Virtqueue) (log : ℕ) (buffer : PackedBuffer) (len : ℕ)
    → Stores (CoveredFrom q.state.used_ring log (return_marks (Split q) (Some log))) (returning (Split q) buffer len)
return_logged q log buffer len = let s = q.state in
    let entry : Piece = record { base = s.used_ring; offset = 4 + 8 * slot s.size s.next_used; len = 8 } in
    let index : Piece = record { base = s.used_ring; offset = 2; len = 2 } in
    split_returns (CoveredFrom s.used_ring log (return_marks (Split q) (Some log))) q buffer len
    (entry.offset, refl, first_logged log entry index entry.offset 8 (omega arith) (omega arith))
    (2, refl, second_logged log entry index 2 2 (omega arith) (omega arith))

pub asking_logged : (q : AnyQueue) (log : ℕ)
    → Stores (CoveredFrom (used_of q).iova log (asking_marks q (Some log))) (enabling q)
asking_logged (Split q) log = let s = q.state in
    split_waits (CoveredFrom s.used_ring log (asking_marks (Split q) (Some log))) q (
      kick_offset s,
      refl,
      logged_one log (record { base = s.used_ring; offset = kick_offset s; len = 2 }) (kick_offset s) 2 (omega arith)
          (omega arith),
    )
asking_logged (Packed q) log = let s = q.state in
    let event : Piece = record { base = s.device_area; offset = 0; len = 2 } in
    let flags : Piece = record { base = s.device_area; offset = 2; len = 2 } in
    packed_waits (CoveredFrom s.device_area log (asking_marks (Packed q) (Some log))) q
    (0, refl, first_logged log event flags 0 2 (omega arith) (omega arith))
    (2, refl, second_logged log event flags 2 2 (omega arith) (omega arith))
