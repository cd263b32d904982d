-- A packed ring is started where the theorem on crashes says.
use Rattle.std.proofs.Common.{◌≡◌, ◌⊎◌, ◌∙◌, ℕ, ◌+◌, ◌*◌, ◌-◌, ◌%◌, ◌/◌, ◌^◌, ◌<◌, ◌≤◌, Bool, true, false, not, ◌&&◌, ◌||◌, List, [], ◌∷◌, ◌++◌, drop, length, take, Option, Some, None, Result, Ok, Err, IfOk, MatchResult, refl, ap, sym, subst, inl, inr, arith}
use Rattle.std.proofs.lemmas.Bool.{cases_eq, le-ltb, leb-false, lt-ltb, ltb-false, ltb-true, ne_eqb, or_parts}
use Rattle.std.proofs.lemmas.Bool.Decides.{nat_tests}
use Rattle.std.proofs.lemmas.List.{drop_at, length-map, map-append, take_at}
use Rattle.std.proofs.lemmas.List.Sums.{sum_by-cons}
use Rattle.std.specs.Prelude.{map, nat_le, nat_lt, ◌==◌, if◌then◌else◌, zero, suc}
use Rattle.std.specs.List.{flat_map}
use Rattle.std.specs.declared.alloc.AllocError.{AllocError}
use Rattle.virtio_queue.specs.Packed.{PackedVirtqueue, are_positions, at_base, of_bits, set_if, to_bits, with_positions}
use Rattle.virtio_queue.specs.declared.any.AnyQueue.{AnyQueue}
use Rattle.virtio_queue.specs.declared.any.AnyQueue.TheVariants.{Packed}
use Rattle.virtio_queue.specs.declared.error.QueueError.TheVariants.{InvalidAvailRingIndex}
use Rattle.virtio_queue.specs.declared.packed.descriptor.PackedDescriptor.{PackedDescriptor}
use Rattle.virtio_queue.specs.declared.packed.position.RingPosition.{RingPosition}
use Rattle.vhost_inflight.specs.Packed.{PackedKept, PackedRegion, entry_of, entry_offset, kept_of, moved}
use Rattle.vhost_inflight.specs.PackedBytes.{header_in, old_slot, region_of}
use Rattle.vhost_inflight.specs.PackedCrash.{GoesOn, Start, World, effect, looked_at, position, start_effect}
use Rattle.vhost_inflight.specs.PackedStart.{Flies, IsInFlight, StartFails, Starts, again_of, chain_fault, chain_of, chains_fault, cleared, commits, entries_fault, fault, free, free_fault, free_list, free_of, free_seen, greatest, header_fault, last_of, nodes_of, num_of, opening_fault, or_else, or_none, place_of, repeats, seen_too, settled, slots_of, start_fault, start_stores, started, taken_entries, taken_header, taken_place, walk}
use Rattle.vhost_inflight.specs.declared.packed.PackedStore.{PackedStore}
use Rattle.vhost_inflight.specs.declared.packed_error.PackedStartError.{PackedStartError}
use Rattle.vhost_inflight.specs.declared.packed_error.PackedStartError.TheVariants as refused
use Rattle.vhost_inflight.specs.declared.packed_region.PackedCopy.{PackedCopy}
use Rattle.vhost_inflight.specs.declared.packed_region.PackedEntry.{PackedEntry}
use Rattle.vhost_inflight.specs.declared.packed_region.PackedHeader.{PackedHeader}
use Rattle.vhost_inflight.specs.declared.packed_region.PackedPosition.{PackedPosition}
use Rattle.vhost_inflight.specs.declared.packed_start.PackedAgain.{PackedAgain}
use Rattle.vhost_inflight.specs.declared.packed_start.PackedStart.{PackedStart}
use Rattle.vhost_backend.proofs.QueueAtLemmas.{none_some}
use Rattle.vhost_backend.specs.BlockQueue.{BlockQueueState, FlightState, flight_started}
use Rattle.vhost_backend.specs.Flight.{AfterOld, AfterPackedStart, PackedStartsBy, base_in, packed_on_by, packed_refused, stood_at, used_ring_of}
use Rattle.vhost_backend.specs.Marks.{MarksRing, logged_at}
use Rattle.vhost_backend.specs.PackedCrash.{GoesOnPackedAs, StandsAt, StartsPackedAs, chains_in}
use Rattle.vhost_backend.specs.PackedFlight.{PackedFlightState, TracksPacked, copy_by, descriptor_by, flight_of}
use Rattle.vhost_backend.specs.RingMemory.{MemoryStep, Returned}
use Rattle.vhost_backend.specs.declared.flight.FlightPlace.{FlightPlace}
use Rattle.vhost_backend.specs.declared.ring.RingEvent.{RingEvent}
use Rattle.vhost_backend.specs.declared.ring.RingEvent.TheVariants.{Kick}

-- ---- faults

first_none : (a b : Option PackedStartError) → or_else a b ≡ None → a ≡ None
first_none None b is = refl
first_none (Some e) b is = absurd (cc)

second_none : (a b : Option PackedStartError) → or_else a b ≡ None → b ≡ None
second_none None b is = is
second_none (Some e) b is = absurd (cc)

-- a test that is a fault fails
off : (t : Bool) (e : PackedStartError) (o : Option PackedStartError) → (if t then Some e else o) ≡ None → t ≡ false
off true e o is = absurd (cc)
off false e o is = refl

later : (t : Bool) (e : PackedStartError) (o : Option PackedStartError) → (if t then Some e else o) ≡ None → o ≡ None
later true e o is = absurd (cc)
later false e o is = is

-- what is known of a header that is accepted
record Known (size : ℕ) (h : PackedHeader) (base : PackedPosition) : Type 0 where
  version : h.version ≤ 1
  used : (taken_header h base).used.slot < size
  old : (taken_header h base).old_used.slot < size

known : (descriptors size : ℕ) (h : PackedHeader) (base : PackedPosition) → header_fault descriptors size h base ≡ None
    → Known size h base
known descriptors size h base is =
    let taken : PackedHeader = taken_header h base in
    let outside : Bool = nat_le size taken.used.slot || nat_le size taken.old_used.slot in
    let other : Bool = (h.version == 1) && not (h.desc_num == descriptors) in
    let last : Option PackedStartError = if outside then Some refused.Position else None in
    let rest : Option PackedStartError = if other then Some refused.DescNum else last in
    let two = or_parts (nat_le size taken.used.slot) (nat_le size taken.old_used.slot)
    (off outside refused.Position None (later other refused.DescNum last
    (later (nat_lt 1 h.version) refused.Version rest is))) in
    record {
      version = ltb-false 1 h.version (off (nat_lt 1 h.version) refused.Version rest is);
      used = leb-false size taken.used.slot two.0;
      old = leb-false size taken.old_used.slot two.1;
    }

-- the chains fit in the slots that are left
fits : (room num : ℕ) → (num == 0 || nat_lt room num) ≡ false → num ≤ room
fits room num is = ltb-false room num (or_parts (num == 0) (nat_lt room num) is).1

room_left : (es : List PackedEntry) (seen : List Bool) (room : ℕ) (heads : List ℕ)
    → chains_fault es seen room heads ≡ None → slots_of es heads ≤ room
room_left es seen room [] is = omega arith
room_left es seen room (head ∷ heads) is =
    let first = first_none (chain_fault es seen room head)
    (chains_fault es (seen_too seen (nodes_of es head)) (room - num_of es head) heads) is in
    let rest = room_left es (seen_too seen (nodes_of es head)) (room - num_of es head) heads
    (second_none (chain_fault es seen room head)
    (chains_fault es (seen_too seen (nodes_of es head)) (room - num_of es head) heads) is) in
    let here : num_of es head ≤ room = fits room (num_of es head)
    (off (num_of es head == 0 || nat_lt room (num_of es head)) refused.ChainLen
    (if repeats seen (nodes_of es head) then Some refused.Shared else (
    if last_of head (nodes_of es head) == (entry_of es head).last then None else Some refused.Last)) first) in
    let sum : slots_of es (head ∷ heads) ≡ num_of es head + slots_of es heads = sum_by-cons (num_of es) head heads in
    omega arith

-- ---- what a start reads of a region and of its ring

fresh_header : (h : PackedHeader) (base : PackedPosition) → h.version ≡ 0
    → taken_header h base ≡ record h { free_head = 0; old_free_head = 0; used = base; old_used = base }
fresh_header h base is = ap (λ (n : ℕ). if n == 0
    then record h { free_head = 0; old_free_head = 0; used = base; old_used = base } else h) is

-- a fresh region has nothing that the ring could say more of
fresh_head : (h : PackedHeader) (base : PackedPosition) (flags : ℕ) → h.version ≡ 0
    → (place_of (taken_header h base) flags).free_head ≡ 0
fresh_head h base flags is = ap (λ (v : PackedHeader). (place_of v flags).free_head) (fresh_header h base is)
    ∙ go (commits new flags) refl
  where
    new : PackedHeader
    new = record h { free_head = 0; old_free_head = 0; used = base; old_used = base }

    go : (t : Bool) → commits new flags ≡ t → (place_of new flags).free_head ≡ 0
    go true e = rw e refl
    go false e = rw e refl

fresh_used : (h : PackedHeader) (base : PackedPosition) (flags : ℕ) → h.version ≡ 0
    → (place_of (taken_header h base) flags).used ≡ base
fresh_used h base flags is = ap (λ (v : PackedHeader). (place_of v flags).used) (fresh_header h base is)
    ∙ go (commits new flags) refl
  where
    new : PackedHeader
    new = record h { free_head = 0; old_free_head = 0; used = base; old_used = base }

    go : (t : Bool) → commits new flags ≡ t → (place_of new flags).used ≡ base
    go true e = rw e refl
    go false e = rw e refl

written_header : (h : PackedHeader) (base : PackedPosition) → (h.version ≡ 0 → ⊥) → taken_header h base ≡ h
written_header h base isnt = ap (λ (t : Bool). if t
    then record h { free_head = 0; old_free_head = 0; used = base; old_used = base } else h) (ne_eqb h.version 0 isnt)

-- where the same is taken of the header, a start is the same
module _ (r : PackedRegion) (base base' : PackedPosition) (flags flags' : ℕ)
    (header : taken_header r.header base ≡ taken_header r.header base')
    (head : (taken_place r base flags).free_head ≡ (taken_place r base' flags').free_head)
    (at : (taken_place r base flags).used ≡ (taken_place r base' flags').used) where
  free_of_alike : free_of r base flags ≡ free_of r base' flags'
  free_of_alike = ap (free_list (taken_entries r) (length r.entries)) head

  free_alike : free r base flags ≡ free r base' flags'
  free_alike = ap or_none free_of_alike

  settled_alike : settled r base flags ≡ settled r base' flags'
  settled_alike = ap (cleared (taken_entries r)) free_alike

  header_alike : (descriptors size : ℕ)
      → header_fault descriptors size r.header base ≡ header_fault descriptors size r.header base'
  header_alike descriptors size = ap (λ (h : PackedHeader).
      if nat_lt 1 r.header.version then Some refused.Version else (
      if (r.header.version == 1) && not (r.header.desc_num == descriptors) then Some refused.DescNum else (
      if nat_le size h.used.slot || nat_le size h.old_used.slot then Some refused.Position else None))) header

  fault_alike : (descriptors size : ℕ) (heads : List ℕ)
      → fault descriptors size r base flags heads ≡ fault descriptors size r base' flags' heads
  fault_alike descriptors size heads =
      let opening : opening_fault descriptors size r base flags ≡ opening_fault descriptors size r base' flags' =
      ap (λ (o : Option PackedStartError). or_else o (or_else (free_fault (free_of r base flags))
      (entries_fault (taken_entries r) (settled r base flags)))) (header_alike descriptors size)
      ∙ (ap (λ (o : Option (List ℕ)). or_else (header_fault descriptors size r.header base') (or_else (free_fault o)
      (entries_fault (taken_entries r) (settled r base flags)))) free_of_alike
      ∙ ap (λ (es : List PackedEntry). or_else (header_fault descriptors size r.header base')
      (or_else (free_fault (free_of r base' flags')) (entries_fault (taken_entries r) es))) settled_alike) in
      ap (λ (o : Option PackedStartError). or_else o
      (chains_fault (settled r base flags) (free_seen descriptors (free r base flags)) size heads)) opening
      ∙ (ap (λ (es : List PackedEntry). or_else (opening_fault descriptors size r base' flags')
      (chains_fault es (free_seen descriptors (free r base flags)) size heads)) settled_alike
      ∙ ap (λ (xs : List ℕ). or_else (opening_fault descriptors size r base' flags')
      (chains_fault (settled r base' flags') (free_seen descriptors xs) size heads)) free_alike)

  flies_alike : (heads : List ℕ) → Flies r base flags heads → Flies r base' flags' heads
  flies_alike heads flies = subst (λ (es : List PackedEntry). IsInFlight es heads) settled_alike flies

  flies_back : (heads : List ℕ) → Flies r base' flags' heads → Flies r base flags heads
  flies_back heads flies = subst (λ (es : List PackedEntry). IsInFlight es heads) (sym settled_alike) flies

  fails_alike : (descriptors size : ℕ) (e : PackedStartError) → StartFails descriptors size r base flags e
      → StartFails descriptors size r base' flags' e
  fails_alike descriptors size e fails heads flies =
      sym (fault_alike descriptors size heads) ∙ fails heads (flies_back heads flies)

  starts_alike : (descriptors size : ℕ) (s : PackedStart) → Starts descriptors size r base flags s
      → Starts descriptors size r base' flags' s
  starts_alike descriptors size s starts = record {
    heads = starts.heads;
    order = flies_alike starts.heads starts.order;
    accepted = sym (fault_alike descriptors size starts.heads) ∙ starts.accepted;
    again = starts.again ∙ ap (λ (es : List PackedEntry). map (again_of es) starts.heads) settled_alike;
    copies = starts.copies ∙ ap (λ (es : List PackedEntry). flat_map (chain_of es) starts.heads) settled_alike;
    next_used = starts.next_used ∙ at;
    next_avail = starts.next_avail
        ∙ (ap (λ (p : PackedPosition). moved size p (slots_of (settled r base flags) starts.heads)) at
        ∙ ap (λ (es : List PackedEntry). moved size (taken_place r base' flags').used (slots_of es starts.heads))
        settled_alike);
    stores = starts.stores
        ∙ (ap (λ (n : ℕ). stores_by descriptors n (taken_place r base flags).used (free r base flags)) head
        ∙ (ap (λ (p : PackedPosition).
        stores_by descriptors (taken_place r base' flags').free_head p (free r base flags)) at
        ∙ ap (stores_by descriptors (taken_place r base' flags').free_head (taken_place r base' flags').used)
        free_alike));
    kept = starts.kept ∙ kept_alike;
  }
    where
      stores_by : ℕ → ℕ → PackedPosition → List ℕ → List PackedStore
      stores_by descriptors n p xs = start_stores descriptors r.header.version (record { free_head = n; used = p }) xs

      kept_by : List PackedEntry → ℕ → PackedPosition → PackedKept
      kept_by es n p =
          record { entries = es; free_head = n; next_free = n; used = p; size = size; count = greatest es }

      kept_alike : started size r base flags ≡ started size r base' flags'
      kept_alike = ap (λ (es : List PackedEntry). kept_by es (taken_place r base flags).free_head
          (taken_place r base flags).used) settled_alike
          ∙ (ap (λ (n : ℕ). kept_by (settled r base' flags') n (taken_place r base flags).used) head
          ∙ ap (kept_by (settled r base' flags') (taken_place r base' flags').free_head) at)

-- ---- chains

copies_back : (cs : List PackedCopy) → map copy_by (map descriptor_by cs) ≡ cs
copies_back [] = refl
copies_back (c ∷ cs) = ap (λ (xs : List PackedCopy). c ∷ xs) (copies_back cs)

walked : (es : List PackedEntry) (n index : ℕ) → length (walk es n index) ≡ n
walked es zero index = refl
walked es (suc n) index = ap suc (walked es n (entry_of es index).next)

chain_length : (es : List PackedEntry) (head : ℕ) → length (map descriptor_by (chain_of es head)) ≡ num_of es head
chain_length es head = length-map (chain_of es head) descriptor_by
    ∙ (length-map (nodes_of es head) _ ∙ walked es (num_of es head) head)

-- the chains that a start gives are those of its region
chains_are : (es : List PackedEntry) (heads : List ℕ)
    → chains_in (map (again_of es) heads) (map descriptor_by (flat_map (chain_of es) heads)) ≡ map (chain_of es) heads
chains_are es [] = refl
chains_are es (head ∷ heads) =
    let here : List PackedDescriptor = map descriptor_by (chain_of es head) in
    let rest : List PackedDescriptor = map descriptor_by (flat_map (chain_of es) heads) in
    let n : ℕ = num_of es head in
    let both : map descriptor_by (flat_map (chain_of es) (head ∷ heads)) ≡ here ++ rest =
    map-append descriptor_by (chain_of es head) (flat_map (chain_of es) heads) in
    ap (λ (ds : List PackedDescriptor). map copy_by (take n ds) ∷ chains_in (map (again_of es) heads) (drop n ds)) both
    ∙ (ap (λ (ds : List PackedDescriptor). map copy_by ds ∷ chains_in (map (again_of es) heads) (drop n (here ++ rest)))
    (take_at here rest n (chain_length es head))
    ∙ (ap (λ (ds : List PackedDescriptor). map copy_by here ∷ chains_in (map (again_of es) heads) ds)
    (drop_at here rest n (chain_length es head))
    ∙ (ap (λ (cs : List PackedCopy). cs ∷ chains_in (map (again_of es) heads) rest) (copies_back (chain_of es head))
    ∙ ap (λ (cs : List (List PackedCopy)). chain_of es head ∷ cs) (chains_are es heads))))

-- ---- positions

-- a position, as the queue has it
abbrev at_ring : PackedPosition → RingPosition
at_ring p = record { slot = p.slot; wrap = p.wrap }

abbrev bits_at : PackedPosition → ℕ
bits_at p = to_bits (at_ring p)

bits_come_back : (p : RingPosition) → p.slot < 32768 → of_bits (to_bits p) ≡ p
bits_come_back p small = go p.wrap p.slot small
  where
    go : (w : Bool) (slot : ℕ) → slot < 32768
        → of_bits (to_bits (record { slot = slot; wrap = w })) ≡ record { slot = slot; wrap = w }
    go true slot h =
        let s : (slot % 32768 + 32768) % 32768 ≡ slot = omega arith in
        let n : nat_le 32768 (slot % 32768 + 32768) ≡ true = grind (arith, nat_tests) in
        rw (s, n) refl
    go false slot h =
        let s : (slot % 32768 + 0) % 32768 ≡ slot = omega arith in
        let n : nat_le 32768 (slot % 32768 + 0) ≡ false = grind (arith, nat_tests) in
        rw (s, n) refl

bits_small : (p : RingPosition) → to_bits p < 2 ^ 16
bits_small p = go p.wrap p.slot
  where
    go : (w : Bool) (slot : ℕ) → to_bits (record { slot = slot; wrap = w }) < 2 ^ 16
    go true slot = omega arith
    go false slot = omega arith

-- so many slots are out, from where the next chain is returned on
stands_at : (size n : ℕ) (used : PackedPosition) → used.slot < size → n ≤ size
    → are_positions size (at_ring (moved size used n)) (at_ring used) ≡ true
stands_at size n used inside most = go used.wrap used.slot (nat_lt n (size - used.slot)) refl inside
  where
    go : (w : Bool) (slot : ℕ) (t : Bool) → nat_lt n (size - slot) ≡ t → slot < size
        → are_positions size (at_ring (moved size (record { slot = slot; wrap = w }) n))
        (at_ring (record { slot = slot; wrap = w })) ≡ true
    go true slot true e h = rw e (grind (arith, nat_tests))
    go true slot false e h = rw e (grind (arith, nat_tests))
    go false slot true e h = rw e (grind (arith, nat_tests))
    go false slot false e h = rw e (grind (arith, nat_tests))

avail_inside : (size n : ℕ) (used : PackedPosition) → used.slot < size → n ≤ size → (moved size used n).slot < size
avail_inside size n used inside most = go (nat_lt n (size - used.slot)) refl
  where
    go : (t : Bool) → nat_lt n (size - used.slot) ≡ t → (moved size used n).slot < size
    go true e = rw e (let l = ltb-true n (size - used.slot) e in omega arith)
    go false e = rw e (let l = ltb-false n (size - used.slot) e in omega arith)

-- a queue is set to the positions that its region says
base_is : (u : PackedVirtqueue) (n : ℕ) (used : PackedPosition) → u.state.size ≤ 2 ^ 15
    → used.slot < u.state.size → n ≤ u.state.size
    → (at_base u (bits_at (moved u.state.size used n) + 2 ^ 16 * bits_at used)).1
    ≡ with_positions u (at_ring (moved u.state.size used n)) (at_ring used)
base_is u n used most inside few =
    let avail : PackedPosition = moved u.state.size used n in
    let a : ℕ = bits_at avail in
    let b : ℕ = bits_at used in
    let small : a < 2 ^ 16 = bits_small (at_ring avail) in
    let low : (a + 2 ^ 16 * b) % 2 ^ 16 ≡ a = omega (arith, small) in
    let high : (a + 2 ^ 16 * b) / 2 ^ 16 ≡ b = omega (arith, small) in
    let within : avail.slot < u.state.size = avail_inside u.state.size n used inside few in
    let first : of_bits ((a + 2 ^ 16 * b) % 2 ^ 16) ≡ at_ring avail =
    ap of_bits low ∙ bits_come_back (at_ring avail) (omega (arith, within, most)) in
    let second : of_bits ((a + 2 ^ 16 * b) / 2 ^ 16) ≡ at_ring used =
    ap of_bits high ∙ bits_come_back (at_ring used) (omega (arith, inside, most)) in
    let set : RingPosition → RingPosition → PackedVirtqueue =
    λ x y. (set_if (are_positions u.state.size x y) InvalidAvailRingIndex u (with_positions u x y)).1 in
    ap (λ (x : RingPosition). set x (of_bits ((a + 2 ^ 16 * b) / 2 ^ 16))) first
    ∙ (ap (set (at_ring avail)) second
    ∙ ap (λ (t : Bool). (set_if t InvalidAvailRingIndex u (with_positions u (at_ring avail) (at_ring used))).1)
    (stands_at u.state.size n used inside few))

-- ---- where the region and the ring stand

-- what a start takes of the header is what the theorem has it take
record Alike (r : PackedRegion) (base base' : PackedPosition) (flags flags' : ℕ) : Type 0 where
  header : taken_header r.header base ≡ taken_header r.header base'
  head : (taken_place r base flags).free_head ≡ (taken_place r base' flags').free_head
  used : (taken_place r base flags).used ≡ (taken_place r base' flags').used

fresh_alike : (r : PackedRegion) (base base' : PackedPosition) (flags flags' : ℕ) → r.header.version ≡ 0
    → base ≡ base' → Alike r base base' flags flags'
fresh_alike r base base' flags flags' is same = record {
  header = ap (taken_header r.header) same;
  head = fresh_head r.header base flags is ∙ sym (fresh_head r.header base' flags' is);
  used = fresh_used r.header base flags is ∙ (same ∙ sym (fresh_used r.header base' flags' is));
}

written_alike : (r : PackedRegion) (base base' : PackedPosition) (flags flags' : ℕ) → (r.header.version ≡ 0 → ⊥)
    → flags ≡ flags' → Alike r base base' flags flags'
written_alike r base base' flags flags' isnt same =
    let header : taken_header r.header base ≡ taken_header r.header base' =
    written_header r.header base isnt ∙ sym (written_header r.header base' isnt) in
    record {
      header = header;
      head = ap (λ (h : PackedHeader). (place_of h flags).free_head) header
          ∙ ap (λ (n : ℕ). (place_of (taken_header r.header base') n).free_head) same;
      used = ap (λ (h : PackedHeader). (place_of h flags).used) header
          ∙ ap (λ (n : ℕ). (place_of (taken_header r.header base') n).used) same;
    }

place_inside : (size : ℕ) (h : PackedHeader) (flags : ℕ) → h.used.slot < size → h.old_used.slot < size
    → (place_of h flags).used.slot < size
place_inside size h flags new old = go (commits h flags) refl
  where
    go : (t : Bool) → commits h flags ≡ t → (place_of h flags).used.slot < size
    go true e = rw e new
    go false e = rw e old

-- the slot that is looked at is the one that the region names
names_slot : (size : ℕ) (bytes : List ℕ) (h : PackedHeader) → header_in bytes ≡ h → 32 ≤ length bytes → h.version ≡ 1
    → h.old_used.slot < size → old_slot size bytes ≡ Some h.old_used.slot
names_slot size bytes h same long version inside =
    ap (λ (t : Bool). if t then None else (if ((header_in bytes).version == 1)
    && nat_lt (header_in bytes).old_used.slot size then Some (header_in bytes).old_used.slot else None))
    (le-ltb (length bytes) 32 long)
    ∙ (ap (λ (v : PackedHeader). if (v.version == 1) && nat_lt v.old_used.slot size then Some v.old_used.slot else None)
    same
    ∙ (ap (λ (n : ℕ). if (n == 1) && nat_lt h.old_used.slot size then Some h.old_used.slot else None) version
    ∙ ap (λ (t : Bool). if t then Some h.old_used.slot else None) (lt-ltb h.old_used.slot size inside)))

no_fault : (descriptors size : ℕ) (bytes : List ℕ) → entry_offset descriptors ≤ length bytes → size ≤ descriptors
    → start_fault descriptors size bytes ≡ None
no_fault descriptors size bytes long small =
    ap (λ (t : Bool). if t then Some refused.TooShort else (
    if nat_lt descriptors size then Some refused.RingSize else None))
    (le-ltb (length bytes) (entry_offset descriptors) long)
    ∙ ap (λ (t : Bool). if t then Some refused.RingSize else None) (le-ltb descriptors size small)

-- ---- starts

module _ (p : FlightPlace) (u : PackedVirtqueue) (bytes : List ℕ) (flags began : ℕ) (w : World)
    (goes : GoesOn p.descriptors u.state.size began w) (most : u.state.size ≤ 2 ^ 15)
    (long : entry_offset p.descriptors ≤ length bytes) (region : region_of p.descriptors bytes ≡ w.region)
    (begins : w.region.header.version ≡ 0 → base_in u.state ≡ position u.state.size began)
    (looks : (slot : ℕ) → old_slot u.state.size bytes ≡ Some slot → flags ≡ looked_at w) where
  header_known : Known u.state.size w.region.header (position u.state.size began)
  header_known = known p.descriptors u.state.size w.region.header (position u.state.size began)
      (first_none (header_fault p.descriptors u.state.size w.region.header (position u.state.size began)) _
      (first_none (opening_fault p.descriptors u.state.size w.region (position u.state.size began) (looked_at w)) _
      goes.accepted))

  same_flags : (w.region.header.version ≡ 0 → ⊥) → flags ≡ looked_at w
  same_flags isnt =
      let k = header_known in
      let version : w.region.header.version ≡ 1 = let v : w.region.header.version ≤ 1 = k.version in omega arith in
      let old : w.region.header.old_used.slot < u.state.size =
      subst (λ (h : PackedHeader). h.old_used.slot < u.state.size)
      (written_header w.region.header (position u.state.size began) isnt) k.old in
      looks w.region.header.old_used.slot (names_slot u.state.size bytes w.region.header
      (ap (λ (r : PackedRegion). r.header) region) (omega arith) version old)

  alike : Alike w.region (base_in u.state) (position u.state.size began) flags (looked_at w)
  alike = elim (cases_eq w.region.header.version 0) [
    | inl is ↦ fresh_alike w.region (base_in u.state) (position u.state.size began) flags (looked_at w) is (begins is)
    | inr isnt ↦ written_alike w.region (base_in u.state) (position u.state.size began) flags (looked_at w) isnt
        (same_flags isnt)
  ]

  -- a start that goes through is the one that the theorem has
  starts_as : (s : PackedStart)
      → Starts p.descriptors u.state.size (region_of p.descriptors bytes) (base_in u.state) flags s
      → Starts p.descriptors u.state.size w.region (position u.state.size began) (looked_at w) s
  starts_as s starts = starts_alike w.region (base_in u.state) (position u.state.size began) flags (looked_at w)
      alike.header alike.head alike.used p.descriptors u.state.size s
      (subst (λ (r : PackedRegion). Starts p.descriptors u.state.size r (base_in u.state) flags s) region starts)

  never_fails : {R : Type 0} (e : PackedStartError)
      → StartFails p.descriptors u.state.size (region_of p.descriptors bytes) (base_in u.state) flags e → R
  never_fails e fails =
      none_some (fault p.descriptors u.state.size w.region (position u.state.size began) (looked_at w) goes.heads) e
      goes.accepted (fails_alike w.region (base_in u.state) (position u.state.size began) flags (looked_at w)
      alike.header alike.head alike.used p.descriptors u.state.size e
      (subst (λ (r : PackedRegion). StartFails p.descriptors u.state.size r (base_in u.state) flags e) region fails)
      goes.heads goes.again)

  module _ (s : PackedStart)
      (starts : Starts p.descriptors u.state.size w.region (position u.state.size began) (looked_at w) s)
      (same : starts.heads ≡ goes.heads) where
    abbrev es : List PackedEntry
    es = settled w.region (position u.state.size began) (looked_at w)

    abbrev used : PackedPosition
    used = (taken_place w.region (position u.state.size began) (looked_at w)).used

    seen : w.view ≡ Some (chains_in s.again.items (map descriptor_by s.copies.items))
    seen = goes.seen ∙ ap (λ (cs : List (List PackedCopy)). Some cs)
        (sym (ap (λ (gs : List PackedAgain). chains_in gs (map descriptor_by s.copies.items)) starts.again
        ∙ (ap (λ (cs : List PackedCopy). chains_in (map (again_of es) starts.heads) (map descriptor_by cs))
        starts.copies
        ∙ (chains_are es starts.heads ∙ ap (λ (hs : List ℕ). map (chain_of es) hs) same))))

    used_inside : used.slot < u.state.size
    used_inside = place_inside u.state.size (taken_header w.region.header (position u.state.size began)) (looked_at w)
        header_known.used header_known.old

    room : slots_of es starts.heads ≤ u.state.size
    room = room_left es (free_seen p.descriptors (free w.region (position u.state.size began) (looked_at w)))
        u.state.size starts.heads (second_none
        (opening_fault p.descriptors u.state.size w.region (position u.state.size began) (looked_at w)) _
        starts.accepted)

    abbrev avail : PackedPosition
    avail = moved u.state.size used (slots_of es starts.heads)

    abbrev stood : PackedVirtqueue
    stood = (at_base u (bits_at s.next_avail + 2 ^ 16 * bits_at s.next_used)).1

    queue_is : stood ≡ with_positions u (at_ring avail) (at_ring used)
    queue_is =
        ap (λ (v : PackedPosition). (at_base u (bits_at v + 2 ^ 16 * bits_at s.next_used)).1) starts.next_avail
        ∙ (ap (λ (v : PackedPosition). (at_base u (bits_at avail + 2 ^ 16 * bits_at v)).1) starts.next_used
        ∙ base_is u (slots_of es starts.heads) used most used_inside room)

    next_is : avail ≡ position u.state.size w.popped
    next_is = ap (λ (hs : List ℕ). moved u.state.size used (slots_of es hs)) same ∙ goes.next

    stands : StandsAt (Packed stood) (position u.state.size w.popped) (kept_of s.in_flight).used
    stands = subst (λ (v : PackedVirtqueue).
        StandsAt (Packed v) (position u.state.size w.popped) (kept_of s.in_flight).used)
        (sym queue_is) (next_is, sym (ap (λ (k : PackedKept). k.used) starts.kept))

  module _ {H : Type 0} (step : H → (s : MemoryStep) → Returned s → H → Type 0)
      (once : (r : PackedRegion) (base : PackedPosition) (flags : ℕ) (xs ys : List ℕ) → Flies r base flags xs
      → Flies r base flags ys → xs ≡ ys)
      (q q' : BlockQueueState) (old new : H) (a : Option RingEvent) (queue : q.queue ≡ Packed u)
      (flight : q.flight ≡ flight_started (Some p)) where
    goes_on_with : (s : PackedStart)
        → Starts p.descriptors u.state.size w.region (position u.state.size began) (looked_at w) s → (mid : H)
        → TracksPacked step p s.stores.items old mid → a ≡ Some Kick
        → q' ≡ packed_on_by q s (flight_of (length q.asked) s)
        → StartsPackedAs step p (effect p.descriptors u.state.size began w None Start) w
        (position u.state.size w.popped) old a q' new
    goes_on_with s starts mid tracks is becomes =
        let same : starts.heads ≡ goes.heads = once w.region (position u.state.size began) (looked_at w) starts.heads
        goes.heads starts.order goes.again in (
          start_effect p.descriptors u.state.size began w,
          start_stores p.descriptors w.region.header.version
              (taken_place w.region (position u.state.size began) (looked_at w))
              (free w.region (position u.state.size began) (looked_at w)),
          flight_of (length q.asked) s,
          mid,
          refl,
          refl,
          subst (λ (ss : List PackedStore). TracksPacked step p ss old mid) starts.stores tracks,
          is,
          ap (λ (v : BlockQueueState). v.flight) becomes ∙ ap (λ (f : FlightState). record f {
            is_unread = false;
            packed = Some (flight_of (length q.asked) s);
          }) flight,
          starts.kept,
          seen s starts same,
          subst (λ (v : AnyQueue). StandsAt v (position u.state.size w.popped) (kept_of s.in_flight).used)
              (sym (ap (λ (v : BlockQueueState). v.queue) becomes
              ∙ ap (λ (v : AnyQueue). stood_at v s.next_avail s.next_used) queue)) (stands s starts same),
        )

    pub goes_on_packed_as : u.state.size ≤ p.descriptors → AfterOld step u.state.size (base_in u.state) q p bytes (Ok flags) old a q' new
        → GoesOnPackedAs step p (effect p.descriptors u.state.size began w None Start) w
        (position u.state.size w.popped) q old a q' new
    goes_on_packed_as small (r, starts, after) = by r starts after
      where
        made_or : (s : PackedStart)
            → Starts p.descriptors u.state.size w.region (position u.state.size began) (looked_at w) s
            → (made : Result PackedFlightState AllocError) → IfOk made (λ k. k ≡ flight_of (length q.asked) s)
            → MatchResult made (λ k. (mid : H) × TracksPacked step p s.stores.items old mid
            × MarksRing step (logged_at q.reach.log (used_ring_of q.queue)) mid new
            × (a ≡ Some Kick) × (q' ≡ packed_on_by q s k))
            (λ e. (a ≡ None) × (q' ≡ q) × (new ≡ old))
            → GoesOnPackedAs step p (effect p.descriptors u.state.size began w None Start) w
            (position u.state.size w.popped) q old a q' new
        made_or s starts (Ok k) made (mid, tracks, marked, is, becomes) =
            inr (goes_on_with s starts mid tracks is (becomes ∙ ap (packed_on_by q s) made))
        made_or s starts (Err e) made after = inl after

        refused_by : (e : PackedStartError) → (e ≡ refused.Memory)
            ⊎ ((start_fault p.descriptors u.state.size bytes ≡ Some e)
            ⊎ ((start_fault p.descriptors u.state.size bytes ≡ None)
            × StartFails p.descriptors u.state.size (region_of p.descriptors bytes) (base_in u.state) flags e))
            → (a ≡ packed_refused e) × (q' ≡ q) × (new ≡ old)
            → GoesOnPackedAs step p (effect p.descriptors u.state.size began w None Start) w
            (position u.state.size w.popped) q old a q' new
        refused_by e (inl memory) (is, becomes, still) = inl (is ∙ ap packed_refused memory, becomes, still)
        refused_by e (inr (inl bad)) after = none_some (start_fault p.descriptors u.state.size bytes) e
            (no_fault p.descriptors u.state.size bytes long small) bad
        refused_by e (inr (inr (well, fails))) after = never_fails e fails

        by : (r : Result PackedStart PackedStartError)
            → PackedStartsBy bytes p.descriptors u.state.size (base_in u.state) flags r
            → AfterPackedStart step q p r old a q' new
            → GoesOnPackedAs step p (effect p.descriptors u.state.size began w None Start) w
            (position u.state.size w.popped) q old a q' new
        by (Ok s) (starts, well) (k, made, after) = made_or s (starts_as s starts) k made after
        by (Err e) why after = refused_by e why after
