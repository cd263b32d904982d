-- What looks at a packed ring give, in memory that stands still: the answer that it holds.
use Rattle.std.proofs.Common.{◌≡◌, ◌∙◌, ℕ, zero, suc, ◌+◌, ◌*◌, ◌-◌, if◌then◌else◌, Bool, true, false, List, [], ◌∷◌, ◌++◌, length, map, Option, Some, None, Result, Ok, Err, ap, inl, inr, refl, sym, arith, append_assoc, append-nil}
use Rattle.vm_memory_device.specs.Chain.{chain_fault}
use Rattle.vm_memory_device.specs.declared.chain.Segment.{Segment}
use Rattle.vm_memory_guest.specs.Host.{Host}
use Rattle.vm_memory_guest.specs.Memory.{Memory}
use Rattle.virtio_queue.specs.Available.{if_chain, indirect_len}
use Rattle.virtio_queue.specs.Fields.{Answers, descriptor_at, word_at}
use Rattle.virtio_queue.specs.Looks.{MayWantAny, Tree, and_takes, answer, gives, if_ok, keeps, takes, word}
use Rattle.virtio_queue.specs.Packed.{slot_after, slots_out}
use Rattle.virtio_queue.specs.PackedPopping.{MayWantChain, Taken, chain_after, chain_known, chain_made, chain_taken, last_after, listing, popping, rows_after, with_known}
use Rattle.virtio_queue.specs.PackedRing as held
use Rattle.virtio_queue.specs.PackedRing.{Listed, chain_of, has_next, if_next, in_front, is_available, is_indirect, is_last, last_segments, listed, next_chain, next_listed, packed_at, packed_of, plain, popped, prefixed, rows, segment_of, segments_of}
use Rattle.virtio_queue.specs.Rings.{and_then}
use Rattle.virtio_queue.specs.declared.descriptor.Descriptor.{Descriptor}
use Rattle.virtio_queue.specs.declared.error.QueueError.{QueueError}
use Rattle.virtio_queue.specs.declared.error.QueueError.TheVariants as errors
use Rattle.virtio_queue.specs.declared.packed.descriptor.PackedDescriptor.{PackedDescriptor}
use Rattle.virtio_queue.specs.declared.packed.state.PackedBuffer.{PackedBuffer}
use Rattle.virtio_queue.specs.declared.packed.state.PackedState.{PackedState}
use Rattle.virtio_queue.proofs.FlagLemmas.{flags_are, then_ok}
use Rattle.virtio_queue.proofs.StillLemmas.{answer_then}

in_front_twice : (xs ys : List Segment) (r : Result (List Segment) QueueError)
    → in_front xs (in_front ys r) ≡ in_front (xs ++ ys) r
in_front_twice xs ys (Ok ss) = ap Ok (sym (append_assoc xs ys ss))
in_front_twice xs ys (Err e) = refl

-- the descriptors of a chain, after these segments of so many slots
abbrev taken : List Segment → ℕ → Listed → Taken
taken front slots l = record {
  segments = front ++ map segment_of l.front;
  last = l.last;
  slots = slots + (length l.front + 1);
}

taken_more : (front : List Segment) (slots : ℕ) (p : PackedDescriptor) (r : Result Listed QueueError)
    → and_then r (λ l. Ok (taken (front ++ segment_of p ∷ []) (slots + 1) l))
    ≡ and_then (prefixed (p ∷ []) r) (λ l. Ok (taken front slots l))
taken_more front slots p (Ok l) =
    let count : slots + 1 + (length l.front + 1) ≡ slots + (length (p ∷ l.front) + 1) = omega arith in
    ap (λ ss. Ok (record { segments = ss; last = l.last; slots = slots + 1 + (length l.front + 1) }))
    (append_assoc front (segment_of p ∷ []) (map segment_of l.front))
    ∙ ap (λ n. Ok (record { segments = front ++ map segment_of (p ∷ l.front); last = l.last; slots = n })) count
taken_more front slots p (Err e) = refl

module _ {B : Type 0} (m : Memory) (host : Host B) where
  -- the flags that are known of a slot are those that it has
  abbrev AreFlags : ℕ → ℕ → Option ℕ → Type 0
  AreFlags ring i known = (d : Descriptor) → descriptor_at m host ring i ≡ Ok d
      → with_known known (packed_of d) ≡ packed_of d

  found_flags : (ring i flags : ℕ) → word_at m host ring (16 * i + 14) ≡ Ok flags → AreFlags ring i (Some flags)
  found_flags ring i flags there d is = ap (λ n. record { addr = d.addr; len = d.len; id = d.flags; flags = n })
      (sym (flags_are m host ring i flags d there is))

  module _ (ring size : ℕ) where
    abbrev on : ℕ → List Segment → ℕ → ℕ → PackedDescriptor → Bool → Tree Taken
    on most front slots i p last = if last then gives (Ok (record { segments = front; last = p; slots = slots + 1 }))
        else keeps (listing ring size most (front ++ segment_of p ∷ []) (slots + 1) (slot_after size i) None)

    abbrev made : ℕ → ℕ → PackedDescriptor → Bool → Result Listed QueueError
    made most i p last = if last then Ok (record { front = []; last = p })
        else prefixed (p ∷ []) (listed (packed_at m host ring) size most (slot_after size i))

    module _ (most : ℕ) (front : List Segment) (slots i : ℕ) (known : Option ℕ) (rest : (front : List Segment)
        (slots i : ℕ) → answer m host (listing ring size most front slots i None)
        ≡ and_then (listed (packed_at m host ring) size most i) (λ l. Ok (taken front slots l))) where
      by_last : (p : PackedDescriptor) (last : Bool) → answer m host (on most front slots i p last)
          ≡ and_then (made most i p last) (λ l. Ok (taken front slots l))
      by_last p true = ap (λ ss. Ok (record { segments = ss; last = p; slots = slots + 1 })) (sym (append-nil front))
      by_last p false = rest (front ++ segment_of p ∷ []) (slots + 1) (slot_after size i)
          ∙ taken_more front slots p (listed (packed_at m host ring) size most (slot_after size i))

      by_found : (r : Result Descriptor QueueError)
          → ((d : Descriptor) → r ≡ Ok d → with_known known (packed_of d) ≡ packed_of d)
          → and_then r (λ d. answer m host (on most front slots i (with_known known (packed_of d))
          (is_last (with_known known (packed_of d)))))
          ≡ and_then (and_then (and_then r (λ d. Ok (packed_of d))) (λ p. made most i p (is_last p)))
          (λ l. Ok (taken front slots l))
      by_found (Ok d) fits = ap (λ p. answer m host (on most front slots i p (is_last p))) (fits d refl)
          ∙ by_last (packed_of d) (is_last (packed_of d))
      by_found (Err e) fits = refl

    answer_listing : (most : ℕ) (front : List Segment) (slots i : ℕ) (known : Option ℕ) → AreFlags ring i known
        → answer m host (listing ring size most front slots i known)
        ≡ and_then (listed (packed_at m host ring) size most i) (λ l. Ok (taken front slots l))
    unfolding listing listed
    answer_listing zero front slots i known fits = refl
    answer_listing (suc most) front slots i known fits = by_found most front slots i known
        (λ front slots i. answer_listing most front slots i None (λ d is. refl)) (descriptor_at m host ring i) fits

  -- ---- the last descriptor, and its table

  module _ (table : ℕ) where
    by_row : (n : ℕ) (front : List Segment) (i : ℕ) → ((front : List Segment) (i : ℕ)
        → answer m host (rows_after table n front i) ≡ in_front front (rows (packed_at m host table) n i))
        → (r : Result Descriptor QueueError)
        → and_then r (λ d. answer m host (rows_after table n (front ++ segment_of (packed_of d) ∷ []) (i + 1)))
        ≡ in_front front (and_then (and_then r (λ d. Ok (packed_of d)))
        (λ p. in_front (segment_of p ∷ []) (rows (packed_at m host table) n (i + 1))))
    by_row n front i rest (Ok d) = rest (front ++ segment_of (packed_of d) ∷ []) (i + 1)
        ∙ sym (in_front_twice front (segment_of (packed_of d) ∷ []) (rows (packed_at m host table) n (i + 1)))
    by_row n front i rest (Err e) = refl

    answer_rows : (n : ℕ) (front : List Segment) (i : ℕ)
        → answer m host (rows_after table n front i) ≡ in_front front (rows (packed_at m host table) n i)
    unfolding rows_after rows
    answer_rows zero front i = ap Ok (sym (append-nil front))
    answer_rows (suc n) front i = by_row n front i (answer_rows n) (descriptor_at m host table i)

  module _ (front : List Segment) (d : PackedDescriptor) where
    by_len : (r : Result ℕ QueueError) → answer m host (if_ok (λ n. rows_after d.addr n front 0) r)
        ≡ in_front front (and_then r (λ n. rows (packed_at m host d.addr) n 0))
    by_len (Ok n) = answer_rows d.addr n front 0
    by_len (Err e) = refl

    by_kind : (kind : Bool) → answer m host (if kind then if_ok (λ n. rows_after d.addr n front 0) (indirect_len (plain d))
        else keeps (gives (Ok (front ++ segment_of d ∷ []))))
        ≡ in_front front (if kind then held.table_segments m host d else Ok (segment_of d ∷ []))
    by_kind true = by_len (indirect_len (plain d))
    by_kind false = refl

    answer_last : answer m host (last_after front d) ≡ in_front front (last_segments m host d)
    answer_last = by_kind (is_indirect d)

  -- ---- the chain

  answer_taken : (l : Listed) → answer m host (chain_taken (taken [] 0 l)) ≡ chain_of m host l
  answer_taken l =
      let count : 0 + (length l.front + 1) ≡ length l.front + 1 = omega arith in
      let t = taken [] 0 l in
      answer_then m host (last_after t.segments t.last) (λ ss. gives (chain_made t ss))
      ∙ ap (λ r. and_then r (chain_made t)) (answer_last t.segments t.last)
      ∙ ap (λ n. and_then (segments_of m host l) (λ ss. and_then (if_chain ss (chain_fault ss)) (λ ss.
      Ok (record { id = l.last.id; slots = n }, ss)))) count

  module _ (q : PackedState) (flags : ℕ)
      (there : word_at m host q.desc_ring (16 * q.next_avail.slot + 14) ≡ Ok flags) where
    abbrev ones : Tree Taken
    ones = listing q.desc_ring q.size (q.size - slots_out q.size q.next_avail q.next_used) [] 0 q.next_avail.slot
        (Some flags)

    answer_ones : answer m host ones ≡ and_then (next_listed m host q) (λ l. Ok (taken [] 0 l))
    answer_ones = answer_listing q.desc_ring q.size (q.size - slots_out q.size q.next_avail q.next_used) [] 0
        q.next_avail.slot (Some flags) (found_flags q.desc_ring q.next_avail.slot flags there)

    chain_listed : (r : Result Listed QueueError)
        → and_then (and_then r (λ l. Ok (taken [] 0 l))) (λ t. answer m host (chain_taken t))
        ≡ and_then r (chain_of m host)
    chain_listed (Ok l) = answer_taken l
    chain_listed (Err e) = refl

    answer_known : answer m host (chain_known q flags) ≡ next_chain m host q
    answer_known = answer_then m host ones chain_taken
        ∙ ap (λ r. and_then r (λ t. answer m host (chain_taken t))) answer_ones
        ∙ chain_listed (next_listed m host q)

  -- ---- what is popped

  module _ (q : PackedState) where
    abbrev some : PackedBuffer × List Segment → Tree (Option (PackedBuffer × List Segment))
    some p = gives (Ok (Some p))

    abbrev flags_at : Result ℕ QueueError
    flags_at = word_at m host q.desc_ring (16 * q.next_avail.slot + 14)

    by_available : (flags : ℕ) → flags_at ≡ Ok flags → (b : Bool)
        → answer m host (if b then and_takes (chain_known q flags) some else gives (Ok None)) ≡ if_next m host q b
    by_available flags there true = answer_then m host (chain_known q flags) some
        ∙ ap (λ r. and_then r (λ p. Ok (Some p))) (answer_known q flags there)
    by_available flags there false = refl

    by_flags : (r : Result ℕ QueueError) → flags_at ≡ r → and_then r (λ flags. answer m host (chain_after q flags))
        ≡ and_then (and_then r (λ flags. Ok (is_available flags q.next_avail.wrap))) (if_next m host q)
    by_flags (Ok flags) there = by_available flags there (is_available flags q.next_avail.wrap)
    by_flags (Err e) there = refl

    by_ready : (ready : Bool) → answer m host
        (if ready then takes (word q.desc_ring (16 * q.next_avail.slot + 14)) (chain_after q)
        else gives (Err errors.QueueNotReady))
        ≡ and_then (and_then (if ready then flags_at else Err errors.QueueNotReady)
        (λ flags. Ok (is_available flags q.next_avail.wrap))) (if_next m host q)
    by_ready true = by_flags flags_at refl
    by_ready false = refl

    answer_popping : answer m host (popping q) ≡ popped m host q
    answer_popping = by_ready q.ready

    -- a pop by looks at it answers what it holds
    pub pops_held : (result : Result (Option (PackedBuffer × List Segment)) QueueError)
        → Answers (MayWantAny m host (popping q)) (answer m host (popping q)) result
        → Answers (MayWantChain m host q) (popped m host q) result
    pops_held result (inl is) = inl (is ∙ answer_popping)
    pops_held result (inr full) = inr full

    not_found : (b : Bool) → if_next m host q b ≡ Ok None → b ≡ false
    not_found true is = by (next_chain m host q) is
      where
        by : (r : Result (PackedBuffer × List Segment) QueueError) → and_then r (λ p. Ok (Some p)) ≡ Ok None
            → true ≡ false
        by (Ok p) is = absurd (cc)
        by (Err e) is = absurd (cc)
    not_found false is = refl

    pub none_held : (result : Result (Option (PackedBuffer × List Segment)) QueueError)
        → Answers (MayWantChain m host q) (popped m host q) result → result ≡ Ok None → has_next m host q ≡ Ok false
    none_held result (inl so) is =
        let (b, there, none) = then_ok (has_next m host q) (if_next m host q) None (sym so ∙ is) in
        there ∙ ap Ok (not_found b none)
    none_held result (inr (so, w)) is = absurd (cc)
