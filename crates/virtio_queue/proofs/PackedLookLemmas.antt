-- Looks at a packed ring, turn by turn.
use Rattle.std.proofs.Common.{◌≡◌, ◌∙◌, ℕ, suc, ◌+◌, ◌*◌, ◌-◌, ◌<◌, ◌≤◌, if◌then◌else◌, true, false, List, [], ◌∷◌, ◌++◌, Option, Some, None, Result, Ok, Err, ap, inl, inr, refl, subst, sym, arith}
use Rattle.vm_memory_device.specs.Chain.{chain_fault}
use Rattle.vm_memory_device.specs.declared.chain.ChainFault.{ChainFault}
use Rattle.vm_memory_device.specs.declared.chain.Segment.{Segment}
use Rattle.virtio_queue.specs.Again.{chain_of_copies, segments_of}
use Rattle.virtio_queue.specs.Available.{if_chain}
use Rattle.virtio_queue.specs.Looks.{Follows, Given, Step, Tree, and_takes, gives, keeps, takes, row, word}
use Rattle.virtio_queue.specs.Packed.{slot_after, slots_out}
use Rattle.virtio_queue.specs.PackedPopping.{Taken, chain_after, chain_known, chain_made, chain_taken, last_after, listing, popping, rows_after, with_known}
use Rattle.virtio_queue.specs.PackedRing.{is_available, is_last, packed_of, segment_of}
use Rattle.virtio_queue.specs.Rings.{and_then}
use Rattle.virtio_queue.specs.declared.descriptor.Descriptor.{Descriptor}
use Rattle.virtio_queue.specs.declared.error.QueueError.{QueueError}
use Rattle.virtio_queue.specs.declared.error.QueueError.TheVariants as errors
use Rattle.virtio_queue.specs.declared.packed.descriptor.PackedDescriptor.{PackedDescriptor}
use Rattle.virtio_queue.specs.declared.packed.state.PackedBuffer.{PackedBuffer}
use Rattle.virtio_queue.specs.declared.packed.state.PackedState.{PackedState}
use Rattle.virtio_queue.proofs.LookLemmas.{then_fails, then_follows}

module _ {S : Type 0} (look : S → (p : Step) → Result (Given p) QueueError → S → Type 0) where
  module _ (ring size room : ℕ) (front : List Segment) (turns slot : ℕ) (known : Option ℕ) where
    abbrev on : ℕ → PackedDescriptor → Tree Taken
    on most p = if is_last p then gives (Ok (record { segments = front; last = p; slots = turns + 1 }))
        else keeps (listing ring size most (front ++ segment_of p ∷ []) (turns + 1) (slot_after size slot) None)

    -- the next turn
    turn : turns < room → listing ring size (room - turns) front turns slot known
        ≡ takes (row ring slot) (λ d. on (room - (turns + 1)) (with_known known (packed_of d)))
    unfolding listing
    turn h = let more : room - turns ≡ suc (room - (turns + 1)) = omega arith in rw more refl

    pub list_refused : (s new : S) (e : QueueError) → turns < room → look s (row ring slot) (Err e) new
        → Follows look (listing ring size (room - turns) front turns slot known) s (Err e) new
    list_refused s new e h looked = rw (turn h) (Err e, new, looked, (refl, refl))

    on_last : (most : ℕ) (p : PackedDescriptor) → is_last p ≡ true
        → on most p ≡ gives (Ok (record { segments = front; last = p; slots = turns + 1 }))
    on_last most p last = rw last refl

    on_next : (most : ℕ) (p : PackedDescriptor) → is_last p ≡ false → on most p
        ≡ keeps (listing ring size most (front ++ segment_of p ∷ []) (turns + 1) (slot_after size slot) None)
    on_next most p next = rw next refl

    module _ (s new : S) (d : Descriptor) (p : PackedDescriptor) (h : turns < room)
        (looked : look s (row ring slot) (Ok d) new) (is : p ≡ with_known known (packed_of d)) where
      -- what is made of the descriptor is made of the turn
      made : (t : Tree Taken) (result : Result Taken QueueError) (end : S) → on (room - (turns + 1)) p ≡ t
          → Follows look t new result end
          → Follows look (listing ring size (room - turns) front turns slot known) s result end
      made t result end so rest = rw (turn h) (
        Ok d,
        new,
        looked,
        subst (λ t. Follows look t new result end)
            (sym so ∙ ap (on (room - (turns + 1))) is) rest,
      )

      pub list_last : is_last p ≡ true → Follows look (listing ring size (room - turns) front turns slot known) s
          (Ok (record { segments = front; last = p; slots = turns + 1 })) new
      list_last last = made (gives (Ok (record { segments = front; last = p; slots = turns + 1 })))
          (Ok (record { segments = front; last = p; slots = turns + 1 })) new
          (on_last (room - (turns + 1)) p last) (refl, refl)

      abbrev more : List Segment → Tree Taken
      more after = listing ring size (room - (turns + 1)) after (turns + 1) (slot_after size slot) None

      pub list_full : is_last p ≡ false
          → Follows look (listing ring size (room - turns) front turns slot known) s (Err errors.Memory) new
      list_full next = made (keeps (more (front ++ segment_of p ∷ []))) (Err errors.Memory) new
          (on_next (room - (turns + 1)) p next) (inr (refl, refl))

      pub list_next : (after : List Segment) (result : Result Taken QueueError) (end : S) → is_last p ≡ false
          → after ≡ front ++ segment_of p ∷ [] → Follows look (more after) new result end
          → Follows look (listing ring size (room - turns) front turns slot known) s result end
      list_next after result end next so rest = made (keeps (more (front ++ segment_of p ∷ []))) result end
          (on_next (room - (turns + 1)) p next)
          (inl (subst (λ ss. Follows look (more ss) new result end) so rest))

    pub list_loop : (s : S) → room ≤ turns
        → Follows look (listing ring size (room - turns) front turns slot known) s (Err errors.DescriptorLoop) s
    unfolding listing
    list_loop s h = let none : room - turns ≡ 0 = omega arith in rw none (refl, refl)

  -- the first turn is one of all
  pub list_all : (ring size room : ℕ) (front : List Segment) (slot : ℕ) (known : Option ℕ) (s end : S)
      (result : Result Taken QueueError)
      → Follows look (listing ring size (room - 0) front 0 slot known) s result end
      → Follows look (listing ring size room front 0 slot known) s result end
  list_all ring size room front slot known s end result h =
      let all : room - 0 ≡ room = omega arith in
      subst (λ n. Follows look (listing ring size n front 0 slot known) s result end) all h

  module _ (table len : ℕ) (front : List Segment) (index : ℕ) where
    abbrev kept : Descriptor → Tree (List Segment)
    kept d = keeps (rows_after table (len - (index + 1)) (front ++ segment_of (packed_of d) ∷ []) (index + 1))

    next_row : index < len → rows_after table (len - index) front index ≡ takes (row table index) kept
    unfolding rows_after
    next_row h = let more : len - index ≡ suc (len - (index + 1)) = omega arith in rw more refl

    pub rows_refused : (s new : S) (e : QueueError) → index < len → look s (row table index) (Err e) new
        → Follows look (rows_after table (len - index) front index) s (Err e) new
    rows_refused s new e h looked = rw (next_row h) (Err e, new, looked, (refl, refl))

    pub rows_full : (s new : S) (d : Descriptor) → index < len → look s (row table index) (Ok d) new
        → Follows look (rows_after table (len - index) front index) s (Err errors.Memory) new
    rows_full s new d h looked = rw (next_row h) (Ok d, new, looked, inr (refl, refl))

    pub rows_next : (s new : S) (d : Descriptor) (p : PackedDescriptor) (after : List Segment)
        (result : Result (List Segment) QueueError) (end : S) → index < len → look s (row table index) (Ok d) new
        → p ≡ packed_of d → after ≡ front ++ segment_of p ∷ []
        → Follows look (rows_after table (len - (index + 1)) after (index + 1)) new result end
        → Follows look (rows_after table (len - index) front index) s result end
    rows_next s new d p after result end h looked is so rest = rw (next_row h) (
      Ok d,
      new,
      looked,
      inl (subst (λ ss. Follows look (rows_after table (len - (index + 1)) ss (index + 1))
          new result end) (so ∙ ap (λ p. front ++ segment_of p ∷ []) is) rest),
    )

    pub rows_done : (s : S) → len ≤ index
        → Follows look (rows_after table (len - index) front index) s (Ok front) s
    unfolding rows_after
    rows_done s h = let none : len - index ≡ 0 = omega arith in rw none (refl, refl)

  -- a chain of the descriptors that were taken
  module _ (t : Taken) (s new : S) where
    abbrev ends : List Segment → Tree (PackedBuffer × List Segment)
    ends ss = gives (chain_made t ss)

    pub last_refused : (e : QueueError) → Follows look (last_after t.segments t.last) s (Err e) new
        → Follows look (chain_taken t) s (Err e) new
    last_refused e h = then_fails look (last_after t.segments t.last) ends s new e h

    pub last_taken : (ss : List Segment) (fault : Option ChainFault)
        → Follows look (last_after t.segments t.last) s (Ok ss) new → chain_fault ss ≡ fault
        → Follows look (chain_taken t) s
        (and_then (if_chain ss fault) (λ ss. Ok (record { id = t.last.id; slots = t.slots }, ss))) new
    last_taken ss fault h is = then_follows look (last_after t.segments t.last) ends s new new ss
        (and_then (if_chain ss fault) (λ ss. Ok (record { id = t.last.id; slots = t.slots }, ss))) h
        (ap (λ f. and_then (if_chain ss f) (λ ss. Ok (record { id = t.last.id; slots = t.slots }, ss))) (sym is), refl)

  -- a chain of descriptors that were kept
  module _ (q : PackedState) (ds : List PackedDescriptor) (s new : S) (ready : q.ready ≡ true) where
    abbrev checked : List Segment → Tree (List Segment)
    checked ss = gives (if_chain ss (chain_fault ss))

    pub copies_refused : (e : QueueError) → Follows look (segments_of ds) s (Err e) new
        → Follows look (chain_of_copies q ds) s (Err e) new
    copies_refused e h = rw ready (then_fails look (segments_of ds) checked s new e h)

    pub copies_made : (ss : List Segment) (fault : Option ChainFault) → Follows look (segments_of ds) s (Ok ss) new
        → chain_fault ss ≡ fault → Follows look (chain_of_copies q ds) s (if_chain ss fault) new
    copies_made ss fault h is = rw ready (then_follows look (segments_of ds) checked s new new ss (if_chain ss fault) h
        (ap (if_chain ss) (sym is), refl))

  module _ (q : PackedState) (flags : ℕ) (s : S) where
    abbrev first_ones : Tree Taken
    first_ones = listing q.desc_ring q.size (q.size - slots_out q.size q.next_avail q.next_used) [] 0
        q.next_avail.slot (Some flags)

    pub chain_refused : (new : S) (e : QueueError) → Follows look first_ones s (Err e) new
        → Follows look (chain_known q flags) s (Err e) new
    chain_refused new e h = then_fails look first_ones chain_taken s new e h

    pub chain_follows : (mid new : S) (t : Taken) (result : Result (PackedBuffer × List Segment) QueueError)
        → Follows look first_ones s (Ok t) mid → Follows look (chain_taken t) mid result new
        → Follows look (chain_known q flags) s result new
    chain_follows mid new t result h rest = then_follows look first_ones chain_taken s mid new t result h rest

    -- the slot was found to be available
    module _ (mid new : S) (ready : q.ready ≡ true) (available : is_available flags q.next_avail.wrap ≡ true)
        (looked : look s (word q.desc_ring (16 * q.next_avail.slot + 14)) (Ok flags) mid) where
      abbrev some : PackedBuffer × List Segment → Tree (Option (PackedBuffer × List Segment))
      some p = gives (Ok (Some p))

      behind : chain_after q flags ≡ and_takes (chain_known q flags) some
      behind = rw available refl

      pops : (result : Result (Option (PackedBuffer × List Segment)) QueueError)
          → Follows look (and_takes (chain_known q flags) some) mid result new → Follows look (popping q) s result new
      pops result h = rw ready
          (Ok flags, mid, looked, subst (λ t. Follows look t mid result new) (sym behind) h)

      pub pop_refused : (e : QueueError) → Follows look (chain_known q flags) mid (Err e) new
          → Follows look (popping q) s (Err e) new
      pop_refused e h = pops (Err e) (then_fails look (chain_known q flags) some mid new e h)

      pub pop_found : (p : PackedBuffer × List Segment) → Follows look (chain_known q flags) mid (Ok p) new
          → Follows look (popping q) s (Ok (Some p)) new
      pop_found p h =
          pops (Ok (Some p)) (then_follows look (chain_known q flags) some mid new new p (Ok (Some p)) h (refl, refl))
