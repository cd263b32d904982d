-- A pop of a packed queue, and a chain that is made of copies of its descriptors.
use Rattle.std.proofs.Common.{◌≡◌, ◌∙◌, ℕ, zero, suc, ◌+◌, ◌-◌, ◌*◌, if◌then◌else◌, Bool, true, false, List, [], ◌∷◌, ◌++◌, length, map, take, slice_get, Option, Some, None, Result, Ok, Err, ap, refl, sym, arith}
use Rattle.std.proofs.Math.Path.{fun_ext}
use Rattle.std.proofs.Math.Seq.{get_or-append_seam, take-append_seam}
use Rattle.std.proofs.lemmas.List.{length-append, map-append}
use Rattle.std.proofs.lemmas.Option.{slice_get_read}
use Rattle.vm_memory_device.specs.Chain.{chain_fault}
use Rattle.vm_memory_device.specs.declared.chain.Segment.{Segment}
use Rattle.vm_memory_guest.specs.Host.{Host}
use Rattle.vm_memory_guest.specs.Memory.{Memory}
use Rattle.virtio_queue.specs.Again.{segments_of}
use Rattle.virtio_queue.specs.Available.{if_chain}
use Rattle.virtio_queue.specs.Looks.{Tree, and_takes, answer, gives, if_ok, if_ready, keeps, takes, found_in, row, word}
use Rattle.virtio_queue.specs.Packed.{slot_after, slots_out}
use Rattle.virtio_queue.specs.PackedCopies.{copies_after, copies_found, copies_known}
use Rattle.virtio_queue.specs.PackedLaws.{bare_tree, buffer_of_copies, chain_of_found, popping_copies}
use Rattle.virtio_queue.specs.PackedPopping.{Taken, chain_after, chain_known, chain_made, chain_taken, last_after, listing, popping, with_known}
use Rattle.virtio_queue.specs.PackedRing.{is_available, is_last, packed_of, segment_of}
use Rattle.virtio_queue.specs.Rings.{and_then}
use Rattle.virtio_queue.specs.declared.error.QueueError.{QueueError}
use Rattle.virtio_queue.specs.declared.packed.descriptor.PackedDescriptor.{PackedDescriptor}
use Rattle.virtio_queue.specs.declared.packed.state.PackedBuffer.{PackedBuffer}
use Rattle.virtio_queue.specs.declared.packed.state.PackedState.{PackedState}
use Rattle.virtio_queue.proofs.StillLemmas.{same_then}

-- ---- trees

bare_then : {S T : Type 0} (t : Tree S) (f : S → Tree T) → bare_tree (and_takes t f) ≡ and_takes (bare_tree t) (λ x. bare_tree (f x))
bare_then (gives (Ok x)) f = refl
bare_then (gives (Err e)) f = refl
bare_then (takes s k) f = ap (takes s) (fun_ext (λ v. bare_then (k v) f))
bare_then (keeps t) f = bare_then t f

then_twice : {R S T : Type 0} (t : Tree R) (f : R → Tree S) (g : S → Tree T)
    → and_takes (and_takes t f) g ≡ and_takes t (λ x. and_takes (f x) g)
then_twice (gives (Ok x)) f g = refl
then_twice (gives (Err e)) f g = refl
then_twice (takes s k) f g = ap (takes s) (fun_ext (λ v. then_twice (k v) f g))
then_twice (keeps t) f g = ap keeps (then_twice t f g)

module _ {B : Type 0} (m : Memory) (host : Host B) where
  answer_bare : {T : Type 0} (t : Tree T) → answer m host (bare_tree t) ≡ answer m host t
  answer_bare (gives r) = refl
  answer_bare (takes s k) = same_then m host (found_in m host s) (λ v. answer m host (bare_tree (k v)))
      (λ v. answer m host (k v)) (λ v. answer_bare (k v))
  answer_bare (keeps t) = answer_bare t

-- ---- the chain of descriptors

-- all but the last one, and the last one
before_last : (ds : List PackedDescriptor) (d : PackedDescriptor) → length (ds ++ d ∷ []) - 1 ≡ length ds
before_last ds d = let count = length-append ds (d ∷ []) in omega (arith, count)

all_but : (ds : List PackedDescriptor) (d : PackedDescriptor) → take (length (ds ++ d ∷ []) - 1) (ds ++ d ∷ []) ≡ ds
all_but ds d = rw (before_last ds d) (take-append_seam ds (d ∷ []))

last_is : (ds : List PackedDescriptor) (d : PackedDescriptor)
    → slice_get (ds ++ d ∷ []) (length (ds ++ d ∷ []) - 1) ≡ Some d
last_is ds d = let count = length-append ds (d ∷ []) in rw (before_last ds d)
    (slice_get_read (ds ++ d ∷ []) (length (ds ++ d ∷ [])) (length ds) d refl (omega (arith, count))
    (sym (get_or-append_seam ds d [] d)))

module _ (q : PackedState) (ready : q.ready ≡ true) where
  abbrev some : PackedBuffer × List Segment → Tree (Option (PackedBuffer × List Segment))
  some p = gives (Ok (Some p))

  abbrev returned : PackedBuffer → List Segment → Tree (Option (PackedBuffer × List Segment))
  returned buffer ss = gives (Ok (Some (buffer, ss)))

  abbrev checked : List Segment → Tree (List Segment)
  checked ss = gives (if_chain ss (chain_fault ss))

  -- a chain is checked, and then named, or both at once
  by_check : (t : Taken) (r : Result (List Segment) QueueError)
      → if_ok (returned (record { id = t.last.id; slots = t.slots })) r
      ≡ if_ok some (and_then r (λ ss. Ok (record { id = t.last.id; slots = t.slots }, ss)))
  by_check t (Ok ss) = refl
  by_check t (Err e) = refl

  checks : (t : Taken) (from : Tree (List Segment))
      → and_takes (and_takes from checked) (returned (record { id = t.last.id; slots = t.slots }))
      ≡ and_takes (and_takes from (λ ss. gives (chain_made t ss))) some
  checks t from = then_twice from checked (returned (record { id = t.last.id; slots = t.slots }))
      ∙ ap (and_takes from) (fun_ext (λ ss. by_check t (if_chain ss (chain_fault ss))))
      ∙ sym (then_twice from (λ ss. gives (chain_made t ss)) some)

  -- the last descriptor was found
  module _ (ds : List PackedDescriptor) (d : PackedDescriptor) where
    abbrev whole : Taken
    whole = record { segments = map segment_of ds; last = d; slots = length ds + 1 }

    abbrev made_of : Tree (List Segment) → PackedBuffer → Tree (Option (PackedBuffer × List Segment))
    made_of from buffer = and_takes (and_takes from checked) (returned buffer)

    segments_are : segments_of (ds ++ d ∷ []) ≡ keeps (last_after (map segment_of ds) d)
    segments_are = rw (all_but ds d, last_is ds d) refl

    buffer_is : buffer_of_copies (ds ++ d ∷ []) ≡ record { id = d.id; slots = length ds + 1 }
    buffer_is = rw (last_is ds d, length-append ds (d ∷ [])) refl

    copied_chain : bare_tree (chain_of_found q (Some (ds ++ d ∷ []))) ≡ bare_tree (and_takes (chain_taken whole) some)
    copied_chain = rw ready (
        ap (λ t. bare_tree (made_of t (buffer_of_copies (ds ++ d ∷ [])))) segments_are
        ∙ ap (λ b. bare_tree (made_of (last_after (map segment_of ds) d) b)) buffer_is
        ∙ ap bare_tree (checks whole (last_after (map segment_of ds) d)))

  -- ---- slot by slot

  abbrev from_copies : Tree (List PackedDescriptor) → Tree (Option (PackedBuffer × List Segment))
  from_copies t = and_takes (bare_tree t) (λ ds. bare_tree (chain_of_found q (Some ds)))

  abbrev from_taken : Tree Taken → Tree (Option (PackedBuffer × List Segment))
  from_taken t = and_takes (bare_tree t) (λ t. bare_tree (and_takes (chain_taken t) some))

  module _ (ring size : ℕ) where
    abbrev Same : ℕ → List PackedDescriptor → ℕ → Option ℕ → Type 0
    Same most ds i known = from_copies (copies_after ring size most ds i known)
        ≡ from_taken (listing ring size most (map segment_of ds) (length ds) i known)

    by_last : (most : ℕ) (ds : List PackedDescriptor) (i : ℕ)
        → ((ds : List PackedDescriptor) (i : ℕ) (known : Option ℕ) → Same most ds i known)
        → (p : PackedDescriptor) (last : Bool)
        → from_copies (if last then gives (Ok (ds ++ p ∷ []))
        else copies_after ring size most (ds ++ p ∷ []) (slot_after size i) None)
        ≡ from_taken (if last then gives (Ok (record { segments = map segment_of ds; last = p; slots = length ds + 1 }))
        else keeps (listing ring size most (map segment_of ds ++ segment_of p ∷ []) (length ds + 1) (slot_after size i)
        None))
    by_last most ds i rest p true = copied_chain ds p
    by_last most ds i rest p false = rest (ds ++ p ∷ []) (slot_after size i) None
        ∙ ap (λ front. from_taken (listing ring size most front (length (ds ++ p ∷ [])) (slot_after size i) None))
        (map-append segment_of ds (p ∷ []))
        ∙ ap (λ n. from_taken (listing ring size most (map segment_of ds ++ segment_of p ∷ []) n (slot_after size i)
        None)) (length-append ds (p ∷ []))

    same_slots : (most : ℕ) (ds : List PackedDescriptor) (i : ℕ) (known : Option ℕ) → Same most ds i known
    unfolding copies_after listing
    same_slots zero ds i known = refl
    same_slots (suc most) ds i known = ap (takes (row ring i)) (fun_ext (λ d.
        by_last most ds i (same_slots most) (with_known known (packed_of d))
        (is_last (with_known known (packed_of d)))))

  abbrev found : List PackedDescriptor → Tree (Option (List PackedDescriptor))
  found ds = gives (Ok (Some ds))

  -- the next slot is available or not
  by_available : (flags : ℕ) (available : Bool)
      → bare_tree (and_takes (if available then and_takes (copies_known q flags) found else gives (Ok None))
      (chain_of_found q))
      ≡ bare_tree (if available then and_takes (chain_known q flags) some else gives (Ok None))
  by_available flags true =
      ap bare_tree (then_twice (copies_known q flags) found (chain_of_found q))
      ∙ bare_then (copies_known q flags) (λ ds. chain_of_found q (Some ds))
      ∙ same_slots q.desc_ring q.size (q.size - slots_out q.size q.next_avail q.next_used) [] q.next_avail.slot
      (Some flags)
      ∙ sym (bare_then (listing q.desc_ring q.size (q.size - slots_out q.size q.next_avail q.next_used) [] 0
      q.next_avail.slot (Some flags)) (λ t. and_takes (chain_taken t) some))
      ∙ ap bare_tree (sym (then_twice (listing q.desc_ring q.size (q.size - slots_out q.size q.next_avail q.next_used) [] 0
      q.next_avail.slot (Some flags)) chain_taken some))
  by_available flags false = refl

  same_ready : takes (word q.desc_ring (16 * q.next_avail.slot + 14))
      (λ flags. bare_tree (and_takes (copies_found q flags) (chain_of_found q)))
      ≡ takes (word q.desc_ring (16 * q.next_avail.slot + 14)) (λ flags. bare_tree (chain_after q flags))
  same_ready = ap (takes (word q.desc_ring (16 * q.next_avail.slot + 14)))
      (fun_ext (λ flags. by_available flags (is_available flags q.next_avail.wrap)))

by_ready : (q : PackedState) (ready : Bool) → q.ready ≡ ready
    → bare_tree (and_takes (if_ready ready (takes (word q.desc_ring (16 * q.next_avail.slot + 14)) (copies_found q)))
    (chain_of_found q))
    ≡ bare_tree (if_ready ready (takes (word q.desc_ring (16 * q.next_avail.slot + 14)) (chain_after q)))
by_ready q true is = same_ready q is
by_ready q false is = refl

pub same_trees : (q : PackedState) → bare_tree (popping_copies q) ≡ bare_tree (popping q)
same_trees q = by_ready q q.ready refl

pub copies_pop_still : {B : Type 0} (m : Memory) (host : Host B) (q : PackedState)
    → answer m host (popping_copies q) ≡ answer m host (popping q)
copies_pop_still m host q = sym (answer_bare m host (popping_copies q))
    ∙ ap (answer m host) (same_trees q) ∙ answer_bare m host (popping q)
