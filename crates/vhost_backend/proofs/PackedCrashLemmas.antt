-- What a packed ring stores of its requests in flight is what the theorem on crashes has.
use Rattle.std.proofs.Common.{◌≡◌, ◌∙◌, ℕ, Bool, true, false, List, [], ◌∷◌, ◌++◌, Option, Some, None, Result, Ok, Err, MatchBool, MatchOption, refl, ap, sym, subst}
use Rattle.std.specs.Prelude.{map, if◌then◌else◌}
use Rattle.virtio_blk.specs.declared.request.DeviceLimits.{DeviceLimits}
use Rattle.virtio_queue.specs.Any.{next_avail_of, past}
use Rattle.virtio_queue.specs.Packed.{PackedVirtqueue}
use Rattle.virtio_queue.specs.declared.any.AnyQueue.{AnyQueue}
use Rattle.virtio_queue.specs.declared.any.AnyQueue.TheVariants.{Split, Packed}
use Rattle.virtio_queue.specs.declared.error.QueueError.{QueueError}
use Rattle.virtio_queue.specs.declared.packed.descriptor.PackedDescriptor.{PackedDescriptor}
use Rattle.virtio_queue.specs.declared.packed.state.PackedBuffer.{PackedBuffer}
use Rattle.vhost_inflight.specs.Packed.{PackedKept, add_stores, after_add, after_begin_pop, begin_pop_stores, can_add, can_begin_pop, can_end_pop, end_pop_head, end_pop_mark, end_pop_stores}
use Rattle.vhost_inflight.specs.PackedCrash.{Deed, Flags, Id, Pops, Refused, Region, add_deeds, after_adds, begin_deeds, end_deeds, pop_effect, unless}
use Rattle.vhost_inflight.specs.declared.packed.PackedStore.{PackedStore}
use Rattle.vhost_inflight.specs.declared.packed_region.PackedCopy.{PackedCopy}
use Rattle.vhost_inflight.specs.Split.{after_pop as split_after, pop_stores}
use Rattle.vhost_backend.proofs.CrashLemmas.{flies_in}
use Rattle.vhost_backend.proofs.InFlightLemmas.{Same, again_same, happens_same, known_same}
use Rattle.vhost_backend.specs.Behind.{HappensBy}
use Rattle.vhost_backend.specs.BlockQueue.{BlockQueueState, FlightState}
use Rattle.vhost_backend.specs.Flight.{AfterAskCopies, AfterCopies, AfterFirst, FindsCopies, FliesAt, FliesIn, FliesPacked, HappensFirst, HappensIn, HappensNew, PopsAgain, PopsCopies, TracksAt, is_open, next_again, passed_too, with_kept}
use Rattle.vhost_backend.specs.PackedCrash.{IsPop, PopsPackedBy, packed_to, stores_in}
use Rattle.vhost_backend.specs.PackedFlight.{AddsAll, PackedFlightState, StoresPop, TracksPacked, buffer_of, copy_by, first_again, listed, passed, popped_found, stores_if}
use Rattle.vhost_backend.specs.RingMemory.{MemoryStep, Returned}
use Rattle.vhost_backend.specs.Sight.{Sight}
use Rattle.vhost_backend.specs.declared.flight.FlightPlace.{FlightPlace}
use Rattle.vhost_backend.specs.declared.request.Chain.{Chain}
use Rattle.vhost_backend.specs.declared.ring.RingEvent.{RingEvent}
use Rattle.vhost_backend.specs.declared.ring.RingEvent.TheVariants.{Popped}

-- ---- the stores of an effect

stores_append : (xs ys : List Deed) → stores_in (xs ++ ys) ≡ stores_in xs ++ stores_in ys
stores_append [] ys = refl
stores_append (Region s ∷ xs) ys = ap (λ (ss : List PackedStore). s ∷ ss) (stores_append xs ys)
stores_append (Pops chain s ∷ xs) ys = ap (λ (ss : List PackedStore). s ∷ ss) (stores_append xs ys)
stores_append (Id id ∷ xs) ys = stores_append xs ys
stores_append (Flags at ∷ xs) ys = stores_append xs ys
stores_append (Refused ∷ xs) ys = stores_append xs ys

stores_map : (ss : List PackedStore) → stores_in (map Region ss) ≡ ss
stores_map [] = refl
stores_map (s ∷ ss) = ap (λ (xs : List PackedStore). s ∷ xs) (stores_map ss)

unless_stores : (can : Bool) (ss : List PackedStore) → stores_in (unless can (map Region ss)) ≡ stores_if can ss
unless_stores true ss = stores_map ss
unless_stores false ss = refl

end_stores : (can : Bool) (mark : PackedStore) (ds : List PackedCopy) (head : PackedStore)
    → stores_in (unless can (Region mark ∷ Pops ds head ∷ [])) ≡ stores_if can (mark ∷ head ∷ [])
end_stores true mark ds head = refl
end_stores false mark ds head = refl

module _ {H : Type 0} (step : H → (s : MemoryStep) → Returned s → H → Type 0) (p : FlightPlace) where
  tracks_append : (xs ys : List PackedStore) (old mid new : H) → TracksPacked step p xs old mid
      → TracksPacked step p ys mid new → TracksPacked step p (xs ++ ys) old new
  tracks_append [] ys old mid new is second = subst (λ h. TracksPacked step p ys h new) is second
  tracks_append (x ∷ xs) ys old mid new (m, first, rest) second =
      (m, first, tracks_append xs ys m mid new rest second)

  adds_are : (k : PackedKept) (ds : List PackedCopy) (old new : H) → AddsAll step (Some p) k ds old new
      → TracksPacked step p (stores_in (add_deeds k ds)) old new
  adds_are k [] old new is = is
  adds_are k (d ∷ ds) old new (mid, first, rest) =
      let here : List Deed = unless (can_add k) (map Region (add_stores k d)) in
      let later : List Deed = add_deeds (after_add k d) ds in
      subst (λ (ss : List PackedStore). TracksPacked step p ss old new) (sym (stores_append here later
      ∙ ap (λ (ss : List PackedStore). ss ++ stores_in later) (unless_stores (can_add k) (add_stores k d))))
      (tracks_append (stores_if (can_add k) (add_stores k d)) (stores_in later) old mid new first
      (adds_are (after_add k d) ds mid new rest))

  pop_is : (k : PackedKept) (ds : List PackedCopy) (old new : H) → StoresPop step (Some p) k ds old new
      → TracksPacked step p (stores_in (pop_effect k ds).deeds) old new
  pop_is k ds old new (one, two, first, adds, ends) =
      let begun : PackedKept = after_begin_pop k in let last : PackedKept = after_adds begun ds in
      subst (λ (ss : List PackedStore). TracksPacked step p ss old new)
      (sym (stores_append (begin_deeds k) (add_deeds begun ds ++ end_deeds last ds)
      ∙ (ap (λ (ss : List PackedStore). ss ++ stores_in (add_deeds begun ds ++ end_deeds last ds))
      (unless_stores (can_begin_pop k) (begin_pop_stores k))
      ∙ ap (λ (ss : List PackedStore). stores_if (can_begin_pop k) (begin_pop_stores k) ++ ss)
      (stores_append (add_deeds begun ds) (end_deeds last ds)
      ∙ ap (λ (ss : List PackedStore). stores_in (add_deeds begun ds) ++ ss) (end_stores (can_end_pop last) (end_pop_mark last) ds (end_pop_head last))))))
      (tracks_append (stores_if (can_begin_pop k) (begin_pop_stores k)) (stores_in (add_deeds begun ds)
      ++ stores_if (can_end_pop last) (end_pop_stores last)) old one new first
      (tracks_append (stores_in (add_deeds begun ds)) (stores_if (can_end_pop last) (end_pop_stores last)) one two new
      (adds_are begun ds one two adds) ends))

  -- ---- what a packed ring has of its part before a chain is popped

  -- the descriptors that were found may be others
  abbrev Finds : PackedFlightState → BlockQueueState → Type 0
  Finds k q = (ds : List PackedDescriptor) × (q.flight ≡ packed_to p (record k { found = ds }))

  finds_same : (k : PackedFlightState) (q q' : BlockQueueState) → Finds k q → Same q q' → Finds k q'
  finds_same k q q' (ds, is) same = (ds, same ∙ is)

  module _ (k : PackedFlightState) (u : PackedVirtqueue) where
    look_finds : (q : BlockQueueState) (old : H) (r : Result (Option (List PackedDescriptor)) QueueError)
        (q' : BlockQueueState) (new : H) → Finds k q → FindsCopies step u k q old r q' new → Finds k q'
    look_finds q old r q' new (ds, is) ((first, set), rest) = (
      listed r,
      set ∙ ap (λ (f : FlightState). record f { packed = Some (record k { found = listed r }) }) is,
    )

    module _ (terms : DeviceLimits) (way : Option Sight) where
      after_copies_finds : (r : Result (Option (List PackedDescriptor)) QueueError) (q : BlockQueueState) (old : H)
          (a : Option RingEvent) (q' : BlockQueueState) (new : H) → Finds k q
          → AfterCopies step terms way r q old a q' new → Finds k q'
      after_copies_finds (Ok (Some ds)) q old a q' new found p = finds_same k q q' found
          (again_same step terms way q (buffer_of ds) (next_avail_of (past q.queue (buffer_of ds))) ds old a q' new p)
      after_copies_finds (Ok None) q old a q' new found p =
          finds_same k q q' found (known_same step terms way q (Ok None) old a q' new p)
      after_copies_finds (Err e) q old a q' new found p =
          finds_same k q q' found (known_same step terms way q (Err e) old a q' new p)

      ask_finds : (r : Result Bool QueueError) (q : BlockQueueState) (old : H) (a : Option RingEvent)
          (q' : BlockQueueState) (new : H) → Finds k q → AfterAskCopies step terms way u k r q old a q' new → Finds k q'
      ask_finds (Ok true) q old a q' new found (r, m, mid, looks, after) =
          after_copies_finds r m mid a q' new (look_finds q old r m mid found looks) after
      ask_finds (Ok false) q old a q' new found (is, becomes, still) =
          finds_same k q q' found (ap (λ (v : BlockQueueState). v.flight) becomes)
      ask_finds (Err e) q old a q' new found (is, becomes, still) =
          finds_same k q q' found (ap (λ (v : BlockQueueState). v.flight) becomes)

      first_copies_finds : (r : Result (Option (List PackedDescriptor)) QueueError) (q : BlockQueueState) (old : H)
          (a : Option RingEvent) (q' : BlockQueueState) (new : H) → Finds k q
          → AfterFirst step terms way u k r q old a q' new → Finds k q'
      first_copies_finds (Ok None) q old a q' new found (r, mid, asks, after) = ask_finds r q mid a q' new found after
      first_copies_finds (Ok (Some ds)) q old a q' new found p =
          after_copies_finds (Ok (Some ds)) q old a q' new found p
      first_copies_finds (Err e) q old a q' new found p = after_copies_finds (Err e) q old a q' new found p

      copies_finds : (q : BlockQueueState) (old : H) (a : Option RingEvent) (q' : BlockQueueState) (new : H) → Finds k q
          → PopsCopies step terms way u k q old a q' new → Finds k q'
      copies_finds q old a q' new found (r, m, mid, looks, after) =
          first_copies_finds r m mid a q' new (look_finds q old r m mid found looks) after

  module _ (terms : DeviceLimits) (way : Option Sight) (k : PackedFlightState) where
    new_finds : (v : AnyQueue) (q : BlockQueueState) (old : H) (a : Option RingEvent) (q' : BlockQueueState) (new : H)
        → Finds k q → HappensNew step terms way v (Some k) q old a q' new → Finds k q'
    new_finds (Split u) q old a q' new found p = finds_same k q q' found (happens_same step terms way q old a q' new p)
    new_finds (Packed u) q old a q' new found p = go (is_open way q) p
      where
        go : (v : Bool) → MatchBool v (PopsCopies step terms way u k q old a q' new)
            (HappensBy step way terms q old a q' new) → Finds k q'
        go true p = copies_finds k u terms way q old a q' new found p
        go false p = finds_same k q q' found (happens_same step terms way q old a q' new p)

    -- nothing is popped again
    abbrev again_by : Option (List PackedDescriptor) → Option (PackedBuffer × List PackedDescriptor)
    again_by None = None
    again_by (Some ds) = Some (buffer_of ds, ds)

    none_again : (ds : List PackedDescriptor) (q : BlockQueueState) → first_again k ≡ None
        → q.flight ≡ packed_to p (record k { found = ds }) → next_again q.flight ≡ None
    none_again ds q none is = ap next_again is ∙ ap again_by none

    first_finds : (q : BlockQueueState) (old : H) (a : Option RingEvent) (q' : BlockQueueState) (new : H)
        → q.flight ≡ packed_to p k → first_again k ≡ None
        → HappensFirst step terms way q (next_again q.flight) old a q' new → Finds k q'
    first_finds q old a q' new is none first = new_finds q.queue q old a q' new (k.found, is)
        (subst (λ (o : Option PackedFlightState). HappensNew step terms way q.queue o q old a q' new)
        (ap (λ (f : FlightState). f.packed) is)
        (subst (λ (o : Option (PackedBuffer × List PackedDescriptor)). HappensFirst step terms way q o old a q' new)
        (none_again k.found q none is) first))

    -- ---- pops

    flies_found : (ds : List PackedDescriptor) (chain : Chain) (q : BlockQueueState) (old : H) (q' : BlockQueueState)
        (new : H) → first_again k ≡ None → q.flight ≡ packed_to p (record k { found = ds })
        → FliesAt step (next_again q.flight) chain q old q' new
        → StoresPop step (Some p) k.kept (map copy_by ds) old new
        × (q'.flight ≡ packed_to p (popped_found chain.id (record k { found = ds })))
    flies_found ds chain q old q' new none is flies =
        let anew : FliesAt step None chain q old q' new =
        subst (λ (o : Option (PackedBuffer × List PackedDescriptor)). FliesAt step o chain q old q' new)
        (none_again ds q none is) flies in
        let (at, rest) = subst (λ (f : FlightState). MatchOption f.kept (FliesPacked step chain.id q old q' new)
        (λ kept. TracksAt step f.place (pop_stores kept chain.id) old new × (q' ≡ with_kept q (split_after kept))))
        is anew in
        subst (λ (f : FlightState). FliesIn step f.packed chain.id f old q'.flight new) is at

    is_pop : (copies : List PackedCopy) → IsPop k.kept copies (pop_effect k.kept copies)
    is_pop copies descriptors size began w next =
        ap (λ (v : Bool). if v then Some (pop_effect k.kept copies) else None) next

    pub pops_packed_as : (q q' : BlockQueueState) (old new : H) (chain : Chain) (parts bytes : ℕ)
        → q.flight ≡ packed_to p k → first_again k ≡ None
        → HappensIn step terms way q old (Some (Popped chain parts bytes)) q' new
        → PopsPackedBy step p k chain.id q' new
    pops_packed_as q q' old new chain parts bytes is none happens =
        let e : Option RingEvent = Some (Popped chain parts bytes) in
        let (mid_q, mid, first, flies) =
        flies_in step terms way q old e q' new (ap (λ (f : FlightState). f.is_unread) is) happens in
        let (ds, found) = first_finds q old e mid_q mid is none first in
        let (stores, flight) = flies_found ds chain mid_q mid q' new none found flies in (
          ds,
          pop_effect k.kept (map copy_by ds),
          mid,
          is_pop (map copy_by ds),
          pop_is k.kept (map copy_by ds) mid new stores,
          flight,
        )

    -- ---- chains that were in flight

    some_again : (ds : List PackedDescriptor) (q : BlockQueueState) → first_again k ≡ Some ds
        → q.flight ≡ packed_to p k → next_again q.flight ≡ Some (buffer_of ds, ds)
    some_again ds q some is = ap next_again is ∙ ap again_by some

    again_keeps : (ds : List PackedDescriptor) (q : BlockQueueState) (old : H) (a : Option RingEvent)
        (q' : BlockQueueState) (new : H) → HappensFirst step terms way q (Some (buffer_of ds, ds)) old a q' new
        → Same q q'
    again_keeps ds q old a q' new first = go (is_open way q) first
      where
        go : (v : Bool) → MatchBool v (PopsAgain step terms way q (buffer_of ds) (next_avail_of q.queue) ds old a q' new)
            (HappensBy step way terms q old a q' new) → Same q q'
        go true p = again_same step terms way q (buffer_of ds) (next_avail_of q.queue) ds old a q' new p
        go false p = happens_same step terms way q old a q' new p

    pub pops_packed_again : (q q' : BlockQueueState) (old new : H) (chain : Chain) (parts bytes : ℕ)
        (ds : List PackedDescriptor) → q.flight ≡ packed_to p k → first_again k ≡ Some ds
        → HappensIn step terms way q old (Some (Popped chain parts bytes)) q' new
        → q'.flight ≡ packed_to p (passed chain.id k)
    pops_packed_again q q' old new chain parts bytes ds is some happens =
        let e : Option RingEvent = Some (Popped chain parts bytes) in
        let (mid_q, mid, first, flies) =
        flies_in step terms way q old e q' new (ap (λ (f : FlightState). f.is_unread) is) happens in
        let same : mid_q.flight ≡ packed_to p k = again_keeps ds q old e mid_q mid
        (subst (λ (o : Option (PackedBuffer × List PackedDescriptor)). HappensFirst step terms way q o old e mid_q mid)
        (some_again ds q some is) first) ∙ is in
        let again : FliesAt step (Some (buffer_of ds, ds)) chain mid_q mid q' new =
        subst (λ (o : Option (PackedBuffer × List PackedDescriptor)). FliesAt step o chain mid_q mid q' new)
        (some_again ds mid_q some same) flies in
        ap (λ (v : BlockQueueState). v.flight) again.0 ∙ ap (λ (f : FlightState). passed_too f chain.id) same
