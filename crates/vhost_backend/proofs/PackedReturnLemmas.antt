-- What a packed ring stores at a return is what the theorem on crashes has.
use Rattle.std.proofs.Common.{◌≡◌, ◌∙◌, ℕ, Bool, true, false, ◌&&◌, List, ◌∷◌, ◌++◌, Option, Some, None, MatchOption, refl, ap, sym, subst}
use Rattle.std.specs.Prelude.{map, nat_lt, length, if◌then◌else◌}
use Rattle.virtio_queue.specs.Packed.{PackedVirtqueue}
use Rattle.vhost_inflight.specs.Packed.{PackedKept, begin_return_stores, can_return, end_return_stores, entry_of, is_in_flight}
use Rattle.vhost_inflight.specs.PackedCrash.{Deed, Flags, Id, Region, Return, World, effect, id_of, return_effect, unless}
use Rattle.vhost_inflight.specs.PackedStart.{chain_of}
use Rattle.vhost_inflight.specs.Split.{after_return as split_after, begin_return_stores as split_begin}
use Rattle.vhost_inflight.specs.declared.packed.PackedReturn.{PackedReturn}
use Rattle.vhost_inflight.specs.declared.packed_region.PackedPosition.{PackedPosition}
use Rattle.vhost_backend.specs.BlockQueue.{BlockQueueState, FlightState, GivesBack, with_flight}
use Rattle.vhost_backend.specs.Flight.{GivesIn, GivesPacked, Lands, LandsPacked, TracksAt, after_of, base_in, before_of, returned_too, returns_by, with_kept}
use Rattle.vhost_backend.specs.PackedCrash.{ReturnsPackedBy, packed_to}
use Rattle.vhost_backend.specs.PackedFlight.{PackedFlightState, TracksPackedAt, head_of, return_stores, returned_by}
use Rattle.vhost_backend.specs.RingMemory.{MemoryStep, Returned}
use Rattle.vhost_backend.specs.declared.block_queue.GiveBack.TheVariants as back
use Rattle.vhost_backend.specs.declared.flight.FlightPlace.{FlightPlace}
use Rattle.vhost_backend.specs.declared.request.Chain.{Chain}

middle : (a b c : Bool) → (a && (b && c)) ≡ true → b ≡ true
middle true true c is = refl
middle true false c is = absurd (cc)
middle false b c is = absurd (cc)

-- a chain that can be returned is in flight
flies : (k : PackedKept) (head : ℕ) → can_return k head ≡ true → is_in_flight k.entries head ≡ true
flies k head is = middle (nat_lt head (length k.entries)) (is_in_flight k.entries head)
    (nat_lt (entry_of k.entries head).last (length k.entries)) is

effect_is : (descriptors size began : ℕ) (w : World) (k : PackedKept) (head : ℕ) → can_return k head ≡ true
    → effect descriptors size began w (Some k) (Return head) ≡ Some (return_effect k head)
effect_is descriptors size began w k head is =
    ap (λ (v : Bool). if v then Some (return_effect k head) else None) (flies k head is)

-- what it stores, around the ring's used descriptor
deeds_are : (k : PackedKept) (head id : ℕ) (at : PackedPosition) → can_return k head ≡ true
    → id_of (chain_of k.entries head) ≡ id → at ≡ k.used → (return_effect k head).deeds
    ≡ map Region (begin_return_stores k head) ++ (Id id ∷ Flags at ∷ map Region (end_return_stores k head))
deeds_are k head id at is named stands = let first : List Deed = map Region (begin_return_stores k head) in
    let last : List Deed = map Region (end_return_stores k head) in
    ap (λ (v : Bool). unless v (first ++ (Id (id_of (chain_of k.entries head)) ∷ Flags k.used ∷ last))) is
    ∙ (ap (λ (n : ℕ). first ++ (Id n ∷ Flags k.used ∷ last)) named
    ∙ ap (λ (p : PackedPosition). first ++ (Id id ∷ Flags p ∷ last)) (sym stands))

module _ {H : Type 0} (step : H → (s : MemoryStep) → Returned s → H → Type 0) where
  pub returns_packed_as : (q q' : BlockQueueState) (old new : H) (chain : Chain) (len : ℕ) (p : FlightPlace)
      (k : PackedFlightState) (u : PackedVirtqueue) (descriptors size began : ℕ) (w : World)
      → q.flight ≡ packed_to p k → base_in u.state ≡ k.kept.used → can_return k.kept (head_of k chain.id) ≡ true
      → id_of (chain_of k.kept.entries (head_of k chain.id)) ≡ chain.id
      → GivesIn step q chain len old back.Done q' new
      → ReturnsPackedBy step p k (effect descriptors size began w (Some k.kept) (Return (head_of k chain.id)))
      (base_in u.state) q chain len old q' new
  returns_packed_as q q' old new chain len p k u descriptors size began w is stands can named gives =
      let head : ℕ = head_of k chain.id in
      let plain : GivesPacked step q chain len old back.Done q' new =
      subst (λ (f : FlightState). MatchOption f.kept (GivesPacked step q chain len old back.Done q' new)
      (λ kept. (one two : H) × TracksAt step f.place (split_begin kept chain.id) old one
      × GivesBack step (with_kept q (split_after kept chain.id)) chain len one back.Done q' two
      × Lands step back.Done q' chain two new)) is gives in
      let (one, two, first, given, last) = subst (λ (f : FlightState). (one two : H)
      × TracksPackedAt step f.place (before_of (returns_by chain.id f.packed)) old one
      × GivesBack step (with_flight q (returned_too f chain.id)) chain len one back.Done q' two
      × LandsPacked step back.Done q' (after_of (returns_by chain.id f.packed)) two new) is plain in
      let stores : return_stores chain.id k ≡ Some (record {
        before = begin_return_stores k.kept head;
        after = end_return_stores k.kept head;
      }) = ap (λ (v : Bool). if v then Some (record {
        before = begin_return_stores k.kept head;
        after = end_return_stores k.kept head;
      }) else None) can in
      let flight : q'.flight ≡ packed_to p (returned_by chain.id k) = ap (λ (v : BlockQueueState). v.flight) given.1 in (
        return_effect k.kept head,
        begin_return_stores k.kept head,
        end_return_stores k.kept head,
        one,
        two,
        effect_is descriptors size began w k.kept head can,
        deeds_are k.kept head chain.id (base_in u.state) can named stands,
        subst (λ (o : Option PackedReturn). TracksPackedAt step (Some p) (before_of o) old one) stores first,
        given,
        subst (λ (f : FlightState). TracksPackedAt step f.place (end_return_stores k.kept head) two new) flight
            (subst (λ (o : Option PackedReturn). LandsPacked step back.Done q' (after_of o) two new) stores last),
        flight,
      )
