-- A fetch has fewer bytes left with each range that it finds, and one that is whole is popped.
use Rattle.std.proofs.Common.{◌≡◌, ◌∙◌, ◌⊎◌, ℕ, ◌+◌, ◌^◌, ◌<◌, ◌≤◌, Bool, true, false, eqb, List, [], ◌∷◌, ◌++◌, length, Option, Some, None, Result, Ok, Err, MatchBool, MatchOption, refl, ap, sym, subst, inl, inr, arith, append_assoc, length-append}
use Rattle.std.proofs.lemmas.Bool.{cases_Bool, eqb-false, eqb-true}
use Rattle.std.proofs.lemmas.List.{append-nil}
use Rattle.std.proofs.lemmas.List.Elements.{All-head, All-tail}
use Rattle.vm_memory_base.specs.Table.{Says}
use Rattle.vm_memory_guest.specs.declared.region.error.GuestMemoryError.{GuestMemoryError}
use Rattle.vm_memory_device.specs.declared.chain.Segment.{Segment}
use Rattle.virtio_blk.specs.declared.request.DeviceLimits.{DeviceLimits}
use Rattle.virtio_blk.specs.declared.request.Request.{Request}
use Rattle.virtio_blk.specs.declared.request.Request.TheVariants.{Refused}
use Rattle.vhost_iotlb.proofs.TakingLemmas.{left-append}
use Rattle.vhost_iotlb.specs.Taking.{AreReal, Covers, StopsAt, left}
use Rattle.vhost_iotlb.specs.declared.kept.Kept.{Kept}
use Rattle.vhost_iotlb.specs.declared.taking.Progress.{Progress}
use Rattle.vhost_iotlb.specs.declared.taking.Progress.TheVariants as progress
use Rattle.vhost_iotlb.specs.declared.taking.Want.{Want}
use Rattle.vhost_backend.specs.Behind.{AfterLookUp, BeginsFetched, Fetches, FetchesNext, HappensBehind, LooksUp, TakesFetched, Uses, begun_behind, open_terms, or_empty, origin_of, past_found, with_fetch}
use Rattle.vhost_backend.specs.Block.{block_parts, len_of}
use Rattle.vhost_backend.specs.BlockQueue.{BlockQueueState, event_of, has_place, popped, shortened}
use Rattle.vhost_backend.specs.Fetch.{FetchState, GoesOn, IsFound, guest_chain, has_gap, state_by}
use Rattle.vhost_backend.specs.GoesOn.{FindsByEach, PopsOrNothing, bytes_from, bytes_left, bytes_of}
use Rattle.vhost_backend.specs.Reach.{most_for}
use Rattle.vhost_backend.specs.RingMemory.{MemoryStep, Returned, begins}
use Rattle.vhost_backend.specs.declared.block_queue.behind.Origin.{Origin}
use Rattle.vhost_backend.specs.declared.fetch.Found.{Found}
use Rattle.vhost_backend.specs.declared.fetch.Goal.{Goal}
use Rattle.vhost_backend.specs.declared.fetch.Goal.TheVariants as goal
use Rattle.vhost_backend.specs.declared.fetch.State.{State}
use Rattle.vhost_backend.specs.declared.fetch.State.TheVariants as state
use Rattle.vhost_backend.specs.declared.ring.RingEvent.{RingEvent}

-- ---- the first of some ranges, and the others

covers_first : (ws : List Want) (from : ℕ) (ks ls : List Kept) → Covers ws from (ks ++ ls) → Covers ws from ks
covers_first ws from [] ls h = tt
covers_first [] from (k ∷ ks) ls h = absurd h
covers_first (w ∷ ws) from (k ∷ ks) ls h = elim (cases_Bool (eqb (from + k.len) w.len)) [
  | inl t ↦ (h.0, rw t (covers_first ws 0 ks ls (rw t at h.1)))
  | inr t ↦ (h.0, rw t (covers_first (w ∷ ws) (from + k.len) ks ls (rw t at h.1)))
]

covers_rest : (ws : List Want) (from : ℕ) (ks ls : List Kept) → Covers ws from (ks ++ ls)
    → Covers (left ws from ks).0 (left ws from ks).1 ls
covers_rest ws from [] ls h = h
covers_rest [] from (k ∷ ks) ls h = absurd h
covers_rest (w ∷ ws) from (k ∷ ks) ls h = elim (cases_Bool (eqb (from + k.len) w.len)) [
  | inl t ↦ rw t (covers_rest ws 0 ks ls (rw t at h.1))
  | inr t ↦ rw t (covers_rest (w ∷ ws) (from + k.len) ks ls (rw t at h.1))
]

-- ---- bytes that are left

all_bytes : (ws : List Want) → bytes_from (ws, 0) ≡ bytes_of ws
all_bytes [] = refl
all_bytes (w ∷ ws) = omega arith

fewer : (ws : List Want) (from : ℕ) (ks : List Kept) → Covers ws from ks
    → length ks + bytes_from (left ws from ks) ≤ bytes_from (ws, from)
fewer ws from [] h = omega arith
fewer [] from (k ∷ ks) h = absurd h
fewer (w ∷ ws) from (k ∷ ks) h =
    let part = h.0 in
    elim (cases_Bool (eqb (from + k.len) w.len)) [
      | inl t ↦
          let ends = eqb-true (from + k.len) w.len t in
          let rest = fewer ws 0 ks (rw t at h.1) in
          rw t (omega (arith, ends, rest, all_bytes ws, part.2, part.3))
      | inr t ↦
          let rest = fewer (w ∷ ws) (from + k.len) ks (rw t at h.1) in
          rw t (omega (arith, rest, part.2, part.3))
    ]

pub nearer : (f : Says) (most : ℕ) (old new : FetchState) → Covers new.wants 0 new.kept → GoesOn f most old new
    → length new.kept + bytes_left new ≤ length old.kept + bytes_left old
nearer f most old new covers on =
    let (ks, is, current) = on.takes in
    let all : Covers old.wants 0 (old.kept ++ ks) =
    subst (λ (ws : List Want). Covers ws 0 (old.kept ++ ks)) on.wants
    (subst (λ (l : List Kept). Covers new.wants 0 l) is covers) in
    let rest = left old.wants 0 old.kept in
    let less : length ks + bytes_from (left rest.0 rest.1 ks) ≤ bytes_from (rest.0, rest.1) =
    fewer rest.0 rest.1 ks (covers_rest old.wants 0 old.kept ks all) in
    let same : bytes_left new ≡ bytes_from (left rest.0 rest.1 ks) =
    ap (λ (ws : List Want). bytes_from (left ws 0 new.kept)) on.wants
    ∙ ap (λ (l : List Kept). bytes_from (left old.wants 0 l)) is
    ∙ ap bytes_from (left-append old.wants 0 old.kept ks) in
    let long : length new.kept ≡ length old.kept + length ks = ap length is ∙ length-append old.kept ks in
    omega (arith, less, same, long)

-- ---- one table after another

grows : (most : ℕ) (fs : List Says) (old new : FetchState) → FindsByEach most fs old new
    → (new.wants ≡ old.wants) × ((ks : List Kept) × (new.kept ≡ old.kept ++ ks))
grows most [] old new is =
    (ap (λ (g : FetchState). g.wants) is, ([], ap (λ (g : FetchState). g.kept) is ∙ sym (append-nil old.kept)))
grows most (f ∷ fs) old new (mid, on, more, rest) =
    let (wants, (ls, last)) = grows most fs mid new rest in
    let (ks, first, current) = on.takes in (
      wants ∙ on.wants,
      (ks ++ ls, last ∙ ap (λ (l : List Kept). l ++ ls) first ∙ append_assoc old.kept ks ls),
    )

covers_before : (most : ℕ) (fs : List Says) (old new : FetchState) → FindsByEach most fs old new
    → Covers new.wants 0 new.kept → Covers old.wants 0 old.kept
covers_before most fs old new by covers =
    let (wants, (ks, is)) = grows most fs old new by in
    covers_first old.wants 0 old.kept ks (subst (λ (ws : List Want). Covers ws 0 (old.kept ++ ks)) wants
    (subst (λ (l : List Kept). Covers new.wants 0 l) is covers))

pub each_nearer : (most : ℕ) (fs : List Says) (old new : FetchState) → Covers new.wants 0 new.kept
    → FindsByEach most fs old new → length fs + bytes_left new ≤ bytes_left old
each_nearer most [] old new covers is = omega (arith, ap bytes_left is)
each_nearer most (f ∷ fs) old new covers (mid, on, more, rest) =
    let near = nearer f most old mid (covers_before most fs mid new rest covers) on in
    let later = each_nearer most fs mid new covers rest in
    omega (arith, near, more, later)

-- ---- when none is left

abbrev IsWanted : Want → Type 0
IsWanted w = (0 < w.len) × (w.iova + w.len < 2 ^ 64)

abbrev Inside : ℕ → List Want → Type 0
Inside from [] = Unit {0}
Inside from (w ∷ ws) = from < w.len

inside_first : (ws : List Want) → AreReal ws → Inside 0 ws
inside_first [] real = tt
inside_first (w ∷ ws) real = (All-head IsWanted w ws real).0

none_left : (ws : List Want) (from : ℕ) (ks : List Kept) → AreReal ws → Inside from ws → Covers ws from ks
    → bytes_from (left ws from ks) ≡ 0 → (left ws from ks).0 ≡ []
none_left [] from [] real inside h none = refl
none_left (w ∷ ws) from [] real inside h none = absurd (omega (arith, inside, none))
none_left [] from (k ∷ ks) real inside h none = refl
none_left (w ∷ ws) from (k ∷ ks) real inside h none =
    let part = h.0 in
    elim (cases_Bool (eqb (from + k.len) w.len)) [
      | inl t ↦
          let rest = All-tail IsWanted w ws real in
          rw t (none_left ws 0 ks rest (inside_first ws rest) (rw t at h.1) (rw t at none))
      | inr t ↦
          let short : from + k.len ≡ w.len → ⊥ = eqb-false (from + k.len) w.len t in
          let on : from + k.len < w.len = omega (arith, short, part.3) in
          rw t (none_left (w ∷ ws) (from + k.len) ks real on (rw t at h.1) (rw t at none))
    ]

all_found : (f : Says) (most count : ℕ) (rest : List Want × ℕ) (p : Progress) → rest.0 ≡ []
    → StopsAt f most count rest p → p ≡ progress.Whole
all_found f most count ([], from) p none stops = stops
all_found f most count (w ∷ ws, from) p none stops = absurd (cc)

last_found : (most : ℕ) (fs : List Says) (old new : FetchState) → 0 < length fs → FindsByEach most fs old new
    → (f : Says) × (mid : FetchState) × GoesOn f most mid new
last_found most [] old new some by = absurd (omega arith)
last_found most (f ∷ []) old new some (mid, on, more, is) = (f, old, subst (GoesOn f most old) (sym is) on)
last_found most (f ∷ (g ∷ fs)) old new some (mid, on, more, rest) =
    last_found most (g ∷ fs) mid new (omega arith) rest

pub whole_at_last : (most : ℕ) (fs : List Says) (old new : FetchState) → AreReal new.wants → Covers new.wants 0 new.kept
    → FindsByEach most fs old new → 0 < length fs → bytes_left old ≤ length fs → new.state ≡ state.Whole
whole_at_last most fs old new real covers by some few =
    let (f, mid, on) = last_found most fs old new some by in
    let (p, stops, stands) = on.stops in
    let none : bytes_left new ≡ 0 = omega (arith, each_nearer most fs old new covers by, few) in
    let empty = none_left new.wants 0 new.kept real (inside_first new.wants real) covers none in
    stands ∙ ap state_by (all_found f most (length new.kept) (left new.wants 0 new.kept) p empty stops)

-- a fetch that is whole has all that is wanted
none_wanted : (f : Says) (most count : ℕ) (rest : List Want × ℕ) (p : Progress) → StopsAt f most count rest p
    → state_by p ≡ state.Whole → rest.0 ≡ []
none_wanted f most count ([], from) p stops is = refl
none_wanted f most count (w ∷ ws, from) progress.Whole stops is = absurd stops
none_wanted f most count (w ∷ ws, from) (progress.Misses iova access) stops is = absurd (cc)
none_wanted f most count (w ∷ ws, from) (progress.Bars iova access) stops is = absurd (cc)
none_wanted f most count (w ∷ ws, from) progress.TooMany stops is = absurd (cc)
none_wanted f most count (w ∷ ws, from) progress.NoMemory stops is = absurd (cc)

pub whole_is_found : (f : Says) (most : ℕ) (old new : FetchState) → Covers new.wants 0 new.kept → GoesOn f most old new
    → new.state ≡ state.Whole → IsFound new.wants new.kept
whole_is_found f most old new covers on is =
    let (p, stops, stands) = on.stops in
    (covers, none_wanted f most (length new.kept) (left new.wants 0 new.kept) p stops (sym stands ∙ is))

-- ---- a fetch that is whole

module _ {H : Type 0} (step : H → (s : MemoryStep) → Returned s → H → Type 0) (terms : DeviceLimits) where
  module _ (q : BlockQueueState) (g : FetchState) (fetching : q.reach.fetch ≡ Some g) (whole : g.state ≡ state.Whole) (old : H)
      (e : Option RingEvent) (q' : BlockQueueState) (new : H) where
    uses_it : (f : Says) (can : Bool) → HappensBehind step f can terms q old e q' new
        → Uses step terms (with_fetch q None) g.goal g.kept old e q' new
    uses_it f can happens =
        let p : Fetches step f can terms (with_fetch q None) g old e q' new =
        subst (λ (o : Option FetchState). MatchOption o (FetchesNext step terms q old e q' new)
        (λ v. Fetches step f can terms (with_fetch q None) v old e q' new)) fetching happens in
        let same : p.0 ≡ g =
        subst (λ (s : State). LooksUp f (most_for (with_fetch q None).reach (length q.asked) g.goal) s g p.0) whole p.1 in
        subst (λ (s : State). AfterLookUp step can terms (with_fetch q None) g s old e q' new) whole
        (subst (λ (v : FetchState). AfterLookUp step can terms (with_fetch q None) v v.state old e q' new) same p.2)

    it_is_used : (f : Says) (can : Bool) → Uses step terms (with_fetch q None) g.goal g.kept old e q' new
        → HappensBehind step f can terms q old e q' new
    it_is_used f can uses =
        let looks : LooksUp f (most_for (with_fetch q None).reach (length q.asked) g.goal) g.state g g =
        subst (λ (s : State). LooksUp f (most_for (with_fetch q None).reach (length q.asked) g.goal) s g g)
        (sym whole) refl in
        let after : AfterLookUp step can terms (with_fetch q None) g g.state old e q' new =
        subst (λ (s : State). AfterLookUp step can terms (with_fetch q None) g s old e q' new) (sym whole) uses in
        subst (λ (o : Option FetchState). MatchOption o (FetchesNext step terms q old e q' new)
        (λ v. Fetches step f can terms (with_fetch q None) v old e q' new)) (sym fetching) (g, looks, after)

    pub not_looked_up : (f h : Says) (can also : Bool) → HappensBehind step f can terms q old e q' new
        → HappensBehind step h also terms q old e q' new
    not_looked_up f h can also happens = it_is_used h also (uses_it f can happens)

  begins_pops : (q : BlockQueueState) (o : Origin) (chain : List Segment) (kept : List Kept) (old : H)
      (e : Option RingEvent) (q' : BlockQueueState) (new : H) → BeginsFetched step terms q o chain kept old e q' new
      → PopsOrNothing o.buffer e
  begins_pops q o chain kept old e q' new = go (has_place q o.buffer.id)
    where
      pops : (request : Request) → e ≡ event_of (popped o.buffer request) → PopsOrNothing o.buffer e
      pops request is = inr (block_parts request, len_of request, is)

      read : (r : Result Request GuestMemoryError) → (e, q') ≡ begun_behind q o chain kept r → PopsOrNothing o.buffer e
      read (Ok request) is = pops (shortened 0 0 request) (ap (λ (t : Option RingEvent × BlockQueueState). t.0) is)
      read (Err error) is = inl (ap (λ (t : Option RingEvent × BlockQueueState). t.0) is)

      go : (v : Bool) → MatchBool v ((r : Result Request GuestMemoryError) × step old (begins (open_terms terms) chain) r new
          × ((e, q') ≡ begun_behind q o chain kept r))
          ((e ≡ event_of (popped o.buffer (Refused 1))) × (q' ≡ past_found q o) × (new ≡ old))
          → PopsOrNothing o.buffer e
      go true (r, first, is) = read r is
      go false (is, becomes, still) = pops (Refused 1) is

  takes_pops : (q : BlockQueueState) (o : Origin) (kept : List Kept) (old : H) (e : Option RingEvent)
      (q' : BlockQueueState) (new : H) → TakesFetched step terms q o kept old e q' new → PopsOrNothing o.buffer e
  takes_pops q o kept old e q' new (Ok done, p) = begins_pops q o (or_empty (guest_chain kept)) kept old e q' new p
  takes_pops q o kept old e q' new (Err error, (is, becomes, still)) = inl is

  pub whole_is_popped : (q : BlockQueueState) (g : FetchState) (found : Found) (old : H) (e : Option RingEvent)
      (q' : BlockQueueState) (new : H) (f : Says) (can : Bool) → q.reach.fetch ≡ Some g → g.state ≡ state.Whole
      → (g.goal ≡ goal.Chain found) ⊎ (g.goal ≡ goal.Status found) → HappensBehind step f can terms q old e q' new
      → PopsOrNothing found.buffer e
  whole_is_popped q g found old e q' new f can fetching whole (inl chain) happens = takes_pops (with_fetch q None)
      (origin_of found false) g.kept old e q' new
      (subst (λ (v : Goal). Uses step terms (with_fetch q None) v g.kept old e q' new) chain
      (uses_it q g fetching whole old e q' new f can happens))
  whole_is_popped q g found old e q' new f can fetching whole (inr status) happens = takes_pops (with_fetch q None)
      (origin_of found (has_gap found.chain)) g.kept old e q' new
      (subst (λ (v : Goal). Uses step terms (with_fetch q None) v g.kept old e q' new) status
      (uses_it q g fetching whole old e q' new f can happens))
