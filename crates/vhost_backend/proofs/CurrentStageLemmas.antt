-- A stage of a ring whose addresses a table translates leaves all that is kept, fetched and under way for it where the
-- messages say, and the rings' table with what is kept.
use Rattle.std.proofs.Common.{◌≡◌, ◌∙◌, ◌⊎◌, ℕ, Bool, true, false, List, [], ◌∷◌, All, Contains, length, Option, Some, None, option_to_list, IfOk, IfSome, Result, Ok, Err, MatchBool, MatchOption, MatchResult, if◌then◌else◌, refl, sym, subst, arith, inl, inr}
use Rattle.std.specs.List.{list_all}
use Rattle.std.specs.declared.alloc.AllocError.{AllocError}
use Rattle.std.proofs.lemmas.List.Elements.{All-append, All-contains, All-contains_itself, All-nil, All-weaker, Contains-append_cases, Contains-append_left, Contains-append_right, Contains-push_cases}
use Rattle.vm_memory_base.specs.Table.{Says}
use Rattle.vm_memory_base.specs.declared.iotlb.IovaRange.{IovaRange}
use Rattle.vm_memory_base.specs.declared.iotlb.Permissions.TheVariants.{Read}
use Rattle.vm_memory_guest.specs.declared.region.error.GuestMemoryError.{GuestMemoryError}
use Rattle.vm_memory_device.specs.declared.chain.Segment.{Segment}
use Rattle.virtio_queue.specs.declared.any.AnyQueue.{AnyQueue}
use Rattle.virtio_queue.specs.declared.any.AnyQueue.TheVariants.{Split, Packed}
use Rattle.virtio_queue.specs.declared.error.QueueError.{QueueError}
use Rattle.virtio_blk.specs.declared.request.DeviceLimits.{DeviceLimits}
use Rattle.virtio_blk.specs.declared.request.Request.{Request}
use Rattle.virtio_blk.specs.declared.request.Request.TheVariants.{Refused}
use Rattle.vhost_iotlb.specs.Kept.{IsCurrent, IsReal}
use Rattle.vhost_iotlb.specs.declared.kept.Kept.{Kept}
use Rattle.vhost_iotlb.specs.declared.taking.Want.{Want}
use Rattle.vhost_backend.proofs.KeepLemmas.{IsPlain}
use Rattle.vhost_backend.proofs.StandLemmas.{set_or_was, some_is}
use Rattle.vhost_backend.specs.Behind.{AfterAskBehind, AfterFind, AfterLook, AfterLookUp, BeginsFetched, Fetches, FetchesChain, FetchesNext, FetchesRow, Finds, FindsNext, GivesUp, HappensBehind, KeepsAreas, KeepsRows, LooksUp, ReachesRing, ReadsBehind, TakesFetched, Uses, WaitsBehind, begun_behind, chain_begun, fetching, is_refused, missed_by, open_terms, or_empty, origin_of, past_found, status_begun, with_fetch, with_reach}
use Rattle.vhost_backend.specs.BlockQueue.{Asks, BlockQueueState, ReadsBy, event_of, has_place, popped, read_by, refused, shortened}
use Rattle.vhost_backend.specs.Current.{FetchStands, IsKeptBy, QueueStands, RequestStands, Stands}
use Rattle.vhost_backend.specs.Fetch.{FetchState, GoesOn, begun, chain_wants, guest_chain, has_gap, is_real, ring_wants, status_want, want}
use Rattle.vhost_backend.specs.KeptRanges.{ForgetsAll, KeepsAll}
use Rattle.vhost_backend.specs.Marks.{MarksRing, asking_marks}
use Rattle.vhost_backend.specs.Reach.{ForgetsBoth, ReachState, areas_kept, forgotten, most_for, rows_added, rows_forgotten}
use Rattle.vhost_backend.specs.RingMemory.{MemoryStep, Returned, begins, enables, forgets, keeps, marks_ring, pops, reads_used}
use Rattle.vhost_backend.specs.declared.block_queue.Asked.{Asked}
use Rattle.vhost_backend.specs.declared.block_queue.behind.Origin.{Origin}
use Rattle.vhost_backend.specs.declared.fetch.Found.{Found}
use Rattle.vhost_backend.specs.declared.fetch.Goal.{Goal}
use Rattle.vhost_backend.specs.declared.fetch.Goal.TheVariants as goal
use Rattle.vhost_backend.specs.declared.fetch.State.{State}
use Rattle.vhost_backend.specs.declared.fetch.State.TheVariants as state
use Rattle.vhost_backend.specs.declared.pieces.Piece.{Piece}
use Rattle.vhost_backend.specs.declared.ring.RingEvent.{RingEvent}
use Rattle.vhost_backend.specs.declared.ring.RingEvent.TheVariants.{Emptied}

-- ---- lists

pub nothing_in : (k : Kept) → Contains [] k → ⊥
nothing_in k (i, below, is) = omega (arith, below)

first_or_rest : (k : Kept) (ks : List Kept) (j : Kept) → Contains (k ∷ ks) j → (j ≡ k) ⊎ Contains ks j
first_or_rest k ks j among = elim (Contains-append_cases (k ∷ []) ks j among) [
  | inl first ↦ elim (Contains-push_cases [] k j first) [ inl none ↦ absurd (nothing_in j none) | inr is ↦ inl (sym is) ]
  | inr rest ↦ inr rest
]

is_first : (k : Kept) (ks : List Kept) (j : Kept) → j ≡ k → Contains (k ∷ ks) j
is_first k ks j is = Contains-append_left (k ∷ []) ks j (0, omega arith, sym is)

is_later : (k : Kept) (ks : List Kept) (j : Kept) → Contains ks j → Contains (k ∷ ks) j
is_later k ks j among = Contains-append_right (k ∷ []) ks j among

-- ---- fetches

-- one that begins has nothing yet
fresh : (f : Says) (r : ReachState) (for : Goal) (ws : List Want) → (for ≡ goal.Ring → r.pages ≡ [])
    → IfSome (begun for ws) (FetchStands f r)
fresh f r for ws none = go (list_all is_real ws)
  where
    go : (v : Bool) → IfSome (if v
        then Some (record { goal = for; wants = ws; kept = []; state = state.Begun }) else None) (FetchStands f r)
    go true = (All-nil (Stands f), none)
    go false = tt

fresh_status : (f : Says) (r : ReachState) (found : Found) → IfSome (status_begun found) (FetchStands f r)
fresh_status f r found = fresh f r (goal.Status found) (option_to_list (status_want found.chain)) (λ is. absurd (cc))

fresh_chain : (f : Says) (r : ReachState) (v : Bool) (found : Found) → IfSome (chain_begun v found) (FetchStands f r)
fresh_chain f r true found = fresh_status f r found
fresh_chain f r false found = fresh f r (goal.Chain found) (chain_wants found.chain) (λ is. absurd (cc))

-- what leads as a table says leads as messages say, since that says nothing else
abbrev pub LeadsLaw : Says → Says → Type 0
LeadsLaw g f = (k : Kept) → IsReal k → IsCurrent g k → IsCurrent f k

pub on_stands : (g f : Says) → LeadsLaw g f → (r : ReachState) (most : ℕ) (old new : FetchState) → GoesOn g most old new
    → FetchStands f r old → FetchStands f r new
on_stands g f leads r most old new on (all, none) = (
  All-weaker (Contains new.kept) (Stands f) (λ k among. let real = All-contains IsReal new.kept k on.real among in (
    real,
    elim (Contains-append_cases old.kept on.takes.0 k (subst (λ ks. Contains ks k) on.takes.1 among)) [
      | inl was ↦ (All-contains (Stands f) old.kept k all was).1
      | inr now ↦ leads k real (All-contains (IsCurrent g) on.takes.0 k on.takes.2 now)
    ],
  )) new.kept (All-contains_itself new.kept),
  λ ring. none (sym on.goal ∙ ring),
)

up_stands : (g f : Says) → LeadsLaw g f → (r : ReachState) (most : ℕ) (s : State) (old new : FetchState)
    → LooksUp g most s old new → FetchStands f r old → FetchStands f r new
up_stands g f leads r most state.Begun old new on stands = on_stands g f leads r most old new on stands
up_stands g f leads r most (state.Waits iova access) old new on stands = on_stands g f leads r most old new on stands
up_stands g f leads r most state.Stops old new is stands = subst (FetchStands f r) (sym is) stands
up_stands g f leads r most state.Whole old new is stands = subst (FetchStands f r) (sym is) stands

with_fetch_stands : (f : Says) (q : BlockQueueState) (o : Option FetchState) → QueueStands f q
    → IfSome o (FetchStands f q.reach) → QueueStands f (with_fetch q o)
with_fetch_stands f q o stands some =
    record { pages = stands.pages; rows = stands.rows; fetch = some; asked = stands.asked }

-- ---- on memory

-- what is known of the rings' table: that it says nothing but what such ranges have
module _ {H : Type 0} (step : H → (s : MemoryStep) → Returned s → H → Type 0) (T : H → (Kept → Type 0) → Type 0)
    (more : (h : H) (S S' : Kept → Type 0) → ((k : Kept) → S k → S' k) → T h S → T h S')
    (plain : (old : H) (s : MemoryStep) (r : Returned s) (new : H) (S : Kept → Type 0) → IsPlain s → step old s r new
    → T old S → T new S)
    (kept : (old : H) (k : Kept) (r : Result (Unit {0}) AllocError) (new : H) (S : Kept → Type 0)
    → step old (keeps k) r new → T old S → T new (λ j. S j ⊎ (j ≡ k)))
    (forgot : (old : H) (k : Kept) (done : Unit {0}) (new : H) (S : Kept → Type 0) → step old (forgets k) (Ok done) new
    → T old S → T new (λ j. S j × (j ≡ k → ⊥)))
    (failed : (old : H) (k : Kept) (e : AllocError) (new : H) (S : Kept → Type 0) → step old (forgets k) (Err e) new
    → T old S → T new S) where
  still : (old new : H) (S : Kept → Type 0) → new ≡ old → T old S → T new S
  still old new S is t = subst (λ h. T h S) (sym is) t

  -- ---- ranges that are kept or forgotten

  all_kept : (ks : List Kept) (old : H) (r : Result (Unit {0}) AllocError) (new : H) (S : Kept → Type 0)
      → KeepsAll step ks old r new → T old S → T new (λ j. S j ⊎ Contains ks j)
  all_kept [] old r new S (is, same) t = more new S (λ j. S j ⊎ Contains [] j) (λ j s. inl s) (still old new S same t)
  all_kept (k ∷ ks) old r new S (one, mid, first, rest) t = go one rest (λ p. all_kept ks mid r new (λ j. S j ⊎ (j ≡ k)) p on)
    where
      on : T mid (λ j. S j ⊎ (j ≡ k))
      on = kept old k one mid S first t

      go : (o : Result (Unit {0}) AllocError)
          → MatchResult o (λ done. KeepsAll step ks mid r new) (λ e. (r ≡ Err e) × (new ≡ mid))
          → (KeepsAll step ks mid r new → T new (λ j. (S j ⊎ (j ≡ k)) ⊎ Contains ks j))
          → T new (λ j. S j ⊎ Contains (k ∷ ks) j)
      go (Ok done) p later = more new (λ j. (S j ⊎ (j ≡ k)) ⊎ Contains ks j) (λ j. S j ⊎ Contains (k ∷ ks) j) (λ j s. elim s [
        | inl (inl was) ↦ inl was
        | inl (inr is) ↦ inr (is_first k ks j is)
        | inr among ↦ inr (is_later k ks j among)
      ]) (later p)
      go (Err e) (bad, same) later =
          more new (λ j. S j ⊎ (j ≡ k)) (λ j. S j ⊎ Contains (k ∷ ks) j) (λ j s. elim s [
            | inl was ↦ inl was
            | inr is ↦ inr (is_first k ks j is)
          ]) (still mid new (λ j. S j ⊎ (j ≡ k)) same on)

  abbrev Without : List Kept → (Kept → Type 0) → Kept → Type 0
  Without ks S j = S j × (Contains ks j → ⊥)

  all_forgotten : (ks : List Kept) (old : H) (done : Unit {0}) (new : H) (S : Kept → Type 0)
      → ForgetsAll step ks old (Ok done) new → T old S → T new (Without ks S)
  all_forgotten [] old done new S (is, same) t =
      more new S (Without [] S) (λ j s. (s, nothing_in j)) (still old new S same t)
  all_forgotten (k ∷ ks) old done new S (one, mid, first, rest) t = go one first rest
      (λ p on. all_forgotten ks mid done new (λ j. S j × (j ≡ k → ⊥)) p on)
    where
      go : (o : Result (Unit {0}) AllocError) → step old (forgets k) o mid
          → MatchResult o (λ done. ForgetsAll step ks mid (Ok done) new) (λ e. (Ok done ≡ Err e) × (new ≡ mid))
          → (ForgetsAll step ks mid (Ok done) new → T mid (λ j. S j × (j ≡ k → ⊥))
          → T new (Without ks (λ j. S j × (j ≡ k → ⊥)))) → T new (Without (k ∷ ks) S)
      go (Ok one) first p later =
          more new (Without ks (λ j. S j × (j ≡ k → ⊥))) (Without (k ∷ ks) S) (λ j s. (
            s.0.0,
            λ among.
                elim (first_or_rest k ks j among) [ inl is ↦ s.0.1 is | inr rest ↦ s.1 rest ],
          ))
          (later p (forgot old k one mid S first t))
      go (Err e) first (bad, same) later = absurd (cc)

  some_forgotten : (ks : List Kept) (old : H) (r : Result (Unit {0}) AllocError) (new : H) (S : Kept → Type 0)
      → ForgetsAll step ks old r new → T old S → T new S
  some_forgotten [] old r new S (is, same) t = still old new S same t
  some_forgotten (k ∷ ks) old r new S (one, mid, first, rest) t =
      go one first rest (λ p on. some_forgotten ks mid r new S p on)
    where
      go : (o : Result (Unit {0}) AllocError) → step old (forgets k) o mid
          → MatchResult o (λ done. ForgetsAll step ks mid r new) (λ e. (r ≡ Err e) × (new ≡ mid))
          → (ForgetsAll step ks mid r new → T mid S → T new S) → T new S
      go (Ok one) first p later =
          later p (more mid (λ j. S j × (j ≡ k → ⊥)) S (λ j s. s.0) (forgot old k one mid S first t))
      go (Err e) first (bad, same) later = still mid new S same (failed old k e mid S first t)

  both_forgotten : (r : ReachState) (old : H) (done : Unit {0}) (new : H) (S : Kept → Type 0)
      → ForgetsBoth step r old (Ok done) new → T old S → T new (Without r.rows (Without r.pages S))
  both_forgotten r old done new S (one, mid, first, rest) t = go one first rest
    where
      go : (o : Result (Unit {0}) AllocError) → ForgetsAll step r.pages old o mid
          → MatchResult o (λ x. ForgetsAll step r.rows mid (Ok done) new) (λ e. (Ok done ≡ Err e) × (new ≡ mid))
          → T new (Without r.rows (Without r.pages S))
      go (Ok one) first p = all_forgotten r.rows mid done new (Without r.pages S) p
          (all_forgotten r.pages old one mid S first t)
      go (Err e) first (bad, same) = absurd (cc)

  some_of_both : (r : ReachState) (old : H) (done : Result (Unit {0}) AllocError) (new : H) (S : Kept → Type 0)
      → ForgetsBoth step r old done new → T old S → T new S
  some_of_both r old done new S (one, mid, first, rest) t = go one rest
    where
      on : T mid S
      on = some_forgotten r.pages old one mid S first t

      go : (o : Result (Unit {0}) AllocError)
          → MatchResult o (λ x. ForgetsAll step r.rows mid done new) (λ e. (done ≡ Err e) × (new ≡ mid)) → T new S
      go (Ok one) p = some_forgotten r.rows mid done new S p on
      go (Err e) (bad, same) = still mid new S same on

  -- ---- one ring, beside what is kept for others

  module _ (f : Says) (S : Kept → Type 0) where
    abbrev pub Among : ReachState → Kept → Type 0
    Among r k = S k ⊎ IsKeptBy r k

    -- the rings' table has what is kept, and that leads where it is said to
    abbrev pub Holds : H → BlockQueueState → Type 0
    Holds h q = T h (Among q.reach) × QueueStands f q

    pub reach_forgotten : (r : ReachState) (old : H) (one : Result (Unit {0}) AllocError) (new : H)
        → ForgetsBoth step r old one new → T old (Among r) → T new (Among (forgotten r one))
    reach_forgotten r old (Ok done) new both t =
        more new (Without r.rows (Without r.pages (Among r))) (Among (forgotten r (Ok done))) (λ k s. elim s.0.0 [
          | inl others ↦ inl others
          | inr (inl page) ↦ absurd (s.0.1 page)
          | inr (inr row) ↦ absurd (s.1 row)
        ]) (both_forgotten r old done new (Among r) both t)
    reach_forgotten r old (Err e) new both t = some_of_both r old (Err e) new (Among r) both t

    pub rows_gone : (r : ReachState) (old : H) (one : Result (Unit {0}) AllocError) (new : H)
        → ForgetsAll step r.rows old one new → T old (Among r) → T new (Among (rows_forgotten r one))
    rows_gone r old (Ok done) new all t =
        more new (Without r.rows (Among r)) (Among (rows_forgotten r (Ok done))) (λ k s. elim s.0 [
          | inl others ↦ inl others
          | inr (inl page) ↦ inr (inl page)
          | inr (inr row) ↦ absurd (s.1 row)
        ]) (all_forgotten r.rows old done new (Among r) all t)
    rows_gone r old (Err e) new all t = some_forgotten r.rows old (Err e) new (Among r) all t

    -- a ring of which nothing is kept, or no rows, and nothing fetched
    bare : (q : BlockQueueState) (one : Result (Unit {0}) AllocError) → q.reach.fetch ≡ None → QueueStands f q
        → QueueStands f (with_reach q (forgotten q.reach one))
    bare q (Ok done) none stands = record {
      pages = All-nil (Stands f);
      rows = All-nil (Stands f);
      fetch = subst (λ o. IfSome o (FetchStands f (forgotten q.reach (Ok done)))) (sym none) tt;
      asked = stands.asked;
    }
    bare q (Err e) none stands = stands

    rowless : (q : BlockQueueState) (one : Result (Unit {0}) AllocError) → QueueStands f q
        → QueueStands f (with_reach q (rows_forgotten q.reach one))
    rowless q (Ok done) stands =
        record { pages = stands.pages; rows = All-nil (Stands f); fetch = stands.fetch; asked = stands.asked }
    rowless q (Err e) stands = stands

    -- ---- a fetch begins

    begins_fetch : (q : BlockQueueState) (r : Result (Option FetchState) AllocError) (a : Option RingEvent)
        (q' : BlockQueueState) (h : H) → (a, q') ≡ fetching q r → IfOk r (λ o. IfSome o (FetchStands f q.reach))
        → Holds h q → Holds h q'
    begins_fetch q (Ok (Some g)) a q' h is new (t, stands) =
        subst (λ (p : Option RingEvent × BlockQueueState). Holds h p.1) (sym is)
        (t, with_fetch_stands f q (Some g) stands new)
    begins_fetch q (Ok None) a q' h is new (t, stands) =
        subst (λ (p : Option RingEvent × BlockQueueState). Holds h p.1) (sym is) (t, with_fetch_stands f q None stands tt)
    begins_fetch q (Err e) a q' h is new (t, stands) =
        subst (λ (p : Option RingEvent × BlockQueueState). Holds h p.1) (sym is) (t, with_fetch_stands f q None stands tt)

    -- one that is as it has to be stands
    as_begun : (r : ReachState) (x : Result (Option FetchState) AllocError) (o : Option FetchState)
        → IfOk x (λ g. g ≡ o) → IfSome o (FetchStands f r) → IfOk x (λ g. IfSome g (FetchStands f r))
    as_begun r (Ok g) o is stands = subst (λ x. IfSome x (FetchStands f r)) (sym is) stands
    as_begun r (Err e) o is stands = tt

    reaches : (q : BlockQueueState) (old : H) (a : Option RingEvent) (q' : BlockQueueState) (new : H)
        → ReachesRing step q old a q' new → q.reach.fetch ≡ None → Holds old q → Holds new q'
    reaches q old a q' new (one, both, rest) none (t, stands) =
        go one rest (reach_forgotten q.reach old one new both t) (bare q one none stands)
      where
        go : (one : Result (Unit {0}) AllocError) → (let v = with_reach q (forgotten q.reach one) in MatchResult one
            (λ done. (r : Result (Option FetchState) AllocError)
            × IfOk r (λ g. g ≡ begun goal.Ring (ring_wants q.queue q.reach.log)) × ((a, q') ≡ fetching v r))
            (λ e. (a ≡ None) × (q' ≡ v))) → T new (Among (forgotten q.reach one))
            → QueueStands f (with_reach q (forgotten q.reach one)) → Holds new q'
        go (Ok done) (r, made, is) t stands = let v = with_reach q (forgotten q.reach (Ok done)) in
            begins_fetch v r a q' new is (as_begun v.reach r _ made
            (fresh f v.reach goal.Ring (ring_wants q.queue q.reach.log) (λ is. refl))) (t, stands)
        go (Err e) (none, is) t stands = subst (Holds new) (sym is) (t, stands)

    chains : (terms : DeviceLimits) (q : BlockQueueState) (found : Found) (old : H) (a : Option RingEvent)
        (q' : BlockQueueState) (new : H) → FetchesChain step terms q found old a q' new → Holds old q → Holds new q'
    chains terms q found old a q' new (one, all, rest) (t, stands) =
        go one rest (rows_gone q.reach old one new all t) (rowless q one stands)
      where
        go : (one : Result (Unit {0}) AllocError) → (let v = with_reach q (rows_forgotten q.reach one) in MatchResult one
            (λ done. (r : Result (Option FetchState) AllocError)
            × IfOk r (λ g. g ≡ chain_begun (is_refused terms (length q.asked) found.chain) found)
            × ((a, q') ≡ fetching v r)) (λ e. (a ≡ None) × (q' ≡ v))) → T new (Among (rows_forgotten q.reach one))
            → QueueStands f (with_reach q (rows_forgotten q.reach one)) → Holds new q'
        go (Ok done) (r, made, is) t stands = let v = with_reach q (rows_forgotten q.reach (Ok done)) in
            begins_fetch v r a q' new is (as_begun v.reach r _ made
            (fresh_chain f v.reach (is_refused terms (length q.asked) found.chain) found)) (t, stands)
        go (Err e) (none, is) t stands = subst (Holds new) (sym is) (t, stands)

    row : (q : BlockQueueState) (e : QueueError) (a : Option RingEvent) (q' : BlockQueueState) (h : H)
        → FetchesRow q e a q' → Holds h q → Holds h q'
    row q e a q' h = go (missed_by e)
      where
        go : (o : Option IovaRange) → MatchOption o ((a ≡ event_of (refused e)) × (q' ≡ q))
            (λ range. (r : Result (Option FetchState) AllocError)
            × IfOk r (λ g. g ≡ begun goal.Rows (want range.base.0 range.length Read ∷ [])) × ((a, q') ≡ fetching q r))
            → Holds h q → Holds h q'
        go None (was, is) holds = subst (Holds h) (sym is) holds
        go (Some range) (r, made, is) holds = begins_fetch q r a q' h is (as_begun q.reach r _ made
            (fresh f q.reach goal.Rows (want range.base.0 range.length Read ∷ []) (λ is. absurd (cc)))) holds

    -- ---- a fetch that is whole

    -- ranges that stand are kept of the areas of a ring that had none
    areas : (q : BlockQueueState) (ks : List Kept) (old : H) (a : Option RingEvent) (q' : BlockQueueState) (new : H)
        → KeepsAreas step q ks old a q' new → q.reach.fetch ≡ None → q.reach.pages ≡ [] → All (Stands f) ks
        → Holds old q → Holds new q'
    areas q ks old a q' new (r, them, was, is) none bare all (t, stands) = subst (Holds new) (sym is) (go r, well r)
      where
        now : T new (λ k. Among q.reach k ⊎ Contains ks k)
        now = all_kept ks old r new (Among q.reach) them t

        either : (k : Kept) → Among q.reach k ⊎ Contains ks k → S k ⊎ (Contains ks k ⊎ Contains q.reach.rows k)
        either k s = elim s [
          | inl (inl others) ↦ inl others
          | inl (inr (inl page)) ↦ absurd (nothing_in k (subst (λ l. Contains l k) bare page))
          | inl (inr (inr row)) ↦ inr (inr row)
          | inr among ↦ inr (inl among)
        ]

        go : (r : Result (Unit {0}) AllocError) → T new (Among (areas_kept q.reach ks r))
        go (Ok done) = more new _ (Among (areas_kept q.reach ks (Ok done))) either now
        go (Err e) = more new _ (Among (areas_kept q.reach ks (Err e))) either now

        well : (r : Result (Unit {0}) AllocError) → QueueStands f (with_reach q (areas_kept q.reach ks r))
        well (Ok done) = record {
          pages = all;
          rows = stands.rows;
          fetch = subst (λ o. IfSome o (FetchStands f (areas_kept q.reach ks (Ok done)))) (sym none) tt;
          asked = stands.asked;
        }
        well (Err e) = record {
          pages = all;
          rows = stands.rows;
          fetch = subst (λ o. IfSome o (FetchStands f (areas_kept q.reach ks (Err e)))) (sym none) tt;
          asked = stands.asked;
        }

    more_rows : (q : BlockQueueState) (ks : List Kept) (old : H) (a : Option RingEvent) (q' : BlockQueueState) (new : H)
        → KeepsRows step q ks old a q' new → All (Stands f) ks → Holds old q → Holds new q'
    more_rows q ks old a q' new (Ok done, is, (r, them, was)) all (t, stands) = subst (Holds new) (sym is) (
      more new (λ k. Among q.reach k ⊎ Contains ks k) (Among (rows_added q.reach ks (Ok done))) (λ k s. elim s [
        | inl (inl others) ↦ inl others
        | inl (inr (inl page)) ↦ inr (inl page)
        | inl (inr (inr row)) ↦ inr (inr (Contains-append_left q.reach.rows ks k row))
        | inr among ↦ inr (inr (Contains-append_right q.reach.rows ks k among))
      ]) (all_kept ks old r new (Among q.reach) them t),
      record {
        pages = stands.pages;
        rows = All-append (Stands f) q.reach.rows ks stands.rows all;
        fetch = stands.fetch;
        asked = stands.asked;
      },
    )
    more_rows q ks old a q' new (Err e, is, (none, same)) all (t, stands) =
        subst (Holds new) (sym is) (still old new (Among q.reach) same t, stands)

    begins_request : (terms : DeviceLimits) (q : BlockQueueState) (o : Origin) (ks : List Kept) (old : H)
        (a : Option RingEvent) (q' : BlockQueueState) (new : H)
        → BeginsFetched step terms q o (or_empty (guest_chain ks)) ks old a q' new → All (Stands f) ks
        → Holds old q → Holds new q'
    begins_request terms q o ks old a q' new p all (t, stands) = go (has_place q o.buffer.id) p
      where
        chain : List Segment
        chain = or_empty (guest_chain ks)

        read : (r : Result Request GuestMemoryError) → T new (Among q.reach) → (a, q') ≡ begun_behind q o chain ks r
            → Holds new q'
        read (Ok request) t is =
            let asked : Asked =
            record { chain = chain; request = shortened 0 0 request; kept = ks; gap = o.gap } in
            subst (λ (p : Option RingEvent × BlockQueueState). Holds new p.1) (sym is) (
              t,
              record {
                pages = stands.pages;
                rows = stands.rows;
                fetch = stands.fetch;
                asked = λ id b there. elim (set_or_was q.asked o.buffer.id id (Some asked) (Some b) there) [
                  | inl this ↦ subst (RequestStands f) (sym (some_is b asked this)) (all, inr refl)
                  | inr was ↦ stands.asked id b was
                ];
              },
            )
        read (Err e) t is =
            subst (λ (p : Option RingEvent × BlockQueueState). Holds new p.1) (sym is) (t, stands)

        go : (v : Bool) → MatchBool v
            ((r : Result Request GuestMemoryError) × step old (begins (open_terms terms) chain) r new
            × ((a, q') ≡ begun_behind q o chain ks r))
            ((a ≡ event_of (popped o.buffer (Refused 1))) × (q' ≡ past_found q o) × (new ≡ old)) → Holds new q'
        go true (r, first, is) =
            read r (plain old (begins (open_terms terms) chain) r new (Among q.reach) tt first t) is
        go false (was, is, same) = subst (Holds new) (sym is) (
          still old new (Among q.reach) same t,
          record {
            pages = stands.pages;
            rows = stands.rows;
            fetch = stands.fetch;
            asked = stands.asked;
          },
        )

    takes : (terms : DeviceLimits) (q : BlockQueueState) (o : Origin) (ks : List Kept) (old : H) (a : Option RingEvent)
        (q' : BlockQueueState) (new : H) → TakesFetched step terms q o ks old a q' new → All (Stands f) ks
        → Holds old q → Holds new q'
    takes terms q o ks old a q' new (Ok done, p) all holds = begins_request terms q o ks old a q' new p all holds
    takes terms q o ks old a q' new (Err e, (none, is, same)) all (t, stands) =
        subst (Holds new) (sym is) (still old new (Among q.reach) same t, stands)

    uses : (terms : DeviceLimits) (q : BlockQueueState) (g : FetchState) (for : Goal) (old : H) (a : Option RingEvent)
        (q' : BlockQueueState) (new : H) → Uses step terms q for g.kept old a q' new → g.goal ≡ for
        → q.reach.fetch ≡ None → FetchStands f q.reach g → Holds old q → Holds new q'
    uses terms q g goal.Ring old a q' new p is none (all, bare) holds =
        areas q g.kept old a q' new p none (bare is) all holds
    uses terms q g goal.Rows old a q' new p is none (all, bare) holds = more_rows q g.kept old a q' new p all holds
    uses terms q g (goal.Chain found) old a q' new p is none (all, bare) holds =
        takes terms q (origin_of found false) g.kept old a q' new p all holds
    uses terms q g (goal.Status found) old a q' new p is none (all, bare) holds =
        takes terms q (origin_of found (has_gap found.chain)) g.kept old a q' new p all holds

    gives_up : (terms : DeviceLimits) (q : BlockQueueState) (g : Goal) (old : H) (a : Option RingEvent)
        (q' : BlockQueueState) (new : H) → GivesUp step terms q g old a q' new → Holds old q → Holds new q'
    gives_up terms q goal.Ring old a q' new (was, is, same) (t, stands) =
        subst (Holds new) (sym is) (still old new (Among q.reach) same t, stands)
    gives_up terms q goal.Rows old a q' new (was, is, same) (t, stands) =
        subst (Holds new) (sym is) (still old new (Among q.reach) same t, stands)
    gives_up terms q (goal.Chain found) old a q' new (r, made, is, same) (t, stands) =
        begins_fetch q r a q' new is (as_begun q.reach r _ made (fresh_status f q.reach found))
        (still old new (Among q.reach) same t, stands)
    gives_up terms q (goal.Status found) old a q' new p holds =
        takes terms q (origin_of found false) [] old a q' new p (All-nil (Stands f)) holds

    -- ---- what is looked up, and what comes next

    module _ (g : Says) (leads : LeadsLaw g f) (can_ask : Bool) (terms : DeviceLimits) where
      after_look_up : (q : BlockQueueState) (x : FetchState) (s : State) (old : H) (a : Option RingEvent)
          (q' : BlockQueueState) (new : H) → AfterLookUp step can_ask terms q x s old a q' new → q.reach.fetch ≡ None
          → FetchStands f q.reach x → Holds old q → Holds new q'
      after_look_up q x s old a q' new p none fetch (t, stands) = go s p
        where
          fetches : q' ≡ with_fetch q (Some x) → new ≡ old → Holds new q'
          fetches is same = subst (Holds new) (sym is)
              (still old new (Among q.reach) same t, with_fetch_stands f q (Some x) stands fetch)

          ends : GivesUp step terms q x.goal old a q' new → Holds new q'
          ends p = gives_up terms q x.goal old a q' new p (t, stands)

          waits : (v : Bool) → MatchBool v ((a ≡ Some Emptied) × (q' ≡ with_fetch q (Some x)) × (new ≡ old))
              (GivesUp step terms q x.goal old a q' new) → Holds new q'
          waits true (was, is, same) = fetches is same
          waits false p = ends p

          go : (s : State) → AfterLookUp step can_ask terms q x s old a q' new → Holds new q'
          go state.Begun (was, is, same) = fetches is same
          go (state.Waits iova access) p = waits can_ask p
          go state.Stops p = ends p
          go state.Whole p = uses terms q x x.goal old a q' new p refl none fetch (t, stands)

      pub after_look : (q : BlockQueueState) (r : Result (Option Found) QueueError) (old : H) (a : Option RingEvent)
          (q' : BlockQueueState) (new : H) → AfterLook step terms q r old a q' new → Holds old q → Holds new q'
      after_look q (Ok (Some found)) old a q' new p holds = chains terms q found old a q' new p holds
      after_look q (Ok None) old a q' new (was, is, same) (t, stands) =
          subst (Holds new) (sym is) (still old new (Among q.reach) same t, stands)
      after_look q (Err e) old a q' new (fetches, same) (t, stands) =
          row q e a q' new fetches (still old new (Among q.reach) same t, stands)

      finds : (q : BlockQueueState) (old : H) (r : Result (Option Found) QueueError) (new : H)
          → Finds step q.queue old r new → Holds old q → Holds new q
      finds q old r new (p, first, is) (t, stands) = (plain old (pops q.queue) p new (Among q.reach) tt first t, stands)

      marks : (ms : List Piece) (old new : H) (P : Kept → Type 0) → MarksRing step ms old new → T old P → T new P
      marks [] old new P is t = still old new P is t
      marks (m ∷ ms) old new P (mid, first, rest) t =
          marks ms mid new P rest (plain old (marks_ring m.base m.offset m.len) tt mid P tt first t)

      asks : (q : BlockQueueState) (old : H) (r : Result Bool QueueError) (new : H) → Asks step q old r new
          → Holds old q → Holds new q
      asks q old r new (asked, first, rest) (t, stands) = (
        marks (asking_marks q.queue q.reach.log) asked new (Among q.reach) rest
            (plain old (enables q.queue) r asked (Among q.reach) tt first t),
        stands,
      )

      waits_behind : (q : BlockQueueState) (old : H) (a : Option RingEvent) (q' : BlockQueueState) (new : H)
          → WaitsBehind step terms q old a q' new → Holds old q → Holds new q'
      waits_behind q old a q' new (r, mid, asked, after) holds = go r after (asks q old r mid asked holds)
        where
          go : (r : Result Bool QueueError) → AfterAskBehind step terms q r mid a q' new → Holds mid q → Holds new q'
          go (Ok true) (r, found, looks, after) holds =
              after_look q r found a q' new after (finds q mid r found looks holds)
          go (Ok false) (was, is, same) (t, stands) =
              subst (Holds new) (sym is) (still mid new (Among q.reach) same t, stands)
          go (Err e) (was, is, same) (t, stands) =
              subst (Holds new) (sym is) (still mid new (Among q.reach) same t, stands)

      finds_next : (q : BlockQueueState) (old : H) (a : Option RingEvent) (q' : BlockQueueState) (new : H)
          → FindsNext step terms q old a q' new → Holds old q → Holds new q'
      finds_next q old a q' new (r, mid, looks, after) holds = go r after (finds q old r mid looks holds)
        where
          go : (r : Result (Option Found) QueueError) → AfterFind step terms q r mid a q' new → Holds mid q → Holds new q'
          go (Ok (Some found)) p holds = chains terms q found mid a q' new p holds
          go (Ok None) p holds = waits_behind q mid a q' new p holds
          go (Err e) (fetches, same) (t, stands) =
              row q e a q' new fetches (still mid new (Among q.reach) same t, stands)

      reads : (q : BlockQueueState) (old : H) (a : Option RingEvent) (q' : BlockQueueState) (new : H)
          → ReadsBehind step q old a q' new → Holds old q → Holds new q'
      reads q old a q' new (r, done, was) (t, stands) = go q.is_unread q.queue done
        where
          read : (u : _) (next : Result ℕ QueueError) → (q', r) ≡ read_by q u next → T new (Among q.reach) → Holds new q'
          read u (Ok next) is t =
              subst (λ (p : BlockQueueState × Result (Unit {0}) QueueError). Holds new p.0) (sym is)
              (t, record { pages = stands.pages; rows = stands.rows; fetch = stands.fetch; asked = stands.asked })
          read u (Err e) is t =
              subst (λ (p : BlockQueueState × Result (Unit {0}) QueueError). Holds new p.0) (sym is) (t, stands)

          go : (v : Bool) (u : AnyQueue) → ReadsBy step q v u old r q' new → Holds new q'
          go true (Split u) (next, first, is) =
              read u next is (plain old (reads_used u) next new (Among q.reach) tt first t)
          go true (Packed u) (done, is, same) = subst (Holds new) (sym is) (
            still old new (Among q.reach) same t,
            record { pages = stands.pages; rows = stands.rows; fetch = stands.fetch; asked = stands.asked },
          )
          go false u (done, is, same) = subst (Holds new) (sym is) (still old new (Among q.reach) same t, stands)

      fetches_next : (q : BlockQueueState) (old : H) (a : Option RingEvent) (q' : BlockQueueState) (new : H)
          → FetchesNext step terms q old a q' new → q.reach.fetch ≡ None → Holds old q → Holds new q'
      fetches_next q old a q' new p none holds = go q.reach.is_reached p
        where
          on : (v : Bool) → MatchBool v (ReadsBehind step q old a q' new) (FindsNext step terms q old a q' new)
              → Holds new q'
          on true p = reads q old a q' new p holds
          on false p = finds_next q old a q' new p holds

          go : (v : Bool) → MatchBool v (MatchBool q.is_unread (ReadsBehind step q old a q' new)
              (FindsNext step terms q old a q' new)) (ReachesRing step q old a q' new) → Holds new q'
          go true p = on q.is_unread p
          go false p = reaches q old a q' new p none holds

      pub behind_holds : (q : BlockQueueState) (old : H) (a : Option RingEvent) (q' : BlockQueueState) (new : H)
          → HappensBehind step g can_ask terms q old a q' new → Holds old q → Holds new q'
      behind_holds q old a q' new p (t, stands) = go q.reach.fetch refl stands.fetch p
        where
          go : (o : Option FetchState) → q.reach.fetch ≡ o → IfSome o (FetchStands f q.reach)
              → MatchOption o (FetchesNext step terms q old a q' new)
              (λ x. Fetches step g can_ask terms (with_fetch q None) x old a q' new) → Holds new q'
          go None none some p = fetches_next q old a q' new p none (t, stands)
          go (Some x) is some (y, looks, after) = after_look_up (with_fetch q None) y y.state old a q' new after refl
              (up_stands g f leads q.reach (most_for q.reach (length q.asked) x.goal) x.state x y looks some)
              (t, with_fetch_stands f q None stands tt)
