-- A message that changes the table leaves all that is kept, fetched and under way where messages say from then on.
use Rattle.std.proofs.Common.{◌≡◌, ◌∙◌, ◌⊎◌, ℕ, zero, suc, ◌+◌, ◌<◌, ◌^◌, not, Bool, true, false, List, length, Option, Some, None, is_some, IfSome, IsSomeAnd, option_to_list, Result, Ok, Err, MatchBool, MatchOption, MatchResult, if◌then◌else◌, refl, ap, sym, subst, arith, inl, inr}
use Rattle.std.specs.List.{list_any, slice_get, slice_set}
use Rattle.std.specs.declared.alloc.AllocError.{AllocError}
use Rattle.std.proofs.lemmas.Bool.{cases_eq, or_parts}
use Rattle.std.proofs.lemmas.List.Elements.{All-nil}
use Rattle.std.proofs.lemmas.Option.{slice_get_within}
use Rattle.vm_memory_base.specs.Table.{InvalidateAll, Says, Table, changed, says}
use Rattle.vm_memory_base.specs.declared.iotlb.Permissions.{Permissions}
use Rattle.vhost_iotlb.specs.Kept.{SaysNoMore, after_change, differs, event_of}
use Rattle.vhost_iotlb.specs.Leads.{LeadOn}
use Rattle.vhost_iotlb.specs.declared.kept.Change.{Change}
use Rattle.vhost_iotlb.specs.declared.kept.Change.TheVariants.{Map, Unmap}
use Rattle.vhost_iotlb.specs.declared.kept.Kept.{Kept}
use Rattle.vhost_backend.proofs.CurrentStageLemmas.{LeadsLaw, on_stands, reach_forgotten, rows_gone}
use Rattle.vhost_backend.proofs.KeepLemmas.{IsPlain}
use Rattle.vhost_backend.proofs.OwnWayLemmas.{get-set_other, get-set_same}
use Rattle.vhost_backend.proofs.StandLemmas.{HoldsAll, HoldsOne, StaysLaw, none_pass, one_holds, some_is, stand_after}
use Rattle.vhost_backend.specs.Behind.{asked_uses, with_reach}
use Rattle.vhost_backend.specs.BlockQueue.{BlockQueueState}
use Rattle.vhost_backend.specs.BlockTable.{AfterChange, AppliesTo, ChangesBy, ChangesTable, Resumed, settled_by, settled_to}
use Rattle.vhost_backend.specs.Current.{FetchStands, IsKeptBy, QueueStands, QueuesStand, Stands, after_changes, change_if}
use Rattle.vhost_backend.specs.Fetch.{FetchState, GoesOn, Resumes, TakesWhatCame, after_drop, is_dropped, waits}
use Rattle.vhost_backend.specs.KeptRanges.{ForgetsAll}
use Rattle.vhost_backend.specs.Reach.{Changes, ChangesOthers, ForgetsBoth, ReachState, ResumesFetch, changed_by, dropped, forgotten, most_at, rows_forgotten}
use Rattle.vhost_backend.specs.RingMemory.{MemoryStep, Returned, forgets, keeps}
use Rattle.vhost_backend.specs.TableUse.{ChangesAll, ChangesAt, ChangesTo, ResumesAt, ResumesTo, awaited, in_use, is_used, kicked_if}
use Rattle.vhost_backend.specs.declared.block_backend.BlockBackend.{BlockBackend}
use Rattle.vhost_backend.specs.declared.block_queue.Asked.{Asked}

-- ---- what is taken from the laws of tables

abbrev pub ChangedLaw : Type 0
ChangedLaw = (t : Table) (f : Says) (c : Change) → SaysNoMore t f
    → SaysNoMore (changed (event_of c) t) (after_change c f)

abbrev pub EmptiedLaw : Type 0
EmptiedLaw = (t : Table) (f : Says) → SaysNoMore (changed InvalidateAll t) f

abbrev pub LeadLaw : Type 0
LeadLaw = (t : Table) (f : Says) (a count to : ℕ) (access : Permissions) → SaysNoMore t f → a + count < 2 ^ 64
    → LeadOn (says t) a count to access → LeadOn f a count to access

pub leads_on : LeadLaw → (t : Table) (f : Says) → SaysNoMore t f → LeadsLaw (says t) f
leads_on law t f no_more k real now = law t f k.iova k.len k.base k.access no_more real.1 now

-- ---- what does not differ by a change

-- nothing that is kept or fetched for a ring leads elsewhere by it
abbrev Same : Change → ReachState → Type 0
Same c r = (list_any (differs c) r.pages ≡ false) × (list_any (differs c) r.rows ≡ false)
    × (is_dropped c r.fetch ≡ false)

drops_none : (c : Change) (o : Option FetchState) → is_dropped c (after_drop c o) ≡ false
drops_none c o = go (is_dropped c o) refl
  where
    go : (v : Bool) → is_dropped c o ≡ v → is_dropped c (if v then None else o) ≡ false
    go true is = refl
    go false is = is

module _ (law : StaysLaw) (f : Says) (c : Change) where
  fetch_after : (r : ReachState) (o : Option FetchState) → is_dropped c o ≡ false → IfSome o (FetchStands f r)
      → IfSome o (FetchStands (after_change c f) r)
  fetch_after r None none stands = tt
  fetch_after r (Some g) none (all, bare) = (stand_after law f c g.kept all none, bare)

  -- a queue of which nothing differs
  queue_after : (q : BlockQueueState) → Same c q.reach → list_any (asked_uses c) q.asked ≡ false → QueueStands f q
      → QueueStands (after_change c f) q
  queue_after q same none stands = record {
    pages = stand_after law f c q.reach.pages stands.pages same.0;
    rows = stand_after law f c q.reach.rows stands.rows same.1;
    fetch = fetch_after q.reach q.reach.fetch same.2 stands.fetch;
    asked = λ id a there. let was = stands.asked id a there in
        (stand_after law f c a.kept was.0 (none_pass (asked_uses c) q.asked none id (Some a) there), was.1);
  }

  -- nothing is in use of queues whose requests are these
  unused : (qs : List BlockQueueState) → in_use c qs ≡ false → (ring : ℕ) (q : BlockQueueState)
      → slice_get qs ring ≡ Some q → list_any (asked_uses c) q.asked ≡ false
  unused qs none ring q there = (or_parts (list_any (asked_uses c) q.asked) _
      (none_pass (is_used c) qs none ring q there)).0

-- ---- which requests are under way

-- each queue was there, with the same requests
abbrev SameAsked : List BlockQueueState → List BlockQueueState → Type 0
SameAsked qs qs' = (ring : ℕ) (q' : BlockQueueState) → slice_get qs' ring ≡ Some q'
    → (q : BlockQueueState) × (slice_get qs ring ≡ Some q) × (q'.asked ≡ q.asked)

asked_itself : (qs : List BlockQueueState) → SameAsked qs qs
asked_itself qs ring q there = (q, there, refl)

asked_then : (a b c : List BlockQueueState) → SameAsked a b → SameAsked b c → SameAsked a c
asked_then a b c first second ring q there =
    let (p, was, same) = second ring q there in
    let (o, is, kept) = first ring p was in (o, is, same ∙ kept)

asked_set : (qs : List BlockQueueState) (n : ℕ) (q : BlockQueueState) (r : ReachState) → slice_get qs n ≡ Some q
    → SameAsked qs (slice_set qs n (with_reach q r))
asked_set qs n q r found ring q' there = elim (cases_eq ring n) [
  | inl same ↦
      let at : slice_get (slice_set qs n (with_reach q r)) n ≡ Some q' =
      ap (slice_get (slice_set qs n (with_reach q r))) (sym same) ∙ there in
      let is : with_reach q r ≡ q' = some_is (with_reach q r) q' (sym (get-set_same qs n (with_reach q r) q found) ∙ at) in
      (q, ap (slice_get qs) same ∙ found, ap (λ (p : BlockQueueState). p.asked) (sym is))
  | inr differs ↦ (q', sym (get-set_other qs n ring (with_reach q r) differs) ∙ there, refl)
]

-- ---- a change, ring by ring

module _ {H : Type 0} (step : H → (s : MemoryStep) → Returned s → H → Type 0) (c : Change) where
  abbrev ok : Bool → Result Bool AllocError
  ok is = Ok is

  reach_same : (r : ReachState) (old : H) (is : Bool) (r' : ReachState) (new : H) → Changes step c r old (Ok is) r' new
      → Same c r'
  reach_same r old is r' new = go (list_any (differs c) r.pages) refl
    where
      gone : (one : Result (Unit {0}) AllocError) → ok is ≡ changed_by (is_some r.fetch) one
          → Same c (forgotten (dropped r) one)
      gone (Ok done) is = (refl, refl, refl)
      gone (Err e) is = absurd (cc)

      rows : list_any (differs c) r.pages ≡ false → (one : Result (Unit {0}) AllocError)
          → ok is ≡ changed_by (is_some r.fetch) one → Same c (rows_forgotten (record r { fetch = None }) one)
      rows none (Ok done) is = (none, refl, refl)
      rows none (Err e) is = absurd (cc)

      others : list_any (differs c) r.pages ≡ false → (v : Bool) → list_any (differs c) r.rows ≡ v → MatchBool v
          ((one : Result (Unit {0}) AllocError) × ForgetsAll step r.rows old one new
          × (ok is ≡ changed_by (is_some r.fetch) one) × (r' ≡ rows_forgotten (record r { fetch = None }) one))
          ((ok is ≡ ok (is_dropped c r.fetch)) × (r' ≡ record r { fetch = after_drop c r.fetch }) × (new ≡ old))
          → Same c r'
      others none true any (one, all, was, becomes) = subst (Same c) (sym becomes) (rows none one was)
      others none false any (was, becomes, still) = subst (Same c) (sym becomes) (none, any, drops_none c r.fetch)

      go : (v : Bool) → list_any (differs c) r.pages ≡ v → MatchBool v
          ((one : Result (Unit {0}) AllocError) × ForgetsBoth step r old one new
          × (ok is ≡ changed_by (is_some r.fetch) one) × (r' ≡ forgotten (dropped r) one))
          (ChangesOthers step c r old (Ok is) r' new) → Same c r'
      go true any (one, both, was, becomes) = subst (Same c) (sym becomes) (gone one was)
      go false none p = others none (list_any (differs c) r.rows) refl p

  at_asked : (n : ℕ) (qs : List BlockQueueState) (ks : List Bool) (old : H) (qs' : List BlockQueueState)
      (ks' : List Bool) (new : H) → ChangesAt step c n qs ks old (Ok tt) qs' ks' new → SameAsked qs qs'
  at_asked n qs ks old qs' ks' new = go (slice_get qs n) refl
    where
      go : (o : Option BlockQueueState) → slice_get qs n ≡ o
          → MatchOption o ((qs' ≡ qs) × (ks' ≡ ks) × (new ≡ old))
          (λ q. (had : Bool) × (r : ReachState) × Changes step c q.reach old (Ok had) r new
          × (qs' ≡ slice_set qs n (with_reach q r)) × (ks' ≡ kicked_if had ks n)) → SameAsked qs qs'
      go None found (same, still, quiet) = subst (SameAsked qs) (sym same) (asked_itself qs)
      go (Some q) found (had, r, changes, set, kicked) = subst (SameAsked qs) (sym set) (asked_set qs n q r found)

  to_asked : (n : ℕ) (qs : List BlockQueueState) (ks : List Bool) (old : H) (qs' : List BlockQueueState)
      (ks' : List Bool) (new : H) → ChangesTo step c n qs ks old qs' ks' new → SameAsked qs qs'
  to_asked zero qs ks old qs' ks' new (same, still, quiet) = subst (SameAsked qs) (sym same) (asked_itself qs)
  to_asked (suc n) qs ks old qs' ks' new (mid, mid_kicks, between, first, rest) = asked_then qs mid qs'
      (to_asked n qs ks old mid mid_kicks between first) (at_asked n mid mid_kicks between qs' ks' new rest)

  -- nothing of these rings differs any more
  abbrev SameTo : ℕ → List BlockQueueState → Type 0
  SameTo n qs = (ring : ℕ) (q : BlockQueueState) → ring < n → slice_get qs ring ≡ Some q → Same c q.reach

  at_same : (n : ℕ) (qs : List BlockQueueState) (ks : List Bool) (old : H) (qs' : List BlockQueueState)
      (ks' : List Bool) (new : H) → ChangesAt step c n qs ks old (Ok tt) qs' ks' new → SameTo n qs → SameTo (suc n) qs'
  at_same n qs ks old qs' ks' new p before = go (slice_get qs n) refl p
    where
      go : (o : Option BlockQueueState) → slice_get qs n ≡ o
          → MatchOption o ((qs' ≡ qs) × (ks' ≡ ks) × (new ≡ old))
          (λ q. (had : Bool) × (r : ReachState) × Changes step c q.reach old (Ok had) r new
          × (qs' ≡ slice_set qs n (with_reach q r)) × (ks' ≡ kicked_if had ks n)) → SameTo (suc n) qs'
      go None found (same, still, quiet) ring q below there = elim (cases_eq ring n) [
        | inl is ↦
            let none : None ≡ Some q = sym found ∙ ap (slice_get qs) (sym is) ∙ ap (λ l. slice_get l ring) (sym same)
            ∙ there in absurd (cc)
        | inr differs ↦ before ring q (omega (arith, below, differs)) (ap (λ l. slice_get l ring) (sym same) ∙ there)
      ]
      go (Some p) found (had, r, changes, set, kicked) ring q below there = elim (cases_eq ring n) [
        | inl is ↦
            let at : slice_get (slice_set qs n (with_reach p r)) n ≡ Some q =
            ap (λ l. slice_get l n) (sym set) ∙ ap (slice_get qs') (sym is) ∙ there in
            let one : with_reach p r ≡ q =
            some_is (with_reach p r) q (sym (get-set_same qs n (with_reach p r) p found) ∙ at) in
            subst (λ (x : BlockQueueState). Same c x.reach) one (reach_same p.reach old had r new changes)
        | inr differs ↦ before ring q (omega (arith, below, differs))
            (sym (get-set_other qs n ring (with_reach p r) differs) ∙ ap (λ l. slice_get l ring) (sym set) ∙ there)
      ]

  to_same : (n : ℕ) (qs : List BlockQueueState) (ks : List Bool) (old : H) (qs' : List BlockQueueState)
      (ks' : List Bool) (new : H) → ChangesTo step c n qs ks old qs' ks' new → SameTo n qs'
  to_same zero qs ks old qs' ks' new p = λ ring q below there. let never : ⊥ = omega (arith, below) in absurd never
  to_same (suc n) qs ks old qs' ks' new (mid, mid_kicks, between, first, rest) =
      at_same n mid mid_kicks between qs' ks' new rest (to_same n qs ks old mid mid_kicks between first)

  -- after it all that is left stands
  all_after : (law : StaysLaw) (f : Says) (qs : List BlockQueueState) (ks : List Bool) (old : H)
      (qs' : List BlockQueueState) (ks' : List Bool) (new : H) → ChangesTo step c (length qs) qs ks old qs' ks' new
      → in_use c qs ≡ false → QueuesStand f qs' → QueuesStand (after_change c f) qs'
  all_after law f qs ks old qs' ks' new p none stand ring q there =
      let (was, at, same) = to_asked (length qs) qs ks old qs' ks' new p ring q there in
      queue_after law f c q
      (to_same (length qs) qs ks old qs' ks' new p ring q (slice_get_within qs ring was at) there)
      (subst (λ (l : List (Option Asked)). list_any (asked_uses c) l ≡ false) (sym same) (unused law f c qs none ring was at))
      (stand ring q there)

-- ---- what waits goes on

-- what is asked changes no queue
settled_one : (w : BlockBackend) (ring : ℕ) (o : Option (ℕ × Permissions)) → (settled_by w ring o).queues ≡ w.queues
settled_one w ring None = refl
settled_one w ring (Some t) = refl

pub settled_queues : (n : ℕ) (w : BlockBackend) → (settled_to n w).queues ≡ w.queues
settled_queues zero w = refl
settled_queues (suc n) w = let v = settled_to n w in
    settled_one v n (awaited (slice_get v.queues n)) ∙ settled_queues n w

module _ {H : Type 0} (T : H → (Kept → Type 0) → Type 0)
    (more : (h : H) (S S' : Kept → Type 0) → ((k : Kept) → S k → S' k) → T h S → T h S') (g f : Says)
    (leads : LeadsLaw g f) (h : H) where
  resumes_fetch : (r : ReachState) (most : ℕ) (o : Option FetchState) (can : Bool) (o' : Option FetchState)
      → Resumes g most o can o' → IfSome o (FetchStands f r) → IfSome o' (FetchStands f r)
  resumes_fetch r most None can o' (isnt, is) stands = subst (λ x. IfSome x (FetchStands f r)) (sym is) tt
  resumes_fetch r most (Some old) can None none stands = tt
  resumes_fetch r most (Some old) can (Some new) p stands = go (waits old.state) p
    where
      go : (v : Bool) → MatchBool v
          (GoesOn g most old new × TakesWhatCame g most old new × (can ≡ not (waits new.state)))
          ((can ≡ false) × (new ≡ old))
          → FetchStands f r new
      go true (on, takes, is) = on_stands g f leads r most old new on stands
      go false (isnt, is) = subst (FetchStands f r) (sym is) stands

  resumes_one : (q : BlockQueueState) (can : Bool) (r : ReachState) → ResumesFetch g (length q.asked) q.reach can r
      → (S : Kept → Type 0) → HoldsOne T f S h q → HoldsOne T f S h (with_reach q r)
  resumes_one q can r (goes, is) S (t, stands) =
      subst (λ (x : ReachState). HoldsOne T f S h (with_reach q x)) (sym is) (
        t,
        record {
          pages = stands.pages;
          rows = stands.rows;
          fetch = resumes_fetch q.reach (most_at q.reach (length q.asked) q.reach.fetch) q.reach.fetch can r.fetch goes
              stands.fetch;
          asked = stands.asked;
        },
      )

  resumes_at : (n : ℕ) (qs : List BlockQueueState) (ks : List Bool) (qs' : List BlockQueueState) (ks' : List Bool)
      → ResumesAt g n qs ks qs' ks' → HoldsAll T f h qs → HoldsAll T f h qs'
  resumes_at n qs ks qs' ks' p holds = go (slice_get qs n) refl p
    where
      go : (o : Option BlockQueueState) → slice_get qs n ≡ o → MatchOption o ((qs' ≡ qs) × (ks' ≡ ks))
          (λ q. (can : Bool) × (r : ReachState) × ResumesFetch g (length q.asked) q.reach can r
          × (qs' ≡ slice_set qs n (with_reach q r)) × (ks' ≡ kicked_if can ks n)) → HoldsAll T f h qs'
      go None found (same, kicked) = subst (HoldsAll T f h) (sym same) holds
      go (Some q) found (can, r, goes, set, kicked) = subst (HoldsAll T f h) (sym set)
          (one_holds T more f qs n q (with_reach q r) h h found (resumes_one q can r goes) holds)

  resumes_to : (n : ℕ) (qs : List BlockQueueState) (ks : List Bool) (qs' : List BlockQueueState) (ks' : List Bool)
      → ResumesTo g n qs ks qs' ks' → HoldsAll T f h qs → HoldsAll T f h qs'
  resumes_to zero qs ks qs' ks' (same, kicked) holds = subst (HoldsAll T f h) (sym same) holds
  resumes_to (suc n) qs ks qs' ks' (mid, mid_ks, first, rest) holds =
      resumes_at n mid mid_ks qs' ks' rest (resumes_to n qs ks mid mid_ks first holds)

  resumes_all : (w w' : BlockBackend) → Resumed g w w' → HoldsAll T f h w.queues → HoldsAll T f h w'.queues
  resumes_all w w' (qs, ks, resumes, is) holds =
      let v : BlockBackend = record w { queues = qs; kicks = ks } in
      subst (HoldsAll T f h) (sym (ap (λ (x : BlockBackend). x.queues) is ∙ settled_queues (length qs) v))
      (resumes_to (length w.queues) w.queues w.kicks qs ks resumes holds)

-- ---- a change of the table

module _ {H : Type 0} (step : H → (s : MemoryStep) → Returned s → H → Type 0) (T : H → (Kept → Type 0) → Type 0)
    (more : (h : H) (S S' : Kept → Type 0) → ((k : Kept) → S k → S' k) → T h S → T h S')
    (plain : (old : H) (s : MemoryStep) (r : Returned s) (new : H) (S : Kept → Type 0) → IsPlain s → step old s r new
    → T old S → T new S)
    (kept : (old : H) (k : Kept) (r : Result (Unit {0}) AllocError) (new : H) (S : Kept → Type 0)
    → step old (keeps k) r new → T old S → T new (λ j. S j ⊎ (j ≡ k)))
    (forgot : (old : H) (k : Kept) (done : Unit {0}) (new : H) (S : Kept → Type 0) → step old (forgets k) (Ok done) new
    → T old S → T new (λ j. S j × (j ≡ k → ⊥)))
    (failed : (old : H) (k : Kept) (e : AllocError) (new : H) (S : Kept → Type 0) → step old (forgets k) (Err e) new
    → T old S → T new S) (f : Says) where
  reach_holds : (c : Change) (q : BlockQueueState) (old : H) (done : Result Bool AllocError) (r : ReachState) (new : H)
      → Changes step c q.reach old done r new → (S : Kept → Type 0) → HoldsOne T f S old q
      → HoldsOne T f S new (with_reach q r)
  reach_holds c q old done r new p S (t, stands) = go (list_any (differs c) q.reach.pages) p
    where
      -- what is left of a ring of which something differs
      gone : (one : Result (Unit {0}) AllocError) → T new (λ k. S k ⊎ IsKeptBy (forgotten q.reach one) k)
          → HoldsOne T f S new (with_reach q (forgotten (dropped q.reach) one))
      gone (Ok done) t =
          (t, record { pages = All-nil (Stands f); rows = All-nil (Stands f); fetch = tt; asked = stands.asked })
      gone (Err e) t = (t, record { pages = stands.pages; rows = stands.rows; fetch = tt; asked = stands.asked })

      rows : (one : Result (Unit {0}) AllocError) → T new (λ k. S k ⊎ IsKeptBy (rows_forgotten q.reach one) k)
          → HoldsOne T f S new (with_reach q (rows_forgotten (record q.reach { fetch = None }) one))
      rows (Ok done) t =
          (t, record { pages = stands.pages; rows = All-nil (Stands f); fetch = tt; asked = stands.asked })
      rows (Err e) t = (t, record { pages = stands.pages; rows = stands.rows; fetch = tt; asked = stands.asked })

      left : (v : Bool) → IfSome (if v then None else q.reach.fetch) (FetchStands f q.reach)
      left true = tt
      left false = stands.fetch

      others : (v : Bool) → MatchBool v
          ((one : Result (Unit {0}) AllocError) × ForgetsAll step q.reach.rows old one new
          × (done ≡ changed_by (is_some q.reach.fetch) one)
          × (r ≡ rows_forgotten (record q.reach { fetch = None }) one))
          ((done ≡ Ok (is_dropped c q.reach.fetch)) × (r ≡ record q.reach { fetch = after_drop c q.reach.fetch })
          × (new ≡ old)) → HoldsOne T f S new (with_reach q r)
      others true (one, all, was, is) = subst (λ (x : ReachState). HoldsOne T f S new (with_reach q x)) (sym is)
          (rows one (rows_gone step T more plain kept forgot failed f S q.reach old one new all t))
      others false (was, is, same) = subst (λ (x : ReachState). HoldsOne T f S new (with_reach q x)) (sym is) (
        subst (λ h. T h (λ k. S k ⊎ IsKeptBy q.reach k)) (sym same) t,
        record {
          pages = stands.pages;
          rows = stands.rows;
          fetch = left (is_dropped c q.reach.fetch);
          asked = stands.asked;
        },
      )

      go : (v : Bool) → MatchBool v
          ((one : Result (Unit {0}) AllocError) × ForgetsBoth step q.reach old one new
          × (done ≡ changed_by (is_some q.reach.fetch) one) × (r ≡ forgotten (dropped q.reach) one))
          (ChangesOthers step c q.reach old done r new) → HoldsOne T f S new (with_reach q r)
      go true (one, both, was, is) = subst (λ (x : ReachState). HoldsOne T f S new (with_reach q x)) (sym is)
          (gone one (reach_forgotten step T more plain kept forgot failed f S q.reach old one new both t))
      go false p = others (list_any (differs c) q.reach.rows) p

  at_holds : (c : Change) (n : ℕ) (qs : List BlockQueueState) (ks : List Bool) (old : H)
      (done : Result (Unit {0}) AllocError) (qs' : List BlockQueueState) (ks' : List Bool) (new : H)
      → ChangesAt step c n qs ks old done qs' ks' new → HoldsAll T f old qs → HoldsAll T f new qs'
  at_holds c n qs ks old (Ok done) qs' ks' new p holds = go (slice_get qs n) refl p
    where
      go : (o : Option BlockQueueState) → slice_get qs n ≡ o
          → MatchOption o ((qs' ≡ qs) × (ks' ≡ ks) × (new ≡ old))
          (λ q. (had : Bool) × (r : ReachState) × Changes step c q.reach old (Ok had) r new
          × (qs' ≡ slice_set qs n (with_reach q r)) × (ks' ≡ kicked_if had ks n)) → HoldsAll T f new qs'
      go None found (same, kicked, quiet) =
          subst (λ h. HoldsAll T f h qs') (sym quiet) (subst (HoldsAll T f old) (sym same) holds)
      go (Some q) found (had, r, changes, set, kicked) = subst (HoldsAll T f new) (sym set)
          (one_holds T more f qs n q (with_reach q r) old new found (reach_holds c q old (Ok had) r new changes) holds)
  at_holds c n qs ks old (Err e) qs' ks' new p holds = go (slice_get qs n) refl p
    where
      go : (o : Option BlockQueueState) → slice_get qs n ≡ o → IsSomeAnd o (λ q. (r : ReachState)
          × Changes step c q.reach old (Err e) r new × (qs' ≡ slice_set qs n (with_reach q r)) × (ks' ≡ ks))
          → HoldsAll T f new qs'
      go None found none = absurd none
      go (Some q) found (r, changes, set, kicked) = subst (HoldsAll T f new) (sym set)
          (one_holds T more f qs n q (with_reach q r) old new found (reach_holds c q old (Err e) r new changes) holds)

  to_holds : (c : Change) (n : ℕ) (qs : List BlockQueueState) (ks : List Bool) (old : H) (qs' : List BlockQueueState)
      (ks' : List Bool) (new : H) → ChangesTo step c n qs ks old qs' ks' new → HoldsAll T f old qs
      → HoldsAll T f new qs'
  to_holds c zero qs ks old qs' ks' new (same, kicked, quiet) holds =
      subst (λ h. HoldsAll T f h qs') (sym quiet) (subst (HoldsAll T f old) (sym same) holds)
  to_holds c (suc n) qs ks old qs' ks' new (mid, mid_ks, between, first, rest) holds =
      at_holds c n mid mid_ks between (Ok tt) qs' ks' new rest (to_holds c n qs ks old mid mid_ks between first holds)

  -- what is said after a message, if it is applied
  abbrev pub SaidAfter : Bool → Option Change → Says
  SaidAfter is change = after_changes (option_to_list (change_if is change)) f

  -- the table says nothing but what is said, and so does all of the rings
  abbrev pub HoldsBy : Says → Table → H → List BlockQueueState → Type 0
  HoldsBy g t h qs = SaysNoMore t g × HoldsAll T g h qs

  module _ (stays : StaysLaw) (changed : ChangedLaw) (emptied : EmptiedLaw) (leads : LeadLaw) where
    says_applied : (c : Change) (t t' : Table) → AppliesTo c t true t' → SaysNoMore t f
        → SaysNoMore t' (after_change c f)
    says_applied (Unmap iova len) t t' (inl is) no_more =
        subst (λ (x : Table). SaysNoMore x (after_change (Unmap iova len) f)) (sym is)
        (changed t f (Unmap iova len) no_more)
    says_applied (Unmap iova len) t t' (inr is) no_more =
        subst (λ (x : Table). SaysNoMore x (after_change (Unmap iova len) f)) (sym is)
        (emptied t (after_change (Unmap iova len) f))
    says_applied (Map iova to len permissions) t t' is no_more =
        subst (λ (x : Table). SaysNoMore x (after_change (Map iova to len permissions) f)) (sym is)
        (changed t f (Map iova to len permissions) no_more)

    applied : (c : Change) (w : BlockBackend) (t : Table) (old : H) (is : Bool) (w' : BlockBackend) (t' : Table) (new : H)
        (qs : List BlockQueueState) (ks : List Bool) → ChangesTo step c (length w.queues) w.queues w.kicks old qs ks new
        → in_use c w.queues ≡ false → AfterChange c (record w { queues = qs; kicks = ks }) t is w' t'
        → HoldsBy f t old w.queues → HoldsBy (SaidAfter is (Some c)) t' new w'.queues
    applied c w t old true w' t' new qs ks goes none (applies, resumed) (no_more, holds) =
        let g = after_change c f in
        let all = to_holds c (length w.queues) w.queues w.kicks old qs ks new goes holds in
        let says_more = says_applied c t t' applies no_more in (
          says_more,
          resumes_all T more (says t') g (leads_on leads t' g says_more) new (record w { queues = qs; kicks = ks }) w'
              resumed (all.0, all_after step c stays f w.queues w.kicks old qs ks new goes none all.1),
        )
    applied c w t old false w' t' new qs ks goes none (applies, same) (no_more, holds) = (
      subst (λ (x : Table). SaysNoMore x f) (sym applies) no_more,
      subst (λ (x : BlockBackend). HoldsAll T f new x.queues) (sym same)
          (to_holds c (length w.queues) w.queues w.kicks old qs ks new goes holds),
    )

    refused : (change : Option Change) (w : BlockBackend) (t : Table) (is : Bool) (t' : Table) (new : H)
        (qs : List BlockQueueState) → is ≡ false → t' ≡ t → SaysNoMore t f → HoldsAll T f new qs
        → HoldsBy (SaidAfter is change) t' new qs
    refused change w t is t' new qs isnt same no_more holds = subst (λ v. HoldsBy (SaidAfter v change) t' new qs) (sym isnt)
        (subst (λ (x : Table). SaysNoMore x f) (sym same) no_more, holds)

    pub table_holds : (w : BlockBackend) (t : Table) (old : H) (is : Bool) (w' : BlockBackend) (t' : Table) (new : H)
        → ChangesTable step w t old is w' t' new → HoldsBy f t old w.queues
        → HoldsBy (SaidAfter is w.change) t' new w'.queues
    table_holds w t old is w' t' new p (no_more, holds) = by w.change p
      where
        nothing : (o : Option Change) → is ≡ false → w' ≡ w → t' ≡ t → new ≡ old
            → HoldsBy (SaidAfter is o) t' new w'.queues
        nothing o isnt same still quiet = refused o w t is t' new w'.queues isnt still no_more
            (subst (λ h. HoldsAll T f h w'.queues) (sym quiet)
            (subst (λ (x : BlockBackend). HoldsAll T f old x.queues) (sym same) holds))

        by : (o : Option Change) → ChangesBy step o w t old is w' t' new → HoldsBy (SaidAfter is o) t' new w'.queues
        by None (isnt, same, still, quiet) = nothing None isnt same still quiet
        by (Some c) p = go (in_use c w.queues) refl p
          where
            ends : (done : Result (Unit {0}) AllocError) (qs : List BlockQueueState) (ks : List Bool)
                → ChangesAll step c w.queues w.kicks old done qs ks new → in_use c w.queues ≡ false → MatchResult done
                (λ it. AfterChange c (record w { queues = qs; kicks = ks }) t is w' t')
                (λ e. (is ≡ false) × (w' ≡ record w { queues = qs; kicks = ks }) × (t' ≡ t))
                → HoldsBy (SaidAfter is (Some c)) t' new w'.queues
            ends (Ok done) qs ks goes none after =
                applied c w t old is w' t' new qs ks goes none after (no_more, holds)
            ends (Err e) qs ks (n, mid, mid_ks, between, first, rest) none (isnt, same, still) =
                refused (Some c) w t is t' new w'.queues isnt still no_more
                (subst (λ (x : BlockBackend). HoldsAll T f new x.queues) (sym same)
                (at_holds c n mid mid_ks between (Err e) qs ks new rest
                (to_holds c n w.queues w.kicks old mid mid_ks between first holds)))

            go : (v : Bool) → in_use c w.queues ≡ v
                → MatchBool v ((is ≡ false) × (w' ≡ w) × (t' ≡ t) × (new ≡ old))
                ((done : Result (Unit {0}) AllocError) × (qs : List BlockQueueState) × (ks : List Bool)
                × ChangesAll step c w.queues w.kicks old done qs ks new
                × MatchResult done (λ it. AfterChange c (record w { queues = qs; kicks = ks }) t is w' t')
                (λ e. (is ≡ false) × (w' ≡ record w { queues = qs; kicks = ks }) × (t' ≡ t)))
                → HoldsBy (SaidAfter is (Some c)) t' new w'.queues
            go true used (isnt, same, still, quiet) = nothing (Some c) isnt same still quiet
            go false none (done, qs, ks, all, rest) = ends done qs ks all none rest
