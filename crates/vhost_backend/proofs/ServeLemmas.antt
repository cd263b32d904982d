-- A mapping that comes serves what waits for it in the same change of the table.
use Rattle.std.proofs.Common.{◌≡◌, ◌∙◌, ℕ, zero, suc, ◌+◌, ◌^◌, ◌<◌, ◌≤◌, ◌||◌, not, Bool, true, false, List, length, Option, Some, None, Result, Ok, Err, IsSomeAnd, MatchBool, MatchOption, MatchResult, if◌then◌else◌, refl, ap, sym, subst, inl, inr, arith, is_some}
use Rattle.std.specs.List.{list_any, slice_get, slice_set}
use Rattle.std.specs.declared.alloc.AllocError.{AllocError}
use Rattle.std.proofs.Math.ListN.{length-set}
use Rattle.std.proofs.lemmas.Bool.{cases_eq, or_parts}
use Rattle.std.proofs.lemmas.Option.{same_Some, slice_get_cases, slice_get_within}
use Rattle.vm_memory_base.specs.Address.{difference, is_within}
use Rattle.vm_memory_base.specs.Permissions.{allow}
use Rattle.vm_memory_base.specs.Table.{Mapping, Says, Set, Table, changed, covers, says, says_after, target}
use Rattle.vm_memory_base.specs.declared.iotlb.Permissions.{Permissions}
use Rattle.vhost_iotlb.specs.Kept.{differs}
use Rattle.vhost_iotlb.specs.Leads.{LeadsTo}
use Rattle.vhost_iotlb.specs.declared.kept.Change.{Change}
use Rattle.vhost_iotlb.specs.declared.kept.Change.TheVariants.{Map}
use Rattle.vhost_backend.proofs.OwnWayLemmas.{get-set_other, get-set_same}
use Rattle.vhost_backend.specs.Behind.{with_reach}
use Rattle.vhost_backend.specs.BlockQueue.{BlockQueueState}
use Rattle.vhost_backend.specs.BlockTable.{AfterChange, AppliesTo, ChangesBy, ChangesTable, settled_by, settled_to}
use Rattle.vhost_backend.specs.Fetch.{FetchState, Resumes, ResumesOne, is_dropped, waits, after_drop}
use Rattle.vhost_backend.specs.GoesOn.{FindsMore, IsServed, drops, fetch_of}
use Rattle.vhost_backend.specs.KeptRanges.{ForgetsAll}
use Rattle.vhost_backend.specs.Reach.{Changes, ChangesOthers, ReachState, ResumesFetch, most_at, most_for, ForgetsBoth, changed_by, dropped, forgotten, rows_forgotten}
use Rattle.vhost_backend.specs.RingMemory.{MemoryStep, Returned}
use Rattle.vhost_backend.specs.TableUse.{ChangesAll, ChangesAt, ChangesTo, ResumesAt, ResumesTo, awaited, in_use, kicked_if}
use Rattle.vhost_backend.specs.declared.block_backend.BlockBackend.{BlockBackend}
use Rattle.vhost_backend.specs.declared.fetch.State.TheVariants.{Waits}

-- ---- kicks

pub kick_stays : (i n : ℕ) (v : Bool) (ks : List Bool) → slice_get ks i ≡ Some true
    → slice_get (kicked_if v ks n) i ≡ Some true
kick_stays i n false ks is = is
kick_stays i n true ks is = elim (cases_eq i n) [
  | inl same ↦ ap (slice_get (slice_set ks n true)) same
      ∙ get-set_same ks n true true (sym (ap (slice_get ks) same) ∙ is)
  | inr differs ↦ get-set_other ks n i true differs ∙ is
]

pub kick_length : (v : Bool) (ks : List Bool) (n : ℕ) → length (kicked_if v ks n) ≡ length ks
kick_length true ks n = length-set ks n true
kick_length false ks n = refl

pub kicked_here : (ks : List Bool) (i : ℕ) → i < length ks → slice_get (slice_set ks i true) i ≡ Some true
kicked_here ks i inside = elim (slice_get_cases ks i).1 [
  | inl (v, within, found, other) ↦ get-set_same ks i true v found
  | inr (past, none) ↦ absurd (omega arith)
]

-- ---- what is asked makes no difference to queues and kicks

pub settled_same : (n : ℕ) (w : BlockBackend)
    → ((settled_to n w).queues ≡ w.queues) × ((settled_to n w).kicks ≡ w.kicks)
settled_same zero w = (refl, refl)
settled_same (suc n) w =
    let (queues, kicks) = settled_same n w in
    let v = settled_to n w in
    let (same, still) = go v (awaited (slice_get v.queues n)) in (same ∙ queues, still ∙ kicks)
  where
    go : (v : BlockBackend) (o : Option (ℕ × Permissions))
        → ((settled_by v n o).queues ≡ v.queues) × ((settled_by v n o).kicks ≡ v.kicks)
    go v None = (refl, refl)
    go v (Some t) = (refl, refl)

-- ---- a change that drops nothing of a ring

module _ {H : Type 0} (step : H → (s : MemoryStep) → Returned s → H → Type 0) where
  left_alone : (c : Change) (r : ReachState) (old : H) (had : Bool) (r' : ReachState) (new : H) → drops c r ≡ false
      → Changes step c r old (Ok had) r' new → r' ≡ r
  left_alone c r old had r' new none changes =
      let (pages, more) =
      or_parts (list_any (differs c) r.pages) (list_any (differs c) r.rows || is_dropped c r.fetch) none in
      let (rows, fetch) = or_parts (list_any (differs c) r.rows) (is_dropped c r.fetch) more in
      let others = rw pages at changes in
      let last = rw rows at others in
      last.1 ∙ ap (λ (v : Bool). record r { fetch = if v then None else r.fetch }) fetch

  module _ (i : ℕ) (c : Change) (q : BlockQueueState) (none : drops c q.reach ≡ false) where
    changed_at : (n : ℕ) (qs : List BlockQueueState) (ks : List Bool) (old : H) (qs' : List BlockQueueState)
        (ks' : List Bool) (new : H) → slice_get qs i ≡ Some q → ChangesAt step c n qs ks old (Ok tt) qs' ks' new
        → (slice_get qs' i ≡ Some q) × (length ks' ≡ length ks)
    changed_at n qs ks old qs' ks' new there changes = go (slice_get qs n) refl changes
      where
        stays : (p : BlockQueueState) (had : Bool) (r : ReachState) → slice_get qs n ≡ Some p
            → Changes step c p.reach old (Ok had) r new
            → slice_get (slice_set qs n (with_reach p r)) i ≡ Some q
        stays p had r found changes = elim (cases_eq i n) [
          | inl same ↦
              let one : p ≡ q = same_Some p q (sym found ∙ sym (ap (slice_get qs) same) ∙ there) in
              let kept : r ≡ p.reach = left_alone c p.reach old had r new
              (ap (λ (v : BlockQueueState). drops c v.reach) one ∙ none) changes in
              ap (slice_get (slice_set qs n (with_reach p r))) same ∙ get-set_same qs n (with_reach p r) p found
              ∙ ap (λ (v : ReachState). Some (with_reach p v)) kept ∙ ap (λ (v : BlockQueueState). Some v) one
          | inr differs ↦ get-set_other qs n i (with_reach p r) differs ∙ there
        ]

        go : (o : Option BlockQueueState) → slice_get qs n ≡ o
            → MatchOption o ((qs' ≡ qs) × (ks' ≡ ks) × (new ≡ old))
            (λ p. (had : Bool) × (r : ReachState) × Changes step c p.reach old (Ok had) r new
            × (qs' ≡ slice_set qs n (with_reach p r)) × (ks' ≡ kicked_if had ks n))
            → (slice_get qs' i ≡ Some q) × (length ks' ≡ length ks)
        go None found (same, still, quiet) = (ap (λ (l : List BlockQueueState). slice_get l i) same ∙ there, ap length still)
        go (Some p) found (had, r, changes, set, kicked) = (
          ap (λ (l : List BlockQueueState). slice_get l i) set ∙ stays p had r found changes,
          ap length kicked ∙ kick_length had ks n,
        )

    changed_to : (n : ℕ) (qs : List BlockQueueState) (ks : List Bool) (old : H) (qs' : List BlockQueueState)
        (ks' : List Bool) (new : H) → slice_get qs i ≡ Some q → ChangesTo step c n qs ks old qs' ks' new
        → (slice_get qs' i ≡ Some q) × (length ks' ≡ length ks)
    changed_to zero qs ks old qs' ks' new there (same, still, quiet) =
        (ap (λ (l : List BlockQueueState). slice_get l i) same ∙ there, ap length still)
    changed_to (suc n) qs ks old qs' ks' new there (mid, mid_kicks, between, first, rest) =
        let (found, long) = changed_to n qs ks old mid mid_kicks between there first in
        let (stays, same) = changed_at n mid mid_kicks between qs' ks' new found rest in (stays, same ∙ long)

-- ---- what waits goes on

-- a ring found more, and is looked at if it waits no more
abbrev Serves : Says → ℕ → FetchState → ℕ → Option FetchState → List Bool → Type 0
Serves f most g i o ks =
    IsSomeAnd o (λ new. FindsMore f most g new × (waits new.state ≡ false → slice_get ks i ≡ Some true))

serves_still : (f : Says) (most : ℕ) (g : FetchState) (i : ℕ) (o o' : Option FetchState) (ks ks' : List Bool) → o' ≡ o
    → (slice_get ks i ≡ Some true → slice_get ks' i ≡ Some true) → Serves f most g i o ks → Serves f most g i o' ks'
serves_still f most g i o o' ks ks' same still served =
    subst (λ (p : Option FetchState). Serves f most g i p ks') (sym same) (go o served)
  where
    go : (p : Option FetchState) → Serves f most g i p ks → Serves f most g i p ks'
    go None none = none
    go (Some new) (more, looked) = (more, λ on. still (looked on))

-- another ring goes on
other_resumed : (f : Says) (i n : ℕ) (qs : List BlockQueueState) (ks : List Bool) (qs' : List BlockQueueState)
    (ks' : List Bool) → (i ≡ n → ⊥) → ResumesAt f n qs ks qs' ks' → (slice_get qs' i ≡ slice_get qs i)
    × (length ks' ≡ length ks) × (slice_get ks i ≡ Some true → slice_get ks' i ≡ Some true)
other_resumed f i n qs ks qs' ks' differs = go (slice_get qs n)
  where
    go : (o : Option BlockQueueState) → MatchOption o ((qs' ≡ qs) × (ks' ≡ ks))
        (λ q. (can : Bool) × (r : ReachState) × ResumesFetch f (length q.asked) q.reach can r
        × (qs' ≡ slice_set qs n (with_reach q r)) × (ks' ≡ kicked_if can ks n))
        → (slice_get qs' i ≡ slice_get qs i) × (length ks' ≡ length ks)
        × (slice_get ks i ≡ Some true → slice_get ks' i ≡ Some true)
    go None (same, still) = (
      ap (λ (l : List BlockQueueState). slice_get l i) same,
      ap length still,
      λ is. ap (λ (l : List Bool). slice_get l i) still ∙ is,
    )
    go (Some q) (can, r, goes, set, kicked) = (
      ap (λ (l : List BlockQueueState). slice_get l i) set ∙ get-set_other qs n i (with_reach q r) differs,
      ap length kicked ∙ kick_length can ks n,
      λ is. ap (λ (l : List Bool). slice_get l i) kicked ∙ kick_stays i n can ks is,
    )

-- the rings before one go on
before_resumed : (f : Says) (i n : ℕ) (qs : List BlockQueueState) (ks : List Bool) (qs' : List BlockQueueState)
    (ks' : List Bool) → n ≤ i → ResumesTo f n qs ks qs' ks'
    → (slice_get qs' i ≡ slice_get qs i) × (length ks' ≡ length ks)
before_resumed f i zero qs ks qs' ks' below (same, still) =
    (ap (λ (l : List BlockQueueState). slice_get l i) same, ap length still)
before_resumed f i (suc n) qs ks qs' ks' below (mid, mid_kicks, first, rest) =
    let (kept, long) = before_resumed f i n qs ks mid mid_kicks (omega arith) first in
    let (same, length, still) = other_resumed f i n mid mid_kicks qs' ks' (λ is. omega (arith, is)) rest in
    (same ∙ kept, length ∙ long)

module _ (f : Says) (i : ℕ) (q : BlockQueueState) (g : FetchState) (iova to : ℕ) (access : Permissions)
    (fetching : q.reach.fetch ≡ Some g) (waiting : g.state ≡ Waits iova access) (leads : LeadsTo f iova to access) where
  -- the ring itself
  own_resumed : (qs : List BlockQueueState) (ks : List Bool) (qs' : List BlockQueueState) (ks' : List Bool)
      → slice_get qs i ≡ Some q → i < length ks → ResumesAt f i qs ks qs' ks'
      → Serves f (most_for q.reach (length q.asked) g.goal) g i (fetch_of (slice_get qs' i)) ks'
  own_resumed qs ks qs' ks' there room resumes = go (slice_get qs i) refl resumes
    where
      kicked_then : (new : FetchState) (can : Bool) → can ≡ not (waits new.state) → ks' ≡ kicked_if can ks i
          → waits new.state ≡ false → slice_get ks' i ≡ Some true
      kicked_then new can is kicked on = ap (λ (l : List Bool). slice_get l i)
          (kicked ∙ ap (λ (v : Bool). kicked_if v ks i) (is ∙ ap not on)) ∙ kicked_here ks i room

      one_on : (can : Bool) (new : FetchState) → ks' ≡ kicked_if can ks i
          → ResumesOne f (most_for q.reach (length q.asked) g.goal) g can new
          → FindsMore f (most_for q.reach (length q.asked) g.goal) g new
          × (waits new.state ≡ false → slice_get ks' i ≡ Some true)
      one_on can new kicked on =
          let goes = rw (ap waits waiting) at on in
          ((goes.0, goes.1 iova to access waiting leads), kicked_then new can goes.2 kicked)

      some_on : (can : Bool) (o : Option FetchState) → ks' ≡ kicked_if can ks i
          → IsSomeAnd o (ResumesOne f (most_for q.reach (length q.asked) g.goal) g can)
          → Serves f (most_for q.reach (length q.asked) g.goal) g i o ks'
      some_on can None kicked none = none
      some_on can (Some new) kicked on = one_on can new kicked on

      at_fetch : (can : Bool) (o : Option FetchState)
          → Resumes f (most_at q.reach (length q.asked) q.reach.fetch) q.reach.fetch can o
          → IsSomeAnd o (ResumesOne f (most_for q.reach (length q.asked) g.goal) g can)
      at_fetch can o on = subst
          (λ (v : Option FetchState). Resumes f (most_at q.reach (length q.asked) v) v can o) fetching on

      go : (o : Option BlockQueueState) → slice_get qs i ≡ o → MatchOption o ((qs' ≡ qs) × (ks' ≡ ks))
          (λ p. (can : Bool) × (r : ReachState) × ResumesFetch f (length p.asked) p.reach can r
          × (qs' ≡ slice_set qs i (with_reach p r)) × (ks' ≡ kicked_if can ks i))
          → Serves f (most_for q.reach (length q.asked) g.goal) g i (fetch_of (slice_get qs' i)) ks'
      go None found resumes = let bad : None ≡ Some q = sym found ∙ there in absurd (cc)
      go (Some p) found (can, r, goes, set, kicked) =
          let one : p ≡ q = same_Some p q (sym found ∙ there) in
          let own : ResumesFetch f (length q.asked) q.reach can r =
          subst (λ (v : BlockQueueState). ResumesFetch f (length v.asked) v.reach can r) one goes in
          let here : fetch_of (slice_get qs' i) ≡ r.fetch =
          ap (λ (l : List BlockQueueState). fetch_of (slice_get l i)) set
          ∙ ap fetch_of (get-set_same qs i (with_reach p r) p found) in
          subst (λ (v : Option FetchState). Serves f (most_for q.reach (length q.asked) g.goal) g i v ks') (sym here)
          (some_on can r.fetch kicked (at_fetch can r.fetch own.0))

  -- it does so in its turn, and nothing undoes that
  resumed_to : (n : ℕ) (qs : List BlockQueueState) (ks : List Bool) (qs' : List BlockQueueState) (ks' : List Bool)
      → i < n → slice_get qs i ≡ Some q → i < length ks → ResumesTo f n qs ks qs' ks'
      → Serves f (most_for q.reach (length q.asked) g.goal) g i (fetch_of (slice_get qs' i)) ks'
  resumed_to zero qs ks qs' ks' inside there room resumes = absurd (omega arith)
  resumed_to (suc n) qs ks qs' ks' inside there room (mid, mid_kicks, first, rest) = elim (cases_eq i n) [
    | inl same ↦
        let (kept, long) = before_resumed f i n qs ks mid mid_kicks (omega (arith, same)) first in
        own_resumed mid mid_kicks qs' ks' (kept ∙ there) (omega (arith, long))
        (subst (λ (k : ℕ). ResumesAt f k mid mid_kicks qs' ks') (sym same) rest)
    | inr differs ↦
        let (kept, long, still) = other_resumed f i n mid mid_kicks qs' ks' differs rest in
        serves_still f (most_for q.reach (length q.asked) g.goal) g i (fetch_of (slice_get mid i))
        (fetch_of (slice_get qs' i)) mid_kicks ks' (ap fetch_of kept) still
        (resumed_to n qs ks mid mid_kicks (omega (arith, differs)) there room first)
  ]

-- ---- a change of the table

module _ {H : Type 0} (step : H → (s : MemoryStep) → Returned s → H → Type 0) where
  pub update_serves : (w w' : BlockBackend) (t t' : Table) (old new : H) (c : Change) (i : ℕ) (q : BlockQueueState)
      (g : FetchState) (iova to : ℕ) (access : Permissions) → ChangesTable step w t old true w' t' new
      → w.change ≡ Some c → slice_get w.queues i ≡ Some q → q.reach.fetch ≡ Some g → g.state ≡ Waits iova access
      → drops c q.reach ≡ false → length w.kicks ≡ length w.queues
      → (AppliesTo c t true t' → LeadsTo (says t') iova to access)
      → IsServed (says t') (most_for q.reach (length q.asked) g.goal) g w' i
  update_serves w w' t t' old new c i q g iova to access changes asked there fetching waiting none room leads =
      go (in_use c w.queues) (subst (λ (o : Option Change). ChangesBy step o w t old true w' t' new) asked changes)
    where
      -- queues after what differs was dropped
      after : (qs : List BlockQueueState) (ks : List Bool) → ChangesAll step c w.queues w.kicks old (Ok tt) qs ks new
          → AfterChange c (record w { queues = qs; kicks = ks }) t true w' t'
          → IsServed (says t') (most_for q.reach (length q.asked) g.goal) g w' i
      after qs ks dropped (applies, (rs, ls, resumes, is)) =
          let (stays, long) = changed_to step i c q none (length w.queues) w.queues w.kicks old qs ks new there dropped in
          let within = slice_get_within w.queues i q there in
          let inside = slice_get_within qs i q stays in
          let served = resumed_to (says t') i q g iova to access fetching waiting (leads applies) (length qs) qs ks rs ls
          inside stays (omega (arith, long, room, within)) resumes in
          let v : BlockBackend = record w { queues = rs; kicks = ls } in
          let (queues, kicks) = settled_same (length rs) v in
          let same : w'.queues ≡ rs = ap (λ (u : BlockBackend). u.queues) is ∙ queues in
          let still : w'.kicks ≡ ls = ap (λ (u : BlockBackend). u.kicks) is ∙ kicks in
          serves_still (says t') (most_for q.reach (length q.asked) g.goal) g i (fetch_of (slice_get rs i))
          (fetch_of (slice_get w'.queues i)) ls w'.kicks
          (ap (λ (l : List BlockQueueState). fetch_of (slice_get l i)) same)
          (λ kicked. ap (λ (l : List Bool). slice_get l i) still ∙ kicked) served

      ends : (done : Result (Unit {0}) AllocError) (qs : List BlockQueueState) (ks : List Bool)
          → ChangesAll step c w.queues w.kicks old done qs ks new
          → MatchResult done (λ it. AfterChange c (record w { queues = qs; kicks = ks }) t true w' t')
          (λ e. (true ≡ false) × (w' ≡ record w { queues = qs; kicks = ks }) × (t' ≡ t))
          → IsServed (says t') (most_for q.reach (length q.asked) g.goal) g w' i
      ends (Ok done) qs ks dropped rest = after qs ks dropped rest
      ends (Err e) qs ks dropped (bad, same, kept) = absurd (cc)

      go : (v : Bool) → MatchBool v ((true ≡ false) × (w' ≡ w) × (t' ≡ t) × (new ≡ old))
          ((done : Result (Unit {0}) AllocError) × (qs : List BlockQueueState) × (ks : List Bool)
          × ChangesAll step c w.queues w.kicks old done qs ks new
          × MatchResult done (λ it. AfterChange c (record w { queues = qs; kicks = ks }) t true w' t')
          (λ e. (true ≡ false) × (w' ≡ record w { queues = qs; kicks = ks }) × (t' ≡ t)))
          → IsServed (says t') (most_for q.reach (length q.asked) g.goal) g w' i
      go true (bad, same, kept, quiet) = absurd (cc)
      go false (done, qs, ks, dropped, rest) = ends done qs ks dropped rest

-- ---- a change that drops something of a ring

module _ {H : Type 0} (step : H → (s : MemoryStep) → Returned s → H → Type 0) (c : Change) where
  -- nothing is fetched for it then
  gone : (r : ReachState) (old : H) (had : Bool) (r' : ReachState) (new : H) → drops c r ≡ true
      → is_some r.fetch ≡ true → Changes step c r old (Ok had) r' new → (had ≡ true) × (r'.fetch ≡ None)
  gone r old had r' new some fetching changes = pages (list_any (differs c) r.pages) refl changes
    where
      made : (one : Result (Unit {0}) AllocError) → Ok had ≡ changed_by (is_some r.fetch) one → had ≡ true
      made (Ok done) is = let same : had ≡ is_some r.fetch = cc in same ∙ fetching
      made (Err e) is = absurd (cc)

      all : (one : Result (Unit {0}) AllocError) → r' ≡ forgotten (dropped r) one → r'.fetch ≡ None
      all (Ok done) is = ap (λ (v : ReachState). v.fetch) is
      all (Err e) is = ap (λ (v : ReachState). v.fetch) is

      some_rows : (one : Result (Unit {0}) AllocError) → r' ≡ rows_forgotten (record r { fetch = None }) one
          → r'.fetch ≡ None
      some_rows (Ok done) is = ap (λ (v : ReachState). v.fetch) is
      some_rows (Err e) is = ap (λ (v : ReachState). v.fetch) is

      rows : (v : Bool) → (v || is_dropped c r.fetch) ≡ true
          → MatchBool v ((one : Result (Unit {0}) AllocError) × ForgetsAll step r.rows old one new
          × (Ok had ≡ changed_by (is_some r.fetch) one) × (r' ≡ rows_forgotten (record r { fetch = None }) one))
          ((◌≡◌ {A = Result Bool AllocError} (Ok had) (Ok (is_dropped c r.fetch)))
          × (r' ≡ record r { fetch = after_drop c r.fetch }) × (new ≡ old)) → (had ≡ true) × (r'.fetch ≡ None)
      rows true more (one, forgets, is, becomes) = (made one is, some_rows one becomes)
      rows false more (is, becomes, still) =
          let same : had ≡ is_dropped c r.fetch = cc in (
            same ∙ more,
            ap (λ (v : ReachState). v.fetch) becomes
                ∙ ap (λ (v : Bool). let o : Option FetchState = if v then None else r.fetch in o) more,
          )

      pages : (v : Bool) → list_any (differs c) r.pages ≡ v
          → MatchBool v ((one : Result (Unit {0}) AllocError) × ForgetsBoth step r old one new
          × (Ok had ≡ changed_by (is_some r.fetch) one) × (r' ≡ forgotten (dropped r) one))
          (ChangesOthers step c r old (Ok had) r' new) → (had ≡ true) × (r'.fetch ≡ None)
      pages true is (one, forgets, done, becomes) = (made one done, all one becomes)
      pages false is others = rows (list_any (differs c) r.rows)
          (subst (λ (v : Bool). (v || (list_any (differs c) r.rows || is_dropped c r.fetch)) ≡ true) is some) others

  module _ (i : ℕ) where
    other_changed : (n : ℕ) (qs : List BlockQueueState) (ks : List Bool) (old : H) (qs' : List BlockQueueState)
        (ks' : List Bool) (new : H) → (i ≡ n → ⊥) → ChangesAt step c n qs ks old (Ok tt) qs' ks' new
        → (slice_get qs' i ≡ slice_get qs i) × (length ks' ≡ length ks)
        × (slice_get ks i ≡ Some true → slice_get ks' i ≡ Some true)
    other_changed n qs ks old qs' ks' new differs = go (slice_get qs n)
      where
        go : (o : Option BlockQueueState) → MatchOption o ((qs' ≡ qs) × (ks' ≡ ks) × (new ≡ old))
            (λ p. (had : Bool) × (r : ReachState) × Changes step c p.reach old (Ok had) r new
            × (qs' ≡ slice_set qs n (with_reach p r)) × (ks' ≡ kicked_if had ks n))
            → (slice_get qs' i ≡ slice_get qs i) × (length ks' ≡ length ks)
            × (slice_get ks i ≡ Some true → slice_get ks' i ≡ Some true)
        go None (same, still, quiet) = (
          ap (λ (l : List BlockQueueState). slice_get l i) same,
          ap length still,
          λ is. ap (λ (l : List Bool). slice_get l i) still ∙ is,
        )
        go (Some p) (had, r, changes, set, kicked) = (
          ap (λ (l : List BlockQueueState). slice_get l i) set ∙ get-set_other qs n i (with_reach p r) differs,
          ap length kicked ∙ kick_length had ks n,
          λ is. ap (λ (l : List Bool). slice_get l i) kicked ∙ kick_stays i n had ks is,
        )

    before_changed : (n : ℕ) (qs : List BlockQueueState) (ks : List Bool) (old : H) (qs' : List BlockQueueState)
        (ks' : List Bool) (new : H) → n ≤ i → ChangesTo step c n qs ks old qs' ks' new
        → (slice_get qs' i ≡ slice_get qs i) × (length ks' ≡ length ks)
    before_changed zero qs ks old qs' ks' new below (same, still, quiet) =
        (ap (λ (l : List BlockQueueState). slice_get l i) same, ap length still)
    before_changed (suc n) qs ks old qs' ks' new below (mid, mid_kicks, between, first, rest) =
        let (kept, long) = before_changed n qs ks old mid mid_kicks between (omega arith) first in
        let (same, length, still) =
        other_changed n mid mid_kicks between qs' ks' new (λ is. omega (arith, is)) rest in (same ∙ kept, length ∙ long)

    module _ (q : BlockQueueState) (some : drops c q.reach ≡ true) (fetching : is_some q.reach.fetch ≡ true) where
      own_dropped : (qs : List BlockQueueState) (ks : List Bool) (old : H) (qs' : List BlockQueueState) (ks' : List Bool)
          (new : H) → slice_get qs i ≡ Some q → i < length ks → ChangesAt step c i qs ks old (Ok tt) qs' ks' new
          → (fetch_of (slice_get qs' i) ≡ None) × (slice_get ks' i ≡ Some true)
      own_dropped qs ks old qs' ks' new there room changes = go (slice_get qs i) refl changes
        where
          go : (o : Option BlockQueueState) → slice_get qs i ≡ o
              → MatchOption o ((qs' ≡ qs) × (ks' ≡ ks) × (new ≡ old))
              (λ p. (had : Bool) × (r : ReachState) × Changes step c p.reach old (Ok had) r new
              × (qs' ≡ slice_set qs i (with_reach p r)) × (ks' ≡ kicked_if had ks i))
              → (fetch_of (slice_get qs' i) ≡ None) × (slice_get ks' i ≡ Some true)
          go None found changes = let bad : None ≡ Some q = sym found ∙ there in absurd (cc)
          go (Some p) found (had, r, changes, set, kicked) =
              let one : p ≡ q = same_Some p q (sym found ∙ there) in
              let (is, none) = gone p.reach old had r new (ap (λ (v : BlockQueueState). drops c v.reach) one ∙ some)
              (ap (λ (v : BlockQueueState). is_some v.reach.fetch) one ∙ fetching) changes in (
                ap (λ (l : List BlockQueueState). fetch_of (slice_get l i)) set
                    ∙ ap fetch_of (get-set_same qs i (with_reach p r) p found) ∙ none,
                ap (λ (l : List Bool). slice_get l i) (kicked ∙ ap (λ (v : Bool). kicked_if v ks i) is)
                    ∙ kicked_here ks i room,
              )

      dropped_to : (n : ℕ) (qs : List BlockQueueState) (ks : List Bool) (old : H) (qs' : List BlockQueueState)
          (ks' : List Bool) (new : H) → i < n → slice_get qs i ≡ Some q → i < length ks
          → ChangesTo step c n qs ks old qs' ks' new
          → (fetch_of (slice_get qs' i) ≡ None) × (slice_get ks' i ≡ Some true)
      dropped_to zero qs ks old qs' ks' new inside there room changes = absurd (omega arith)
      dropped_to (suc n) qs ks old qs' ks' new inside there room (mid, mid_kicks, between, first, rest) =
          elim (cases_eq i n) [
            | inl same ↦
                let (kept, long) = before_changed n qs ks old mid mid_kicks between (omega (arith, same)) first in
                own_dropped mid mid_kicks between qs' ks' new (kept ∙ there) (omega (arith, long))
                (subst (λ (k : ℕ). ChangesAt step c k mid mid_kicks between (Ok tt) qs' ks' new) (sym same) rest)
            | inr differs ↦
                let (none, kicked) =
                dropped_to n qs ks old mid mid_kicks between (omega (arith, differs)) there room first in
                let (kept, long, still) = other_changed n mid mid_kicks between qs' ks' new differs rest in
                (ap fetch_of kept ∙ none, still kicked)
          ]

-- what is not fetched does not go on
none_resumed : (f : Says) (i n : ℕ) (qs : List BlockQueueState) (ks : List Bool) (qs' : List BlockQueueState)
    (ks' : List Bool) → ResumesTo f n qs ks qs' ks' → fetch_of (slice_get qs i) ≡ None → slice_get ks i ≡ Some true
    → (fetch_of (slice_get qs' i) ≡ None) × (slice_get ks' i ≡ Some true)
none_resumed f i zero qs ks qs' ks' (same, still) none kicked = (
  ap (λ (l : List BlockQueueState). fetch_of (slice_get l i)) same ∙ none,
  ap (λ (l : List Bool). slice_get l i) still ∙ kicked,
)
none_resumed f i (suc n) qs ks qs' ks' (mid, mid_kicks, first, rest) none kicked =
    let (nothing, looked) = none_resumed f i n qs ks mid mid_kicks first none kicked in
    elim (cases_eq i n) [
      | inl same ↦
          own f i mid mid_kicks qs' ks' nothing looked (slice_get mid i) refl
          (subst (λ (k : ℕ). ResumesAt f k mid mid_kicks qs' ks') (sym same) rest)
      | inr differs ↦ let (kept, long, still) = other_resumed f i n mid mid_kicks qs' ks' differs rest in
          (ap fetch_of kept ∙ nothing, still looked)
    ]
  where
    own : (f : Says) (i : ℕ) (qs : List BlockQueueState) (ks : List Bool) (qs' : List BlockQueueState) (ks' : List Bool)
        → fetch_of (slice_get qs i) ≡ None → slice_get ks i ≡ Some true → (o : Option BlockQueueState)
        → slice_get qs i ≡ o → MatchOption o ((qs' ≡ qs) × (ks' ≡ ks))
        (λ p. (can : Bool) × (r : ReachState) × ResumesFetch f (length p.asked) p.reach can r
        × (qs' ≡ slice_set qs i (with_reach p r)) × (ks' ≡ kicked_if can ks i))
        → (fetch_of (slice_get qs' i) ≡ None) × (slice_get ks' i ≡ Some true)
    own f i qs ks qs' ks' none kicked None found (same, still) = (
      ap (λ (l : List BlockQueueState). fetch_of (slice_get l i)) same ∙ none,
      ap (λ (l : List Bool). slice_get l i) still ∙ kicked,
    )
    own f i qs ks qs' ks' none kicked (Some p) found (can, r, goes, set, looks) =
        let nothing : p.reach.fetch ≡ None = sym (ap fetch_of found) ∙ none in
        let on : Resumes f (most_at p.reach (length p.asked) None) None can r.fetch =
        subst (λ (v : Option FetchState). Resumes f (most_at p.reach (length p.asked) v) v can r.fetch) nothing goes.0 in (
          ap (λ (l : List BlockQueueState). fetch_of (slice_get l i)) set
              ∙ ap fetch_of (get-set_same qs i (with_reach p r) p found) ∙ on.1,
          ap (λ (l : List Bool). slice_get l i) looks ∙ kick_stays i i can ks kicked,
        )

module _ {H : Type 0} (step : H → (s : MemoryStep) → Returned s → H → Type 0) where
  pub update_drops : (w w' : BlockBackend) (t t' : Table) (old new : H) (c : Change) (i : ℕ) (q : BlockQueueState)
      → ChangesTable step w t old true w' t' new → w.change ≡ Some c → slice_get w.queues i ≡ Some q
      → is_some q.reach.fetch ≡ true → drops c q.reach ≡ true → length w.kicks ≡ length w.queues
      → (fetch_of (slice_get w'.queues i) ≡ None) × (slice_get w'.kicks i ≡ Some true)
  update_drops w w' t t' old new c i q changes asked there fetching some room =
      go (in_use c w.queues) (subst (λ (o : Option Change). ChangesBy step o w t old true w' t' new) asked changes)
    where
      after : (qs : List BlockQueueState) (ks : List Bool) → ChangesAll step c w.queues w.kicks old (Ok tt) qs ks new
          → AfterChange c (record w { queues = qs; kicks = ks }) t true w' t'
          → (fetch_of (slice_get w'.queues i) ≡ None) × (slice_get w'.kicks i ≡ Some true)
      after qs ks dropped (applies, (rs, ls, resumes, is)) =
          let within = slice_get_within w.queues i q there in
          let (nothing, kicked) = dropped_to step c i q some fetching (length w.queues) w.queues w.kicks old qs ks new within
          there (omega (arith, room, within)) dropped in
          let (none, looked) = none_resumed (says t') i (length qs) qs ks rs ls resumes nothing kicked in
          let v : BlockBackend = record w { queues = rs; kicks = ls } in
          let (queues, kicks) = settled_same (length rs) v in (
            ap (λ (u : BlockBackend). fetch_of (slice_get u.queues i)) is
                ∙ ap (λ (l : List BlockQueueState). fetch_of (slice_get l i)) queues ∙ none,
            ap (λ (u : BlockBackend). slice_get u.kicks i) is ∙ ap (λ (l : List Bool). slice_get l i) kicks ∙ looked,
          )

      ends : (done : Result (Unit {0}) AllocError) (qs : List BlockQueueState) (ks : List Bool)
          → ChangesAll step c w.queues w.kicks old done qs ks new
          → MatchResult done (λ it. AfterChange c (record w { queues = qs; kicks = ks }) t true w' t')
          (λ e. (true ≡ false) × (w' ≡ record w { queues = qs; kicks = ks }) × (t' ≡ t))
          → (fetch_of (slice_get w'.queues i) ≡ None) × (slice_get w'.kicks i ≡ Some true)
      ends (Ok done) qs ks dropped rest = after qs ks dropped rest
      ends (Err e) qs ks dropped (bad, same, kept) = absurd (cc)

      go : (v : Bool) → MatchBool v ((true ≡ false) × (w' ≡ w) × (t' ≡ t) × (new ≡ old))
          ((done : Result (Unit {0}) AllocError) × (qs : List BlockQueueState) × (ks : List Bool)
          × ChangesAll step c w.queues w.kicks old done qs ks new
          × MatchResult done (λ it. AfterChange c (record w { queues = qs; kicks = ks }) t true w' t')
          (λ e. (true ≡ false) × (w' ≡ record w { queues = qs; kicks = ks }) × (t' ≡ t)))
          → (fetch_of (slice_get w'.queues i) ≡ None) × (slice_get w'.kicks i ≡ Some true)
      go true (bad, same, kept, quiet) = absurd (cc)
      go false (done, qs, ks, dropped, rest) = ends done qs ks dropped rest

-- ---- what the front end sets

-- what a call set stays, as a table's law has it
abbrev pub SetLaw : Type 0
SetLaw = (iova to len x : ℕ) (permissions : Permissions) (t : Table) → iova + len < 2 ^ 64
    → covers (Set iova to len permissions) x ≡ true
    → says (changed (Set iova to len permissions) t) x ≡ says_after (Set iova to len permissions) x None

pub leads_then : SetLaw → (base to len x : ℕ) (permissions access : Permissions) (t t' : Table) → base + len < 2 ^ 64
    → is_within base len x ≡ true → allow permissions access ≡ true → AppliesTo (Map base to len permissions) t true t'
    → LeadsTo (says t') x (target x (record { difference = difference base to; permissions = permissions })) access
leads_then law base to len x permissions access t t' fits within allowed is =
    let m : Mapping = record { difference = difference base to; permissions = permissions } in
    let said : says t' x ≡ Some m = ap (λ (u : Table). says u x) is ∙ law base to len x permissions t fits within
    ∙ ap (λ (v : Bool). if v then Some m else None) within in
    subst (λ (o : Option Mapping). IsSomeAnd o (λ n. (target x n ≡ target x m) × (allow n.permissions access ≡ true)))
    (sym said) (refl, allowed)
