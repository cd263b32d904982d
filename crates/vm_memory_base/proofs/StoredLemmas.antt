-- What becomes of runs where they are stored.
use Rattle.std.proofs.Common.{◌≡◌, ℕ, ◌+◌, ◌-◌, ◌<◌, ◌≤◌, true, false, ltb, leb, eqb, List, [], ◌∷◌, ◌++◌, Some, None, refl, sym, ap, subst, inl, inr, ◌∙◌, arith, nat_cmp}
use Rattle.std.proofs.lemmas.Bool.{lt-ltb, le-ltb, cases_lt, eqb-true, eq-eqb, cases_Bool}
use Rattle.std.proofs.lemmas.List.{append_cancel_right}
use Rattle.std.specs.BTreeMap.{insert_entry, is_at}
use Rattle.std.specs.BTreeMap.Range.{entries_between}
use Rattle.std.specs.declared.ops.Bound.TheVariants.{Included, Excluded, Unbounded}
use Rattle.std.specs.Map.{lookup, remove_entry, set_value}
use Rattle.vm_memory_base.specs.Change.{StartFrom, AreAscending, runs_below, runs_from, with_reset}
use Rattle.vm_memory_base.specs.Runs.{AddressRun}
use Rattle.vm_memory_base.specs.Stored.{run_in, runs_in}
use Rattle.vm_memory_base.specs.Table.{Mapping}
use Rattle.vm_memory_base.specs.declared.iotlb.mapped_run.RunTail.{RunTail}
use Rattle.vm_memory_base.proofs.ChangeLemmas.{StartFrom-weaker}
use Rattle.vm_memory_base.proofs.StartLemmas.{StartsBelow, ascending_append, ascending_back, ascending_below, ascending_from, below-none, below_below, below_of, below_starts, from-all, from_starts}

-- ---- what is stored

pub inserted : (k : ℕ) (v : RunTail) (es : List (ℕ × RunTail)) → AreAscending (runs_in es)
    → runs_in (insert_entry nat_cmp es k v)
    ≡ runs_below k (runs_in es) ++ run_in (k, v) ∷ runs_from (k + 1) (runs_in es)
inserted k v [] h = refl
inserted k v (e ∷ es) h =
    elim (cases_lt k e.0) [
      | inl l ↦
          let s : StartFrom (k + 1) (runs_in (e ∷ es)) =
          (omega arith, StartFrom-weaker (k + 1) (e.0 + 1) (runs_in es) (omega arith) h.1) in
          let none = below-none k (runs_in (e ∷ es))
          (StartFrom-weaker k (k + 1) (runs_in (e ∷ es)) (omega arith) s) in
          let all = from-all (k + 1) (runs_in (e ∷ es)) s in
          rw (none, all, lt-ltb k e.0 l) refl
      | inr l ↦
          elim (cases_lt e.0 k) [
            | inl m ↦
                let differs : eqb k e.0 ≡ false = grind (arith) in
                let gone : leb (k + 1) e.0 ≡ false = grind (arith) in
                rw (le-ltb k e.0 l, differs, lt-ltb e.0 k m, gone)
                (ap (λ (ys : List (AddressRun Mapping)). run_in e ∷ ys) (inserted k v es h.2))
            | inr m ↦
                let is : e.0 ≡ k = omega arith in
                let same : eqb k e.0 ≡ true = grind (arith) in
                let gone : leb (k + 1) e.0 ≡ false = grind (arith) in
                let s : StartFrom (k + 1) (runs_in es) =
                StartFrom-weaker (k + 1) (e.0 + 1) (runs_in es) (omega arith) h.1 in
                let none = below-none k (runs_in es) (StartFrom-weaker k (k + 1) (runs_in es) (omega arith) s) in
                rw (le-ltb k e.0 l, same, le-ltb e.0 k m, gone, none, from-all (k + 1) (runs_in es) s)
                (ap (λ (n : ℕ). run_in (n, v) ∷ runs_in es) is)
          ]
    ]

pub removed : (k : ℕ) (es : List (ℕ × RunTail)) → AreAscending (runs_in es)
    → runs_in (remove_entry (is_at (nat_cmp k)) es) ≡ runs_below k (runs_in es) ++ runs_from (k + 1) (runs_in es)
removed k [] h = refl
removed k (e ∷ es) h =
    elim (cases_lt k e.0) [
      | inl l ↦
          let s : StartFrom (k + 1) (runs_in es) =
          StartFrom-weaker (k + 1) (e.0 + 1) (runs_in es) (omega arith) h.1 in
          let none = below-none k (runs_in es) (StartFrom-weaker k (k + 1) (runs_in es) (omega arith) s) in
          let stays : leb (k + 1) e.0 ≡ true = grind (arith) in
          let rest = removed k es h.2 in
          let all = from-all (k + 1) (runs_in es) s in
          let rest' : runs_in (remove_entry (is_at (nat_cmp k)) es) ≡ runs_in es = rw (none, all) at rest in
          rw (lt-ltb k e.0 l, le-ltb e.0 k (omega arith), stays, none, all, rest')
      | inr l ↦
          elim (cases_lt e.0 k) [
            | inl m ↦
                let differs : eqb k e.0 ≡ false = grind (arith) in
                let gone : leb (k + 1) e.0 ≡ false = grind (arith) in
                rw (le-ltb k e.0 l, differs, lt-ltb e.0 k m, gone)
                (ap (λ (ys : List (AddressRun Mapping)). run_in e ∷ ys) (removed k es h.2))
            | inr m ↦
                let same : eqb k e.0 ≡ true = grind (arith) in
                let gone : leb (k + 1) e.0 ≡ false = grind (arith) in
                let s : StartFrom (k + 1) (runs_in es) =
                StartFrom-weaker (k + 1) (e.0 + 1) (runs_in es) (omega arith) h.1 in
                let none = below-none k (runs_in es) (StartFrom-weaker k (k + 1) (runs_in es) (omega arith) s) in
                rw (le-ltb k e.0 l, same, le-ltb e.0 k m, gone, none, from-all (k + 1) (runs_in es) s) refl
          ]
    ]

pub is_reset : (k : ℕ) (v : RunTail) (es : List (ℕ × RunTail))
    → runs_in (set_value (is_at (nat_cmp k)) es v) ≡ with_reset (run_in (k, v)) (runs_in es)
is_reset k v [] = refl
is_reset k v (e ∷ es) =
    let rest = ap (λ (ys : List (AddressRun Mapping)). run_in e ∷ ys) (is_reset k v es) in
    elim (cases_lt k e.0) [
      | inl l ↦
          let differs : eqb k e.0 ≡ false = grind (arith) in
          rw (lt-ltb k e.0 l, differs) rest
      | inr l ↦
          elim (cases_Bool (eqb k e.0)) [
            | inl same ↦
                let is : e.0 ≡ k = sym (eqb-true k e.0 same) in
                rw (le-ltb k e.0 l, same) (ap (λ (n : ℕ). run_in (n, v) ∷ runs_in es) is)
            | inr differs ↦ rw (le-ltb k e.0 l, differs) rest
          ]
    ]

-- ---- parts of a map

pub between_upto : (limit : ℕ) (es : List (ℕ × RunTail))
    → runs_in (entries_between nat_cmp Unbounded (Included limit) es) ≡ runs_below (limit + 1) (runs_in es)
between_upto limit [] = refl
between_upto limit (e ∷ es) =
    let rest = between_upto limit es in
    elim (cases_lt limit e.0) [
      | inl l ↦ rw (lt-ltb limit e.0 l, le-ltb e.0 (limit + 1) (omega arith)) rest
      | inr l ↦
          let there : ltb e.0 (limit + 1) ≡ true = lt-ltb e.0 (limit + 1) (omega arith) in
          elim (cases_Bool (eqb limit e.0)) [
            | inl t ↦ rw (le-ltb limit e.0 l, t, there) (ap (λ (ys : List (AddressRun Mapping)). run_in e ∷ ys) rest)
            | inr t ↦ rw (le-ltb limit e.0 l, t, there) (ap (λ (ys : List (AddressRun Mapping)). run_in e ∷ ys) rest)
          ]
    ]

pub between_from : (low limit : ℕ) (es : List (ℕ × RunTail))
    → runs_in (entries_between nat_cmp (Included low) (Excluded limit) es)
    ≡ runs_below limit (runs_from low (runs_in es))
between_from low limit [] = refl
between_from low limit (e ∷ es) =
    let rest = between_from low limit es in
    elim (cases_lt e.0 low) [
      | inl l ↦
          let a : leb low e.0 ≡ false = grind (arith) in
          let b : eqb low e.0 ≡ false = grind (arith) in
          rw (le-ltb low e.0 (omega arith), a, b) rest
      | inr l ↦
          let a : leb low e.0 ≡ true = grind (arith) in
          elim (cases_lt e.0 limit) [
            | inl m ↦
                let d : eqb limit e.0 ≡ false = grind (arith) in
                elim (cases_lt low e.0) [
                  | inl n ↦ rw (lt-ltb low e.0 n, a, le-ltb limit e.0 (omega arith), d, lt-ltb e.0 limit m)
                      (ap (λ (ys : List (AddressRun Mapping)). run_in e ∷ ys) rest)
                  | inr n ↦
                      let b : eqb low e.0 ≡ true = grind (arith) in
                      rw (le-ltb low e.0 n, b, a, le-ltb limit e.0 (omega arith), d, lt-ltb e.0 limit m)
                      (ap (λ (ys : List (AddressRun Mapping)). run_in e ∷ ys) rest)
                ]
            | inr m ↦ past low limit e es l m a rest
          ]
    ]
  where
    past : (low limit : ℕ) (e : ℕ × RunTail) (es : List (ℕ × RunTail)) → low ≤ e.0 → limit ≤ e.0 → leb low e.0 ≡ true
        → runs_in (entries_between nat_cmp (Included low) (Excluded limit) es)
        ≡ runs_below limit (runs_from low (runs_in es))
        → runs_in (entries_between nat_cmp (Included low) (Excluded limit) (e ∷ es))
        ≡ runs_below limit (runs_from low (runs_in (e ∷ es)))
    past low limit e es l m a rest =
        let out = le-ltb e.0 limit m in
        elim (cases_lt low e.0) [
          | inl n ↦
              elim (cases_lt limit e.0) [
                | inl k ↦ rw (lt-ltb low e.0 n, a, lt-ltb limit e.0 k, out) rest
                | inr k ↦
                    let d : eqb limit e.0 ≡ true = grind (arith) in
                    rw (lt-ltb low e.0 n, a, le-ltb limit e.0 k, d, out) rest
              ]
          | inr n ↦
              let b : eqb low e.0 ≡ true = grind (arith) in
              elim (cases_lt limit e.0) [
                | inl k ↦ rw (le-ltb low e.0 n, b, a, lt-ltb limit e.0 k, out) rest
                | inr k ↦
                    let d : eqb limit e.0 ≡ true = grind (arith) in
                    rw (le-ltb low e.0 n, b, a, le-ltb limit e.0 k, d, out) rest
              ]
        ]

pub starts_at : {K : Type 0} (low : ℕ) (xs : List (AddressRun K)) (r : AddressRun K) (ys : List (AddressRun K))
    → StartFrom low (xs ++ r ∷ ys) → low ≤ r.start
starts_at low [] r ys s = s.0
starts_at low (x ∷ xs) r ys s = starts_at low xs r ys s.1

ascending_last : {K : Type 0} (xs : List (AddressRun K)) (r : AddressRun K) → AreAscending (xs ++ r ∷ [])
    → StartsBelow r.start xs
ascending_last [] r h = tt
ascending_last (x ∷ xs) r h =
    let l : x.start + 1 ≤ r.start = starts_at (x.start + 1) xs r [] h.1 in
    (omega arith, ascending_last xs r h.2)

pub last_starts : {K : Type 0} (limit : ℕ) (xs : List (AddressRun K)) (r : AddressRun K)
    → StartsBelow limit (xs ++ r ∷ []) → r.start < limit
last_starts limit [] r s = s.0
last_starts limit (x ∷ xs) r s = last_starts limit xs r s.1

-- what precedes the last run below a limit
pub last_below : {K : Type 0} (limit : ℕ) (rs xs : List (AddressRun K)) (r : AddressRun K) → AreAscending rs
    → runs_below limit rs ≡ xs ++ r ∷ []
    → (0 < r.len) × (runs_below limit rs ≡ runs_below r.start rs ++ r ∷ [])
last_below limit rs xs r h is =
    let a : AreAscending (xs ++ r ∷ []) = subst AreAscending is (ascending_below limit rs h) in
    let s : StartsBelow limit (xs ++ r ∷ []) = subst (StartsBelow limit) is (below_starts limit rs) in
    let l : r.start < limit = last_starts limit xs r s in
    let p : runs_below r.start rs ≡ runs_below r.start (xs ++ r ∷ []) =
    sym (below_below r.start limit rs (omega arith)) ∙ ap (runs_below r.start) is in
    let q : runs_below r.start (xs ++ r ∷ []) ≡ xs =
    below_of r.start xs (r ∷ []) (ascending_last xs r a) (omega arith, tt) in
    ((ascending_back xs (r ∷ []) a).0, is ∙ ap (λ (ys : List (AddressRun _)). ys ++ r ∷ []) (sym (p ∙ q)))

runs_in-append : (xs ys : List (ℕ × RunTail)) → runs_in (xs ++ ys) ≡ runs_in xs ++ runs_in ys
runs_in-append [] ys = refl
runs_in-append (e ∷ xs) ys = ap (λ (zs : List (AddressRun Mapping)). run_in e ∷ zs) (runs_in-append xs ys)

-- the last entry of those up to a limit
pub last_stored : (limit : ℕ) (es found t : List (ℕ × RunTail)) (e : ℕ × RunTail) → AreAscending (runs_in es)
    → found ≡ entries_between nat_cmp Unbounded (Included limit) es → found ≡ t ++ e ∷ []
    → (e.0 < e.1.end)
    × (runs_below (limit + 1) (runs_in es) ≡ runs_below e.0 (runs_in es) ++ run_in e ∷ [])
last_stored limit es found t e h is ends =
    let told = last_below (limit + 1) (runs_in es) (runs_in t) (run_in e) h
    (sym (between_upto limit es) ∙ ap runs_in (sym is ∙ ends) ∙ runs_in-append t (e ∷ [])) in
    let long : 0 < e.1.end - e.0 = told.0 in
    (omega arith, told.1)

-- the last entry of those up to a limit, where a table is seen as its runs, and what precedes it
module _ (es : List (ℕ × RunTail)) (rs : List (AddressRun Mapping)) (view : runs_in es ≡ rs)
    (h : AreAscending (runs_in es)) (limit : ℕ) (found t : List (ℕ × RunTail))
    (is : found ≡ entries_between nat_cmp Unbounded (Included limit) es) (e : ℕ × RunTail) (ends : found ≡ t ++ e ∷ [])
    (r : AddressRun Mapping) (run_is : r ≡ run_in e) where
  pub last_seen : runs_below (limit + 1) rs ≡ runs_below r.start rs ++ r ∷ []
  last_seen =
      rw run_is
      (subst (λ (ys : List (AddressRun Mapping)). runs_below (limit + 1) ys ≡ runs_below e.0 ys ++ run_in e ∷ []) view
      (last_stored limit es found t e h is ends).1)

  pub front_seen : limit ≤ r.start → runs_below limit rs ≡ runs_in t
  front_seen l =
      let last = last_seen in
      let s = last_starts (limit + 1) (runs_below r.start rs) r
      (subst (StartsBelow (limit + 1)) last (below_starts (limit + 1) rs)) in
      let same : r.start ≡ limit = omega arith in
      let parts : runs_below (limit + 1) rs ≡ runs_in t ++ r ∷ [] =
      rw run_is
      (ap (runs_below (limit + 1)) (sym view) ∙ sym (between_upto limit es) ∙ ap runs_in (sym is ∙ ends)
      ∙ runs_in-append t (e ∷ [])) in
      let front : runs_below r.start rs ≡ runs_in t =
      append_cancel_right (runs_below r.start rs) (runs_in t) (r ∷ []) (sym last ∙ parts) in
      subst (λ (n : ℕ). runs_below n rs ≡ runs_in t) same front

  -- the entry before it
  pub front_stored : limit ≤ r.start → (u : List (ℕ × RunTail)) (d : ℕ × RunTail) → t ≡ u ++ d ∷ []
      → (d.0 < d.1.end) × (runs_below limit rs ≡ runs_below d.0 rs ++ run_in d ∷ [])
  front_stored l u d parts =
      let told = last_below limit rs (runs_in u) (run_in d) (subst AreAscending view h)
      (front_seen l ∙ ap runs_in parts ∙ runs_in-append u (d ∷ [])) in
      let long : 0 < d.1.end - d.0 = told.0 in
      (omega arith, told.1)

pub ascending_without : {K : Type 0} (low high : ℕ) (rs : List (AddressRun K)) → low ≤ high → AreAscending rs
    → AreAscending (runs_below low rs ++ runs_from high rs)
ascending_without low high rs l h =
    ascending_append low (runs_below low rs) (runs_from high rs) (ascending_below low rs h) (below_starts low rs)
    (ascending_from high rs h) (StartFrom-weaker low high (runs_from high rs) l (from_starts high rs))

-- ---- a run in the place of another

pub reset_last : (l d : AddressRun Mapping) (xs ys : List (AddressRun Mapping)) → StartsBelow l.start xs
    → d.start ≡ l.start → with_reset l ((xs ++ d ∷ []) ++ ys) ≡ xs ++ (l ∷ ys)
reset_last l d [] ys s e = rw (eq-eqb l.start d.start (sym e)) refl
reset_last l d (x ∷ xs) ys s e =
    let differs : eqb l.start x.start ≡ false = grind (arith) in
    rw differs (ap (λ (zs : List (AddressRun Mapping)). x ∷ zs) (reset_last l d xs ys s.1 e))

pub ascending_reset : (r : AddressRun Mapping) (rs : List (AddressRun Mapping)) → 0 < r.len → AreAscending rs
    → AreAscending (with_reset r rs)
ascending_reset r [] pos h = tt
ascending_reset r (s ∷ rs) pos h =
    elim (cases_Bool (eqb r.start s.start)) [
      | inl t ↦
          let e = eqb-true r.start s.start t in
          rw t (pos, StartFrom-weaker (r.start + 1) (s.start + 1) rs (omega arith) h.1, h.2)
      | inr t ↦ rw t (h.0, starts (s.start + 1) r rs h.1, ascending_reset r rs pos h.2)
    ]
  where
    starts : (low : ℕ) (r : AddressRun Mapping) (rs : List (AddressRun Mapping)) → StartFrom low rs
        → StartFrom low (with_reset r rs)
    starts low r [] s = tt
    starts low r (x ∷ rs) s =
        elim (cases_Bool (eqb r.start x.start)) [
          | inl t ↦ let e = eqb-true r.start x.start t in rw t (omega arith, s.1)
          | inr t ↦ rw t (s.0, starts low r rs s.1)
        ]

pub reset_absent : (r : AddressRun Mapping) (es : List (ℕ × RunTail)) → lookup (is_at (nat_cmp r.start)) es ≡ None
    → with_reset r (runs_in es) ≡ runs_in es
reset_absent r [] none = refl
reset_absent r (e ∷ es) none =
    elim (cases_lt r.start e.0) [
      | inl l ↦
          let differs : eqb r.start e.0 ≡ false = grind (arith) in
          let rest : lookup (is_at (nat_cmp r.start)) es ≡ None = rw (lt-ltb r.start e.0 l) at none in
          rw differs (ap (λ (ys : List (AddressRun Mapping)). run_in e ∷ ys) (reset_absent r es rest))
      | inr l ↦
          elim (cases_Bool (eqb r.start e.0)) [
            | inl t ↦ let found : Some e.1 ≡ None = rw (le-ltb r.start e.0 l, t) at none in absurd (some_none found)
            | inr t ↦
                let rest : lookup (is_at (nat_cmp r.start)) es ≡ None = rw (le-ltb r.start e.0 l, t) at none in
                rw t (ap (λ (ys : List (AddressRun Mapping)). run_in e ∷ ys) (reset_absent r es rest))
          ]
    ]
  where
    some_none : {X : Type 0} {x : X} → Some x ≡ None → ⊥
    some_none e = cc
