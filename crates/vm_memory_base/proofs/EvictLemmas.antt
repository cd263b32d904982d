-- What a table of bounded size evicts.
use Rattle.std.proofs.Common.{◌≡◌, ℕ, zero, suc, ◌+◌, ◌-◌, ◌^◌, ◌<◌, ◌≤◌, Bool, true, false, not, ltb, leb, List, [], ◌∷◌, ◌++◌, length, map, take, Option, Some, None, ◌⊎◌, refl, sym, ap, subst, inl, inr, ◌∙◌, arith}
use Rattle.std.proofs.lemmas.Bool.{cases_Bool, cases_lt, cond-true, cond-false, lt-ltb}
use Rattle.std.proofs.lemmas.Option.{same_Some}
use Rattle.std.specs.List.{filter}
use Rattle.vm_memory_base.specs.Address.{is_within, difference}
use Rattle.vm_memory_base.specs.Change.{EndBelow, StartFrom, IsKept, IsWithinLimit, runs_below, runs_from, without_first}
use Rattle.vm_memory_base.specs.Runs.{AddressRun, IsCanonical, value_at}
use Rattle.vm_memory_base.specs.Table.{Mapping, same_mapping, Says, Table, says, TableEvent, Set, InvalidateAll, covers, says_after, says_after_all, has_any, first_set, excess, evicted, eviction, evictions, events, changed, changed_by, events_of, canonical_list, range_count}
use Rattle.vm_memory_base.specs.declared.iotlb.Permissions.{Permissions}
use Rattle.vm_memory_base.proofs.ChangeLemmas.{StartFrom-weaker, tail_starts, kept_stays, nothing_said}
use Rattle.vm_memory_base.proofs.StartLemmas.{below-none, from-all}
use Rattle.vm_memory_base.proofs.RunsLaws.{CanFollow, none_below, value_at_in, value_at_past, within_from, is_within-in, canonical_cons, canonical_pos, canonical_follow, canonical_tail, within_or_not, is_within-below, is_within-above, value_at-runs}
use Rattle.vm_memory_base.proofs.TableLaws.{same_mapping_tests_equality, canonical_list-agree, canonical_list-of_values, canonical_canonical_list, value_at-canonical_list, says_after-covered, says_after_all-append}

true_false : true ≡ false → ⊥
true_false e = cc

-- ---- runs without so many of the first

module _ {K : Type 0} (spares : AddressRun K → Bool) where
  pub one_at_a_time : (n : ℕ) (rs : List (AddressRun K))
      → without_first spares (suc n) rs ≡ without_first spares n (without_first spares 1 rs)
  one_at_a_time zero rs = refl
  one_at_a_time (suc n) [] = refl
  one_at_a_time (suc n) (r ∷ rs) =
      elim (cases_Bool (spares r)) [
        | inl t ↦ rw (t, t) (ap (λ (ys : List (AddressRun K)). r ∷ ys) (one_at_a_time (suc n) rs))
        | inr t ↦ rw t refl
      ]

  pub starts_without : (low n : ℕ) (rs : List (AddressRun K)) → StartFrom low rs
      → StartFrom low (without_first spares n rs)
  starts_without low zero rs s = s
  starts_without low (suc n) [] s = tt
  starts_without low (suc n) (r ∷ rs) s =
      elim (cases_Bool (spares r)) [
        | inl t ↦ rw t (s.0, starts_without low (suc n) rs s.1)
        | inr t ↦ rw t (starts_without low n rs s.1)
      ]

  pub ends_without : (limit n : ℕ) (rs : List (AddressRun K)) → EndBelow limit rs
      → EndBelow limit (without_first spares n rs)
  ends_without limit zero rs e = e
  ends_without limit (suc n) [] e = tt
  ends_without limit (suc n) (r ∷ rs) e =
      elim (cases_Bool (spares r)) [
        | inl t ↦ rw t (e.0, ends_without limit (suc n) rs e.1)
        | inr t ↦ rw t (ends_without limit n rs e.1)
      ]

  follow_far : (same : K → K → Bool) (end : ℕ) (k : K) (rs : List (AddressRun K)) → StartFrom (end + 1) rs
      → CanFollow same end k rs
  follow_far same end k [] s = tt
  follow_far same end k (r ∷ rs) s = (omega arith, λ touch. absurd (omega arith))

  follow_without : (same : K → K → Bool) (end : ℕ) (k : K) (n : ℕ) (rs : List (AddressRun K))
      → CanFollow same end k rs → IsCanonical same rs → CanFollow same end k (without_first spares n rs)
  follow_without same end k zero rs f h = f
  follow_without same end k (suc n) [] f h = tt
  follow_without same end k (suc n) (r ∷ rs) f h =
      elim (cases_Bool (spares r)) [
        | inl t ↦ rw t f
        | inr t ↦
            let pos = canonical_pos same r rs h in
            let far = StartFrom-weaker (end + 1) (r.start + r.len) rs (omega arith) (tail_starts same r rs h) in
            rw t (follow_without same end k n rs (follow_far same end k rs far) (canonical_tail same r rs h))
      ]

  pub canonical_without : (same : K → K → Bool) (n : ℕ) (rs : List (AddressRun K)) → IsCanonical same rs
      → IsCanonical same (without_first spares n rs)
  canonical_without same zero rs h = h
  canonical_without same (suc n) [] h = tt
  canonical_without same (suc n) (r ∷ rs) h =
      let rest = canonical_tail same r rs h in
      elim (cases_Bool (spares r)) [
        | inl t ↦
            rw t (canonical_cons same r (without_first spares (suc n) rs) (canonical_pos same r rs h)
            (follow_without same (r.start + r.len) r.value (suc n) rs (canonical_follow same r rs h) rest)
            (canonical_without same (suc n) rs rest))
        | inr t ↦ rw t (canonical_without same n rs rest)
      ]

  pub length_without : (m n : ℕ) (rs : List (AddressRun K)) → length rs ≤ m + n → length (filter spares rs) ≤ m
      → length (without_first spares n rs) ≤ m
  length_without m zero rs l f = omega arith
  length_without m (suc n) [] l f = omega arith
  length_without m (suc n) (r ∷ rs) l f =
      elim (cases_Bool (spares r)) [
        | inl t ↦
            let f' : suc (length (filter spares rs)) ≤ m = rw t at f in
            let rest = length_without (m - 1) (suc n) rs (omega arith) (omega arith) in
            rw t (omega arith)
        | inr t ↦
            let f' : length (filter spares rs) ≤ m = rw t at f in
            rw t (length_without m n rs (omega arith) f')
      ]

-- ---- the run that has an address

far_has : (x low : ℕ) (rs : List (AddressRun Mapping)) → StartFrom low rs → x < low
    → filter (has_any (Some x)) rs ≡ []
far_has x low [] s l = refl
far_has x low (r ∷ rs) s l = rw (is_within-below r.start r.len x (omega arith)) (far_has x low rs s.1 l)

pub one_has : (x : Option ℕ) (rs : List (AddressRun Mapping)) → IsCanonical same_mapping rs
    → length (filter (has_any x) rs) ≤ 1
one_has None [] h = omega arith
one_has None (r ∷ rs) h = one_has None rs (canonical_tail same_mapping r rs h)
one_has (Some x) [] h = omega arith
one_has (Some x) (r ∷ rs) h =
    elim (within_or_not r.start r.len x) [
      | inl w ↦
          let none = far_has x (r.start + r.len) rs (tail_starts same_mapping r rs h) w.2 in
          rw (w.0, none) (omega arith)
      | inr w ↦ rw w.0 (one_has (Some x) rs (canonical_tail same_mapping r rs h))
    ]

-- where the first of two runs has it, the second does not
pub second_has_not : (x : Option ℕ) (r s : AddressRun Mapping) (rs : List (AddressRun Mapping))
    → IsCanonical same_mapping (r ∷ s ∷ rs) → has_any x r ≡ true → has_any x s ≡ false
second_has_not None r s rs h t = refl
second_has_not (Some x) r s rs h t =
    elim (within_or_not r.start r.len x) [
      | inl w ↦ let next = h.1 in is_within-below s.start s.len x (omega arith)
      | inr w ↦ absurd (true_false (sym t ∙ w.0))
    ]

-- ---- what is said after evictions

evicts_in : (q : AddressRun Mapping) (y : ℕ) (o : Option Mapping) → is_within q.start q.len y ≡ true
    → says_after (eviction q) y o ≡ None
evicts_in q y o e = rw e refl

evicts_out : (q : AddressRun Mapping) (y : ℕ) (o : Option Mapping) → is_within q.start q.len y ≡ false
    → says_after (eviction q) y o ≡ o
evicts_out q y o e = rw e refl

evicts_none : (q : AddressRun Mapping) (y : ℕ) → says_after (eviction q) y None ≡ None
evicts_none q y =
    elim (cases_Bool (is_within q.start q.len y)) [
      | inl t ↦ evicts_in q y None t
      | inr t ↦ evicts_out q y None t
    ]

pub says_none : (qs : List (AddressRun Mapping)) (y : ℕ) → says_after_all (map eviction qs) y None ≡ None
says_none [] y = refl
says_none (q ∷ qs) y = ap (says_after_all (map eviction qs) y) (evicts_none q y) ∙ says_none qs y

says_far : (qs : List (AddressRun Mapping)) (low y : ℕ) (o : Option Mapping) → StartFrom low qs → y < low
    → says_after_all (map eviction qs) y o ≡ o
says_far [] low y o s l = refl
says_far (q ∷ qs) low y o s l =
    ap (says_after_all (map eviction qs) y) (evicts_out q y o (is_within-below q.start q.len y (omega arith)))
    ∙ says_far qs low y o s.1 l

starts_filter : (p : AddressRun Mapping → Bool) (low : ℕ) (rs : List (AddressRun Mapping)) → StartFrom low rs
    → StartFrom low (filter p rs)
starts_filter p low [] s = tt
starts_filter p low (r ∷ rs) s =
    elim (cases_Bool (p r)) [
      | inl t ↦ rw t (s.0, starts_filter p low rs s.1)
      | inr t ↦ rw t (starts_filter p low rs s.1)
    ]

starts_take : (low n : ℕ) (rs : List (AddressRun Mapping)) → StartFrom low rs → StartFrom low (take n rs)
starts_take low zero rs s = tt
starts_take low (suc n) [] s = tt
starts_take low (suc n) (r ∷ rs) s = (s.0, starts_take low n rs s.1)

none_before : (low y : ℕ) (rs : List (AddressRun Mapping)) → StartFrom low rs → y < low → value_at rs y ≡ None
none_before low y [] s l = refl
none_before low y (r ∷ rs) s l = rw (is_within-below r.start r.len y (omega arith)) (none_before low y rs s.1 l)

module _ (x : Option ℕ) where
  abbrev goes : AddressRun Mapping → Bool
  goes r = not (has_any x r)

  -- the first so many runs that do not have an address
  abbrev pub first_others : ℕ → List (AddressRun Mapping) → List (AddressRun Mapping)
  first_others n rs = take n (filter goes rs)

  pub says_without : (n : ℕ) (rs : List (AddressRun Mapping)) → IsCanonical same_mapping rs → (y : ℕ)
      → value_at (without_first (has_any x) n rs) y ≡ says_after_all (map eviction (first_others n rs)) y
      (value_at rs y)
  says_without zero rs h y = refl
  says_without (suc n) [] h y = refl
  says_without (suc n) (r ∷ rs) h y =
      let later = tail_starts same_mapping r rs h in
      let rest = canonical_tail same_mapping r rs h in
      let far : (m : ℕ) → StartFrom (r.start + r.len) (first_others m rs) =
      λ m. starts_take (r.start + r.len) m (filter goes rs) (starts_filter goes (r.start + r.len) rs later) in
      elim (cases_Bool (has_any x r)) [
        | inl t ↦
            elim (within_or_not r.start r.len y) [
              | inl w ↦
                  rw (t, w.0) (sym (says_far (first_others (suc n) rs) (r.start + r.len) y (Some r.value) (far (suc n))
                  w.2))
              | inr w ↦ rw (t, w.0) (says_without (suc n) rs rest y)
            ]
        | inr t ↦
            elim (within_or_not r.start r.len y) [
              | inl w ↦
                  let gone = none_before (r.start + r.len) y (without_first (has_any x) n rs)
                  (starts_without (has_any x) (r.start + r.len) n rs later) w.2 in
                  rw t (gone ∙ sym (ap (says_after_all (map eviction (first_others n rs)) y)
                  (evicts_in r y (value_at (r ∷ rs) y) w.0) ∙ says_none (first_others n rs) y))
              | inr w ↦
                  let said : says_after (eviction r) y (value_at (r ∷ rs) y) ≡ value_at rs y =
                  evicts_out r y (value_at (r ∷ rs) y) w.0 ∙ cond-false (is_within r.start r.len y) (Some r.value)
                  (value_at rs y) w.0 in
                  rw t (says_without n rs rest y
                  ∙ sym (ap (says_after_all (map eviction (first_others n rs)) y) said))
            ]
      ]

-- ---- what a call leaves

-- what is said right after a call, before anything is evicted
abbrev pub called : TableEvent → Table → List (AddressRun Mapping)
called call t = canonical_list (λ y. says_after call y (says t y))

none_past : (f : Says) (y : ℕ) → 2 ^ 64 ≤ y → value_at (canonical_list f) y ≡ None
none_past f y l =
    let out : is_within 0 (2 ^ 64) y ≡ false = is_within-above 0 (2 ^ 64) y (omega arith) in
    rw out at (value_at-runs same_mapping same_mapping_tests_equality.0 f 0 (2 ^ 64) y)

pub changed_ranges : (call : TableEvent) (t : Table)
    → (changed call t).ranges
    ≡ without_first (has_any (first_set call)) (excess t.limit (length (called call t))) (called call t)
changed_ranges call t =
    let f : Says = λ y. says_after call y (says t y) in
    let x = first_set call in
    let rs = called call t in
    let n = excess t.limit (length rs) in
    let gone = first_others x n rs in
    let canonical = canonical_canonical_list f in
    canonical_list-agree (λ y. says_after_all (events call t) y (says t y)) (value_at (without_first (has_any x) n rs))
    (λ y l. ap (says_after_all (map eviction gone) y) (sym (value_at-canonical_list f y l))
    ∙ sym (says_without x n rs canonical y))
    ∙ canonical_list-of_values (without_first (has_any x) n rs)
    (canonical_without (has_any x) same_mapping n rs canonical)
    (λ y l. says_without x n rs canonical y
    ∙ ap (says_after_all (map eviction gone) y) (none_past f y l) ∙ says_none gone y)

pub kept_without : (x : Option ℕ) (n : ℕ) (rs : List (AddressRun Mapping)) → IsKept rs
    → IsKept (without_first (has_any x) n rs)
kept_without x n rs k = record {
  canonical = canonical_without (has_any x) same_mapping n rs k.canonical;
  ends = ends_without (has_any x) (2 ^ 64) n rs k.ends;
}

pub within_without : (x : Option ℕ) (limit : ℕ) (rs : List (AddressRun Mapping)) → 0 < limit
    → IsCanonical same_mapping rs → length (without_first (has_any x) (length rs - limit) rs) ≤ limit
within_without x limit rs some h =
    let one = one_has x rs h in
    length_without (has_any x) limit (length rs - limit) rs (omega arith) (omega arith)

pub changed_within : (call : TableEvent) (t : Table) (limit : ℕ) → t.limit ≡ Some limit → 0 < limit
    → range_count (changed call t) ≤ limit
changed_within call t limit is some =
    let rs = called call t in
    let e = ap length (changed_ranges call t)
    ∙ ap (λ (o : Option ℕ). length (without_first (has_any (first_set call)) (excess o (length rs)) rs)) is in
    let w = within_without (first_set call) limit rs some (canonical_canonical_list
    (λ y. says_after call y (says t y))) in
    omega arith

-- what is said after a call that changed a table
pub says_changed : (call : TableEvent) (t : Table) (x : ℕ) → x < 2 ^ 64
    → says (changed call t) x ≡ says_after_all (events call t) x (says t x)
says_changed call t x l = value_at-canonical_list (λ y. says_after_all (events call t) y (says t y)) x l

pub says_then : (call : TableEvent) (old new : Table) → new ≡ changed call old → (x : ℕ) → x < 2 ^ 64
    → says new x ≡ says_after_all (events call old) x (says old x)
says_then call old new e x l = ap (λ (t : Table). says t x) e ∙ says_changed call old x l

nothing_over : (limit : Option ℕ) (rs : List (AddressRun Mapping)) → IsWithinLimit limit rs
    → excess limit (length rs) ≡ 0
nothing_over None rs w = refl
nothing_over (Some n) rs w = omega arith

-- a table that a call changes at no address is as it was
pub table_stays : (call : TableEvent) (table : Table) → IsKept table.ranges → IsWithinLimit table.limit table.ranges
    → ((x : ℕ) (old : Option Mapping) → says_after call x old ≡ old) → table ≡ changed call table
table_stays call table k within same =
    let rs = table.ranges in
    let is : rs ≡ called call table =
    kept_stays rs (λ x. says_after call x (says table x)) k (λ x. same x (says table x)) in
    let with_ranges : List (AddressRun Mapping) → Table = λ ys. record table { ranges = ys } in
    let none : excess table.limit (length rs) ≡ 0 = nothing_over table.limit rs within in
    let left : (ys : List (AddressRun Mapping)) → ys ≡ rs
    → without_first (has_any (first_set call)) (excess table.limit (length ys)) ys ≡ rs =
    λ ys e. subst (λ (zs : List (AddressRun Mapping)).
    without_first (has_any (first_set call)) (excess table.limit (length zs)) zs ≡ rs) (sym e) (rw none refl) in
    ap with_ranges (sym (changed_ranges call table ∙ left (called call table) (sym is)))

without_none : {K : Type 0} (spares : AddressRun K → Bool) (n : ℕ) → without_first spares n [] ≡ []
without_none spares zero = refl
without_none spares (suc n) = refl

-- nothing is left where all is invalidated
pub all_gone : (t : Table) → changed InvalidateAll t ≡ record { limit = t.limit; ranges = [] }
all_gone t =
    let left : (ys : List (AddressRun Mapping)) → ys ≡ []
    → without_first (has_any None) (excess t.limit (length ys)) ys ≡ [] =
    λ ys e. subst (λ (zs : List (AddressRun Mapping)).
    without_first (has_any None) (excess t.limit (length zs)) zs ≡ []) (sym e)
    (without_none (has_any None) (excess t.limit 0)) in
    ap (λ (ys : List (AddressRun Mapping)). record t { ranges = ys })
    (changed_ranges InvalidateAll t ∙ left (called InvalidateAll t) nothing_said)

pub within_none : (limit : Option ℕ) (rs ss : List (AddressRun Mapping)) → IsWithinLimit limit rs → ss ≡ []
    → IsWithinLimit limit ss
within_none None rs ss w e = tt
within_none (Some n) rs ss w e = let l = ap length e in (w.0, omega arith)

-- ---- one run that goes

first_start : (r : AddressRun Mapping) (rs : List (AddressRun Mapping)) → IsCanonical same_mapping (r ∷ rs)
    → StartFrom (r.start + 1) rs
first_start r rs h =
    let pos = canonical_pos same_mapping r rs h in
    StartFrom-weaker (r.start + 1) (r.start + r.len) rs (omega arith) (tail_starts same_mapping r rs h)

pub first_goes : (x : Option ℕ) (r : AddressRun Mapping) (rs : List (AddressRun Mapping))
    → IsCanonical same_mapping (r ∷ rs) → has_any x r ≡ false
    → runs_below r.start (r ∷ rs) ++ runs_from (r.start + 1) (r ∷ rs) ≡ without_first (has_any x) 1 (r ∷ rs)
first_goes x r rs h t =
    let s = first_start r rs h in
    let none = below-none r.start (r ∷ rs)
    (omega arith, StartFrom-weaker r.start (r.start + 1) rs (omega arith) s) in
    let out : leb (r.start + 1) r.start ≡ false = grind (arith) in
    rw (none, out, from-all (r.start + 1) rs s, t) refl

pub second_goes : (x : Option ℕ) (r s : AddressRun Mapping) (rs : List (AddressRun Mapping))
    → IsCanonical same_mapping (r ∷ s ∷ rs) → has_any x r ≡ true
    → runs_below s.start (r ∷ s ∷ rs) ++ runs_from (s.start + 1) (r ∷ s ∷ rs)
    ≡ without_first (has_any x) 1 (r ∷ s ∷ rs)
second_goes x r s rs h t =
    let f = second_has_not x r s rs h t in
    let l = first_start r (s ∷ rs) h in
    let m = first_start s rs (canonical_tail same_mapping r (s ∷ rs) h) in
    let none = below-none s.start (s ∷ rs)
    (omega arith, StartFrom-weaker s.start (s.start + 1) rs (omega arith) m) in
    let there : ltb r.start s.start ≡ true = lt-ltb r.start s.start (omega (arith, l.0)) in
    let out : leb (s.start + 1) r.start ≡ false = grind (arith, l.0) in
    let gone : leb (s.start + 1) s.start ≡ false = grind (arith) in
    rw (there, none, out, gone, from-all (s.start + 1) rs m, t, f) refl

-- one step of an eviction
pub one_less : (x : Option ℕ) (limit : ℕ) (rs new : List (AddressRun Mapping)) → new ≡ without_first (has_any x) 1 rs
    → length (without_first (has_any x) 1 rs) + 1 ≡ length rs → limit < length rs
    → without_first (has_any x) (length new - limit) new ≡ without_first (has_any x) (length rs - limit) rs
one_less x limit rs new e less l =
    let n = length new - limit in
    let is = ap length e in
    let more : suc n ≡ length rs - limit = omega arith in
    ap (without_first (has_any x) n) e ∙ sym (one_at_a_time (has_any x) n rs)
    ∙ ap (λ (m : ℕ). without_first (has_any x) m rs) more

shorter : {K : Type 0} (spares : AddressRun K → Bool) (n : ℕ) (rs : List (AddressRun K))
    → length (without_first spares n rs) ≤ length rs
shorter spares zero rs = omega arith
shorter spares (suc n) [] = omega arith
shorter spares (suc n) (r ∷ rs) =
    elim (cases_Bool (spares r)) [
      | inl t ↦ let rest = shorter spares (suc n) rs in rw t (omega arith)
      | inr t ↦ let rest = shorter spares n rs in rw t (omega arith)
    ]

pub no_longer : (x : Option ℕ) (n : ℕ) (rs new : List (AddressRun Mapping)) → new ≡ without_first (has_any x) n rs
    → length new ≤ length rs
no_longer x n rs new e = let l = ap length e in let s = shorter (has_any x) n rs in omega arith

-- what goes, and what is left
gone_and_left : (x : Option ℕ) (n : ℕ) (rs : List (AddressRun Mapping))
    → length (without_first (has_any x) n rs) + length (take n (filter (λ r. not (has_any x r)) rs)) ≡ length rs
gone_and_left x zero rs = omega arith
gone_and_left x (suc n) [] = omega arith
gone_and_left x (suc n) (r ∷ rs) =
    elim (cases_Bool (has_any x r)) [
      | inl t ↦ let rest = gone_and_left x (suc n) rs in rw t (omega arith)
      | inr t ↦ let rest = gone_and_left x n rs in rw t (omega arith)
    ]

-- how many a call evicted: the runs that it left, less those that stayed
pub evicted_count : (call : TableEvent) (t : Table) (set new : List (AddressRun Mapping)) → set ≡ called call t
    → new ≡ without_first (has_any (first_set call)) (excess t.limit (length set)) set
    → length set - length new ≡ evictions call t
evicted_count call t set new is e =
    let x = first_set call in
    let all = gone_and_left x (excess t.limit (length set)) set in
    let left = ap length e in
    let same : length (evicted call t.limit set) ≡ evictions call t =
    ap (λ (ys : List (AddressRun Mapping)). length (evicted call t.limit ys)) is in
    omega arith

-- a call that says nothing evicts nothing
pub evicts_nothing : (call : TableEvent) (t : Table) → IsKept t.ranges → IsWithinLimit t.limit t.ranges
    → ((x : ℕ) (old : Option Mapping) → says_after call x old ≡ old) → evictions call t ≡ 0
evicts_nothing call t k within same =
    let rs = t.ranges in
    let is : rs ≡ called call t = kept_stays rs (λ x. says_after call x (says t x)) k (λ x. same x (says t x)) in
    let none : excess t.limit (length rs) ≡ 0 = nothing_over t.limit rs within in
    sym (ap (λ (ys : List (AddressRun Mapping)). length (evicted call t.limit ys)) is) ∙ rw none refl

-- a call that was done, and what it then evicted
pub call_done : (call : TableEvent) (t : Table) (set new : List (AddressRun Mapping)) → set ≡ called call t
    → new ≡ without_first (has_any (first_set call)) (excess t.limit (length set)) set
    → record t { ranges = new } ≡ changed call t
call_done call t set new is e =
    let gone : without_first (has_any (first_set call)) (excess t.limit (length set)) set
    ≡ without_first (has_any (first_set call)) (excess t.limit (length (called call t))) (called call t) =
    ap (λ (ys : List (AddressRun Mapping)). without_first (has_any (first_set call)) (excess t.limit (length ys)) ys)
    is in
    ap (λ (ys : List (AddressRun Mapping)). record t { ranges = ys }) (e ∙ gone ∙ sym (changed_ranges call t))

-- ---- what is set stays

-- a run that does not have the second address does not have the first
abbrev AreApart : ℕ → ℕ → List (AddressRun Mapping) → Type 0
AreApart x a [] = Unit {0}
AreApart x a (r ∷ rs) =
    (is_within r.start r.len a ≡ false → is_within r.start r.len x ≡ false) × AreApart x a rs

far_apart : (x a low : ℕ) (rs : List (AddressRun Mapping)) → StartFrom low rs → x < low → AreApart x a rs
far_apart x a low [] s l = tt
far_apart x a low (r ∷ rs) s l =
    ((λ f. is_within-below r.start r.len x (omega arith)), far_apart x a low rs s.1 l)

none_some : {X : Type 0} {v : X} → None ≡ Some v → ⊥
none_some e = cc

-- no run that is mapped alike begins where another ends
begins_alike : (end : ℕ) (v : Mapping) (rs : List (AddressRun Mapping)) → IsCanonical same_mapping rs
    → CanFollow same_mapping end v rs → StartFrom end rs → value_at rs end ≡ Some v → ⊥
begins_alike end v [] h f s e = none_some e
begins_alike end v (r ∷ rs) h f s e =
    let pos = canonical_pos same_mapping r rs h in
    elim (within_or_not r.start r.len end) [
      | inl w ↦
          let is : r.value ≡ v = same_Some r.value v (sym (value_at_in r rs end w.1 w.2) ∙ e) in
          let differs : same_mapping v r.value ≡ false = f.1 (omega arith) in
          true_false (sym (same_mapping_tests_equality.1 v) ∙ ap (same_mapping v) (sym is) ∙ differs)
      | inr w ↦
          let none = none_before (r.start + r.len) end rs (tail_starts same_mapping r rs h) (omega arith) in
          none_some (sym none ∙ sym (cond-false (is_within r.start r.len end) (Some r.value) (value_at rs end) w.0) ∙ e)
    ]

-- the run that has the first of some addresses that are mapped alike has them all
apart : (rs : List (AddressRun Mapping)) (a n : ℕ) (v : Mapping) → IsCanonical same_mapping rs
    → ((y : ℕ) → a ≤ y → y < a + n → value_at rs y ≡ Some v) → (x : ℕ) → a ≤ x → x < a + n → AreApart x a rs
apart [] a n v h said x l m = tt
apart (r ∷ rs) a n v h said x l m =
    let later = tail_starts same_mapping r rs h in
    let rest = canonical_tail same_mapping r rs h in
    elim (within_or_not r.start r.len a) [
      | inl w ↦
          let end = r.start + r.len in
          let is : r.value ≡ v = same_Some r.value v (sym (value_at_in r rs a w.1 w.2) ∙ said a (omega arith)
          (omega arith)) in
          elim (cases_lt x end) [
            | inl k ↦ ((λ f. absurd (true_false (sym w.0 ∙ f))), far_apart x a end rs later k)
            | inr k ↦
                let next : value_at rs end ≡ Some v =
                sym (value_at_past r rs end (omega arith)) ∙ said end (omega (arith, w.2)) (omega arith) in
                let follow = subst (λ (q : Mapping). CanFollow same_mapping end q rs) is
                (canonical_follow same_mapping r rs h) in
                absurd (begins_alike end v rs rest follow later next)
          ]
      | inr w ↦
          elim w.1 [
            | inl k ↦
                absurd (none_some (sym (none_below same_mapping r rs a h k) ∙ said a (omega arith) (omega arith)))
            | inr k ↦ (
              (λ f. is_within-above r.start r.len x (omega arith)),
              apart rs a n v rest (λ y b c. sym (value_at_past r rs y (omega arith)) ∙ said y b c) x l m,
            )
          ]
    ]

says_apart : (x a : ℕ) (rs : List (AddressRun Mapping)) → AreApart x a rs → (n : ℕ) (o : Option Mapping)
    → says_after_all (map eviction (first_others (Some a) n rs)) x o ≡ o
says_apart x a rs s zero o = refl
says_apart x a [] s (suc n) o = refl
says_apart x a (r ∷ rs) s (suc n) o =
    elim (cases_Bool (is_within r.start r.len a)) [
      | inl t ↦ rw t (says_apart x a rs s.1 (suc n) o)
      | inr t ↦
          rw t (ap (says_after_all (map eviction (first_others (Some a) n rs)) x) (evicts_out r x o (s.0 t))
          ∙ says_apart x a rs s.1 n o)
    ]

pub set_stays : (iova to len x : ℕ) (permissions : Permissions) (t : Table) → iova + len < 2 ^ 64
    → covers (Set iova to len permissions) x ≡ true
    → says (changed (Set iova to len permissions) t) x ≡ says_after (Set iova to len permissions) x None
set_stays iova to len x permissions t fits h =
    let call : TableEvent = Set iova to len permissions in
    let v : Mapping = record { difference = difference iova to; permissions = permissions } in
    let inside = within_from iova len x h in
    let f : Says = λ y. says_after call y (says t y) in
    let said : (y : ℕ) → iova ≤ y → y < iova + len → value_at (called call t) y ≡ Some v =
    λ y a b. value_at-canonical_list f y (omega arith)
    ∙ cond-true (is_within iova len y) (Some v) (says t y) (is_within-in iova len y a b) in
    let one = apart (called call t) iova len v (canonical_canonical_list f) said x inside.0 inside.1 in
    says_changed call t x (omega arith)
    ∙ says_apart x iova (called call t) one (excess t.limit (length (called call t))) (f x)
    ∙ says_after-covered call x (says t x) h

-- ---- what holds of tables with a limit

pub none_or_same : (qs : List (AddressRun Mapping)) (x : ℕ) (o : Option Mapping)
    → (says_after_all (map eviction qs) x o ≡ None) ⊎ (says_after_all (map eviction qs) x o ≡ o)
none_or_same [] x o = inr refl
none_or_same (q ∷ qs) x o =
    elim (cases_Bool (is_within q.start q.len x)) [
      | inl t ↦ inl (ap (says_after_all (map eviction qs) x) (evicts_in q x o t) ∙ says_none qs x)
      | inr t ↦
          let same = ap (says_after_all (map eviction qs) x) (evicts_out q x o t) in
          elim (none_or_same qs x o) [ inl e ↦ inl (same ∙ e) | inr e ↦ inr (same ∙ e) ]
    ]

pub missed_or_said : (call : TableEvent) (t : Table) (x : ℕ) → x < 2 ^ 64
    → (says (changed call t) x ≡ None) ⊎ (says (changed call t) x ≡ says_after call x (says t x))
missed_or_said call t x l =
    elim (none_or_same (evicted call t.limit (called call t)) x (says_after call x (says t x))) [
      | inl e ↦ inl (says_changed call t x l ∙ e)
      | inr e ↦ inr (says_changed call t x l ∙ e)
    ]

pub unbounded_events : (call : TableEvent) (t : Table) → t.limit ≡ None → events call t ≡ call ∷ []
unbounded_events call t e =
    ap (λ (limit : Option ℕ). call ∷ map eviction (evicted call limit (called call t))) e

pub says_changed_by : (calls : List TableEvent) (t : Table) (x : ℕ) → x < 2 ^ 64
    → says (changed_by calls t) x ≡ says_after_all (events_of calls t) x (says t x)
says_changed_by [] t x l = refl
says_changed_by (call ∷ calls) t x l =
    says_changed_by calls (changed call t) x l
    ∙ ap (says_after_all (events_of calls (changed call t)) x) (says_changed call t x l)
    ∙ sym (says_after_all-append (events call t) (events_of calls (changed call t)) x (says t x))

pub limit_stays : (calls : List TableEvent) (t : Table) → (changed_by calls t).limit ≡ t.limit
limit_stays [] t = refl
limit_stays (call ∷ calls) t = limit_stays calls (changed call t)
