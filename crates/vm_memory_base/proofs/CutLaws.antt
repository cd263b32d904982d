-- The laws of runs that are cut to a range.
use Rattle.std.proofs.Common.{◌≡◌, ℕ, zero, suc, ◌+◌, ◌-◌, ◌<◌, ◌≤◌, min, max, Bool, true, false, cond, ◌&&◌, eqb, List, [], ◌∷◌, Option, Some, None, is_some, refl, sym, ap, inl, inr, ◌∙◌, add-one, arith}
use Rattle.std.proofs.lemmas.Bool.{lt-ltb, le-ltb, eqb-true, and_parts, cases_lt, cases_Bool}
use Rattle.std.proofs.lemmas.Bool.Decides.{nat_tests}
use Rattle.std.proofs.lemmas.List.Sums.{sum_by-cons}
use Rattle.std.specs.List.{filter, flat_map, sum_by}
use Rattle.vm_memory_base.specs.Address.{numbers, is_within}
use Rattle.vm_memory_base.specs.Runs.{AddressRun, with_address, with_value, runs, IsCanonical, value_at, cut_to}
use Rattle.vm_memory_base.proofs.RunsLaws.{CanFollow, canonical_cons, canonical_follow, canonical_pos, canonical_runs, canonical_tail, is_within-in, none_before, run, runs_agree, same_from_values, still_follows, value_at-runs, within_or_not}

-- ---- cut to a range

both_within : (a n b m x : ℕ)
    → is_within (max a b) (min (a + n) (b + m) - max a b) x ≡ (is_within a n x && is_within b m x)
both_within a n b m x = grind (arith, nat_tests)

both_empty : (a n b m x : ℕ) → min (a + n) (b + m) ≤ max a b → (is_within a n x && is_within b m x) ≡ false
both_empty a n b m x h = grind (arith, nat_tests)

alike_or_not : {X : Type 0} (b : Bool) (x : X) → x ≡ cond b x x
alike_or_not true x = refl
alike_or_not false x = refl

cut_head : {X : Type 0} (b c : Bool) (x : X) (y z : Option X) → z ≡ cond b y None
    → cond (b && c) (Some x) z ≡ cond b (cond c (Some x) y) None
cut_head true true x y z h = refl
cut_head true false x y z h = h
cut_head false c x y z h = h

cut_out : {X : Type 0} (b c : Bool) (x : X) (y z : Option X) → (b && c) ≡ false → z ≡ cond b y None
    → z ≡ cond b (cond c (Some x) y) None
cut_out true true x y z e h = cc
cut_out true false x y z e h = h
cut_out false c x y z e h = h

-- a list that is cut says what the list says, of the addresses in the range
pub value_at-cut_to : {K : Type 0} (a n : ℕ) (rs : List (AddressRun K)) (x : ℕ)
    → value_at (cut_to a n rs) x ≡ cond (is_within a n x) (value_at rs x) None
value_at-cut_to a n [] x = alike_or_not (is_within a n x) None
value_at-cut_to a n (r ∷ rs) x =
    let rest = value_at-cut_to a n rs x in
    elim (cases_lt (max a r.start) (min (a + n) (r.start + r.len))) [
      | inl l ↦
          rw (lt-ltb (max a r.start) (min (a + n) (r.start + r.len)) l, both_within a n r.start r.len x)
          (cut_head (is_within a n x) (is_within r.start r.len x) r.value (value_at rs x)
          (value_at (cut_to a n rs) x) rest)
      | inr l ↦
          rw (le-ltb (max a r.start) (min (a + n) (r.start + r.len)) l)
          (cut_out (is_within a n x) (is_within r.start r.len x) r.value (value_at rs x)
          (value_at (cut_to a n rs) x) (both_empty a n r.start r.len x l) rest)
    ]

follow_cut : {K : Type 0} (same : K → K → Bool) (a n end : ℕ) (k : K) (rs : List (AddressRun K))
    → CanFollow same end k rs → IsCanonical same rs → a < end → CanFollow same (min (a + n) end) k (cut_to a n rs)
follow_cut same a n end k [] f h l = tt
follow_cut same a n end k (s ∷ rs) f h l =
    let pos = canonical_pos same s rs h in
    elim (cases_lt (max a s.start) (min (a + n) (s.start + s.len))) [
      | inl m ↦ rw (lt-ltb (max a s.start) (min (a + n) (s.start + s.len)) m) (omega arith, λ touch. f.1 (omega arith))
      | inr m ↦
          rw (le-ltb (max a s.start) (min (a + n) (s.start + s.len)) m)
          (follow_cut same a n end k rs (still_follows same end k s rs f h) (canonical_tail same s rs h) l)
    ]

-- a canonical list that is cut is canonical
pub canonical_cut_to : {K : Type 0} (same : K → K → Bool) (a n : ℕ) (rs : List (AddressRun K)) → IsCanonical same rs
    → IsCanonical same (cut_to a n rs)
canonical_cut_to same a n [] h = tt
canonical_cut_to same a n (r ∷ rs) h =
    let rest = canonical_cut_to same a n rs (canonical_tail same r rs h) in
    elim (cases_lt (max a r.start) (min (a + n) (r.start + r.len))) [
      | inl l ↦
          let to : max a r.start + (min (a + n) (r.start + r.len) - max a r.start) ≡ min (a + n) (r.start + r.len) =
          omega arith in
          let follows = follow_cut same a n (r.start + r.len) r.value rs (canonical_follow same r rs h)
          (canonical_tail same r rs h) (omega arith) in
          rw (lt-ltb (max a r.start) (min (a + n) (r.start + r.len)) l)
          (canonical_cons same (run (max a r.start) (min (a + n) (r.start + r.len) - max a r.start) r.value)
          (cut_to a n rs) (omega arith) (rw to follows) rest)
      | inr l ↦ rw (le-ltb (max a r.start) (min (a + n) (r.start + r.len)) l) rest
    ]

-- the runs of what a canonical list says are that list, cut to the addresses asked for
pub runs-of_list : {K : Type 0} (same : K → K → Bool) (decides : (j k : K) → same j k ≡ true → j ≡ k)
    (itself : (k : K) → same k k ≡ true) (rs : List (AddressRun K)) (a n : ℕ) → IsCanonical same rs
    → runs same (value_at rs) a n ≡ cut_to a n rs
runs-of_list same decides itself rs a n h =
    same_from_values same itself (runs same (value_at rs) a n) (cut_to a n rs)
    (canonical_runs same decides (value_at rs) a n) (canonical_cut_to same a n rs h)
    (λ x. value_at-runs same decides (value_at rs) a n x ∙ sym (value_at-cut_to a n rs x))

-- the runs of a part are the runs of the whole, cut to the part
pub runs-part : {K : Type 0} (same : K → K → Bool) (decides : (j k : K) → same j k ≡ true → j ≡ k)
    (itself : (k : K) → same k k ≡ true) (f : ℕ → Option K) (a n b m : ℕ) → b ≤ a → a + n ≤ b + m
    → runs same f a n ≡ cut_to a n (runs same f b m)
runs-part same decides itself f a n b m l u =
    runs_agree same decides itself f (value_at (runs same f b m)) a n (λ x p q.
    let e = value_at-runs same decides f b m x in
    let w = is_within-in b m x (omega arith) (omega arith) in
    sym (rw w at e))
    ∙ runs-of_list same decides itself (runs same f b m) a n (canonical_runs same decides f b m)

-- where nothing has a value there is no run, and the other way about
pub runs-none : {K : Type 0} (same : K → K → Bool) (decides : (j k : K) → same j k ≡ true → j ≡ k)
    (itself : (k : K) → same k k ≡ true) (f : ℕ → Option K) (a n : ℕ) → ((x : ℕ) → a ≤ x → x < a + n → f x ≡ None)
    → runs same f a n ≡ []
runs-none same decides itself f a n none =
    same_from_values same itself (runs same f a n) [] (canonical_runs same decides f a n) tt (λ x.
    let p = value_at-runs same decides f a n x in
    elim (within_or_not a n x) [
      | inl w ↦ rw (p, w.0) (none x w.1 w.2)
      | inr w ↦ rw (p, w.0)
    ])

pub none_from_runs : {K : Type 0} (same : K → K → Bool) (decides : (j k : K) → same j k ≡ true → j ≡ k)
    (f : ℕ → Option K) (a n : ℕ) → runs same f a n ≡ [] → (x : ℕ) → a ≤ x → x < a + n → f x ≡ None
none_from_runs same decides f a n e x l m =
    let p = value_at-runs same decides f a n x in
    let w = is_within-in a n x l m in
    let v = rw (w, e) at p in
    sym v

-- ---- some of the runs

-- the value where it passes the test
abbrev pub keep : {K : Type 0} → (K → Bool) → Option K → Option K
keep test None = None
keep test (Some k) = cond (test k) (Some k) None

follow_filter : {K : Type 0} (same : K → K → Bool) (test : AddressRun K → Bool) (end : ℕ) (k : K)
    (rs : List (AddressRun K)) → CanFollow same end k rs → IsCanonical same rs → CanFollow same end k (filter test rs)
follow_filter same test end k [] f h = tt
follow_filter same test end k (s ∷ rs) f h =
    elim (cases_Bool (test s)) [
      | inl t ↦ rw t f
      | inr t ↦ rw t (follow_filter same test end k rs (still_follows same end k s rs f h) (canonical_tail same s rs h))
    ]

canonical_filter : {K : Type 0} (same : K → K → Bool) (test : AddressRun K → Bool) (rs : List (AddressRun K))
    → IsCanonical same rs → IsCanonical same (filter test rs)
canonical_filter same test [] h = tt
canonical_filter same test (r ∷ rs) h =
    let rest = canonical_filter same test rs (canonical_tail same r rs h) in
    elim (cases_Bool (test r)) [
      | inl t ↦
          rw t (canonical_cons same r (filter test rs) (canonical_pos same r rs h)
          (follow_filter same test (r.start + r.len) r.value rs (canonical_follow same r rs h)
          (canonical_tail same r rs h)) rest)
      | inr t ↦ rw t rest
    ]

value_at-filter : {K : Type 0} (same : K → K → Bool) (test : K → Bool) (rs : List (AddressRun K)) (x : ℕ)
    → IsCanonical same rs → value_at (filter (λ r. test r.value) rs) x ≡ keep test (value_at rs x)
value_at-filter same test [] x h = refl
value_at-filter same test (r ∷ rs) x h =
    let rest = value_at-filter same test rs x (canonical_tail same r rs h) in
    elim (within_or_not r.start r.len x) [
      | inl w ↦
          elim (cases_Bool (test r.value)) [
            | inl t ↦ rw (t, w.0, t)
            | inr t ↦
                let n = none_before same (r.start + r.len) r.value rs x (canonical_follow same r rs h)
                (canonical_tail same r rs h) w.2 in
                let e = rw n at rest in
                rw (t, w.0, t) e
          ]
      | inr w ↦
          elim (cases_Bool (test r.value)) [
            | inl t ↦ rw (t, w.0) rest
            | inr t ↦ rw (t, w.0) rest
          ]
    ]

keep_within : {K : Type 0} (test : K → Bool) (b : Bool) (v : Option K)
    → cond b (keep test v) None ≡ keep test (cond b v None)
keep_within test true v = refl
keep_within test false v = refl

-- the runs of the values that pass a test are those runs whose value passes
pub runs-keep : {K : Type 0} (same : K → K → Bool) (decides : (j k : K) → same j k ≡ true → j ≡ k)
    (itself : (k : K) → same k k ≡ true) (test : K → Bool) (f : ℕ → Option K) (a n : ℕ)
    → runs same (λ x. keep test (f x)) a n ≡ filter (λ r. test r.value) (runs same f a n)
runs-keep same decides itself test f a n =
    same_from_values same itself (runs same (λ x. keep test (f x)) a n) (filter (λ r. test r.value) (runs same f a n))
    (canonical_runs same decides (λ x. keep test (f x)) a n)
    (canonical_filter same (λ r. test r.value) (runs same f a n) (canonical_runs same decides f a n)) (λ x.
    value_at-runs same decides (λ y. keep test (f y)) a n x
    ∙ (keep_within test (is_within a n x) (f x)
    ∙ (ap (keep test) (sym (value_at-runs same decides f a n x))
    ∙ sym (value_at-filter same test (runs same f a n) x (canonical_runs same decides f a n)))))

-- ---- how many addresses runs have

abbrev pub total_len : {K : Type 0} → List (AddressRun K) → ℕ
total_len rs = sum_by (λ r. r.len) rs

total_len-cons : {K : Type 0} (r : AddressRun K) (rs : List (AddressRun K)) → total_len (r ∷ rs) ≡ r.len + total_len rs
total_len-cons r rs = sum_by-cons (λ r. r.len) r rs

total_len-front : {K : Type 0} (same : K → K → Bool) (a : ℕ) (k : K) (rs : List (AddressRun K))
    → total_len (with_address same a k rs) ≡ 1 + total_len rs
total_len-front same a k [] = total_len-cons (run a 1 k) []
total_len-front same a k (r ∷ rs) =
    let before = total_len-cons r rs in
    elim (cases_Bool (eqb r.start (a + 1) && same k r.value)) [
      | inl t ↦ let e = total_len-cons (run a (r.len + 1) k) rs in rw (t, e, before) (omega arith)
      | inr t ↦ rw t (total_len-cons (run a 1 k) (r ∷ rs))
    ]

-- one more address adds one where it has a value
pub total_len-value : {K : Type 0} (same : K → K → Bool) (a : ℕ) (v : Option K) (rs : List (AddressRun K))
    → total_len (with_value same a v rs) ≡ cond (is_some v) 1 0 + total_len rs
total_len-value same a None rs = omega arith
total_len-value same a (Some k) rs = total_len-front same a k rs

-- ---- runs, address by address

abbrev pub within_run : {K : Type 0} → AddressRun K → List ℕ
within_run r = numbers r.start r.len

numbers_front : {K : Type 0} (same : K → K → Bool) (a : ℕ) (k : K) (rs : List (AddressRun K))
    → flat_map within_run (with_address same a k rs) ≡ a ∷ flat_map within_run rs
numbers_front same a k [] = refl
numbers_front same a k (r ∷ rs) =
    elim (cases_Bool (eqb r.start (a + 1) && same k r.value)) [
      | inl t ↦
          let p = and_parts (eqb r.start (a + 1)) (same k r.value) t in
          let e = eqb-true r.start (a + 1) p.0 in
          rw (t, e, add-one r.len)
      | inr t ↦ rw t
    ]

numbers_value : {K : Type 0} (same : K → K → Bool) (a : ℕ) (v : Option K) (rs : List (AddressRun K))
    → flat_map within_run (with_value same a v rs)
    ≡ cond (is_some v) (a ∷ flat_map within_run rs) (flat_map within_run rs)
numbers_value same a None rs = refl
numbers_value same a (Some k) rs = numbers_front same a k rs

-- the runs have the addresses with a value
pub numbers-runs : {K : Type 0} (same : K → K → Bool) (f : ℕ → Option K) (a n : ℕ)
    → flat_map within_run (runs same f a n) ≡ filter (λ x. is_some (f x)) (numbers a n)
unfolding runs
numbers-runs same f a zero = refl
numbers-runs same f a (suc n) = numbers_value same a (f a) (runs same f (a + 1) n)
    ∙ ap (λ (xs : List ℕ). cond (is_some (f a)) (a ∷ xs) xs) (numbers-runs same f (a + 1) n)
