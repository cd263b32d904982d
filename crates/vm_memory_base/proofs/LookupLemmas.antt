-- Look-ups in the runs of a table.
use Rattle.std.proofs.Common.{◌≡◌, if◌then◌else◌, ℕ, ◌+◌, ◌-◌, ◌^◌, ◌<◌, ◌≤◌, min, max, Bool, true, false, cond, ◌&&◌, ◌||◌, ltb, leb, List, [], ◌∷◌, ◌++◌, length, map, Some, None, refl, sym, ap, subst, inl, inr, ◌⊎◌, ◌∙◌, arith}
use Rattle.std.proofs.lemmas.Bool.{lt-ltb, le-ltb, leb-true, and_parts, cases_lt, cases_Bool, or_cases}
use Rattle.std.proofs.lemmas.List.{append-nil}
use Rattle.std.specs.Iterator.{MakesProgress, item_count}
use Rattle.std.specs.List.{filter}
use Rattle.vm_memory_base.specs.Address.{is_within}
use Rattle.vm_memory_base.specs.Change.{EndBelow, StartFrom, IsKept, granted, gaps}
use Rattle.vm_memory_base.specs.Permissions.{allow}
use Rattle.vm_memory_base.specs.Runs.{AddressRun, IsCanonical, runs, value_at, cut_onto, cut_to}
use Rattle.vm_memory_base.specs.Table.{Mapping, same_mapping, target, Says, pieces, piece_of, grants, overruns, is_allowed, if_missing, forbids, range_of, misses, failures, reason}
use Rattle.vm_memory_base.specs.Walk.{HeadEndsAfter, IsWalk, pieces_left}
use Rattle.vm_memory_base.specs.declared.iotlb.Permissions.{Permissions}
use Rattle.vm_memory_base.specs.declared.iotlb.Permissions.TheVariants.{No}
use Rattle.vm_memory_base.specs.declared.iotlb.Reason.TheVariants.{MissingMapping, AccessNotAllowed}
use Rattle.vm_memory_base.proofs.ChangeLemmas.{StartFrom-weaker, tail_starts, canonical_gap, cut_to-append, cut_to-before, cut_to-behind}
use Rattle.vm_memory_base.proofs.RunsLaws.{run, canonical_pos, canonical_tail, within_or_not, is_within-in, is_within-below, is_within-above, none_below, value_at_in, value_at_past, same_from_values, canonical_runs, value_at-runs}
use Rattle.vm_memory_base.proofs.CutLaws.{runs-of_list}
use Rattle.vm_memory_base.proofs.SideLemmas.{canonical_prefix, canonical_suffix}
use Rattle.vm_memory_base.proofs.TableLaws.{same_mapping_tests_equality, is_allowed-each, failures-runs, pieces-kept, reason-by_no_access}

-- ---- whether a look-up succeeds

pub head_after : (r : AddressRun Mapping) (rs : List (AddressRun Mapping)) → IsCanonical same_mapping (r ∷ rs)
    → HeadEndsAfter (r.start + r.len) rs
head_after r [] h = tt
head_after r (s ∷ rs) h =
    let from = tail_starts same_mapping r (s ∷ rs) h in
    let pos = canonical_pos same_mapping s rs (canonical_tail same_mapping r (s ∷ rs) h) in
    omega arith

granted_parts : (at end : ℕ) (access : Permissions) (r : AddressRun Mapping) (rs : List (AddressRun Mapping))
    → granted at end access (r ∷ rs) ≡ true
    → (r.start ≤ at) × (allow r.value.permissions access ≡ true)
    × ((end ≤ r.start + r.len) ⊎ (granted (r.start + r.len) end access rs ≡ true))
granted_parts at end access r rs h =
    let p = and_parts (leb r.start at)
    (allow r.value.permissions access && (leb end (r.start + r.len) || granted (r.start + r.len) end access rs)) h in
    let q = and_parts (allow r.value.permissions access)
    (leb end (r.start + r.len) || granted (r.start + r.len) end access rs) p.1 in (
      leb-true r.start at p.0,
      q.0,
      elim (or_cases (leb end (r.start + r.len)) (granted (r.start + r.len) end access rs) q.1) [
        | inl l ↦ inl
            (leb-true end (r.start + r.len) l)
        | inr g ↦ inr g
      ],
    )

pub granted_each : (at end : ℕ) (access : Permissions) (rs : List (AddressRun Mapping))
    → granted at end access rs ≡ true → (x : ℕ) → at ≤ x → x < end → grants access (value_at rs x) ≡ true
granted_each at end access [] h x l m = let e = leb-true end at h in absurd (omega arith)
granted_each at end access (r ∷ rs) h x l m =
    let p = granted_parts at end access r rs h in
    elim (cases_lt x (r.start + r.len)) [
      | inl i ↦ rw (value_at_in r rs x (omega arith) i) p.1
      | inr i ↦
          elim p.2 [
            | inl e ↦ absurd (omega arith)
            | inr g ↦ rw (value_at_past r rs x i) (granted_each (r.start + r.len) end access rs g x i m)
          ]
    ]

-- where runs are not granted, some address is not
pub not_granted : (at end : ℕ) (access : Permissions) (rs : List (AddressRun Mapping)) → IsCanonical same_mapping rs
    → HeadEndsAfter at rs → at < end → granted at end access rs ≡ false
    → ((x : ℕ) → at ≤ x → x < end → grants access (value_at rs x) ≡ true) → ⊥
not_granted at end access [] h a l g each = let e = each at (omega arith) l in cc
not_granted at end access (r ∷ rs) h a l g each =
    let e = each at (omega arith) l in
    elim (cases_lt at r.start) [
      | inl b ↦ let f = rw (none_below same_mapping r rs at h b) at e in cc
      | inr b ↦
          let p : allow r.value.permissions access ≡ true = rw (value_at_in r rs at b a) at e in
          let low : leb r.start at ≡ true = grind (arith) in
          elim (cases_lt (r.start + r.len) end) [
            | inl m ↦
                let high : leb end (r.start + r.len) ≡ false = grind (arith) in
                let rest : granted (r.start + r.len) end access rs ≡ false = rw (low, p, high) at g in
                not_granted (r.start + r.len) end access rs (canonical_tail same_mapping r rs h)
                (head_after r rs h) m rest (λ x u v. rw (← value_at_past r rs x u) (each x (omega arith) v))
            | inr m ↦
                let high : leb end (r.start + r.len) ≡ true = grind (arith) in
                let full : true ≡ false = rw (low, p, high) at g in
                cc
          ]
    ]

-- runs that end by an address say nothing from there on
value_at-behind : (front rest : List (AddressRun Mapping)) (at x : ℕ) → EndBelow (at + 1) front → at ≤ x
    → value_at (front ++ rest) x ≡ value_at rest x
value_at-behind [] rest at x e l = refl
value_at-behind (r ∷ front) rest at x e l =
    value_at_past r (front ++ rest) x (omega arith) ∙ value_at-behind front rest at x e.1 l

-- and runs that start from one on say nothing before it
value_at-before : (rest behind : List (AddressRun Mapping)) (end x : ℕ) → StartFrom end behind → x < end
    → value_at (rest ++ behind) x ≡ value_at rest x
value_at-before [] [] end x s l = refl
value_at-before [] (r ∷ behind) end x s l =
    rw (is_within-below r.start r.len x (omega arith)) (value_at-before [] behind end x s.1 l)
value_at-before (r ∷ rest) behind end x s l = rw (value_at-before rest behind end x s l) refl

-- a look-up is allowed where the runs that have an address of its range are granted
pub allowed_is_granted : (rs asked : List (AddressRun Mapping)) (a n : ℕ) (access : Permissions)
    → ((x : ℕ) → a ≤ x → x < a + n → value_at rs x ≡ value_at asked x)
    → IsCanonical same_mapping asked → HeadEndsAfter a asked → 0 < n → a + n < 2 ^ 64
    → is_allowed (value_at rs) a n access ≡ granted a (a + n) access asked
allowed_is_granted rs asked a n access same h head some fits =
    elim (cases_Bool (granted a (a + n) access asked)) [
      | inl g ↦
          (is_allowed-each (value_at rs) a n access).1
          (inr (fits, λ x l u. rw (same x l u) (granted_each a (a + n) access asked g x l u))) ∙ sym g
      | inr g ↦
          elim (cases_Bool (is_allowed (value_at rs) a n access)) [
            | inl t ↦
                elim ((is_allowed-each (value_at rs) a n access).0 t) [
                  | inl z ↦ absurd (omega arith)
                  | inr each ↦
                      absurd (not_granted a (a + n) access asked h head (omega arith) g
                      (λ x l u. rw (← same x l u) (each.1 x l u)))
                ]
            | inr t ↦ t ∙ sym g
          ]
    ]

-- ---- the pieces

cut_later : (at next end : ℕ) (rs : List (AddressRun Mapping)) → at ≤ next → next ≤ end → StartFrom next rs
    → cut_to at (end - at) rs ≡ cut_to next (end - next) rs
cut_later at next end [] l m s = refl
cut_later at next end (r ∷ rs) l m s =
    let rest = cut_later at next end rs l m s.1 in
    let from : max at r.start ≡ r.start = omega arith in
    let from' : max next r.start ≡ r.start = omega arith in
    let to : at + (end - at) ≡ end = omega arith in
    let to' : next + (end - next) ≡ end = omega arith in
    rw (from, from', to, to') (ap (cut_onto r.start (min end (r.start + r.len)) r.value) rest)

pub cut_none : (at : ℕ) (rs : List (AddressRun Mapping)) → cut_to at 0 rs ≡ []
cut_none at [] = refl
cut_none at (r ∷ rs) =
    let none : ltb (max at r.start) (min (at + 0) (r.start + r.len)) ≡ false =
    le-ltb (max at r.start) (min (at + 0) (r.start + r.len)) (omega arith) in
    rw none (cut_none at rs)

-- the first piece, and those that follow it
pub cut_first : (at end next : ℕ) (r : AddressRun Mapping) (rs : List (AddressRun Mapping))
    → IsCanonical same_mapping (r ∷ rs) → r.start ≤ at → at < r.start + r.len → at < end
    → next ≡ min (r.start + r.len) end
    → cut_to at (end - at) (r ∷ rs) ≡ run at (next - at) r.value ∷ cut_to next (end - next) rs
cut_first at end next r rs h s e l is =
    let starts = tail_starts same_mapping r rs h in
    let rest = cut_later at next end rs (omega arith) (omega arith)
    (StartFrom-weaker next (r.start + r.len) rs (omega arith) starts) in
    let from : max at r.start ≡ at = omega arith in
    let to : min (at + (end - at)) (r.start + r.len) ≡ next = omega arith in
    let below : ltb at next ≡ true = lt-ltb at next (omega arith) in
    rw (from, to, below) (ap (λ (ys : List (AddressRun Mapping)). run at (next - at) r.value ∷ ys) rest)

-- ---- the gaps

gaps_begin : (at end : ℕ) (rs : List (AddressRun Mapping)) → StartFrom at (gaps at end rs)
gaps_begin at end [] =
    elim (cases_Bool (ltb at end)) [
      | inl t ↦ rw t (omega arith, tt)
      | inr t ↦ rw t tt
    ]
gaps_begin at end (r ∷ rs) =
    let rest = StartFrom-weaker at (max at (r.start + r.len)) (gaps (max at (r.start + r.len)) end rs) (omega arith)
    (gaps_begin (max at (r.start + r.len)) end rs) in
    elim (cases_Bool (ltb at (min r.start end))) [
      | inl t ↦ rw t (omega arith, rest)
      | inr t ↦ rw t rest
    ]

abbrev alike : Unit {0} → Unit {0} → Bool
alike j k = true

gaps_canonical : (at end : ℕ) (rs : List (AddressRun Mapping)) → IsCanonical same_mapping rs
    → IsCanonical alike (gaps at end rs)
gaps_canonical at end [] h =
    elim (cases_lt at end) [
      | inl l ↦ rw (lt-ltb at end l) (omega arith)
      | inr l ↦ rw (le-ltb at end l) tt
    ]
gaps_canonical at end (r ∷ rs) h =
    let pos = canonical_pos same_mapping r rs h in
    let next = max at (r.start + r.len) in
    let rest = gaps_canonical next end rs (canonical_tail same_mapping r rs h) in
    elim (cases_lt at (min r.start end)) [
      | inl l ↦
          let gap : AddressRun (Unit {0}) = run at (min r.start end - at) tt in
          let short : 0 < min r.start end - at = omega arith in
          let below : at + (min r.start end - at) < next = omega arith in
          rw (lt-ltb at (min r.start end) l)
          (canonical_gap alike next (gap ∷ []) (gaps next end rs) short (below, tt) rest (gaps_begin next end rs))
      | inr l ↦ rw (le-ltb at (min r.start end) l) rest
    ]

gap_values : (at end x : ℕ) (rs : List (AddressRun Mapping)) → IsCanonical same_mapping rs
    → value_at (gaps at end rs) x ≡ cond (is_within at (end - at) x) (if_missing (value_at rs x)) None
gap_values at end x [] h =
    elim (cases_lt at end) [
      | inl l ↦ rw (lt-ltb at end l)
      | inr l ↦ rw (le-ltb at end l, is_within-none at end x l)
    ]
  where
    is_within-none : (at end x : ℕ) → end ≤ at → is_within at (end - at) x ≡ false
    is_within-none at end x l =
        elim (within_or_not at (end - at) x) [
          | inl w ↦ absurd (omega arith)
          | inr w ↦ w.0
        ]
gap_values at end x (r ∷ rs) h =
    let next = max at (r.start + r.len) in
    let rest = gap_values next end x rs (canonical_tail same_mapping r rs h) in
    elim (within_or_not at (end - at) x) [
      | inl w ↦
          elim (cases_lt x r.start) [
            | inl b ↦
                let none = none_below same_mapping r rs x h b in
                let gap : is_within at (min r.start end - at) x ≡ true =
                is_within-in at (min r.start end - at) x w.1 (omega arith) in
                rw (lt-ltb at (min r.start end) (omega arith), gap, w.0, none)
            | inr b ↦
                elim (cases_lt x (r.start + r.len)) [
                  | inl i ↦
                      let there = value_at_in r rs x b i in
                      let out : is_within next (end - next) x ≡ false =
                      is_within-below next (end - next) x (omega arith) in
                      let e : value_at (gaps next end rs) x ≡ None = rw out at rest in
                      rw (w.0, there) (after_gap at (min r.start end) x (gaps next end rs) (omega arith) ∙ e)
                  | inr i ↦
                      let past = value_at_past r rs x i in
                      let inside : is_within next (end - next) x ≡ true =
                      is_within-in next (end - next) x (omega arith) (omega arith) in
                      let e : value_at (gaps next end rs) x ≡ if_missing (value_at rs x) = rw inside at rest in
                      rw (w.0, past) (after_gap at (min r.start end) x (gaps next end rs) (omega arith) ∙ e)
                ]
          ]
      | inr w ↦
          let out : is_within next (end - next) x ≡ false =
          elim (within_or_not next (end - next) x) [
            | inl v ↦ absurd (elim w.1 [ inl a ↦ omega arith | inr a ↦ omega arith ])
            | inr v ↦ v.0
          ] in
          let e : value_at (gaps next end rs) x ≡ None = rw out at rest in
          rw w.0 (elim w.1 [
            | inl a ↦ before_gap at (min r.start end) x (gaps next end rs) a ∙ e
            | inr a ↦ after_gap at (min r.start end) x (gaps next end rs) (omega arith) ∙ e
          ])
    ]
  where
    after_gap : (from to x : ℕ) (gs : List (AddressRun (Unit {0}))) → to ≤ x
        → value_at (cut_onto from to tt gs) x ≡ value_at gs x
    after_gap from to x gs l =
        elim (cases_lt from to) [
          | inl m ↦ rw (lt-ltb from to m, is_within-above from (to - from) x (omega arith))
          | inr m ↦ rw (le-ltb from to m)
        ]

    before_gap : (from to x : ℕ) (gs : List (AddressRun (Unit {0}))) → x < from
        → value_at (cut_onto from to tt gs) x ≡ value_at gs x
    before_gap from to x gs l =
        elim (cases_lt from to) [
          | inl m ↦ rw (lt-ltb from to m, is_within-below from (to - from) x l)
          | inr m ↦ rw (le-ltb from to m)
        ]

alike_decides : (j k : Unit {0}) → alike j k ≡ true → j ≡ k
alike_decides j k e = refl

-- what is missed are the gaps
pub misses_are_gaps : (rs : List (AddressRun Mapping)) (a n : ℕ) → IsCanonical same_mapping rs → overruns a n ≡ false
    → misses (value_at rs) a n ≡ map range_of (gaps a (a + n) rs)
misses_are_gaps rs a n h o =
    let len : a + n - a ≡ n = omega arith in
    let same = same_from_values alike (λ k. refl) (runs alike (λ x. if_missing (value_at rs x)) a n) (gaps a (a + n) rs)
    (canonical_runs alike alike_decides (λ x. if_missing (value_at rs x)) a n) (gaps_canonical a (a + n) rs h)
    (λ x. value_at-runs alike alike_decides (λ y. if_missing (value_at rs y)) a n x
    ∙ sym (rw len at (gap_values a (a + n) x rs h))) in
    rw o (ap (map range_of) same)

-- what fails are the runs that forbid the access, cut to what is asked for
pub failures_are_cut : (rs : List (AddressRun Mapping)) (a n : ℕ) (access : Permissions) → IsCanonical same_mapping rs
    → overruns a n ≡ false → failures (value_at rs) a n access
    ≡ map range_of (filter (λ r. forbids access r.value) (cut_to a n rs))
failures_are_cut rs a n access h o =
    failures-runs (value_at rs) a n access o
    ∙ ap (λ (ys : List (AddressRun Mapping)). map range_of (filter (λ r. forbids access r.value) ys))
    (runs-of_list same_mapping same_mapping_tests_equality.0 same_mapping_tests_equality.1 rs a n h)

-- ---- the runs that are asked for

gaps_over : (at end : ℕ) (rs : List (AddressRun Mapping)) → end ≤ at → gaps at end rs ≡ []
gaps_over at end [] l = rw (le-ltb at end l)
gaps_over at end (r ∷ rs) l =
    rw (le-ltb at (min r.start end) (omega arith)) (gaps_over (max at (r.start + r.len)) end rs (omega arith))

gaps_after : (at end : ℕ) (rs : List (AddressRun Mapping)) → StartFrom end rs → gaps at end rs ≡ gaps at end []
gaps_after at end [] s = refl
gaps_after at end (r ∷ rs) s =
    let to : min r.start end ≡ end = omega arith in
    rw (to, gaps_over (max at (r.start + r.len)) end rs (omega arith))

gaps_cut : (at end : ℕ) (rs behind : List (AddressRun Mapping)) → StartFrom end behind
    → gaps at end (rs ++ behind) ≡ gaps at end rs
gaps_cut at end [] behind s = gaps_after at end behind s
gaps_cut at end (r ∷ rs) behind s =
    ap (cut_onto at (min r.start end) tt) (gaps_cut (max at (r.start + r.len)) end rs behind s)

gaps_past : (at end : ℕ) (front rs : List (AddressRun Mapping)) → EndBelow (at + 1) front
    → gaps at end (front ++ rs) ≡ gaps at end rs
gaps_past at end [] rs e = refl
gaps_past at end (r ∷ front) rs e =
    let none : ltb at (min r.start end) ≡ false = le-ltb at (min r.start end) (omega arith) in
    let next : max at (r.start + r.len) ≡ at = omega arith in
    rw (none, next) (gaps_past at end front rs e.1)

-- ---- a step of a walk

walk_rest : (end : ℕ) (r : AddressRun Mapping) (rs : List (AddressRun Mapping)) → IsCanonical same_mapping (r ∷ rs)
    → r.start + r.len < end → ((end ≤ r.start + r.len) ⊎ (granted (r.start + r.len) end No rs ≡ true))
    → granted (r.start + r.len) end No rs ≡ true
walk_rest end r rs h l (inl m) = absurd (omega arith)
walk_rest end r rs h l (inr g) = g

-- the walk is at its first run, and then at what follows
pub walk_on : (at end next : ℕ) (r : AddressRun Mapping) (rs : List (AddressRun Mapping)) → IsWalk at end (r ∷ rs)
    → at < end → next ≡ min (r.start + r.len) end
    → (cut_to at (end - at) (r ∷ rs) ≡ run at (next - at) r.value ∷ cut_to next (end - next) rs) × (at < next)
    × IsWalk next end rs
walk_on at end next r rs w l is =
    let p = granted_parts at end No r rs (w.mapped l) in
    let head : at < r.start + r.len = w.head l in
    let later : next < end → next ≡ r.start + r.len = λ m. omega arith in (
      cut_first at end next r rs w.canonical p.0 head l is,
      omega arith,
      record {
        canonical = canonical_tail same_mapping r rs w.canonical;
        ordered = omega arith;
        mapped = λ m. rw (later m) (walk_rest end r rs w.canonical (omega arith) p.2);
        head = λ m. rw (later m) (head_after r rs w.canonical);
      },
    )

pub walk_ends : (at end : ℕ) (rs : List (AddressRun Mapping)) → end ≤ at → cut_to at (end - at) rs ≡ []
walk_ends at end rs l = let none : end - at ≡ 0 = omega arith in rw none (cut_none at rs)

or_true : (b : Bool) → (b || true) ≡ true
or_true true = refl
or_true false = refl

-- a walk of granted runs
pub walk_of_granted : (at end : ℕ) (access : Permissions) (rs : List (AddressRun Mapping)) → IsCanonical same_mapping rs
    → at ≤ end → granted at end access rs ≡ true → HeadEndsAfter at rs → IsWalk at end rs
walk_of_granted at end access rs h l g head =
    record { canonical = h; ordered = l; mapped = λ m. any_access at end access rs g; head = λ m. head }
  where
    any_access : (at end : ℕ) (access : Permissions) (rs : List (AddressRun Mapping)) → granted at end access rs ≡ true
        → granted at end No rs ≡ true
    any_access at end access [] g = g
    any_access at end access (r ∷ rs) g =
        let p = granted_parts at end access r rs g in
        let low : leb r.start at ≡ true = grind (arith) in
        elim p.2 [
          | inl m ↦ let high : leb end (r.start + r.len) ≡ true = grind (arith) in rw (low, high)
          | inr t ↦
              let rest = any_access (r.start + r.len) end access rs t in
              rw (low, rest) (or_true (leb end (r.start + r.len)))
        ]

-- an iterator that gave the first item of its list has fewer left
pub first_goes : {S A : Type 0} (rest : S → List A) (s t : S) (x : A) → rest s ≡ x ∷ rest t
    → MakesProgress (λ _. Unit {0}) (item_count rest) s (Some x) t
first_goes rest s t x gives =
    let fewer : length (rest t) < length (rest s) = rw gives (omega arith) in
    record { on = λ _. (tt, tt, fewer); keeps = tt; rests = λ _. tt }

-- ---- a look-up in a kept list

module _ (rs front asked behind : List (AddressRun Mapping)) (is : rs ≡ front ++ (asked ++ behind)) (k : IsKept rs)
    (a n end : ℕ) (sum : end ≡ a + n) (some : 0 < n) (fits : a + n < 2 ^ 64) (access : Permissions)
    (below : EndBelow (a + 1) front) (above : StartFrom end behind) (head : HeadEndsAfter a asked) where
  canonical : IsCanonical same_mapping asked
  canonical = canonical_prefix same_mapping asked behind
      (canonical_suffix same_mapping front (asked ++ behind) (subst (IsCanonical same_mapping) is k.canonical))

  no_overrun : overruns a n ≡ false
  no_overrun = le-ltb (2 ^ 64 - 1) (a + n) (omega arith)

  same : (x : ℕ) → a ≤ x → x < a + n → value_at rs x ≡ value_at asked x
  same x l u = ap (λ (ys : List (AddressRun Mapping)). value_at ys x) is
      ∙ value_at-behind front (asked ++ behind) a x below l ∙ value_at-before asked behind end x above (omega arith)

  cut : (b : ℕ) → b ≡ n → cut_to a b asked ≡ cut_to a n rs
  cut b e =
      let p = cut_to-before a n front below in
      let q = cut_to-behind a n behind (rw sum at above) in
      rw e (sym (ap (cut_to a n) is ∙ cut_to-append a n front (asked ++ behind)
      ∙ rw (p, cut_to-append a n asked behind, q) (append-nil (cut_to a n asked))))

  decided : is_allowed (value_at rs) a n access ≡ granted a end access asked
  decided = rw sum (allowed_is_granted rs asked a n access same canonical head some fits)

  pub looked_up : granted a end access asked ≡ true → (is_allowed (value_at rs) a n access ≡ true)
      × IsWalk a end asked × (pieces_left a end asked ≡ pieces (value_at rs) a n)
  looked_up g = (
    decided ∙ g,
    walk_of_granted a end access asked canonical (omega arith) g head,
    ap (map piece_of) (cut (end - a) (omega arith)) ∙ sym (pieces-kept rs a n k.canonical),
  )

  pub refused : granted a end access asked ≡ false → (is_allowed (value_at rs) a n access ≡ false)
      × (reason (value_at rs) a n ≡ (if granted a end No asked then AccessNotAllowed else MissingMapping))
  refused g = (
    decided ∙ g,
    reason-by_no_access (value_at rs) a n some no_overrun (granted a end No asked)
        (rw sum (allowed_is_granted rs asked a n No same canonical head some fits)),
  )

  pub looked_up_in_vain : granted a end access asked ≡ false → (is_allowed (value_at rs) a n access ≡ false)
      × (map range_of (gaps a end asked) ≡ misses (value_at rs) a n)
      × (map range_of (filter (λ r. forbids access r.value) (cut_to a (end - a) asked))
      ≡ failures (value_at rs) a n access)
  looked_up_in_vain g = (
    decided ∙ g,
    ap (map range_of)
        (sym (ap (gaps a end) is ∙ gaps_past a end front (asked ++ behind) below ∙ gaps_cut a end asked behind above))
        ∙ rw sum (sym (misses_are_gaps rs a n k.canonical no_overrun)),
    ap (λ (ys : List (AddressRun Mapping)). map range_of (filter (λ r. forbids access r.value) ys))
        (cut (end - a) (omega arith)) ∙ sym (failures_are_cut rs a n access k.canonical no_overrun),
  )

-- a look-up of addresses that one run has
pub one_run : (rs front behind : List (AddressRun Mapping)) (r : AddressRun Mapping)
    → rs ≡ front ++ (r ∷ [] ++ behind) → IsKept rs → (a n end : ℕ) → end ≡ a + n → 0 < n → a + n < 2 ^ 64
    → (access : Permissions) → EndBelow (a + 1) front → StartFrom end behind → r.start ≤ a → end ≤ r.start + r.len
    → allow r.value.permissions access ≡ true
    → IsWalk a end (r ∷ []) × (is_allowed (value_at rs) a n access ≡ true)
    × (pieces_left a end (r ∷ []) ≡ pieces (value_at rs) a n)
    × (pieces (value_at rs) a n ≡ record { base = target a r.value; len = n } ∷ [])
one_run rs front behind r is k a n end sum some fits access below above low high grant =
    let l : leb r.start a ≡ true = grind (arith) in
    let h : leb end (r.start + r.len) ≡ true = grind (arith) in
    let g : granted a end access (r ∷ []) ≡ true = rw (l, grant, h) refl in
    let told = looked_up rs front (r ∷ []) behind is k a n end sum some fits access below above (omega arith) g in
    let from : max a r.start ≡ a = omega arith in
    let to : min (a + (end - a)) (r.start + r.len) ≡ end = omega arith in
    let there : ltb a end ≡ true = lt-ltb a end (omega arith) in
    let len : end - a ≡ n = omega arith in
    let one : pieces_left a end (r ∷ []) ≡ record { base = target a r.value; len = n } ∷ [] =
    rw (from, to, there, len) refl in
    (told.1, told.0, told.2, sym told.2 ∙ one)

-- a look-up of no address
pub no_pieces : (f : Says) (a : ℕ) (access : Permissions) (n : ℕ) → n ≡ 0 → (is_allowed f a n access ≡ true)
    × (pieces f a n ≡ [])
unfolding runs
no_pieces f a access n z = (rw z refl, rw z refl)
