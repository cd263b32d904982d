-- The laws of I/O tables and look-ups.
use Rattle.std.proofs.Common.{◌≡◌, if◌then◌else◌, ℕ, zero, suc, ◌+◌, ◌-◌, ◌^◌, ◌<◌, ◌≤◌, Bool, true, false, not, cond, ◌&&◌, ◌||◌, eqb, List, [], ◌∷◌, ◌++◌, map, Option, Some, None, is_some, refl, sym, ap, inl, inr, ◌⊎◌, ◌↔◌, ◌∙◌, add-one, arith}
use Rattle.std.proofs.lemmas.Bool.{or_left, ltb-false, or_cases, or_right, not-true, not_from_false, le-ltb, and_parts, and_from, cases_order, cases_Bool, eqb-true, eq-eqb}
use Rattle.std.proofs.lemmas.List.Sums.{sum_by-cons}
use Rattle.std.specs.List.{All, filter, flat_map, sum_by}
use Rattle.std.proofs.lemmas.List.Elements.{All-head, All-tail, filter_agree}
use Rattle.vm_memory_base.specs.Address.{step, numbers, difference, is_within}
use Rattle.vm_memory_base.specs.Permissions.{allow, same}
use Rattle.vm_memory_base.specs.Runs.{AddressRun, TestsEquality, with_address, with_value, runs, IsCanonical, value_at, cut_to}
use Rattle.vm_memory_base.specs.Table.{Mapping, same_mapping, target, Says, Table, says, TableEvent, Set, Invalidate, InvalidateAll, Evict, covers, says_after, says_after_all, new_table_after, canonical_list, grants, each, overruns, is_allowed, reason, Range, piece_of, pieces, addresses, target_if_any, forbids, range_of, if_missing, if_forbidden, misses, failures}
use Rattle.vm_memory_base.specs.declared.iotlb.Permissions.{Permissions}
use Rattle.vm_memory_base.specs.declared.iotlb.Permissions.TheVariants.{No}
use Rattle.vm_memory_base.specs.declared.iotlb.Reason.TheVariants.{MissingMapping, AccessNotAllowed}
use Rattle.vm_memory_base.proofs.RunsLaws.{is_within-in, is_within-above, is_within-join, is_within-none, within_or_not, same_from_values, canonical_runs, value_at-runs, runs_agree, agree_from_runs, runs-value_at, none_past}
use Rattle.vm_memory_base.proofs.CutLaws.{runs-of_list, runs-part, runs-none, none_from_runs, keep, runs-keep, total_len, total_len-value, within_run, numbers-runs}
use Rattle.vm_memory_base.proofs.PermissionsLaws.{same_decides, same_itself, allow-No}

-- ---- what calls make of what a table says

abbrev mapping : ℕ → Permissions → Mapping
mapping difference permissions = record { difference = difference; permissions = permissions }

same_mapping_decides : (m n : Mapping) → same_mapping m n ≡ true → m ≡ n
same_mapping_decides m n h =
    let p = and_parts (eqb m.difference n.difference) (same m.permissions n.permissions) h in
    ap (λ (d : ℕ). mapping d m.permissions) (eqb-true m.difference n.difference p.0)
    ∙ ap (λ (a : Permissions). mapping n.difference a) (same_decides m.permissions n.permissions p.1)

same_mapping_itself : (m : Mapping) → same_mapping m m ≡ true
same_mapping_itself m =
    and_from (eqb m.difference m.difference) (same m.permissions m.permissions) (eq-eqb m.difference m.difference refl)
    (same_itself m.permissions)

pub same_mapping_tests_equality : TestsEquality same_mapping
same_mapping_tests_equality = (same_mapping_decides, same_mapping_itself)

or_cond : {X : Type 0} (b c : Bool) (x y : X) → cond c x (cond b x y) ≡ cond (b || c) x y
or_cond true true x y = refl
or_cond true false x y = refl
or_cond false c x y = refl

-- a call says nothing of an address that it does not cover
pub says_after-not_covered : (call : TableEvent) (x : ℕ) (old : Option Mapping) → covers call x ≡ false
    → says_after call x old ≡ old
says_after-not_covered (Set iova to len permissions) x old h = rw h
says_after-not_covered (Invalidate iova len) x old h = rw h
says_after-not_covered InvalidateAll x old h = cc
says_after-not_covered (Evict iova len) x old h = rw h

-- of the others it says one thing, whatever was said before
pub says_after-covered : (call : TableEvent) (x : ℕ) (old : Option Mapping) → covers call x ≡ true
    → says_after call x old ≡ says_after call x None
says_after-covered (Set iova to len permissions) x old h = rw h
says_after-covered (Invalidate iova len) x old h = rw h
says_after-covered InvalidateAll x old h = refl
says_after-covered (Evict iova len) x old h = rw h

pub says_after-set : (iova to len x : ℕ) (permissions : Permissions) (old : Option Mapping)
    → is_within iova len x ≡ true
    → says_after (Set iova to len permissions) x old ≡ Some (mapping (difference iova to) permissions)
says_after-set iova to len x permissions old h = rw h

pub says_after-invalidate : (iova len x : ℕ) (old : Option Mapping) → is_within iova len x ≡ true
    → says_after (Invalidate iova len) x old ≡ None
says_after-invalidate iova len x old h = rw h

pub set_nothing : (iova to x : ℕ) (permissions : Permissions) (old : Option Mapping)
    → says_after (Set iova to 0 permissions) x old ≡ old
set_nothing iova to x permissions old = rw (is_within-none iova x)

pub invalidate_nothing : (iova x : ℕ) (old : Option Mapping) → says_after (Invalidate iova 0) x old ≡ old
invalidate_nothing iova x old = rw (is_within-none iova x)

-- the target of an address of a range that is set: as far from the first target as the address from the first address
pub target-set : (iova to x : ℕ) (permissions : Permissions) → iova < 2 ^ 64 → iova ≤ x
    → target x (mapping (difference iova to) permissions) ≡ step to (x - iova)
target-set iova to x permissions a b = omega arith

-- a run of addresses has a run of targets
pub target_steps : (x i : ℕ) (m : Mapping) → target (x + i) m ≡ step (target x m) i
target_steps x i m = omega arith

pub says_after_all-append : (earlier later : List TableEvent) (x : ℕ) (old : Option Mapping)
    → says_after_all (earlier ++ later) x old ≡ says_after_all later x (says_after_all earlier x old)
says_after_all-append [] later x old = refl
says_after_all-append (call ∷ calls) later x old = says_after_all-append calls later x (says_after call x old)

pub says_after_all-push : (calls : List TableEvent) (call : TableEvent) (x : ℕ) (old : Option Mapping)
    → says_after_all (calls ++ call ∷ []) x old ≡ says_after call x (says_after_all calls x old)
says_after_all-push calls call x old = says_after_all-append calls (call ∷ []) x old

pub says_after_all-none_covers : (calls : List TableEvent) (x : ℕ) (old : Option Mapping)
    → All (λ call. covers call x ≡ false) calls → says_after_all calls x old ≡ old
says_after_all-none_covers [] x old h = refl
says_after_all-none_covers (call ∷ calls) x old h =
    says_after_all-none_covers calls x (says_after call x old) (All-tail (λ call. covers call x ≡ false) call calls h)
    ∙ says_after-not_covered call x old (All-head (λ call. covers call x ≡ false) call calls h)

-- the last call that covers an address decides
pub last_decides : (earlier later : List TableEvent) (call : TableEvent) (x : ℕ) (old : Option Mapping)
    → covers call x ≡ true → All (λ other. covers other x ≡ false) later
    → says_after_all (earlier ++ call ∷ later) x old ≡ says_after call x None
last_decides earlier later call x old h g =
    says_after_all-append earlier (call ∷ later) x old
    ∙ (says_after_all-none_covers later x (says_after call x (says_after_all earlier x old)) g
    ∙ says_after-covered call x (says_after_all earlier x old) h)

-- ---- canonical lists of tables

pub canonical_list-agree : (f g : Says) → ((x : ℕ) → x < 2 ^ 64 → f x ≡ g x) → canonical_list f ≡ canonical_list g
canonical_list-agree f g h =
    runs_agree same_mapping same_mapping_decides same_mapping_itself f g 0 (2 ^ 64) (λ x a b. h x (omega arith))

pub agree_from_canonical_list : (f g : Says) → canonical_list f ≡ canonical_list g → (x : ℕ) → x < 2 ^ 64 → f x ≡ g x
agree_from_canonical_list f g e x h =
    agree_from_runs same_mapping same_mapping_decides f g 0 (2 ^ 64) e x (omega arith) (omega arith)

pub one_canonical_list : (rs ss : List (AddressRun Mapping)) → IsCanonical same_mapping rs → IsCanonical same_mapping ss
    → ((x : ℕ) → value_at rs x ≡ value_at ss x) → rs ≡ ss
one_canonical_list = same_from_values same_mapping same_mapping_itself

pub canonical_canonical_list : (f : Says) → IsCanonical same_mapping (canonical_list f)
canonical_canonical_list f = canonical_runs same_mapping same_mapping_decides f 0 (2 ^ 64)

pub value_at-canonical_list : (f : Says) (x : ℕ) → x < 2 ^ 64 → value_at (canonical_list f) x ≡ f x
value_at-canonical_list f x h =
    let w = is_within-in 0 (2 ^ 64) x (omega arith) (omega arith) in
    rw w at (value_at-runs same_mapping same_mapping_decides f 0 (2 ^ 64) x)

-- a kept list that is canonical and ends with the addresses is the canonical list of what it says
pub canonical_list-of_values : (rs : List (AddressRun Mapping)) → IsCanonical same_mapping rs
    → ((x : ℕ) → 2 ^ 64 ≤ x → value_at rs x ≡ None) → canonical_list (value_at rs) ≡ rs
canonical_list-of_values rs h none =
    runs-value_at same_mapping same_mapping_decides same_mapping_itself rs 0 (2 ^ 64) h (λ x out.
    elim (within_or_not 0 (2 ^ 64) x) [ inl w ↦ cc | inr w ↦ none x (omega arith) ])

pub canonical_list-value_at : (rs : List (AddressRun Mapping)) → IsCanonical same_mapping rs
    → All (λ r. r.start + r.len ≤ 2 ^ 64) rs → canonical_list (value_at rs) ≡ rs
canonical_list-value_at rs h end =
    canonical_list-of_values rs h (λ x l. none_past rs (2 ^ 64) x end l)

pub canonical_list-kept : (table : Table) → IsCanonical same_mapping table.ranges
    → All (λ r. r.start + r.len ≤ 2 ^ 64) table.ranges → canonical_list (says table) ≡ table.ranges
canonical_list-kept table = canonical_list-value_at table.ranges

-- a range that is set after another, with targets that follow, is one range with it
pub sets_join : (iova to m n x : ℕ) (permissions : Permissions) (old : Option Mapping) → iova + m ≤ 2 ^ 64
    → says_after_all (Set iova to m permissions ∷ Set (iova + m) (step to m) n permissions ∷ []) x old
    ≡ says_after (Set iova to (m + n) permissions) x old
sets_join iova to m n x permissions old h =
    let e : difference (iova + m) (step to m) ≡ difference iova to = omega arith in
    let w = is_within-join iova m n x in
    rw (e, w) (or_cond (is_within iova m x) (is_within (iova + m) n x)
    (Some (mapping (difference iova to) permissions)) old)

-- the canonical list of a new table in which one range is set
pub canonical_list-set : (iova to len : ℕ) (permissions : Permissions) → 0 < len → iova + len ≤ 2 ^ 64
    → canonical_list (new_table_after (Set iova to len permissions ∷ []))
    ≡ record { start = iova; len = len; value = mapping (difference iova to) permissions } ∷ []
canonical_list-set iova to len permissions pos h =
    canonical_list-of_values
    (record { start = iova; len = len; value = mapping (difference iova to) permissions } ∷ []) pos
    (λ x l. rw (is_within-above iova len x (omega arith)))

-- ---- look-ups

abbrev range : ℕ → ℕ → Range
range base len = record { base = base; len = len }

each_at : (test : Option Mapping → Bool) (f : Says) (a n : ℕ) → each test f a n ≡ true → (x : ℕ) → a ≤ x → x < a + n
    → test (f x) ≡ true
unfolding each
each_at test f a zero h x l m = absurd (omega arith)
each_at test f a (suc n) h x l m =
    let p = and_parts (test (f a)) (each test f (a + 1) n) h in
    elim (cases_order a x) [
      | inl e ↦ rw (← e) p.0
      | inr other ↦ each_at test f (a + 1) n p.1 x (omega arith) (omega arith)
    ]

each_from : (test : Option Mapping → Bool) (f : Says) (a n : ℕ) → ((x : ℕ) → a ≤ x → x < a + n → test (f x) ≡ true)
    → each test f a n ≡ true
unfolding each
each_from test f a zero h = refl
each_from test f a (suc n) h =
    and_from (test (f a)) (each test f (a + 1) n) (h a (omega arith) (omega arith))
    (each_from test f (a + 1) n (λ x l m. h x (omega arith) (omega arith)))

-- a test holds at each address exactly where it does by the function
pub each-true : (test : Option Mapping → Bool) (f : Says) (a n : ℕ) → (each test f a n ≡ true)
    ↔ ((x : ℕ) → a ≤ x → x < a + n → test (f x) ≡ true)
each-true test f a n = (each_at test f a n, each_from test f a n)

abbrev always : Unit {0} → Unit {0} → Bool
always x y = true

always_decides : (x y : Unit {0}) → always x y ≡ true → x ≡ y
always_decides x y h = refl

always_itself : (x : Unit {0}) → always x x ≡ true
always_itself x = refl

map_nil : {X Y : Type 0} (f : X → Y) (xs : List X) → map f xs ≡ [] → xs ≡ []
map_nil f [] h = refl
map_nil f (x ∷ xs) h = cc

is_missing : (v : Option Mapping) → is_some v ≡ true → if_missing v ≡ None
is_missing None h = cc
is_missing (Some m) h = refl

not_missing : (v : Option Mapping) → if_missing v ≡ None → is_some v ≡ true
not_missing None h = cc
not_missing (Some m) h = refl

is_granted : (access : Permissions) (v : Option Mapping) → if_missing v ≡ None → if_forbidden access v ≡ None
    → grants access v ≡ true
is_granted access None h g = cc
is_granted access (Some m) h g =
    elim (cases_Bool (allow m.permissions access)) [ inl t ↦ t | inr t ↦ let e = rw t at g in cc ]

granted_is_mapped : (access : Permissions) (v : Option Mapping) → grants access v ≡ true → if_missing v ≡ None
granted_is_mapped access None h = cc
granted_is_mapped access (Some m) h = refl

granted_is_permitted : (access : Permissions) (v : Option Mapping) → grants access v ≡ true
    → if_forbidden access v ≡ None
granted_is_permitted access None h = refl
granted_is_permitted access (Some m) h = rw h

-- nothing is missed where each address has a mapping
pub misses-none : (f : Says) (a n : ℕ) → (misses f a n ≡ []) ↔ ((overruns a n ≡ false) × (each is_some f a n ≡ true))
misses-none f a n =
    elim (cases_Bool (overruns a n)) [
      | inl t ↦ ((λ h. let e = rw t at h in cc), (λ (o, e). cc))
      | inr t ↦ (
        (λ h. (
          t,
          each_from is_some f a n
              (λ x l m. not_missing (f x)
              (none_from_runs always always_decides (λ y. if_missing (f y)) a n
              (map_nil range_of (runs always (λ y. if_missing (f y)) a n) (rw t at h)) x l m)),
        )),
        (λ (o, e). rw (
          t,
          runs-none always always_decides always_itself (λ y. if_missing (f y)) a n
              (λ x l m. is_missing (f x) (each_at is_some f a n e x l m)),
        )),
      )
    ]

failures-none : (f : Says) (a n : ℕ) (access : Permissions) → overruns a n ≡ false → (failures f a n access ≡ [])
    ↔ ((x : ℕ) → a ≤ x → x < a + n → if_forbidden access (f x) ≡ None)
failures-none f a n access t = (
  (λ h x l m. none_from_runs same_mapping same_mapping_decides (λ y. if_forbidden access (f y)) a n
      (map_nil range_of (runs same_mapping (λ y. if_forbidden access (f y)) a n) (rw t at h)) x l m),
  (λ h. rw (t, runs-none same_mapping same_mapping_decides same_mapping_itself (λ y. if_forbidden access (f y)) a n h)),
)

empty_is_inside : (a n : ℕ) → n ≡ 0 → (n ≡ 0 → a < 2 ^ 64) → overruns a n ≡ false
empty_is_inside a n e h = let l : a < 2 ^ 64 = h e in le-ltb (2 ^ 64 - 1) (a + n) (omega arith)

allowed_inside : (f : Says) (a n : ℕ) (access : Permissions) → (n ≡ 0 → a < 2 ^ 64) → is_allowed f a n access ≡ true
    → (overruns a n ≡ false) × (each (grants access) f a n ≡ true)
allowed_inside f a n access h t =
    elim (or_cases (eqb n 0) (not (overruns a n) && each (grants access) f a n) t) [
      | inl e ↦
          let z : n ≡ 0 = eqb-true n 0 e in
          (empty_is_inside a n z h, each_from (grants access) f a n (λ x l m. absurd (omega arith)))
      | inr e ↦
          let p = and_parts (not (overruns a n)) (each (grants access) f a n) e in (not-true (overruns a n) p.0, p.1)
    ]

inside_allowed : (f : Says) (a n : ℕ) (access : Permissions) → overruns a n ≡ false → each (grants access) f a n ≡ true
    → is_allowed f a n access ≡ true
inside_allowed f a n access o e =
    or_right (eqb n 0) (not (overruns a n) && each (grants access) f a n)
    (and_from (not (overruns a n)) (each (grants access) f a n) (not_from_false (overruns a n) o) e)

-- an access is allowed to no address, or where the end is an address and each address grants it
pub is_allowed-each : (f : Says) (a n : ℕ) (access : Permissions) → (is_allowed f a n access ≡ true)
    ↔ ((n ≡ 0) ⊎ ((a + n < 2 ^ 64) × ((x : ℕ) → a ≤ x → x < a + n → grants access (f x) ≡ true)))
is_allowed-each f a n access = (
  (λ t.
      elim (or_cases (eqb n 0) (not (overruns a n) && each (grants access) f a n) t) [
        | inl e ↦ inl (eqb-true n 0 e)
        | inr e ↦
            let p = and_parts (not (overruns a n)) (each (grants access) f a n) e in
            let inside = ltb-false (2 ^ 64 - 1) (a + n) (not-true (overruns a n) p.0) in
            inr (omega arith, each_at (grants access) f a n p.1)
      ]),
  (λ h.
      elim h [
        | inl e ↦ or_left (eqb n 0) (not (overruns a n) && each (grants access) f a n) (eq-eqb n 0 e)
        | inr g ↦
            let end : a + n < 2 ^ 64 = g.0 in
            inside_allowed f a n access (le-ltb (2 ^ 64 - 1) (a + n) (omega arith))
            (each_from (grants access) f a n g.1)
      ]),
)

-- a look-up is allowed where it has no miss and no failure
pub is_allowed-true : (f : Says) (a n : ℕ) (access : Permissions) → (n ≡ 0 → a < 2 ^ 64)
    → (is_allowed f a n access ≡ true) ↔ ((misses f a n ≡ []) × (failures f a n access ≡ []))
is_allowed-true f a n access h = (
  (λ t.
      let p = allowed_inside f a n access h t in (
        (misses-none f a n).1 (
          p.0,
          each_from is_some f a n
              (λ x l m. not_missing (f x) (granted_is_mapped access (f x) (each_at (grants access) f a n p.1 x l m))),
        ),
        (failures-none f a n access p.0).1
            (λ x l m. granted_is_permitted access (f x) (each_at (grants access) f a n p.1 x l m)),
      )),
  (λ (no_miss, no_failure).
      let p = (misses-none f a n).0 no_miss in
      inside_allowed f a n access p.0
      (each_from (grants access) f a n
      (λ x l m. is_granted access (f x) (is_missing (f x) (each_at is_some f a n p.1 x l m))
      ((failures-none f a n access p.0).0 no_failure x l m)))),
)

-- the reason for a refusal is a missing mapping where anything is missed
pub reason-no_miss : (f : Says) (a n : ℕ) → misses f a n ≡ [] → reason f a n ≡ AccessNotAllowed
reason-no_miss f a n h = let p = (misses-none f a n).0 h in rw (p.0, p.1)

pub reason-miss : (f : Says) (a n : ℕ) → (misses f a n ≡ [] → ⊥) → reason f a n ≡ MissingMapping
reason-miss f a n h =
    elim (cases_Bool (overruns a n)) [
      | inl t ↦ rw t
      | inr t ↦
          elim (cases_Bool (each is_some f a n)) [
            | inl e ↦ absurd (h ((misses-none f a n).1 (t, e)))
            | inr e ↦ rw (t, e)
          ]
    ]

grants_no_access : (m : Option Mapping) → grants No m ≡ is_some m
grants_no_access None = refl
grants_no_access (Some m) = allow-No m.permissions

each_is_mapped : (f : Says) (a n : ℕ) → each (grants No) f a n ≡ each is_some f a n
unfolding each
each_is_mapped f a zero = refl
each_is_mapped f a (suc n) = rw (grants_no_access (f a), each_is_mapped f (a + 1) n) refl

-- no access at all is refused where a mapping is missing, and nowhere else
pub reason-by_no_access : (f : Says) (a n : ℕ) → 0 < n → overruns a n ≡ false → (b : Bool) → is_allowed f a n No ≡ b
    → reason f a n ≡ (if b then AccessNotAllowed else MissingMapping)
reason-by_no_access f a n some o b h =
    let z : eqb n 0 ≡ false = grind (arith) in
    let e : each is_some f a n ≡ b = rw (z, o, each_is_mapped f a n) at h in
    elim (cases_Bool b) [
      | inl t ↦ rw (o, e, t) refl
      | inr t ↦ rw (o, e, t) refl
    ]

forbidden_is_kept : (access : Permissions) (v : Option Mapping) → if_forbidden access v ≡ keep (forbids access) v
forbidden_is_kept access None = refl
forbidden_is_kept access (Some m) = elim (cases_Bool (allow m.permissions access)) [ inl t ↦ rw t | inr t ↦ rw t ]

-- the failures are the asked runs whose mapping forbids the access
pub failures-runs : (f : Says) (a n : ℕ) (access : Permissions) → overruns a n ≡ false
    → failures f a n access ≡ map range_of (filter (λ r. forbids access r.value) (runs same_mapping f a n))
failures-runs f a n access t =
    rw t (ap (map range_of) (
    runs_agree same_mapping same_mapping_decides same_mapping_itself (λ x. if_forbidden access (f x))
    (λ x. keep (forbids access) (f x)) a n (λ x l m. forbidden_is_kept access (f x))
    ∙ runs-keep same_mapping same_mapping_decides same_mapping_itself (forbids access) f a n))

-- the runs of the asked addresses are the canonical list, cut to them
pub runs-canonical_list : (f : Says) (a n : ℕ) → a + n ≤ 2 ^ 64
    → runs same_mapping f a n ≡ cut_to a n (canonical_list f)
runs-canonical_list f a n h =
    runs-part same_mapping same_mapping_decides same_mapping_itself f a n 0 (2 ^ 64) (omega arith) (omega arith)

pub pieces-canonical_list : (f : Says) (a n : ℕ) → a + n ≤ 2 ^ 64
    → pieces f a n ≡ map piece_of (cut_to a n (canonical_list f))
pieces-canonical_list f a n h = ap (map piece_of) (runs-canonical_list f a n h)

pub pieces-kept : (rs : List (AddressRun Mapping)) (a n : ℕ) → IsCanonical same_mapping rs
    → pieces (value_at rs) a n ≡ map piece_of (cut_to a n rs)
pieces-kept rs a n h = ap (map piece_of) (runs-of_list same_mapping same_mapping_decides same_mapping_itself rs a n h)

-- ---- how many addresses a look-up has

lens-pieces : (rs : List (AddressRun Mapping)) → sum_by (λ r. r.len) (map piece_of rs) ≡ total_len rs
lens-pieces [] = refl
lens-pieces (r ∷ rs) =
    let a = sum_by-cons (λ (p : Range). p.len) (piece_of r) (map piece_of rs) in
    let b = sum_by-cons (λ (p : AddressRun Mapping). p.len) r rs in
    a ∙ (ap (λ (n : ℕ). r.len + n) (lens-pieces rs) ∙ sym b)

lens-ranges : {K : Type 0} (rs : List (AddressRun K)) → sum_by (λ r. r.len) (map range_of rs) ≡ total_len rs
lens-ranges [] = refl
lens-ranges {K} (r ∷ rs) =
    let a = sum_by-cons (λ (p : Range). p.len) (range_of r) (map range_of rs) in
    let b = sum_by-cons (λ (p : AddressRun K). p.len) r rs in
    a ∙ (ap (λ (n : ℕ). r.len + n) (lens-ranges rs) ∙ sym b)

one_or_other : (v : Option Mapping) → cond (is_some v) 1 0 + cond (is_some (if_missing v)) 1 0 ≡ 1
one_or_other None = refl
one_or_other (Some m) = refl

total_len-both : (f : Says) (a n : ℕ)
    → total_len (runs same_mapping f a n) + total_len (runs always (λ x. if_missing (f x)) a n) ≡ n
unfolding runs
total_len-both f a zero = refl
total_len-both f a (suc n) =
    let b = total_len-value same_mapping a (f a) (runs same_mapping f (a + 1) n) in
    let c = total_len-value always a (if_missing (f a)) (runs always (λ x. if_missing (f x)) (a + 1) n) in
    let d = total_len-both f (a + 1) n in
    let e = one_or_other (f a) in
    rw (b, c) (omega arith)

-- each address that is asked for lies in a piece or in a miss
pub lens-look_up : (f : Says) (a n : ℕ) → overruns a n ≡ false
    → sum_by (λ r. r.len) (pieces f a n) + sum_by (λ r. r.len) (misses f a n) ≡ n
lens-look_up f a n h =
    let p = lens-pieces (runs same_mapping f a n) in
    let m = lens-ranges (runs always (λ x. if_missing (f x)) a n) in
    let both = total_len-both f a n in
    rw (h, p, m) both

-- where each has a mapping the pieces have as many addresses as are asked for
pub lens-mapped : (f : Says) (a n : ℕ) → each is_some f a n ≡ true → sum_by (λ r. r.len) (pieces f a n) ≡ n
lens-mapped f a n h =
    let p = lens-pieces (runs same_mapping f a n) in
    let none = runs-none always always_decides always_itself (λ x. if_missing (f x)) a n
    (λ x l m. is_missing (f x) (each_at is_some f a n h x l m)) in
    let both = rw none at (total_len-both f a n) in
    rw p (omega (arith, both))

-- ---- where a look-up leads

step-next : (t i n : ℕ) → map (step t) (numbers (i + 1) n) ≡ map (step (step t 1)) (numbers i n)
step-next t i zero = refl
step-next t i (suc n) =
    let e : step t (i + 1) ≡ step (step t 1) i = omega arith in
    let rest = step-next t (i + 1) n in
    cc

addresses-more : (t len : ℕ) → t < 2 ^ 64 → addresses (range t (len + 1)) ≡ t ∷ addresses (range (step t 1) len)
addresses-more t len l =
    let e : step t 0 ≡ t = omega arith in
    let rest = step-next t 0 len in
    rw (add-one len) cc

step-target : (a : ℕ) (m : Mapping) → step (target a m) 0 ≡ target a m
step-target a m = omega arith

addresses_front : (a : ℕ) (m : Mapping) (rs : List (AddressRun Mapping))
    → flat_map addresses (map piece_of (with_address same_mapping a m rs)) ≡ target a m
    ∷ flat_map addresses (map piece_of rs)
addresses_front a m [] = let e = step-target a m in cc
addresses_front a m (r ∷ rs) =
    elim (cases_Bool (eqb r.start (a + 1) && same_mapping m r.value)) [
      | inl t ↦
          let p = and_parts (eqb r.start (a + 1)) (same_mapping m r.value) t in
          let e = eqb-true r.start (a + 1) p.0 in
          let v = same_mapping_decides m r.value p.1 in
          let q = ap (λ (x : ℕ). target x r.value) e
          ∙ (ap (λ (k : Mapping). target (a + 1) k) (sym v) ∙ target_steps a 1 m) in
          rw t (
          ap (λ (xs : List ℕ). xs ++ flat_map addresses (map piece_of rs))
          (addresses-more (target a m) r.len (omega arith))
          ∙ ap (λ (b : ℕ). target a m ∷ (addresses (range b r.len) ++ flat_map addresses (map piece_of rs))) (sym q))
      | inr t ↦
          rw t (ap (λ (b : ℕ). b ∷ (addresses (piece_of r) ++ flat_map addresses (map piece_of rs))) (step-target a m))
    ]

addresses_value : (a : ℕ) (v : Option Mapping) (rs : List (AddressRun Mapping))
    → flat_map addresses (map piece_of (with_value same_mapping a v rs)) ≡ target_if_any a v
    ++ flat_map addresses (map piece_of rs)
addresses_value a None rs = refl
addresses_value a (Some m) rs = addresses_front a m rs

-- the pieces are, address by address, the targets of what is asked for
pub addresses-pieces : (f : Says) (a n : ℕ)
    → flat_map addresses (pieces f a n) ≡ flat_map (λ x. target_if_any x (f x)) (numbers a n)
unfolding runs
addresses-pieces f a zero = refl
addresses-pieces f a (suc n) = addresses_value a (f a) (runs same_mapping f (a + 1) n)
    ∙ ap (λ (xs : List ℕ). target_if_any a (f a) ++ xs) (addresses-pieces f (a + 1) n)

numbers-ranges : {K : Type 0} (rs : List (AddressRun K))
    → flat_map (λ r. numbers r.base r.len) (map range_of rs) ≡ flat_map within_run rs
numbers-ranges [] = refl
numbers-ranges (r ∷ rs) = ap (λ (xs : List ℕ). numbers r.start r.len ++ xs) (numbers-ranges rs)

missing_or_not : (v : Option Mapping) → is_some (if_missing v) ≡ not (is_some v)
missing_or_not None = refl
missing_or_not (Some m) = refl

-- the misses are, address by address, what has no mapping
pub numbers-misses : (f : Says) (a n : ℕ) → overruns a n ≡ false
    → flat_map (λ r. numbers r.base r.len) (misses f a n) ≡ filter (λ x. not (is_some (f x))) (numbers a n)
numbers-misses f a n h =
    rw h (
    numbers-ranges (runs always (λ x. if_missing (f x)) a n)
    ∙ (numbers-runs always (λ x. if_missing (f x)) a n
    ∙ filter_agree (λ (x : ℕ). is_some (if_missing (f x))) (λ (x : ℕ). not (is_some (f x))) (λ x. missing_or_not (f x))
    (numbers a n)))

-- the failures are, address by address, what forbids the access
pub numbers-failures : (f : Says) (a n : ℕ) (access : Permissions) → overruns a n ≡ false
    → flat_map (λ r. numbers r.base r.len) (failures f a n access)
    ≡ filter (λ x. is_some (if_forbidden access (f x))) (numbers a n)
numbers-failures f a n access h =
    rw h (
    numbers-ranges (runs same_mapping (λ x. if_forbidden access (f x)) a n)
    ∙ numbers-runs same_mapping (λ x. if_forbidden access (f x)) a n)

-- tables are one where their limits and their ranges are
pub same_tables : (s t : Table) → s.limit ≡ t.limit → s.ranges ≡ t.ranges → s ≡ t
same_tables s t l r = ap (λ (n : Option ℕ). record s { limit = n }) l
    ∙ ap (λ (rs : List (AddressRun Mapping)). record t { ranges = rs }) r
