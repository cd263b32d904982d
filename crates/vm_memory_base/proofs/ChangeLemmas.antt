-- Runs before an address and after it, and the runs of a table after a change.
use Rattle.std.proofs.Common.{◌≡◌, ℕ, ◌+◌, ◌-◌, ◌^◌, ◌<◌, ◌≤◌, min, max, Bool, true, false, cond, ◌&&◌, ltb, eqb, List, [], ◌∷◌, ◌++◌, length, Option, Some, None, Result, Ok, Err, OnOk, OnErr, IfSome, refl, sym, ap, subst, inl, inr, ◌∙◌, arith}
use Rattle.std.proofs.lemmas.Bool.{lt-ltb, le-ltb, eqb-true, and_parts, and_cases, cases_lt, cases_Bool, eq-eqb}
use Rattle.std.proofs.lemmas.List.{append-nil, append_assoc}
use Rattle.vm_memory_base.specs.Address.{is_within}
use Rattle.vm_memory_base.specs.Change.{EndBelow, StartFrom, IsKept, if_any, prepended, prepended_if_any, with_run, without_range}
use Rattle.vm_memory_base.specs.Runs.{AddressRun, IsCanonical, value_at, cut_to}
use Rattle.vm_memory_base.specs.Table.{Mapping, same_mapping, Says, Set, Invalidate, says_after, canonical_list}
use Rattle.vm_memory_base.specs.declared.iotlb.Permissions.{Permissions}
use Rattle.vm_memory_base.proofs.RunsLaws.{run, either, CanFollow, canonical_cons, canonical_pos, canonical_follow, canonical_tail, within_or_not, is_within-in, is_within-below, is_within-above, is_within-join, value_at_in, value_at_past}
use Rattle.vm_memory_base.proofs.CutLaws.{value_at-cut_to, canonical_cut_to}
use Rattle.vm_memory_base.proofs.TableLaws.{same_mapping_tests_equality, canonical_list-agree, canonical_list-of_values, set_nothing, invalidate_nothing}

-- ---- where runs begin and end

pub EndBelow-weaker : {K : Type 0} (low high : ℕ) (rs : List (AddressRun K)) → low ≤ high → EndBelow low rs
    → EndBelow high rs
EndBelow-weaker low high [] l h = tt
EndBelow-weaker low high (r ∷ rs) l h = (omega arith, EndBelow-weaker low high rs l h.1)

pub StartFrom-weaker : {K : Type 0} (low high : ℕ) (rs : List (AddressRun K)) → low ≤ high → StartFrom high rs
    → StartFrom low rs
StartFrom-weaker low high [] l h = tt
StartFrom-weaker low high (r ∷ rs) l h = (omega arith, StartFrom-weaker low high rs l h.1)

pub StartFrom-zero : {K : Type 0} (rs : List (AddressRun K)) → StartFrom 0 rs
StartFrom-zero [] = tt
StartFrom-zero (r ∷ rs) = (omega arith, StartFrom-zero rs)

-- runs that can follow begin at the end or after it
pub later_starts : {K : Type 0} (same : K → K → Bool) (low end : ℕ) (k : K) (rs : List (AddressRun K)) → low ≤ end
    → CanFollow same end k rs → IsCanonical same rs → StartFrom low rs
later_starts same low end k [] l f h = tt
later_starts same low end k (s ∷ rs) l f h = (
  omega arith,
  later_starts same low (s.start + s.len) s.value rs (omega arith) (canonical_follow same s rs h)
      (canonical_tail same s rs h),
)

pub tail_starts : {K : Type 0} (same : K → K → Bool) (r : AddressRun K) (rs : List (AddressRun K))
    → IsCanonical same (r ∷ rs) → StartFrom (r.start + r.len) rs
tail_starts same r rs h =
    later_starts same (r.start + r.len) (r.start + r.len) r.value rs (omega arith) (canonical_follow same r rs h)
    (canonical_tail same r rs h)

-- ---- cuts

pub cut_to-append : {K : Type 0} (a n : ℕ) (xs ys : List (AddressRun K))
    → cut_to a n (xs ++ ys) ≡ cut_to a n xs ++ cut_to a n ys
cut_to-append a n [] ys = refl
cut_to-append a n (r ∷ xs) ys =
    let rest = cut_to-append a n xs ys in
    elim (cases_Bool (ltb (max a r.start) (min (a + n) (r.start + r.len)))) [
      | inl t ↦
          rw t (ap (λ (zs : List (AddressRun _)). run (max a r.start)
          (min (a + n) (r.start + r.len) - max a r.start) r.value ∷ zs) rest)
      | inr t ↦ rw t rest
    ]

-- runs inside the range stay
pub cut_to-inside : {K : Type 0} (same : K → K → Bool) (b m : ℕ) (rs : List (AddressRun K)) → IsCanonical same rs
    → StartFrom b rs → EndBelow (b + m + 1) rs → cut_to b m rs ≡ rs
cut_to-inside same b m [] h s e = refl
cut_to-inside {K} same b m (r ∷ rs) h s e =
    let pos = canonical_pos same r rs h in
    let rest = cut_to-inside same b m rs (canonical_tail same r rs h) s.1 e.1 in
    let from : max b r.start ≡ r.start = omega arith in
    let to : min (b + m) (r.start + r.len) ≡ r.start + r.len = omega arith in
    let len : r.start + r.len - r.start ≡ r.len = omega arith in
    let below : ltb r.start (r.start + r.len) ≡ true = lt-ltb r.start (r.start + r.len) (omega arith) in
    rw (from, to, below, len, rest)

-- runs before it and after it go
pub cut_to-before : {K : Type 0} (b m : ℕ) (rs : List (AddressRun K)) → EndBelow (b + 1) rs → cut_to b m rs ≡ []
cut_to-before b m [] e = refl
cut_to-before b m (r ∷ rs) e =
    let none : ltb (max b r.start) (min (b + m) (r.start + r.len)) ≡ false =
    le-ltb (max b r.start) (min (b + m) (r.start + r.len)) (omega arith) in
    rw none (cut_to-before b m rs e.1)

pub cut_to-behind : {K : Type 0} (b m : ℕ) (rs : List (AddressRun K)) → StartFrom (b + m) rs → cut_to b m rs ≡ []
cut_to-behind b m [] s = refl
cut_to-behind b m (r ∷ rs) s =
    let none : ltb (max b r.start) (min (b + m) (r.start + r.len)) ≡ false =
    le-ltb (max b r.start) (min (b + m) (r.start + r.len)) (omega arith) in
    rw none (cut_to-behind b m rs s.1)

pub ends-cut_to : {K : Type 0} (a n : ℕ) (rs : List (AddressRun K)) → EndBelow (a + n + 1) (cut_to a n rs)
ends-cut_to a n [] = tt
ends-cut_to a n (r ∷ rs) =
    let rest = ends-cut_to a n rs in
    elim (cases_lt (max a r.start) (min (a + n) (r.start + r.len))) [
      | inl l ↦ rw (lt-ltb (max a r.start) (min (a + n) (r.start + r.len)) l) (omega arith, rest)
      | inr l ↦ rw (le-ltb (max a r.start) (min (a + n) (r.start + r.len)) l) rest
    ]

pub starts-cut_to : {K : Type 0} (a n : ℕ) (rs : List (AddressRun K)) → StartFrom a (cut_to a n rs)
starts-cut_to a n [] = tt
starts-cut_to a n (r ∷ rs) =
    let rest = starts-cut_to a n rs in
    elim (cases_Bool (ltb (max a r.start) (min (a + n) (r.start + r.len)))) [
      | inl t ↦ rw t (omega arith, rest)
      | inr t ↦ rw t rest
    ]

-- ---- lists one after the other

abbrev or_else : {X : Type 0} → Option X → Option X → Option X
or_else None o = o
or_else (Some x) o = Some x

or_cond : {X : Type 0} (b : Bool) (x : X) (o p : Option X)
    → or_else (cond b (Some x) o) p ≡ cond b (Some x) (or_else o p)
or_cond true x o p = refl
or_cond false x o p = refl

or_none : {X : Type 0} (o : Option X) → or_else o None ≡ o
or_none None = refl
or_none (Some x) = refl

value_at-append : {K : Type 0} (xs ys : List (AddressRun K)) (x : ℕ)
    → value_at (xs ++ ys) x ≡ or_else (value_at xs x) (value_at ys x)
value_at-append [] ys x = refl
value_at-append (r ∷ xs) ys x =
    rw (value_at-append xs ys x) (sym (or_cond (is_within r.start r.len x) r.value (value_at xs x) (value_at ys x)))

-- runs that begin after those before them
pub canonical_gap : {K : Type 0} (same : K → K → Bool) (end : ℕ) (xs ys : List (AddressRun K)) → IsCanonical same xs
    → EndBelow end xs → IsCanonical same ys → StartFrom end ys → IsCanonical same (xs ++ ys)
canonical_gap same end [] ys h e g s = g
canonical_gap same end (r ∷ []) [] h e g s = h
canonical_gap same end (r ∷ []) (t ∷ ys) h e g s = (h, omega arith, λ touch. absurd (omega arith), g)
canonical_gap same end (r ∷ q ∷ xs) ys h e g s = (h.0, h.1, h.2, canonical_gap same end (q ∷ xs) ys h.3 e.1 g s)

-- the last run may be another that begins where it does and is mapped alike
pub canonical_last : {K : Type 0} (same : K → K → Bool) (xs : List (AddressRun K)) (l h : AddressRun K)
    (ys : List (AddressRun K)) → IsCanonical same (xs ++ l ∷ []) → h.start ≡ l.start → h.value ≡ l.value
    → IsCanonical same (h ∷ ys) → IsCanonical same (xs ++ h ∷ ys)
canonical_last same [] l h ys c s v g = g
canonical_last {K} same (r ∷ []) l h ys c s v g =
    (c.0, omega arith, λ touch. let f = c.2 (omega arith) in subst (λ (k : K). same r.value k ≡ false) (sym v) f, g)
canonical_last same (r ∷ q ∷ xs) l h ys c s v g = (c.0, c.1, c.2, canonical_last same (q ∷ xs) l h ys c.3 s v g)

-- ---- a run before others

joined_parts : (r s : AddressRun Mapping) → (eqb s.start (r.start + r.len) && same_mapping r.value s.value) ≡ true
    → (s.start ≡ r.start + r.len) × (r.value ≡ s.value)
joined_parts r s t =
    let p = and_parts (eqb s.start (r.start + r.len)) (same_mapping r.value s.value) t in
    (eqb-true s.start (r.start + r.len) p.0, same_mapping_tests_equality.0 r.value s.value p.1)

starts-prepended : (low : ℕ) (r : AddressRun Mapping) (rs : List (AddressRun Mapping)) → low ≤ r.start
    → StartFrom low rs → StartFrom low (prepended r rs)
starts-prepended low r [] l s = (l, tt)
starts-prepended low r (t ∷ rs) l s =
    elim (cases_Bool (eqb t.start (r.start + r.len) && same_mapping r.value t.value)) [
      | inl j ↦ rw j (l, s.1)
      | inr j ↦ rw j (l, s)
    ]

canonical-prepended : (r : AddressRun Mapping) (rs : List (AddressRun Mapping)) → 0 < r.len
    → IsCanonical same_mapping rs → StartFrom (r.start + r.len) rs → IsCanonical same_mapping (prepended r rs)
canonical-prepended r [] pos h s = pos
canonical-prepended r (t ∷ rs) pos h s =
    elim (cases_Bool (eqb t.start (r.start + r.len) && same_mapping r.value t.value)) [
      | inl j ↦
          let p = joined_parts r t j in
          let long = canonical_pos same_mapping t rs h in
          let end : r.start + (r.len + t.len) ≡ t.start + t.len = omega arith in
          let f : CanFollow same_mapping (r.start + (r.len + t.len)) r.value rs =
          rw (end, p.1) (canonical_follow same_mapping t rs h) in
          rw j (canonical_cons same_mapping (run r.start (r.len + t.len) r.value) rs (omega arith) f
          (canonical_tail same_mapping t rs h))
      | inr j ↦
          rw j (
            pos,
            s.0,
            λ touch. elim
                (and_cases (eqb t.start (r.start + r.len))
                (same_mapping r.value t.value) j) [
                  | inl apart ↦
                      let touches = eq-eqb t.start (r.start + r.len) (sym touch) in cc
                  | inr differs ↦ differs
                ],
            h,
          )
    ]

value_at-prepended : (r : AddressRun Mapping) (rs : List (AddressRun Mapping)) (x : ℕ)
    → value_at (prepended r rs) x ≡ cond (is_within r.start r.len x) (Some r.value) (value_at rs x)
value_at-prepended r [] x = refl
value_at-prepended r (t ∷ rs) x =
    elim (cases_Bool (eqb t.start (r.start + r.len) && same_mapping r.value t.value)) [
      | inl j ↦
          let p = joined_parts r t j in
          rw (j, is_within-join, p.0, p.1)
          (either (is_within r.start r.len x) (is_within (r.start + r.len) t.len x) (Some t.value) (value_at rs x))
      | inr j ↦ rw j
    ]

-- after the last run of a list that is joined to those after it
canonical_joined : (xs : List (AddressRun Mapping)) (l : AddressRun Mapping) (rs : List (AddressRun Mapping))
    → IsCanonical same_mapping (xs ++ l ∷ []) → IsCanonical same_mapping (prepended l rs)
    → IsCanonical same_mapping (xs ++ prepended l rs)
canonical_joined xs l [] c h = c
canonical_joined xs l (t ∷ rs) c h =
    elim (cases_Bool (eqb t.start (l.start + l.len) && same_mapping l.value t.value)) [
      | inl j ↦ rw j (canonical_last same_mapping xs l (run l.start (l.len + t.len) l.value) rs c refl refl (rw j at h))
      | inr j ↦ rw j (canonical_last same_mapping xs l l (t ∷ rs) c refl refl (rw j at h))
    ]

pub prepended-append : (r s : AddressRun Mapping) (xs ys : List (AddressRun Mapping))
    → prepended r (s ∷ xs) ++ ys ≡ prepended r (s ∷ xs ++ ys)
prepended-append r s xs ys =
    elim (cases_Bool (eqb s.start (r.start + r.len) && same_mapping r.value s.value)) [
      | inl j ↦ rw j
      | inr j ↦ rw j
    ]

prepended-apart : (r : AddressRun Mapping) (ys : List (AddressRun Mapping)) → StartFrom (r.start + r.len + 1) ys
    → prepended r ys ≡ r ∷ ys
prepended-apart r [] s = refl
prepended-apart r (t ∷ ys) s =
    elim (cases_Bool (eqb t.start (r.start + r.len) && same_mapping r.value t.value)) [
      | inl j ↦ let p = joined_parts r t j in absurd (omega arith)
      | inr j ↦ rw j
    ]

prepended_before : (r : AddressRun Mapping) (next : Option (AddressRun Mapping)) (ys : List (AddressRun Mapping))
    → StartFrom (r.start + r.len + 1) ys → prepended r (if_any next) ++ ys ≡ prepended r (if_any next ++ ys)
prepended_before r None ys s = sym (prepended-apart r ys s)
prepended_before r (Some n) ys s = prepended-append r n [] ys

-- ---- what a change makes of the runs of a table

within_before : (a x : ℕ) → x < a → is_within 0 a x ≡ true
within_before a x l = is_within-in 0 a x (omega arith) (omega arith)

-- what lies before a range, what the range is then, and what lies after it
says_parts : {X : Type 0} (a n x : ℕ) (old new : Option X) → a + n < 2 ^ 64 → (2 ^ 64 ≤ x → old ≡ None)
    → or_else (cond (is_within 0 a x) old None)
    (cond (is_within a n x) new (cond (is_within (a + n) (2 ^ 64 - (a + n)) x) old None))
    ≡ cond (is_within a n x) new old
says_parts a n x old new fits none =
    elim (within_or_not a n x) [
      | inl w ↦
          let out : is_within 0 a x ≡ false = is_within-above 0 a x (omega arith) in
          rw (w.0, out)
      | inr w ↦
          elim w.1 [
            | inl l ↦
                let inside = within_before a x l in
                let out : is_within (a + n) (2 ^ 64 - (a + n)) x ≡ false =
                is_within-below (a + n) (2 ^ 64 - (a + n)) x (omega arith) in
                rw (w.0, inside, out) (or_none old)
            | inr l ↦
                let out : is_within 0 a x ≡ false = is_within-above 0 a x (omega arith) in
                elim (cases_lt x (2 ^ 64)) [
                  | inl m ↦
                      let inside : is_within (a + n) (2 ^ 64 - (a + n)) x ≡ true =
                      is_within-in (a + n) (2 ^ 64 - (a + n)) x l (omega arith) in
                      rw (w.0, out, inside)
                  | inr m ↦
                      let e = none m in
                      let past : is_within (a + n) (2 ^ 64 - (a + n)) x ≡ false =
                      is_within-above (a + n) (2 ^ 64 - (a + n)) x (omega arith) in
                      rw (w.0, out, past) (sym e)
                ]
          ]
    ]

-- canonical, and it says this of each address
pub record SaysThen (f : Says) (rs : List (AddressRun Mapping)) : Type 0 where
  pub canonical : IsCanonical same_mapping rs
  pub values : (x : ℕ) → value_at rs x ≡ f x

-- runs say nothing of what lies after them
none_by : (rs : List (AddressRun Mapping)) (limit x : ℕ) → EndBelow limit rs → limit ≤ x + 1 → value_at rs x ≡ None
none_by [] limit x e l = refl
none_by (r ∷ rs) limit x e l = rw (is_within-above r.start r.len x (omega arith)) (none_by rs limit x e.1 l)

none_far : (rs : List (AddressRun Mapping)) → IsKept rs → (x : ℕ) → 2 ^ 64 ≤ x → value_at rs x ≡ None
none_far rs k x l = none_by rs (2 ^ 64) x k.ends (omega arith)

-- what is left of a table where a range of it goes
pub range_taken : (rs front back : List (AddressRun Mapping)) (a n : ℕ) → IsKept rs → 0 < n → a + n < 2 ^ 64
    → front ≡ cut_to 0 a rs → back ≡ cut_to (a + n) (2 ^ 64 - (a + n)) rs
    → SaysThen (λ x. cond (is_within a n x) None (value_at rs x)) (front ++ back)
range_taken rs front back a n k some fits f b =
    let far = 2 ^ 64 - (a + n) in
    record {
      canonical = rw (f, b) (canonical_gap same_mapping (a + n) (cut_to 0 a rs) (cut_to (a + n) far rs)
          (canonical_cut_to same_mapping 0 a rs k.canonical)
          (EndBelow-weaker (0 + a + 1) (a + n) (cut_to 0 a rs) (omega arith) (ends-cut_to 0 a rs))
          (canonical_cut_to same_mapping (a + n) far rs k.canonical) (starts-cut_to (a + n) far rs));
      values = λ x. rw (f, b, value_at-append, value_at-cut_to 0 a rs x, value_at-cut_to (a + n) far rs x)
          (empty_range a n x (value_at rs x) fits (none_far rs k x));
    }
  where
    empty_range : {X : Type 0} (a n x : ℕ) (old : Option X) → a + n < 2 ^ 64 → (2 ^ 64 ≤ x → old ≡ None)
        → or_else (cond (is_within 0 a x) old None) (cond (is_within (a + n) (2 ^ 64 - (a + n)) x) old None)
        ≡ cond (is_within a n x) None old
    empty_range a n x old fits none =
        elim (within_or_not a n x) [
          | inl w ↦
              let out : is_within (a + n) (2 ^ 64 - (a + n)) x ≡ false =
              is_within-below (a + n) (2 ^ 64 - (a + n)) x (omega arith) in
              let p = says_parts a n x old None fits none in
              let q = rw w.0 at p in
              rw (w.0, out) q
          | inr w ↦ let p = says_parts a n x old None fits none in let q = rw w.0 at p in rw w.0 q
        ]

-- a run in its place, where no run before it touches it
pub range_set : (rs front back : List (AddressRun Mapping)) (r : AddressRun Mapping) → IsKept rs → 0 < r.len
    → r.start + r.len < 2 ^ 64 → front ≡ cut_to 0 r.start rs → EndBelow r.start front
    → back ≡ cut_to (r.start + r.len) (2 ^ 64 - (r.start + r.len)) rs
    → SaysThen (λ x. cond (is_within r.start r.len x) (Some r.value) (value_at rs x)) (front ++ prepended r back)
range_set rs front back r k some fits f apart b =
    let far = 2 ^ 64 - (r.start + r.len) in
    let c : IsCanonical same_mapping back = rw b (canonical_cut_to same_mapping (r.start + r.len) far rs k.canonical) in
    let s : StartFrom (r.start + r.len) back = rw b (starts-cut_to (r.start + r.len) far rs) in
    let d : IsCanonical same_mapping front = rw f (canonical_cut_to same_mapping 0 r.start rs k.canonical) in
    record {
      canonical = canonical_gap same_mapping r.start front (prepended r back) d apart
          (canonical-prepended r back some c s)
          (starts-prepended r.start r back (omega arith)
          (StartFrom-weaker r.start (r.start + r.len) back (omega arith) s));
      values = λ x. rw (
        value_at-append front (prepended r back) x,
        value_at-prepended r back x,
        f,
        b,
        value_at-cut_to 0 r.start rs x,
        value_at-cut_to (r.start + r.len) far rs x,
      )
          (says_parts r.start r.len x (value_at rs x) (Some r.value) fits (none_far rs k x));
    }

-- a run in its place, which joins the last one before it where they are mapped alike
pub range_joined : (rs front back : List (AddressRun Mapping)) (l r : AddressRun Mapping) → IsKept rs → 0 < l.len
    → 0 < r.len → r.start + r.len < 2 ^ 64 → front ++ l ∷ [] ≡ cut_to 0 r.start rs → l.start + l.len ≡ r.start
    → back ≡ cut_to (r.start + r.len) (2 ^ 64 - (r.start + r.len)) rs
    → SaysThen (λ x. cond (is_within r.start r.len x) (Some r.value) (value_at rs x))
    (front ++ prepended l (prepended r back))
range_joined rs front back l r k some_l some fits f touch b =
    let far = 2 ^ 64 - (r.start + r.len) in
    let c : IsCanonical same_mapping back = rw b (canonical_cut_to same_mapping (r.start + r.len) far rs k.canonical) in
    let s : StartFrom (r.start + r.len) back = rw b (starts-cut_to (r.start + r.len) far rs) in
    let d : IsCanonical same_mapping (front ++ l ∷ []) =
    rw f (canonical_cut_to same_mapping 0 r.start rs k.canonical) in
    let e : StartFrom (l.start + l.len) (prepended r back) =
    starts-prepended (l.start + l.len) r back (omega arith)
    (StartFrom-weaker (l.start + l.len) (r.start + r.len) back (omega arith) s) in
    let later = canonical-prepended l (prepended r back) some_l (canonical-prepended r back some c s) e in
    record {
      canonical = canonical_joined front l (prepended r back) d later;
      values = λ x.
          let before : or_else (value_at front x) (cond (is_within l.start l.len x) (Some l.value) None)
          ≡ cond (is_within 0 r.start x) (value_at rs x) None =
          sym (value_at-append front (l ∷ []) x) ∙ ap (λ (ys : List (AddressRun Mapping)). value_at ys x) f
          ∙ value_at-cut_to 0 r.start rs x in
          rw (value_at-append front (prepended l (prepended r back)) x, value_at-prepended l (prepended r back) x)
          (regrouped (value_at front x) (is_within l.start l.len x) l.value (value_at (prepended r back) x)
          ∙ rw (before, value_at-prepended, b, value_at-cut_to)
          (says_parts r.start r.len x (value_at rs x) (Some r.value) fits (none_far rs k x)));
    }
  where
    regrouped : {X : Type 0} (o : Option X) (b : Bool) (v : X) (p : Option X)
        → or_else o (cond b (Some v) p) ≡ or_else (or_else o (cond b (Some v) None)) p
    regrouped None true v p = refl
    regrouped None false v p = refl
    regrouped (Some x) b v p = refl

-- ---- what is kept

ends_from_values : (limit : ℕ) (rs : List (AddressRun Mapping)) → IsCanonical same_mapping rs
    → ((x : ℕ) → limit ≤ x → value_at rs x ≡ None) → EndBelow (limit + 1) rs
ends_from_values limit [] h none = tt
ends_from_values limit (r ∷ rs) h none =
    let pos = canonical_pos same_mapping r rs h in
    elim (cases_lt limit (r.start + r.len)) [
      | inl l ↦
          let a = value_at_in r rs (r.start + r.len - 1) (omega arith) (omega arith) in
          let b = none (r.start + r.len - 1) (omega arith) in
          absurd (none_some (sym b ∙ a))
      | inr l ↦ (
        omega arith,
        ends_from_values limit rs (canonical_tail same_mapping r rs h)
            (λ x m. sym (value_at_past r rs x (omega arith)) ∙ none x m),
      )
    ]
  where
    none_some : {k : Mapping} → None ≡ Some k → ⊥
    none_some e = cc

-- a list that says of each address what is said after a change is kept, and is the canonical list of that
pub kept_after : (f : Says) (old new : List (AddressRun Mapping)) → IsKept old → SaysThen f new
    → ((x : ℕ) → 2 ^ 64 ≤ x + 1 → value_at old x ≡ None → f x ≡ None) → IsKept new × (new ≡ canonical_list f)
kept_after f old new k s none =
    let far : (x : ℕ) → 2 ^ 64 - 1 ≤ x → value_at new x ≡ None =
    λ x l. s.values x ∙ none x (omega arith) (none_by old (2 ^ 64) x k.ends (omega arith)) in (
      record { canonical = s.canonical; ends = ends_from_values (2 ^ 64 - 1) new s.canonical far },
      sym (canonical_list-of_values new s.canonical (λ x l. far x (omega arith)))
          ∙ canonical_list-agree (value_at new) f (λ x l. s.values x),
    )

-- ---- what `set` and `invalidate` make of a list

past_none : (old : List (AddressRun Mapping)) (a n x : ℕ) (v w : Option Mapping) → a + n < 2 ^ 64 → 2 ^ 64 ≤ x + 1
    → w ≡ None → cond (is_within a n x) v w ≡ None
past_none old a n x v w fits l e = rw (is_within-above a n x (omega arith)) e

-- the list that is put together of what lies before a run, of what joins it and of what lies after it
module _ (rs : List (AddressRun Mapping)) (k : IsKept rs) (r : AddressRun Mapping) (some : 0 < r.len)
    (fits : r.start + r.len < 2 ^ 64)
    (before after : List (AddressRun Mapping)) (right : Option (AddressRun Mapping))
    (apart : EndBelow r.start before)
    (back : if_any right ++ after ≡ cut_to (r.start + r.len) (2 ^ 64 - (r.start + r.len)) rs)
    (far : StartFrom (r.start + r.len + 1) after)
    (joined : AddressRun Mapping) (behind : Option (AddressRun Mapping))
    (is : joined ∷ if_any behind ≡ prepended r (if_any right)) where
  put_after : joined ∷ if_any behind ++ after ≡ prepended r (if_any right ++ after)
  put_after = ap (λ (ys : List (AddressRun Mapping)). ys ++ after) is ∙ prepended_before r right after far

  put_left : (left : Option (AddressRun Mapping))
      → prepended_if_any left (joined ∷ []) ++ (if_any behind ++ after)
      ≡ prepended_if_any left (prepended r (if_any right ++ after))
  put_left None = put_after
  put_left (Some l) = prepended-append l joined [] (if_any behind ++ after) ∙ ap (prepended l) put_after

  put_together : (left begun next : Option (AddressRun Mapping))
      → if_any begun ++ if_any next ≡ prepended_if_any left (joined ∷ [])
      → if_any begun ++ (if_any next ++ (if_any behind ++ after))
      ≡ prepended_if_any left (prepended r (if_any right ++ after))
  put_together left begun next e =
      sym (append_assoc (if_any begun) (if_any next) (if_any behind ++ after))
      ∙ ap (λ (ys : List (AddressRun Mapping)). ys ++ (if_any behind ++ after)) e ∙ put_left left

  pub run_is_set : (left : Option (AddressRun Mapping)) → before ++ if_any left ≡ cut_to 0 r.start rs
      → IfSome left (λ l. (0 < l.len) × (l.start + l.len ≡ r.start))
      → (begun next : Option (AddressRun Mapping))
      → if_any begun ++ if_any next ≡ prepended_if_any left (joined ∷ [])
      → (new : List (AddressRun Mapping))
      → new ≡ before ++ (if_any begun ++ (if_any next ++ (if_any behind ++ after)))
      → IsKept new × (new ≡ canonical_list (with_run r rs))
  run_is_set left front reaches begun next e new is_new =
      kept_after (with_run r rs) rs new k
      (subst (SaysThen (with_run r rs))
      (sym (is_new ∙ ap (λ (ys : List (AddressRun Mapping)). before ++ ys) (put_together left begun next e)))
      (says left front reaches))
      (λ x l w. past_none rs r.start r.len x (Some r.value) (value_at rs x) fits l w)
    where
      says : (left : Option (AddressRun Mapping)) → before ++ if_any left ≡ cut_to 0 r.start rs
          → IfSome left (λ l. (0 < l.len) × (l.start + l.len ≡ r.start))
          → SaysThen (with_run r rs)
          (before ++ prepended_if_any left (prepended r (if_any right ++ after)))
      says None front reaches =
          range_set rs before (if_any right ++ after) r k some fits (sym (append-nil before) ∙ front) apart back
      says (Some l) front reaches =
          range_joined rs before (if_any right ++ after) l r k reaches.0 some fits front reaches.1 back

-- a run in its place, where no other has any of its addresses or is to join it
pub run_is_alone : (rs front back : List (AddressRun Mapping)) (r : AddressRun Mapping) → IsKept rs → 0 < r.len
    → r.start + r.len < 2 ^ 64 → front ≡ cut_to 0 r.start rs
    → back ≡ cut_to (r.start + r.len) (2 ^ 64 - (r.start + r.len)) rs → IsCanonical same_mapping (front ++ r ∷ back)
    → (new : List (AddressRun Mapping)) → new ≡ front ++ r ∷ back
    → IsKept new × (new ≡ canonical_list (with_run r rs))
run_is_alone rs front back r k some fits f b h new is =
    let far = 2 ^ 64 - (r.start + r.len) in
    let told : SaysThen (with_run r rs) (front ++ r ∷ back) =
    record {
      canonical = h;
      values = λ x. rw (
        value_at-append front (r ∷ back) x,
        f,
        b,
        value_at-cut_to 0 r.start rs x,
        value_at-cut_to (r.start + r.len) far rs x,
      )
          (says_parts r.start r.len x (value_at rs x) (Some r.value) fits (none_far rs k x));
    } in
    kept_after (with_run r rs) rs new k (subst (SaysThen (with_run r rs)) (sym is) told)
    (λ x l w. past_none rs r.start r.len x (Some r.value) (value_at rs x) fits l w)

pub if_any_one : {X : Type 0} (o : Option X) → length (if_any o) ≤ 1
if_any_one None = omega arith
if_any_one (Some x) = omega arith

pub range_is_clear : (rs before after : List (AddressRun Mapping)) (a n : ℕ) (left right : Option (AddressRun Mapping))
    → IsKept rs → 0 < n → a + n < 2 ^ 64 → before ++ if_any left ≡ cut_to 0 a rs
    → if_any right ++ after ≡ cut_to (a + n) (2 ^ 64 - (a + n)) rs → (new : List (AddressRun Mapping))
    → new ≡ before ++ (if_any left ++ (if_any right ++ after))
    → IsKept new × (new ≡ canonical_list (without_range a n rs))
range_is_clear rs before after a n left right k some fits front back new is_new =
    let e : new ≡ (before ++ if_any left) ++ (if_any right ++ after) =
    is_new ∙ sym (append_assoc before (if_any left) (if_any right ++ after)) in
    kept_after (without_range a n rs) rs new k
    (subst (SaysThen (without_range a n rs)) (sym e)
    (range_taken rs (before ++ if_any left) (if_any right ++ after) a n k some fits front back))
    (λ x l w. past_none rs a n x None (value_at rs x) fits l w)

-- ---- answers of calls that may be refused

pub on_ok : {T E P Q : Type 0} (r : Result T E) → (P → Q) → OnOk r P → OnOk r Q
on_ok (Ok x) f h = f h
on_ok (Err e) f h = tt

pub on_err : {T E P Q : Type 0} (r : Result T E) → (P → Q) → OnErr r P → OnErr r Q
on_err (Ok x) f h = tt
on_err (Err e) f h = f h

pub either_way : {T E P Q S : Type 0} (r : Result T E) → OnOk r P → OnErr r Q → (P → S) → (Q → S) → S
either_way (Ok x) p q f g = f p
either_way (Err e) p q f g = g q

-- ---- a kept list, and what it says

pub kept_is_canonical : (rs : List (AddressRun Mapping)) → IsKept rs → canonical_list (value_at rs) ≡ rs
kept_is_canonical rs k = canonical_list-of_values rs k.canonical (λ x l. none_by rs (2 ^ 64) x k.ends (omega arith))

-- where what is said stays, so does the list
pub kept_stays : (rs : List (AddressRun Mapping)) (f : Says) → IsKept rs → ((x : ℕ) → f x ≡ value_at rs x)
    → rs ≡ canonical_list f
kept_stays rs f k same = sym (kept_is_canonical rs k) ∙ canonical_list-agree (value_at rs) f (λ x l. sym (same x))

pub nothing_said : canonical_list (λ x. None) ≡ []
nothing_said = canonical_list-of_values [] tt (λ x l. refl)

-- where the length of a call is 0, nothing is changed at any address
pub empty_set : (iova to len : ℕ) (permissions : Permissions) → len ≡ 0 → (x : ℕ) (old : Option Mapping)
    → says_after (Set iova to len permissions) x old ≡ old
empty_set iova to len permissions e x old = rw e (set_nothing iova to x permissions old)

pub empty_invalidate : (iova len : ℕ) → len ≡ 0 → (x : ℕ) (old : Option Mapping)
    → says_after (Invalidate iova len) x old ≡ old
empty_invalidate iova len e x old = rw e (invalidate_nothing iova x old)
