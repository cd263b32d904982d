-- Steps of a start: the batch that was returned, what is in flight, and its order.
use Rattle.std.proofs.Common.{◌≡◌, ℕ, zero, suc, ◌+◌, ◌*◌, ◌-◌, ◌^◌, ◌<◌, ◌≤◌, Bool, true, false, ◌&&◌, ◌||◌, cond, List, [], ◌∷◌, ◌++◌, length, get_or, Some, None, refl, sym, ap, ◌∙◌, inl, inr, arith}
use Rattle.std.proofs.lemmas.Bool.{and_right, cases_Bool, cases_eq, cases_order, eq-eqb, eqb-true, le-leb, leb-false, le-ltb, lt-leb, lt-ltb, ltb-false, ne_eqb, or_from, or_left, or_parts, or_right, both_ways}
use Rattle.std.proofs.lemmas.List.Folds.{list_any-append}
use Rattle.std.proofs.lemmas.List.Sums.{sum_by-cons, sum_by_push}
use Rattle.std.proofs.lemmas.List.Sorted.{All-permutation, sum_by-IsPermutation}
use Rattle.std.specs.Prelude.{map, nat_lt, nat_le, ◌==◌, All}
use Rattle.std.specs.List.{count_by, list_any}
use Rattle.std.specs.List.Sorted.{IsPermutation, IsSortedBy}
use Rattle.std.specs.Ordering.{is_lt, nat_cmp, ordering_then}
use Rattle.vhost_inflight.specs.Split.{counter_of, entry_of, is_in_flight}
use Rattle.vhost_inflight.specs.SplitBytes.{region_with}
use Rattle.vhost_inflight.specs.SplitStart.{IsInFlight, Rises, batch, difference, header_fault, is_among, rank, returned}
use Rattle.vhost_inflight.specs.declared.split_region.SplitEntry.{SplitEntry}
use Rattle.vhost_inflight.specs.declared.split_region.SplitHeader.{SplitHeader}
use Rattle.vhost_inflight.specs.declared.split_start.StartError.TheVariants as refused

-- ---- a batch

pub batch-step : (es : List SplitEntry) (n i next : ℕ) → i < n
    → batch es (n - i) next ≡ next ∷ batch es (n - (i + 1)) (entry_of es next).next
batch-step es n i next l = let e : n - i ≡ suc (n - (i + 1)) = omega arith in rw e refl

pub batch_refused : (es : List SplitEntry) (xs : List ℕ) (size count head i next : ℕ)
    → batch es count head ≡ xs ++ batch es (count - i) next → i < count → size ≤ next
    → list_any (λ h. nat_le size h) (batch es count head) ≡ true
batch_refused es xs size count head i next so_far l bad =
    rw (so_far, batch-step es count i next l)
    (list_any-append (λ h. nat_le size h) xs (next ∷ batch es (count - (i + 1)) (entry_of es next).next)
    ∙ or_right (list_any (λ h. nat_le size h) xs) (nat_le size next
    || list_any (λ h. nat_le size h) (batch es (count - (i + 1)) (entry_of es next).next))
    (or_left (nat_le size next) (list_any (λ h. nat_le size h) (batch es (count - (i + 1)) (entry_of es next).next))
    (le-leb size next bad)))

pub batch_more : (es : List SplitEntry) (xs : List ℕ) (count head i next : ℕ)
    → batch es count head ≡ xs ++ batch es (count - i) next → i < count
    → batch es count head ≡ (xs ++ next ∷ []) ++ batch es (count - (i + 1)) (entry_of es next).next
batch_more es xs count head i next so_far l =
    so_far ∙ (rw (batch-step es count i next l) (push_in xs next (batch es (count - (i + 1)) (entry_of es next).next)))
  where
    push_in : (xs : List ℕ) (y : ℕ) (zs : List ℕ) → xs ++ (y ∷ zs) ≡ (xs ++ y ∷ []) ++ zs
    push_in [] y zs = refl
    push_in (x ∷ xs) y zs = ap (λ (ys : List ℕ). x ∷ ys) (push_in xs y zs)

pub below_more : (size next : ℕ) (xs : List ℕ) → list_any (λ h. nat_le size h) xs ≡ false → next < size
    → list_any (λ h. nat_le size h) (xs ++ next ∷ []) ≡ false
below_more size next xs below l =
    list_any-append (λ h. nat_le size h) xs (next ∷ [])
    ∙ or_from (list_any (λ h. nat_le size h) xs) (nat_le size next || false) below
    (or_from (nat_le size next) false (lt-leb size next l) refl)

-- each head of a batch is one of the ring's
pub each_below : (size : ℕ) (xs : List ℕ) (i d : ℕ) → list_any (λ h. nat_le size h) xs ≡ false → i < length xs
    → get_or xs i d < size
each_below size [] i d below l = absurd (omega arith)
each_below size (x ∷ xs) zero d below l = leb-false size x (or_parts (nat_le size x) (list_any (λ h. nat_le size h) xs) below).0
each_below size (x ∷ xs) (suc i) d below l =
    each_below size xs i d (or_parts (nat_le size x) (list_any (λ h. nat_le size h) xs) below).1 (omega arith)

-- ---- counts and heads, before they are in order

-- how often a head is there
abbrev pub times : ℕ → List (ℕ × ℕ) → ℕ
times h ps = count_by (λ p. p.1 == h) ps

abbrev pub one_if : Bool → ℕ
one_if b = cond b 1 0

pub among-times : (h : ℕ) (ps : List (ℕ × ℕ)) → is_among h (map (λ p. p.1) ps) ≡ nat_lt 0 (times h ps)
among-times h [] = refl
among-times h (p ∷ ps) =
    let all : times h (p ∷ ps) ≡ one_if (p.1 == h) + times h ps =
    sum_by-cons (λ (p : ℕ × ℕ). cond (p.1 == h) 1 0) p ps in
    elim (cases_Bool (p.1 == h)) [
      | inl is ↦
          or_left (p.1 == h) (is_among h (map (λ p. p.1) ps)) is
          ∙ sym (lt-ltb 0 (times h (p ∷ ps)) (let some : one_if (p.1 == h) ≡ 1 = ap one_if is in omega arith))
      | inr isnt ↦
          let same : times h (p ∷ ps) ≡ times h ps =
          let none : one_if (p.1 == h) ≡ 0 = ap one_if isnt in omega arith in
          or_none (p.1 == h) (is_among h (map (λ p. p.1) ps)) isnt
          ∙ (among-times h ps ∙ sym (ap (λ (n : ℕ). nat_lt 0 n) same))
    ]
  where
    or_none : (a b : Bool) → a ≡ false → (a || b) ≡ b
    or_none a b e = rw e refl

-- one more head
pub times-push : (es : List SplitEntry) (ps : List (ℕ × ℕ)) (n c : ℕ)
    → ((h : ℕ) → times h ps ≡ one_if (nat_lt h n && is_in_flight es h)) → is_in_flight es n ≡ true
    → (h : ℕ) → times h (ps ++ (c, n) ∷ []) ≡ one_if (nat_lt h (n + 1) && is_in_flight es h)
times-push es ps n c so_far on h =
    let all : times h (ps ++ (c, n) ∷ []) ≡ times h ps + one_if (n == h) =
    sum_by_push (λ (p : ℕ × ℕ). cond (p.1 == h) 1 0) ps (c, n) in
    elim (cases_eq n h) [
      | inl is ↦
          let none : times h ps ≡ 0 = so_far h ∙ rw (le-ltb h n (omega arith)) refl in
          let now : is_in_flight es h ≡ true = rw is at on in
          rw (all, none, eq-eqb n h is, lt-ltb h (n + 1) (omega arith), now) refl
      | inr isnt ↦
          let more : nat_lt h (n + 1) ≡ nat_lt h n = next_of h n (λ e. isnt (sym e)) in
          let same : times h (ps ++ (c, n) ∷ []) ≡ times h ps =
          let none : one_if (n == h) ≡ 0 = ap one_if (ne_eqb n h isnt) in omega arith in
          rw (same, more) (so_far h)
    ]
  where
    next_of : (h n : ℕ) → (h ≡ n → ⊥) → nat_lt h (n + 1) ≡ nat_lt h n
    next_of h n ne = elim (cases_order h n) [
      | inl is ↦ absurd (ne is)
      | inr apart ↦ elim apart [
        | inl below ↦ lt-ltb h (n + 1) (omega arith) ∙ sym (lt-ltb h n below)
        | inr above ↦ le-ltb h (n + 1) (omega arith) ∙ sym (le-ltb h n (omega arith))
      ]
    ]

pub times-skip : (es : List SplitEntry) (ps : List (ℕ × ℕ)) (n : ℕ)
    → ((h : ℕ) → times h ps ≡ one_if (nat_lt h n && is_in_flight es h)) → is_in_flight es n ≡ false
    → (h : ℕ) → times h ps ≡ one_if (nat_lt h (n + 1) && is_in_flight es h)
times-skip es ps n so_far off h = elim (cases_order h n) [
  | inl is ↦
      let none : is_in_flight es h ≡ false = rw is off in
      so_far h ∙ rw none (ap one_if (and_right (nat_lt h n) false refl ∙ sym (and_right (nat_lt h (n + 1)) false refl)))
  | inr apart ↦ elim apart [
    | inl below ↦ so_far h ∙ rw (lt-ltb h n below, lt-ltb h (n + 1) (omega arith)) refl
    | inr above ↦ so_far h ∙ rw (le-ltb h n (omega arith), le-ltb h (n + 1) (omega arith)) refl
  ]
]

-- ---- in order

abbrev pub pair_lt : ℕ × ℕ → ℕ × ℕ → Bool
pair_lt x y = is_lt (ordering_then (nat_cmp x.0 y.0) (nat_cmp x.1 y.1))

-- what is not less by count and head has no smaller rank
pair_order : (a b c d : ℕ) → is_lt (ordering_then (nat_cmp c a) (nat_cmp d b)) ≡ false → b < 2 ^ 16
    → a * 2 ^ 16 + b ≤ c * 2 ^ 16 + d
pair_order a b c d not_less small = elim (cases_order a c) [
  | inl same ↦
      let no : nat_lt c a ≡ false = le-ltb c a (omega arith) in
      let heads : is_lt (nat_cmp d b) ≡ false = rw (no, eq-eqb c a (sym same)) at not_less in
      elim (cases_Bool (nat_lt d b)) [
        | inl less ↦ absurd (both_ways (is_lt (nat_cmp d b)) heads (rw less refl))
        | inr isnt ↦ let up = ltb-false d b isnt in omega arith
      ]
  | inr apart ↦ elim apart [
    | inl below ↦ omega arith
    | inr above ↦
        absurd (both_ways (is_lt (ordering_then (nat_cmp c a) (nat_cmp d b))) not_less (rw (lt-ltb c a above) refl))
  ]
]

-- pairs of a list are those of its entries
pub record AreOf (es : List SplitEntry) (ps : List (ℕ × ℕ)) : Type 0 where
  pub each : All (λ p. (p.0 ≡ counter_of es p.1) × (p.1 < 2 ^ 16)) ps

rest_of : (es : List SplitEntry) (p : ℕ × ℕ) (ps : List (ℕ × ℕ)) → AreOf es (p ∷ ps) → AreOf es ps
rest_of es p ps s = record { each = λ k d l. s.each (suc k) d (omega arith) }

pub sorted_rises : (es : List SplitEntry) (ps : List (ℕ × ℕ)) → IsSortedBy pair_lt ps → AreOf es ps
    → ((h : ℕ) → times h ps ≤ 1) → Rises es (map (λ p. p.1) ps)
sorted_rises es [] sorted s once = tt
sorted_rises es (p ∷ []) sorted s once = ((λ y a. absurd cc), tt)
sorted_rises es (p ∷ q ∷ ps) sorted s once =
    let first : (p.0 ≡ counter_of es p.1) × (p.1 < 2 ^ 16) = s.each 0 p (omega arith) in
    let second : (q.0 ≡ counter_of es q.1) × (q.1 < 2 ^ 16) = s.each 1 p (omega arith) in
    let order : pair_lt q p ≡ false = sorted 0 p (omega arith) (omega arith) in
    let up : p.0 * 2 ^ 16 + p.1 ≤ q.0 * 2 ^ 16 + q.1 = pair_order p.0 p.1 q.0 q.1 order first.1 in
    let all : (h : ℕ) → times h (p ∷ q ∷ ps) ≡ one_if (p.1 == h) + times h (q ∷ ps) =
    λ h. sum_by-cons (λ (p : ℕ × ℕ). cond (p.1 == h) 1 0) p (q ∷ ps) in
    let fewer : (h : ℕ) → times h (q ∷ ps) ≤ 1 =
    λ h. let e = all h in let o = once h in omega arith in
    let apart : p.1 ≡ q.1 → ⊥ = λ e.
    let two : times q.1 (p ∷ q ∷ ps) ≡ one_if (p.1 == q.1) + times q.1 (q ∷ ps) = all q.1 in
    let one : times q.1 (q ∷ ps) ≡ one_if (q.1 == q.1) + times q.1 ps =
    sum_by-cons (λ (p : ℕ × ℕ). cond (p.1 == q.1) 1 0) q ps in
    let first_is : one_if (p.1 == q.1) ≡ 1 = ap one_if (eq-eqb p.1 q.1 e) in
    let second_is : one_if (q.1 == q.1) ≡ 1 = ap one_if (eq-eqb q.1 q.1 refl) in
    let o = once q.1 in omega arith in
    let rises : Rises es (map (λ p. p.1) (q ∷ ps)) =
    sorted_rises es (q ∷ ps)
    (λ k d l u. let e : suc k + 1 ≡ suc (k + 1) = omega arith in rw e at (sorted (suc k) d (omega arith) (omega arith)))
    (rest_of es p (q ∷ ps) s) fewer in
    let strict : rank es p.1 < rank es q.1 =
    rw (sym first.0, sym second.0) (omega arith) in (
      (λ y a. elim (cases_Bool (q.1 == y)) [
        | inl is ↦ rw (sym (eqb-true q.1 y is)) strict
        | inr isnt ↦
            let later : is_among y (map (λ p. p.1) ps) ≡ true = rw isnt at a in
            let far : rank es q.1 < rank es y = rises.0 y later in omega arith
      ]),
      rises,
    )

-- the heads of sorted pairs are those in flight, in order
pub pairs_in_order : (es : List SplitEntry) (n : ℕ) (before after : List (ℕ × ℕ)) → length es ≡ n
    → ((h : ℕ) → times h before ≡ one_if (nat_lt h n && is_in_flight es h)) → AreOf es before
    → IsPermutation before after → IsSortedBy pair_lt after → IsInFlight es (map (λ p. p.1) after)
pairs_in_order es n before after len counts of moved sorted =
    let same : (h : ℕ) → times h after ≡ times h before =
    λ h. sum_by-IsPermutation (λ (p : ℕ × ℕ). cond (p.1 == h) 1 0) before after moved in
    record {
      each = λ h. among-times h after ∙ (rw (same h, counts h) (elim (cases_Bool (is_in_flight es h)) [
        | inl on ↦ rw (on, lt-ltb h n (in_range es n h len on)) refl
        | inr off ↦ rw (off, and_right (nat_lt h n) false refl) refl
      ]));
      order = sorted_rises es after sorted
          (record { each = All-permutation (λ p. (p.0 ≡ counter_of es p.1) × (p.1 < 2 ^ 16)) before after moved of.each })
          (λ h. rw (same h, counts h) (at_most_one (nat_lt h n && is_in_flight es h)));
    }
  where
    in_range : (es : List SplitEntry) (n h : ℕ) → length es ≡ n → is_in_flight es h ≡ true → h < n
    in_range [] n h len on = absurd cc
    in_range (e ∷ es) n zero len on = omega arith
    in_range (e ∷ es) n (suc h) len on = let rest = in_range es (length es) h refl on in omega arith

    at_most_one : (b : Bool) → one_if b ≤ 1
    at_most_one true = omega arith
    at_most_one false = omega arith

-- ---- what was returned

any_weaker : (size n : ℕ) (xs : List ℕ) → size ≤ n → list_any (λ h. nat_le size h) xs ≡ false
    → list_any (λ h. nat_le n h) xs ≡ false
any_weaker size n [] l none = refl
any_weaker size n (x ∷ xs) l none =
    let parts = or_parts (nat_le size x) (list_any (λ h. nat_le size h) xs) none in
    let below = leb-false size x parts.0 in
    or_from (nat_le n x) (list_any (λ h. nat_le n h) xs) (lt-leb n x (omega arith)) (any_weaker size n xs l parts.1)

pub returned_ok : (h : SplitHeader) (es : List SplitEntry) (n size used : ℕ) (hs : List ℕ) → h.version ≡ 1
    → h.desc_num ≡ n → difference used h.used_idx ≤ size → size ≤ length es
    → hs ≡ batch es (difference used h.used_idx) h.last_batch_head → list_any (λ h. nat_le size h) hs ≡ false
    → (hs ≡ returned (region_with h es) used) × (list_any (λ h. nat_le (length es) h) hs ≡ false)
    × (header_fault n size (region_with h es) used ≡ None)
returned_ok h es n size used hs version desc_num few fits is below =
    let tests : list_any (λ h. nat_le size h) (batch es (difference used h.used_idx) h.last_batch_head) ≡ false =
    ap (λ (hs : List ℕ). list_any (λ h. nat_le size h) hs) (sym is) ∙ below in (
      rw version is,
      any_weaker size (length es) hs fits below,
      rw version (rw (desc_num, eq-eqb n n refl) (rw (le-ltb size (difference used h.used_idx) few) (rw tests refl))),
    )

pub returned_err : (h : SplitHeader) (es : List SplitEntry) (n size used : ℕ) → h.version ≡ 1 → h.desc_num ≡ n
    → difference used h.used_idx ≤ size
    → list_any (λ h. nat_le size h) (batch es (difference used h.used_idx) h.last_batch_head) ≡ true
    → header_fault n size (region_with h es) used ≡ Some refused.Head
returned_err h es n size used version desc_num few tests =
    rw version (rw (desc_num, eq-eqb n n refl) (rw (le-ltb size (difference used h.used_idx) few) (rw tests refl)))
