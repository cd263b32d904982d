-- Steps of a start: what is free, what is in flight and its order, and the chains.
use Rattle.std.proofs.Common.{◌≡◌, ℕ, zero, suc, ◌+◌, ◌*◌, ◌-◌, ◌^◌, ◌<◌, ◌≤◌, Bool, true, false, ◌&&◌, ◌||◌, cond, List, [], ◌∷◌, ◌++◌, length, get_or, set, Option, Some, None, refl, sym, ap, subst, ◌∙◌, inl, inr, arith, length-set}
use Rattle.std.proofs.lemmas.Bool.{and_right, cases_Bool, cases_eq, cases_order, eq-eqb, eqb-true, le-ltb, lt-ltb, ltb-false, ne_eqb, or_left, both_ways}
use Rattle.std.proofs.lemmas.Grind.{flat_map-append}
use Rattle.std.proofs.lemmas.List.{append-nil, drop_more, length-replicate, take_more}
use Rattle.std.proofs.lemmas.List.Concat.{flat_map-cons}
use Rattle.std.proofs.lemmas.List.Sums.{sum_by-cons, sum_by_push}
use Rattle.std.proofs.lemmas.List.Sorted.{All-permutation, sum_by-IsPermutation}
use Rattle.std.specs.Prelude.{drop, replicate, take, map, nat_lt, ◌==◌, All}
use Rattle.std.specs.List.{count_by, flat_map}
use Rattle.std.specs.List.Sorted.{IsPermutation, IsSortedBy}
use Rattle.std.specs.Ordering.{is_lt, nat_cmp, ordering_then}
use Rattle.vhost_inflight.specs.Packed.{PackedRegion, changed, counter_of, entry_of, is_in_flight}
use Rattle.vhost_inflight.specs.PackedStart.{IsInFlight, Opens, Rises, StartFails, chain_fault, chains_fault, cleared, free, free_list, free_seen, in_front, is_among, link_stores, linked, listed, nodes_of, num_of, opening_fault, or_else, or_none, rank, repeats, seen_too, settled, taken_entries, walk}
use Rattle.vhost_inflight.specs.declared.packed.PackedStore.TheVariants.{Next}
use Rattle.vhost_inflight.specs.declared.packed_region.PackedCopy.{PackedCopy}
use Rattle.vhost_inflight.specs.declared.packed_region.PackedEntry.{PackedEntry}
use Rattle.vhost_inflight.specs.declared.packed_region.PackedPosition.{PackedPosition}
use Rattle.vhost_inflight.specs.declared.packed_start.Opened.{Opened}
use Rattle.vhost_inflight.specs.declared.packed_error.PackedStartError.{PackedStartError}
use Rattle.vhost_inflight.proofs.PackedEntryLemmas.{rises_once}

-- ---- counts and heads, before they are in order

-- how often a head is there
abbrev pub times : ℕ → List (ℕ × ℕ) → ℕ
times h ps = count_by (λ p. p.1 == h) ps

abbrev pub one_if : Bool → ℕ
one_if b = cond b 1 0

pub among-times : (h : ℕ) (ps : List (ℕ × ℕ)) → is_among h (map (λ p. p.1) ps) ≡ nat_lt 0 (times h ps)
among-times h [] = refl
among-times h (p ∷ ps) =
    let all : times h (p ∷ ps) ≡ one_if (p.1 == h) + times h ps =
    sum_by-cons (λ (p : ℕ × ℕ). cond (p.1 == h) 1 0) p ps in
    elim (cases_Bool (p.1 == h)) [
      | inl is ↦
          or_left (p.1 == h) (is_among h (map (λ p. p.1) ps)) is
          ∙ sym (lt-ltb 0 (times h (p ∷ ps)) (let some : one_if (p.1 == h) ≡ 1 = ap one_if is in omega arith))
      | inr isnt ↦
          let same : times h (p ∷ ps) ≡ times h ps =
          let none : one_if (p.1 == h) ≡ 0 = ap one_if isnt in omega arith in
          or_none (p.1 == h) (is_among h (map (λ p. p.1) ps)) isnt
          ∙ (among-times h ps ∙ sym (ap (λ (n : ℕ). nat_lt 0 n) same))
    ]
  where
    or_none : (a b : Bool) → a ≡ false → (a || b) ≡ b
    or_none a b e = rw e refl

-- one more head
pub times-push : (es : List PackedEntry) (ps : List (ℕ × ℕ)) (n c : ℕ)
    → ((h : ℕ) → times h ps ≡ one_if (nat_lt h n && is_in_flight es h)) → is_in_flight es n ≡ true
    → (h : ℕ) → times h (ps ++ (c, n) ∷ []) ≡ one_if (nat_lt h (n + 1) && is_in_flight es h)
times-push es ps n c so_far on h =
    let all : times h (ps ++ (c, n) ∷ []) ≡ times h ps + one_if (n == h) =
    sum_by_push (λ (p : ℕ × ℕ). cond (p.1 == h) 1 0) ps (c, n) in
    elim (cases_eq n h) [
      | inl is ↦
          let none : times h ps ≡ 0 = so_far h ∙ rw (le-ltb h n (omega arith)) refl in
          let now : is_in_flight es h ≡ true = rw is at on in
          rw (all, none, eq-eqb n h is, lt-ltb h (n + 1) (omega arith), now) refl
      | inr isnt ↦
          let more : nat_lt h (n + 1) ≡ nat_lt h n = next_of h n (λ e. isnt (sym e)) in
          let same : times h (ps ++ (c, n) ∷ []) ≡ times h ps =
          let none : one_if (n == h) ≡ 0 = ap one_if (ne_eqb n h isnt) in omega arith in
          rw (same, more) (so_far h)
    ]
  where
    next_of : (h n : ℕ) → (h ≡ n → ⊥) → nat_lt h (n + 1) ≡ nat_lt h n
    next_of h n ne = elim (cases_order h n) [
      | inl is ↦ absurd (ne is)
      | inr apart ↦ elim apart [
        | inl below ↦ lt-ltb h (n + 1) (omega arith) ∙ sym (lt-ltb h n below)
        | inr above ↦ le-ltb h (n + 1) (omega arith) ∙ sym (le-ltb h n (omega arith))
      ]
    ]

pub times-skip : (es : List PackedEntry) (ps : List (ℕ × ℕ)) (n : ℕ)
    → ((h : ℕ) → times h ps ≡ one_if (nat_lt h n && is_in_flight es h)) → is_in_flight es n ≡ false
    → (h : ℕ) → times h ps ≡ one_if (nat_lt h (n + 1) && is_in_flight es h)
times-skip es ps n so_far off h = elim (cases_order h n) [
  | inl is ↦
      let none : is_in_flight es h ≡ false = rw is off in
      so_far h ∙ rw none (ap one_if (and_right (nat_lt h n) false refl ∙ sym (and_right (nat_lt h (n + 1)) false refl)))
  | inr apart ↦ elim apart [
    | inl below ↦ so_far h ∙ rw (lt-ltb h n below, lt-ltb h (n + 1) (omega arith)) refl
    | inr above ↦ so_far h ∙ rw (le-ltb h n (omega arith), le-ltb h (n + 1) (omega arith)) refl
  ]
]

-- ---- in order

abbrev pub pair_lt : ℕ × ℕ → ℕ × ℕ → Bool
pair_lt x y = is_lt (ordering_then (nat_cmp x.0 y.0) (nat_cmp x.1 y.1))

-- what is not less by count and head has no smaller rank
pair_order : (a b c d : ℕ) → is_lt (ordering_then (nat_cmp c a) (nat_cmp d b)) ≡ false → b < 2 ^ 16
    → a * 2 ^ 16 + b ≤ c * 2 ^ 16 + d
pair_order a b c d not_less small = elim (cases_order a c) [
  | inl same ↦
      let no : nat_lt c a ≡ false = le-ltb c a (omega arith) in
      let heads : is_lt (nat_cmp d b) ≡ false = rw (no, eq-eqb c a (sym same)) at not_less in
      elim (cases_Bool (nat_lt d b)) [
        | inl less ↦ absurd (both_ways (is_lt (nat_cmp d b)) heads (rw less refl))
        | inr isnt ↦ let up = ltb-false d b isnt in omega arith
      ]
  | inr apart ↦ elim apart [
    | inl below ↦ omega arith
    | inr above ↦
        absurd (both_ways (is_lt (ordering_then (nat_cmp c a) (nat_cmp d b))) not_less (rw (lt-ltb c a above) refl))
  ]
]

-- pairs of a list are those of its entries
pub record AreOf (es : List PackedEntry) (ps : List (ℕ × ℕ)) : Type 0 where
  pub each : All (λ p. (p.0 ≡ counter_of es p.1) × (p.1 < 2 ^ 16)) ps

rest_of : (es : List PackedEntry) (p : ℕ × ℕ) (ps : List (ℕ × ℕ)) → AreOf es (p ∷ ps) → AreOf es ps
rest_of es p ps s = record { each = λ k d l. s.each (suc k) d (omega arith) }

pub sorted_rises : (es : List PackedEntry) (ps : List (ℕ × ℕ)) → IsSortedBy pair_lt ps → AreOf es ps
    → ((h : ℕ) → times h ps ≤ 1) → Rises es (map (λ p. p.1) ps)
sorted_rises es [] sorted s once = tt
sorted_rises es (p ∷ []) sorted s once = ((λ y a. absurd cc), tt)
sorted_rises es (p ∷ q ∷ ps) sorted s once =
    let first : (p.0 ≡ counter_of es p.1) × (p.1 < 2 ^ 16) = s.each 0 p (omega arith) in
    let second : (q.0 ≡ counter_of es q.1) × (q.1 < 2 ^ 16) = s.each 1 p (omega arith) in
    let order : pair_lt q p ≡ false = sorted 0 p (omega arith) (omega arith) in
    let up : p.0 * 2 ^ 16 + p.1 ≤ q.0 * 2 ^ 16 + q.1 = pair_order p.0 p.1 q.0 q.1 order first.1 in
    let all : (h : ℕ) → times h (p ∷ q ∷ ps) ≡ one_if (p.1 == h) + times h (q ∷ ps) =
    λ h. sum_by-cons (λ (p : ℕ × ℕ). cond (p.1 == h) 1 0) p (q ∷ ps) in
    let fewer : (h : ℕ) → times h (q ∷ ps) ≤ 1 =
    λ h. let e = all h in let o = once h in omega arith in
    let apart : p.1 ≡ q.1 → ⊥ = λ e.
    let two : times q.1 (p ∷ q ∷ ps) ≡ one_if (p.1 == q.1) + times q.1 (q ∷ ps) = all q.1 in
    let one : times q.1 (q ∷ ps) ≡ one_if (q.1 == q.1) + times q.1 ps =
    sum_by-cons (λ (p : ℕ × ℕ). cond (p.1 == q.1) 1 0) q ps in
    let first_is : one_if (p.1 == q.1) ≡ 1 = ap one_if (eq-eqb p.1 q.1 e) in
    let second_is : one_if (q.1 == q.1) ≡ 1 = ap one_if (eq-eqb q.1 q.1 refl) in
    let o = once q.1 in omega arith in
    let rises : Rises es (map (λ p. p.1) (q ∷ ps)) =
    sorted_rises es (q ∷ ps)
    (λ k d l u. let e : suc k + 1 ≡ suc (k + 1) = omega arith in rw e at (sorted (suc k) d (omega arith) (omega arith)))
    (rest_of es p (q ∷ ps) s) fewer in
    let strict : rank es p.1 < rank es q.1 =
    rw (sym first.0, sym second.0) (omega arith) in (
      (λ y a. elim (cases_Bool (q.1 == y)) [
        | inl is ↦ rw (sym (eqb-true q.1 y is)) strict
        | inr isnt ↦
            let later : is_among y (map (λ p. p.1) ps) ≡ true = rw isnt at a in
            let far : rank es q.1 < rank es y = rises.0 y later in omega arith
      ]),
      rises,
    )

-- the heads of sorted pairs are those in flight, in order
pub pairs_in_order : (es : List PackedEntry) (n : ℕ) (before after : List (ℕ × ℕ)) → length es ≡ n
    → ((h : ℕ) → times h before ≡ one_if (nat_lt h n && is_in_flight es h)) → AreOf es before
    → IsPermutation before after → IsSortedBy pair_lt after → IsInFlight es (map (λ p. p.1) after)
pairs_in_order es n before after len counts of moved sorted =
    let same : (h : ℕ) → times h after ≡ times h before =
    λ h. sum_by-IsPermutation (λ (p : ℕ × ℕ). cond (p.1 == h) 1 0) before after moved in
    record {
      each = λ h. among-times h after ∙ (rw (same h, counts h) (elim (cases_Bool (is_in_flight es h)) [
        | inl on ↦ rw (on, lt-ltb h n (in_range es n h len on)) refl
        | inr off ↦ rw (off, and_right (nat_lt h n) false refl) refl
      ]));
      order = sorted_rises es after sorted
          (record { each = All-permutation (λ p. (p.0 ≡ counter_of es p.1) × (p.1 < 2 ^ 16)) before after moved of.each })
          (λ h. rw (same h, counts h) (at_most_one (nat_lt h n && is_in_flight es h)));
    }
  where
    in_range : (es : List PackedEntry) (n h : ℕ) → length es ≡ n → is_in_flight es h ≡ true → h < n
    in_range [] n h len on = absurd cc
    in_range (e ∷ es) n zero len on = omega arith
    in_range (e ∷ es) n (suc h) len on = let rest = in_range es (length es) h refl on in omega arith

    at_most_one : (b : Bool) → one_if b ≤ 1
    at_most_one true = omega arith
    at_most_one false = omega arith

-- ---- what is free

abbrev pub in_front_all : List ℕ → Option (List ℕ) → Option (List ℕ)
in_front_all xs None = None
in_front_all xs (Some ys) = Some (xs ++ ys)

pub free_more : (es : List PackedEntry) (xs : List ℕ) (n i next : ℕ) → i < n → next < length es
    → in_front_all xs (free_list es (n - i) next)
    ≡ in_front_all (xs ++ next ∷ []) (free_list es (n - (i + 1)) (entry_of es next).next)
free_more es xs n i next l inside =
    let e : n - i ≡ suc (n - (i + 1)) = omega arith in
    let apart : next ≡ length es → ⊥ = omega arith in
    rw (e, ne_eqb next (length es) apart, le-ltb (length es) next (omega arith))
    (past xs next (free_list es (n - (i + 1)) (entry_of es next).next))
  where
    push_in : (xs : List ℕ) (y : ℕ) (zs : List ℕ) → xs ++ (y ∷ zs) ≡ (xs ++ y ∷ []) ++ zs
    push_in [] y zs = refl
    push_in (x ∷ xs) y zs = ap (λ (ys : List ℕ). x ∷ ys) (push_in xs y zs)

    past : (xs : List ℕ) (y : ℕ) (o : Option (List ℕ)) → in_front_all xs (in_front y o) ≡ in_front_all (xs ++ y ∷ []) o
    past xs y None = refl
    past xs y (Some ys) = ap (λ (zs : List ℕ). Some zs) (push_in xs y ys)

pub free_end : (es : List PackedEntry) (xs : List ℕ) (n next : ℕ) → next ≡ length es
    → in_front_all xs (free_list es n next) ≡ Some xs
free_end es xs zero next is = rw (eq-eqb next (length es) is) (ap (λ (ys : List ℕ). Some ys) (append-nil xs))
free_end es xs (suc n) next is = rw (eq-eqb next (length es) is) (ap (λ (ys : List ℕ). Some ys) (append-nil xs))

pub free_past : (es : List PackedEntry) (n next : ℕ) → length es < next → free_list es n next ≡ None
free_past es zero next l = rw (ne_eqb next (length es) (λ is. absurd (omega arith))) refl
free_past es (suc n) next l =
    rw (ne_eqb next (length es) (λ is. absurd (omega arith)), lt-ltb (length es) next l) refl

pub free_loop : (es : List PackedEntry) (n next : ℕ) → n ≡ 0 → (next ≡ length es → ⊥) → free_list es n next ≡ None
free_loop es zero next none apart = rw (ne_eqb next (length es) apart) refl
free_loop es (suc n) next none apart = absurd (omega arith)

-- ---- chains

pub walk-step : (es : List PackedEntry) (n i next : ℕ) → i < n
    → walk es (n - i) next ≡ next ∷ walk es (n - (i + 1)) (entry_of es next).next
walk-step es n i next l = let e : n - i ≡ suc (n - (i + 1)) = omega arith in rw e refl

pub walk-end : (es : List PackedEntry) (n i next : ℕ) → n ≤ i → walk es (n - i) next ≡ []
walk-end es n i next l = let e : n - i ≡ 0 = omega arith in rw e refl

pub linked-step : (es : List PackedEntry) (n i : ℕ) → i < n
    → linked es i (n - i) ≡ linked (changed es i (λ e. record e { next = i + 1 })) (i + 1) (n - (i + 1))
linked-step es n i l = let e : n - i ≡ suc (n - (i + 1)) = omega arith in rw e refl

pub repeats-here : (seen : List Bool) (x : ℕ) (xs : List ℕ) → get_or seen x true ≡ true → repeats seen (x ∷ xs) ≡ true
repeats-here seen x xs is = or_left (get_or seen x true) (repeats (set seen x true) xs) is

pub repeats-later : (seen : List Bool) (x : ℕ) (xs : List ℕ) → get_or seen x true ≡ false
    → repeats seen (x ∷ xs) ≡ repeats (set seen x true) xs
repeats-later seen x xs isnt = rw isnt refl

pub link_stores-step : (n i : ℕ) → i < n
    → link_stores i (n - i) ≡ Next i (i + 1) ∷ link_stores (i + 1) (n - (i + 1))
link_stores-step n i l = let e : n - i ≡ suc (n - (i + 1)) = omega arith in rw e refl

pub link_stores-end : (n i : ℕ) → n ≤ i → link_stores i (n - i) ≡ []
link_stores-end n i l = let e : n - i ≡ 0 = omega arith in rw e refl

-- one more chain is looked at
pub chains-step : (es : List PackedEntry) (seen : List Bool) (room : ℕ) (heads : List ℕ) (i : ℕ) → i < length heads
    → chains_fault es seen room (drop i heads)
    ≡ or_else (chain_fault es seen room (get_or heads i 0))
    (chains_fault es (seen_too seen (nodes_of es (get_or heads i 0))) (room - num_of es (get_or heads i 0))
    (drop (i + 1) heads))
chains-step es seen room heads i l =
    let e : drop i heads ≡ get_or heads i 0 ∷ drop (i + 1) heads = drop_more heads i 0 l in
    ap (λ (xs : List ℕ). chains_fault es seen room xs) e

pub chains-more : (es : List PackedEntry) (seen new : List Bool) (room left : ℕ) (heads : List ℕ) (i : ℕ)
    → i < length heads → chain_fault es seen room (get_or heads i 0) ≡ None
    → new ≡ seen_too seen (nodes_of es (get_or heads i 0)) → left + num_of es (get_or heads i 0) ≡ room
    → chains_fault es seen room (drop i heads) ≡ chains_fault es new left (drop (i + 1) heads)
chains-more es seen new room left heads i l none is fits =
    let e : room - num_of es (get_or heads i 0) ≡ left = omega arith in
    chains-step es seen room heads i l
    ∙ (ap (λ (o : Option PackedStartError). or_else o (chains_fault es (seen_too seen (nodes_of es (get_or heads i 0)))
    (room - num_of es (get_or heads i 0)) (drop (i + 1) heads))) none
    ∙ (ap (λ (s : List Bool). chains_fault es s (room - num_of es (get_or heads i 0)) (drop (i + 1) heads)) (sym is)
    ∙ ap (λ (n : ℕ). chains_fault es new n (drop (i + 1) heads)) e))

pub chains-fail : (es : List PackedEntry) (seen : List Bool) (room : ℕ) (heads : List ℕ) (i : ℕ) (e : PackedStartError)
    → i < length heads → chain_fault es seen room (get_or heads i 0) ≡ Some e
    → chains_fault es seen room (drop i heads) ≡ Some e
chains-fail es seen room heads i e l is =
    chains-step es seen room heads i l
    ∙ ap (λ (o : Option PackedStartError). or_else o (chains_fault es (seen_too seen (nodes_of es (get_or heads i 0)))
    (room - num_of es (get_or heads i 0)) (drop (i + 1) heads))) is

pub flat_map-more : (f : ℕ → List PackedCopy) (xs : List ℕ) (i : ℕ) → i < length xs
    → flat_map f (take (i + 1) xs) ≡ flat_map f (take i xs) ++ f (get_or xs i 0)
flat_map-more f xs i l =
    ap (λ (ys : List ℕ). flat_map f ys) (take_more xs i 0 l)
    ∙ (flat_map-append f (take i xs) (get_or xs i 0 ∷ [])
    ∙ ap (λ (ds : List PackedCopy). flat_map f (take i xs) ++ ds)
    (flat_map-cons f (get_or xs i 0) [] ∙ append-nil (f (get_or xs i 0))))

-- ---- the first fault

pub first_fault : (a b : Option PackedStartError) (e : PackedStartError) → a ≡ Some e → or_else a b ≡ Some e
first_fault a b e is = rw is refl

pub later_fault : (a b : Option PackedStartError) (e : PackedStartError) → a ≡ None → b ≡ Some e → or_else a b ≡ Some e
later_fault a b e none is = rw (none, is) refl

pub no_fault : (a b : Option PackedStartError) → a ≡ None → b ≡ None → or_else a b ≡ None
no_fault a b none last = rw (none, last) refl

-- ---- lengths

pub length-linked : (es : List PackedEntry) (i n : ℕ) → length (linked es i n) ≡ length es
length-linked es i zero = refl
length-linked es i (suc n) =
    length-linked (changed es i (λ e. record e { next = i + 1 })) (i + 1) n
    ∙ length-set es i (record (entry_of es i) { next = i + 1 })

length-cleared : (es : List PackedEntry) (xs : List ℕ) → length (cleared es xs) ≡ length es
length-cleared es [] = refl
length-cleared es (x ∷ xs) =
    length-cleared (changed es x (λ e. record e { in_flight = 0 })) xs
    ∙ length-set es x (record (entry_of es x) { in_flight = 0 })

length-listed : (version : ℕ) (es : List PackedEntry) → length (listed version es) ≡ length es
length-listed version es = elim (cases_Bool (version == 0)) [
  | inl is ↦ rw is (length-linked es 0 (length es))
  | inr isnt ↦ rw isnt refl
]

pub length-settled : (r : PackedRegion) (base : PackedPosition) (flags : ℕ)
    → length (settled r base flags) ≡ length r.entries
length-settled r base flags =
    length-cleared (taken_entries r) (free r base flags) ∙ length-listed r.header.version r.entries

length-seen_too : (seen : List Bool) (xs : List ℕ) → length (seen_too seen xs) ≡ length seen
length-seen_too seen [] = refl
length-seen_too seen (x ∷ xs) = length-seen_too (set seen x true) xs ∙ length-set seen x true

pub length-free_seen : (descriptors : ℕ) (xs : List ℕ) → length (free_seen descriptors xs) ≡ descriptors
length-free_seen descriptors xs =
    length-seen_too (replicate descriptors false) xs ∙ length-replicate descriptors false

-- ---- a start that is refused

pub start_fails : (descriptors size : ℕ) (r : PackedRegion) (base : PackedPosition) (flags : ℕ) (o : Opened)
    (hs : List ℕ) (es : List PackedEntry) (seen : List Bool) (xs : List ℕ) (e : PackedStartError)
    → Opens descriptors size r base flags o → es ≡ o.entries.items → IsInFlight es hs
    → seen ≡ free_seen descriptors xs → xs ≡ o.free.items → chains_fault es seen size hs ≡ Some e
    → StartFails descriptors size r base flags e
start_fails descriptors size r base flags o hs es seen xs e opens entries order marks list is ys flies =
    let all : es ≡ settled r base flags = entries ∙ opens.entries in
    let mine : IsInFlight (settled r base flags) hs = subst (λ (zs : List PackedEntry). IsInFlight zs hs) all order in
    let same : hs ≡ ys =
    rises_once (settled r base flags) hs ys (λ h. mine.each h ∙ sym (flies.each h)) mine.order flies.order in
    let left : free r base flags ≡ o.free.items = ap (λ (z : Option (List ℕ)). or_none z) opens.free in
    let taken : seen ≡ free_seen descriptors (free r base flags) =
    marks ∙ ap (λ (zs : List ℕ). free_seen descriptors zs) (list ∙ sym left) in
    let last : chains_fault (settled r base flags) (free_seen descriptors (free r base flags)) size ys ≡ Some e =
    subst (λ (zs : List ℕ). chains_fault (settled r base flags) (free_seen descriptors (free r base flags)) size zs ≡ Some e)
    same
    (subst (λ (bs : List Bool). chains_fault (settled r base flags) bs size hs ≡ Some e) taken
    (subst (λ (zs : List PackedEntry). chains_fault zs seen size hs ≡ Some e) all is)) in
    later_fault (opening_fault descriptors size r base flags)
    (chains_fault (settled r base flags) (free_seen descriptors (free r base flags)) size ys) e opens.accepted last
