-- What a guest of a packed queue sees and does.
use Rattle.std.proofs.Common.{◌≡◌, ℕ, ◌+◌, ◌-◌, ◌<◌, ◌≤◌, Bool, true, false, not, ◌||◌, List, [], ◌∷◌, ◌++◌, length, Option, Some, refl, sym, ap, ◌∙◌, inl, inr, arith}
use Rattle.std.proofs.lemmas.Bool.{cases_Bool, cases_eq, cases_order, eq-eqb, ne_eqb, or_from, or_parts, or_right, both_ways}
use Rattle.std.specs.Prelude.{◌==◌, if◌then◌else◌}
use Rattle.vhost_inflight.specs.PackedCrash.{has_id, id_of, position, slots_with, without}
use Rattle.vhost_inflight.specs.PackedStart.{available_flags, is_available}
use Rattle.vhost_inflight.specs.declared.packed_region.PackedCopy.{PackedCopy}
use Rattle.vhost_inflight.specs.declared.packed_region.PackedPosition.{PackedPosition}
use Rattle.vhost_inflight.proofs.PackedChainLemmas.{Chain, copies, slots}
use Rattle.vhost_inflight.proofs.PackedCoreLemmas.{Given}
use Rattle.vhost_inflight.proofs.PackedRingLemmas.{available_later, round, slots_apart}

-- ---- ids

pub has_id-append : (id : ℕ) (xs ys : List (List PackedCopy)) → has_id id (xs ++ ys) ≡ (has_id id xs || has_id id ys)
has_id-append id [] ys = refl
has_id-append id (x ∷ xs) ys = elim (cases_Bool (id_of x == id)) [
  | inl is ↦ rw is refl
  | inr isnt ↦ rw isnt (has_id-append id xs ys)
]

-- no two chains have one id
abbrev pub Apart : List (List PackedCopy) → Type 0
Apart [] = Unit {0}
Apart (ds ∷ chains) = (has_id (id_of ds) chains ≡ false) × Apart chains

pub apart_push : (ds : List PackedCopy) (chains : List (List PackedCopy)) → Apart chains
    → has_id (id_of ds) chains ≡ false → Apart (chains ++ ds ∷ [])
apart_push ds [] a none = (refl, tt)
apart_push ds (x ∷ xs) (first, rest) none = elim (cases_eq (id_of x) (id_of ds)) [
  | inl is ↦ absurd (both_ways (has_id (id_of ds) (x ∷ xs)) none (rw (eq-eqb (id_of x) (id_of ds) is) refl))
  | inr isnt ↦
      let later : has_id (id_of ds) xs ≡ false = rw (ne_eqb (id_of x) (id_of ds) isnt) at none in
      let lone : has_id (id_of x) (ds ∷ []) ≡ false = rw (ne_eqb (id_of ds) (id_of x) (λ e. isnt (sym e))) refl in (
        has_id-append (id_of x) xs (ds ∷ [])
            ∙ or_from (has_id (id_of x) xs) (has_id (id_of x) (ds ∷ [])) first lone,
        apart_push ds xs rest later,
      )
]

pub has_id_here : (xs : List (List PackedCopy)) (ds : List PackedCopy) (ys : List (List PackedCopy))
    → has_id (id_of ds) (xs ++ ds ∷ ys) ≡ true
has_id_here xs ds ys =
    has_id-append (id_of ds) xs (ds ∷ ys)
    ∙ or_right (has_id (id_of ds) xs) (has_id (id_of ds) (ds ∷ ys)) (rw (eq-eqb (id_of ds) (id_of ds) refl) refl)

-- what the guest finds by a chain's id is the chain
pub record Found (xs : List (List PackedCopy)) (ds : List PackedCopy) (ys : List (List PackedCopy)) : Type 0 where
  pub left : without (id_of ds) (xs ++ ds ∷ ys) ≡ xs ++ ys
  pub slots : slots_with (id_of ds) (xs ++ ds ∷ ys) ≡ length ds
  pub apart : Apart (xs ++ ys)

pub found : (xs : List (List PackedCopy)) (ds : List PackedCopy) (ys : List (List PackedCopy))
    → Apart (xs ++ ds ∷ ys) → Found xs ds ys
found [] ds ys (first, rest) = record {
  left = rw (eq-eqb (id_of ds) (id_of ds) refl) refl;
  slots = rw (eq-eqb (id_of ds) (id_of ds) refl) refl;
  apart = rest;
}
found (x ∷ xs) ds ys (first, rest) =
    let isnt : id_of x ≡ id_of ds → ⊥ = λ e.
    both_ways (has_id (id_of x) (xs ++ ds ∷ ys)) first (rw e (has_id_here xs ds ys)) in
    let later = found xs ds ys rest in
    let no : (id_of x == id_of ds) ≡ false = ne_eqb (id_of x) (id_of ds) isnt in
    let parts = or_parts (has_id (id_of x) xs) (has_id (id_of x) (ds ∷ ys))
    (sym (has_id-append (id_of x) xs (ds ∷ ys)) ∙ first) in
    let past : has_id (id_of x) ys ≡ false = rw (ne_eqb (id_of ds) (id_of x) (λ e. isnt (sym e))) at parts.1 in
    record {
      left = rw no (ap (λ (zs : List (List PackedCopy)). x ∷ zs) later.left);
      slots = rw no later.slots;
      apart = (
        has_id-append (id_of x) xs ys ∙ or_from (has_id (id_of x) xs) (has_id (id_of x) ys) parts.0 past,
        later.apart,
      );
    }

-- ---- the guest and its ring

pub record Guest (g : Given) (view : Option (List (List PackedCopy))) (published popped used : ℕ) (flags : ℕ → ℕ)
    (cs : List Chain) : Type 0 where
  pub seen : view ≡ Some (copies cs)
  pub apart : Apart (copies cs)
  pub sum : used + slots cs ≡ popped
  pub behind : popped ≤ published
  pub within : published ≤ used + g.size
  pub available : (q : ℕ) → used ≤ q → q < published
      → flags (position g.size q).slot ≡ available_flags (position g.size q).wrap

abbrev pub marked : (ℕ → ℕ) → ℕ → ℕ → ℕ → ℕ
marked flags slot f s = if s == slot then f else flags s

pub marked_here : (flags : ℕ → ℕ) (slot f : ℕ) → marked flags slot f slot ≡ f
marked_here flags slot f = rw (eq-eqb slot slot refl) refl

pub marked_other : (flags : ℕ → ℕ) (slot f s : ℕ) → (s ≡ slot → ⊥) → marked flags slot f s ≡ flags s
marked_other flags slot f s ne = rw (ne_eqb s slot ne) refl

pub guest_publishes : (g : Given) (view : Option (List (List PackedCopy))) (published popped used : ℕ) (flags : ℕ → ℕ)
    (cs : List Chain) → published < used + g.size → Guest g view published popped used flags cs
    → Guest g view (published + 1) popped used (λ s. if s == (position g.size published).slot
    then available_flags (position g.size published).wrap else flags s) cs
guest_publishes g view published popped used flags cs l s = record {
  seen = s.seen;
  apart = s.apart;
  sum = s.sum;
  behind = let b = s.behind in omega arith;
  within = omega arith;
  available = λ q from to. elim (cases_eq q published) [
    | inl is ↦ rw is (marked_here flags (position g.size published).slot (available_flags (position g.size published).wrap))
    | inr isnt ↦
        let e : q + (published - q) ≡ published = omega arith in
        let ne : (position g.size q).slot ≡ (position g.size published).slot → ⊥ =
        λ same. slots_apart g.size q (published - q) (omega arith) (omega arith)
        (rw e (sym same)) in
        marked_other flags (position g.size published).slot (available_flags (position g.size published).wrap)
        (position g.size q).slot ne
        ∙ s.available q from (omega arith)
  ];
}

-- a slot in which a chain was returned is not available again in the same round
pub gone_publishes : (g : Given) (published used before : ℕ) (flags : ℕ → ℕ) → used ≤ published
    → published < used + g.size → before < used → used ≤ before + g.size
    → is_available (flags (position g.size before).slot) (position g.size before).wrap ≡ false
    → is_available (marked flags (position g.size published).slot (available_flags (position g.size published).wrap)
    (position g.size before).slot) (position g.size before).wrap ≡ false
gone_publishes g published used before flags ahead few behind near gone =
    let some = g.some in
    let kept : ((position g.size before).slot ≡ (position g.size published).slot → ⊥)
    → is_available (marked flags (position g.size published).slot (available_flags (position g.size published).wrap)
    (position g.size before).slot) (position g.size before).wrap ≡ false =
    λ ne. rw (marked_other flags (position g.size published).slot (available_flags (position g.size published).wrap)
    (position g.size before).slot ne) gone in
    elim (cases_order (published - before) g.size) [
      | inl whole ↦
          let e : published ≡ before + g.size = omega arith in
          let turn = round g.size before some in
          let slot : (position g.size published).slot ≡ (position g.size before).slot =
          rw e (ap (λ (p : PackedPosition). p.slot) turn) in
          let wrap : (position g.size published).wrap ≡ not (position g.size before).wrap =
          rw e (ap (λ (p : PackedPosition). p.wrap) turn) in
          let now : marked flags (position g.size published).slot (available_flags (position g.size published).wrap)
          (position g.size before).slot ≡ available_flags (not (position g.size before).wrap) =
          rw slot (marked_here flags (position g.size before).slot (available_flags (position g.size published).wrap)
          ∙ ap (λ (b : Bool). available_flags b) wrap) in
          rw now (available_later (position g.size before).wrap)
      | inr apart ↦ elim apart [
        | inl below ↦ kept (λ same.
            let e : before + (published - before) ≡ published = omega arith in
            slots_apart g.size before (published - before) (omega arith) below (rw e (sym same)))
        | inr above ↦ kept (λ same.
            let e : (before + g.size) + (published - (before + g.size)) ≡ published = omega arith in
            let turn : (position g.size (before + g.size)).slot ≡ (position g.size before).slot =
            ap (λ (p : PackedPosition). p.slot) (round g.size before some) in
            slots_apart g.size (before + g.size) (published - (before + g.size)) (omega arith) (omega arith)
            (rw e (sym same ∙ sym turn)))
      ]
    ]

-- ---- a chain is returned

pub guest_returned : (g : Given) (published popped used n : ℕ) (flags : ℕ → ℕ) (cs left : List Chain) (f : ℕ)
    → 0 < n → slots cs ≡ n + slots left → Apart (copies left) → Guest g (Some (copies cs)) published popped used flags cs
    → Guest g (Some (copies left)) published popped (used + n)
    (λ s. if s == (position g.size used).slot then f else flags s) left
guest_returned g published popped used n flags cs left f some split apart s = record {
  seen = refl;
  apart = apart;
  sum = let e = s.sum in omega arith;
  behind = s.behind;
  within = let w = s.within in omega arith;
  available = λ q from to.
      let e : used + (q - used) ≡ q = omega arith in
      let w = s.within in
      let ne : (position g.size q).slot ≡ (position g.size used).slot → ⊥ =
      λ same. slots_apart g.size used (q - used) (omega arith) (omega arith) (rw e same) in
      marked_other flags (position g.size used).slot f (position g.size q).slot ne
      ∙ s.available q (omega arith) to;
}
