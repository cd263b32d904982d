-- Entries after a store, and lists of heads in their order.
use Rattle.std.proofs.Common.{◌≡◌, ℕ, zero, suc, ◌<◌, ◌≤◌, Bool, true, false, ◌||◌, List, [], ◌∷◌, ◌++◌, length, refl, sym, ap, ◌∙◌, inl, inr, arith, get_or-set_other, get_or-set_same}
use Rattle.std.proofs.lemmas.Bool.{cases_Bool, cases_eq, eq-eqb, ne_eqb, eqb-true, or_cases, or_parts, or_left, or_right, or_from, both_ways}
use Rattle.std.specs.Prelude.{drop, max, fold, ◌==◌, if◌then◌else◌}
use Rattle.std.specs.List.{list_any}
use Rattle.vhost_inflight.specs.Packed.{changed, counter_of, entry_of, is_in_flight, no_entry}
use Rattle.vhost_inflight.specs.PackedStart.{Rises, is_among, rank}
use Rattle.vhost_inflight.specs.declared.packed_region.PackedEntry.{PackedEntry}

-- ---- one entry is changed

-- a field that a change leaves alone
pub kept_field : {X : Type 0} (get : PackedEntry → X) (f : PackedEntry → PackedEntry)
    → ((e : PackedEntry) → get (f e) ≡ get e)
    → (es : List PackedEntry) (h k : ℕ) → get (entry_of (changed es h f) k) ≡ get (entry_of es k)
kept_field get f same [] h k = refl
kept_field get f same (e ∷ es) zero zero = same e
kept_field get f same (e ∷ es) zero (suc k) = refl
kept_field get f same (e ∷ es) (suc h) zero = refl
kept_field get f same (e ∷ es) (suc h) (suc k) = kept_field get f same es h k

-- another entry
pub other_entry : (f : PackedEntry → PackedEntry) (es : List PackedEntry) (h k : ℕ) → (k ≡ h → ⊥)
    → entry_of (changed es h f) k ≡ entry_of es k
other_entry f es h k ne =
    get_or-set_other es h k (f (entry_of es h)) no_entry ne

pub this_entry : (f : PackedEntry → PackedEntry) (es : List PackedEntry) (h : ℕ) → h < length es
    → entry_of (changed es h f) h ≡ f (entry_of es h)
this_entry f es h l =
    get_or-set_same es h (f (entry_of es h)) no_entry l

-- ---- tests of each entry

pub any-changed : (p : PackedEntry → Bool) (f : PackedEntry → PackedEntry)
    → ((e : PackedEntry) → p e ≡ false → p (f e) ≡ false)
    → (es : List PackedEntry) (h : ℕ) → list_any p es ≡ false → list_any p (changed es h f) ≡ false
any-changed p f keeps [] h none = refl
any-changed p f keeps (e ∷ es) zero none = let o = or_parts (p e) (list_any p es) none in
    or_from (p (f e)) (list_any p es) (keeps e o.0) o.1
any-changed p f keeps (e ∷ es) (suc h) none = let o = or_parts (p e) (list_any p es) none in
    or_from (p e) (list_any p (changed es h f)) o.0 (any-changed p f keeps es h o.1)

pub any_none : (p : PackedEntry → Bool) (es : List PackedEntry)
    → ((h : ℕ) → p (entry_of es h) ≡ false) → list_any p es ≡ false
any_none p [] each = refl
any_none p (e ∷ es) each = or_from (p e) (list_any p es) (each 0) (any_none p es (λ h. each (suc h)))

pub drop_none : (p : PackedEntry → Bool) (n : ℕ) (es : List PackedEntry)
    → ((h : ℕ) → n ≤ h → p (entry_of es h) ≡ false) → list_any p (drop n es) ≡ false
drop_none p zero es each = any_none p es (λ h. each h (omega arith))
drop_none p (suc n) [] each = refl
drop_none p (suc n) (e ∷ es) each = drop_none p n es (λ h l. each (suc h) (omega arith))

-- ---- heads in a list

pub among-append : (h x : ℕ) (xs : List ℕ) → is_among h (xs ++ x ∷ []) ≡ (is_among h xs || (x == h))
among-append h x [] = elim (cases_Bool (x == h)) [ inl y ↦ cc | inr n ↦ cc ]
among-append h x (y ∷ xs) = elim (cases_Bool (y == h)) [
  | inl is ↦ or_left (y == h) (is_among h (xs ++ x ∷ [])) is ∙ sym (or_left (y == h || is_among h xs) (x == h) (or_left (y == h) (is_among h xs) is))
  | inr isnt ↦ rw isnt (among-append h x xs)
]

-- a list without one of its heads
pub among-left_out : (e x : ℕ) (xs ys : List ℕ) → (e ≡ x → ⊥) → is_among e (xs ++ x ∷ ys) ≡ is_among e (xs ++ ys)
among-left_out e x [] ys ne = rw (ne_eqb x e (λ is. ne (sym is))) refl
among-left_out e x (z ∷ zs) ys ne = ap (λ (b : Bool). (z == e) || b) (among-left_out e x zs ys ne)

pub among-put_in : (e x : ℕ) (xs ys : List ℕ) → is_among e (xs ++ ys) ≡ true → is_among e (xs ++ x ∷ ys) ≡ true
among-put_in e x [] ys a = or_right (x == e) (is_among e ys) a
among-put_in e x (z ∷ zs) ys a = elim (or_cases (z == e) (is_among e (zs ++ ys)) a) [
  | inl is ↦ or_left (z == e) (is_among e (zs ++ x ∷ ys)) is
  | inr later ↦ or_right (z == e) (is_among e (zs ++ x ∷ ys)) (among-put_in e x zs ys later)
]

-- ---- their order

-- it is that of their counts alone
pub rises-same : (es fs : List PackedEntry) (xs : List ℕ)
    → ((k : ℕ) → is_among k xs ≡ true → counter_of fs k ≡ counter_of es k) → Rises es xs → Rises fs xs
rises-same es fs [] same r = tt
rises-same es fs (x ∷ xs) same (first, rest) =
    let here : counter_of fs x ≡ counter_of es x = same x (or_left (x == x) (is_among x xs) (eq-eqb x x refl)) in (
      (λ y a. let there : counter_of fs y ≡ counter_of es y = same y (or_right (x == y) (is_among y xs) a) in
          rw (here, there) (first y a)),
      rises-same es fs xs (λ k a. same k (or_right (x == k) (is_among k xs) a)) rest,
    )

pub rises-append : (es : List PackedEntry) (xs : List ℕ) (h : ℕ)
    → ((k : ℕ) → is_among k xs ≡ true → rank es k < rank es h) → Rises es xs → Rises es (xs ++ h ∷ [])
rises-append es [] h below r = ((λ y a. absurd cc), tt)
rises-append es (x ∷ xs) h below (first, rest) = (
  (λ y a. elim (or_cases (is_among y xs) (h == y) (sym (among-append y h xs) ∙ a)) [
    | inl old ↦ first y old
    | inr new ↦ rw (sym (eqb-true h y new)) (below x (or_left (x == x) (is_among x xs) (eq-eqb x x refl)))
  ]),
  rises-append es xs h (λ k a. below k (or_right (x == k) (is_among k xs) a)) rest,
)

pub rises-left_out : (es : List PackedEntry) (h : ℕ) (xs ys : List ℕ) → Rises es (xs ++ h ∷ ys) → Rises es (xs ++ ys)
rises-left_out es h [] ys (first, rest) = rest
rises-left_out es h (x ∷ xs) ys (first, rest) =
    ((λ y a. first y (among-put_in y h xs ys a)), rises-left_out es h xs ys rest)

-- two lists in order with the same heads are one
pub rises_once : (es : List PackedEntry) (xs ys : List ℕ) → ((h : ℕ) → is_among h xs ≡ is_among h ys)
    → Rises es xs → Rises es ys → xs ≡ ys
rises_once es [] [] same r s = refl
rises_once es [] (y ∷ ys) same r s =
    absurd (both_ways (is_among y []) refl (same y ∙ or_left (y == y) (is_among y ys) (eq-eqb y y refl)))
rises_once es (x ∷ xs) [] same r s =
    absurd (both_ways (is_among x []) refl (sym (same x) ∙ or_left (x == x) (is_among x xs) (eq-eqb x x refl)))
rises_once es (x ∷ xs) (y ∷ ys) same (r, rs) (s, ss) =
    let x_there : ((y == x) || is_among x ys) ≡ true = sym (same x) ∙ or_left (x == x) (is_among x xs) (eq-eqb x x refl) in
    let y_there : ((x == y) || is_among y xs) ≡ true = same y ∙ or_left (y == y) (is_among y ys) (eq-eqb y y refl) in
    let first : x ≡ y = elim (or_cases (y == x) (is_among x ys) x_there) [
      | inl is ↦ sym (eqb-true y x is)
      | inr later ↦ elim (or_cases (x == y) (is_among y xs) y_there) [
        | inl is ↦ eqb-true x y is
        | inr both ↦ absurd (let low = r y both in let high = s x later in omega arith)
      ]
    ] in
    let rest : (h : ℕ) → is_among h xs ≡ is_among h ys = λ h. elim (cases_eq h x) [
      | inl is ↦
          let none_left : is_among h xs ≡ false = elim (cases_Bool (is_among h xs)) [
            | inl again ↦ absurd (let bad : rank es x < rank es x = r x (rw is at again) in omega arith)
            | inr none ↦ none
          ] in
          let none_right : is_among h ys ≡ false = elim (cases_Bool (is_among h ys)) [
            | inl again ↦
                absurd (let bad : rank es y < rank es y = s y (rw (is ∙ first) at again) in omega arith)
            | inr none ↦ none
          ] in
          none_left ∙ sym none_right
      | inr isnt ↦
          let x_no : (x == h) ≡ false = ne_eqb x h (λ e. isnt (sym e)) in
          let y_no : (y == h) ≡ false = ne_eqb y h (λ e. isnt (sym e ∙ sym first)) in
          let whole : ((x == h) || is_among h xs) ≡ ((y == h) || is_among h ys) = same h in
          rw (x_no, y_no) at whole
    ] in
    let tails : xs ≡ ys = rises_once es xs ys rest rs ss in
    cc

-- ---- the greatest count

abbrev pub counted : PackedEntry → ℕ
counted e = if e.in_flight == 1 then e.counter else 0

abbrev pub most_of : ℕ → List PackedEntry → ℕ
most_of most es = fold (λ m e. max m (counted e)) most es

pub most-least : (most : ℕ) (es : List PackedEntry) → most ≤ most_of most es
most-least most [] = omega arith
most-least most (e ∷ es) = let rest = most-least (max most (counted e)) es in omega arith

pub most-above : (most : ℕ) (es : List PackedEntry) (h : ℕ) → is_in_flight es h ≡ true
    → counter_of es h ≤ most_of most es
most-above most [] h is = absurd cc
most-above most (e ∷ es) zero is =
    let here : counted e ≡ e.counter = rw is refl in
    let rest = most-least (max most (counted e)) es in omega arith
most-above most (e ∷ es) (suc h) is = most-above (max most (counted e)) es h is

pub most-below : (most bound : ℕ) (es : List PackedEntry) → most ≤ bound
    → ((h : ℕ) → is_in_flight es h ≡ true → counter_of es h ≤ bound) → most_of most es ≤ bound
most-below most bound [] l each = l
most-below most bound (e ∷ es) l each =
    let here : counted e ≤ bound = elim (cases_Bool (e.in_flight == 1)) [
      | inl is ↦ rw is (each 0 is)
      | inr isnt ↦ rw isnt (omega arith)
    ] in
    most-below (max most (counted e)) bound es (omega arith) (λ h is. each (suc h) is)
