-- The laws of runs.
use Rattle.std.proofs.Common.{◌≡◌, ℕ, zero, suc, ◌+◌, ◌<◌, ◌≤◌, Bool, true, false, cond, ◌&&◌, ◌||◌, ltb, leb, eqb, List, [], ◌∷◌, Option, Some, None, refl, sym, ap, inl, inr, ◌⊎◌, ◌∙◌, add-one, arith}
use Rattle.std.proofs.lemmas.Bool.{ltb-true, leb-true, eqb-true, and_parts, and_cases, cases_lt, cases_Bool, cond-true, cond-false, eq-eqb}
use Rattle.std.proofs.lemmas.Bool.Decides.{nat_tests}
use Rattle.std.proofs.lemmas.List.Elements.{All-head, All-tail}
use Rattle.std.specs.List.{All}
use Rattle.vm_memory_base.specs.Address.{is_within}
use Rattle.vm_memory_base.specs.Runs.{AddressRun, with_address, with_value, runs, IsCanonical, value_at}

-- ---- one of len addresses

pub is_within-in : (start len x : ℕ) → start ≤ x → x < start + len → is_within start len x ≡ true
is_within-in start len x a b = grind (arith, nat_tests)

pub is_within-below : (start len x : ℕ) → x < start → is_within start len x ≡ false
is_within-below start len x a = grind (arith, nat_tests)

pub is_within-above : (start len x : ℕ) → start + len ≤ x → is_within start len x ≡ false
is_within-above start len x a = grind (arith, nat_tests)

pub within_from : (start len x : ℕ) → is_within start len x ≡ true → (start ≤ x) × (x < start + len)
within_from start len x h =
    let p = and_parts (leb start x) (ltb x (start + len)) h in (leb-true start x p.0, ltb-true x (start + len) p.1)

pub within_or_not : (start len x : ℕ) → (is_within start len x ≡ true) × (start ≤ x) × (x < start + len)
    ⊎ (is_within start len x ≡ false) × ((x < start) ⊎ (start + len ≤ x))
within_or_not start len x = grind (arith, nat_tests)

is_within-one : (start x : ℕ) → is_within start 1 x ≡ eqb x start
is_within-one start x = grind (arith, nat_tests)

is_within-more : (start len x : ℕ) → is_within start (len + 1) x ≡ (eqb x start || is_within (start + 1) len x)
is_within-more start len x = grind (arith, nat_tests)

pub is_within-join : (start m n x : ℕ) → is_within start (m + n) x ≡ (is_within start m x || is_within (start + m) n x)
is_within-join start m n x = grind (arith, nat_tests)

pub is_within-none : (start x : ℕ) → is_within start 0 x ≡ false
is_within-none start x = grind (arith, nat_tests)

pub either : {X : Type 0} (b c : Bool) (x y : X) → cond (b || c) x y ≡ cond b x (cond c x y)
either true c x y = refl
either false c x y = refl

-- ---- canonical lists

-- runs that can follow one that ends at an address and has this value
abbrev pub CanFollow : {K : Type 0} → (K → K → Bool) → ℕ → K → List (AddressRun K) → Type 0
CanFollow same end k [] = Unit {0}
CanFollow same end k (s ∷ rs) = (end ≤ s.start) × (end ≡ s.start → same k s.value ≡ false)

pub canonical_cons : {K : Type 0} (same : K → K → Bool) (r : AddressRun K) (rs : List (AddressRun K)) → 0 < r.len
    → CanFollow same (r.start + r.len) r.value rs → IsCanonical same rs → IsCanonical same (r ∷ rs)
canonical_cons same r [] pos f h = pos
canonical_cons same r (s ∷ rs) pos f h = (pos, f.0, f.1, h)

pub canonical_pos : {K : Type 0} (same : K → K → Bool) (r : AddressRun K) (rs : List (AddressRun K))
    → IsCanonical same (r ∷ rs) → 0 < r.len
canonical_pos same r [] h = h
canonical_pos same r (s ∷ rs) h = h.0

pub canonical_follow : {K : Type 0} (same : K → K → Bool) (r : AddressRun K) (rs : List (AddressRun K))
    → IsCanonical same (r ∷ rs) → CanFollow same (r.start + r.len) r.value rs
canonical_follow same r [] h = tt
canonical_follow same r (s ∷ rs) h = (h.1, h.2)

pub canonical_tail : {K : Type 0} (same : K → K → Bool) (r : AddressRun K) (rs : List (AddressRun K))
    → IsCanonical same (r ∷ rs) → IsCanonical same rs
canonical_tail same r [] h = tt
canonical_tail same r (s ∷ rs) h = h.3

-- nothing has a value before a list that can follow
pub none_before : {K : Type 0} (same : K → K → Bool) (end : ℕ) (k : K) (rs : List (AddressRun K)) (x : ℕ)
    → CanFollow same end k rs → IsCanonical same rs → x < end → value_at rs x ≡ None
none_before same end k [] x f h l = refl
none_before same end k (s ∷ rs) x f h l =
    rw (is_within-below s.start s.len x (omega arith))
    (none_before same (s.start + s.len) s.value rs x (canonical_follow same s rs h) (canonical_tail same s rs h)
    (omega arith))

-- where a run ends, the next one has another value
pub none_alike : {K : Type 0} (same : K → K → Bool) (end : ℕ) (k j : K) (rs : List (AddressRun K))
    → CanFollow same end k rs → IsCanonical same rs → value_at rs end ≡ Some j → same k j ≡ false
none_alike same end k j [] f h e = cc
none_alike same end k j (s ∷ rs) f h e =
    let pos = canonical_pos same s rs h in
    elim (within_or_not s.start s.len end) [
      | inl w ↦
          let v = rw w.0 at e in
          let q : s.value ≡ j = cc in
          rw q at (f.1 (omega arith))
      | inr w ↦
          let v = rw w.0 at e in
          let n = none_before same (s.start + s.len) s.value rs end (canonical_follow same s rs h)
          (canonical_tail same s rs h) (omega arith) in
          cc
    ]

pub still_follows : {K : Type 0} (same : K → K → Bool) (end : ℕ) (k : K) (s : AddressRun K) (rs : List (AddressRun K))
    → CanFollow same end k (s ∷ rs) → IsCanonical same (s ∷ rs) → CanFollow same end k rs
still_follows same end k s [] f h = tt
still_follows same end k s (t ∷ rs) f h = (omega arith, λ touch. absurd (omega arith))

-- ---- what runs say

pub value_at_start : {K : Type 0} (r : AddressRun K) (rs : List (AddressRun K)) → 0 < r.len
    → value_at (r ∷ rs) r.start ≡ Some r.value
value_at_start r rs pos =
    cond-true (is_within r.start r.len r.start) (Some r.value) (value_at rs r.start)
    (is_within-in r.start r.len r.start (omega arith) (omega arith))

pub value_at_in : {K : Type 0} (r : AddressRun K) (rs : List (AddressRun K)) (x : ℕ) → r.start ≤ x → x < r.start + r.len
    → value_at (r ∷ rs) x ≡ Some r.value
value_at_in r rs x a b =
    cond-true (is_within r.start r.len x) (Some r.value) (value_at rs x) (is_within-in r.start r.len x a b)

pub value_at_past : {K : Type 0} (r : AddressRun K) (rs : List (AddressRun K)) (x : ℕ) → r.start + r.len ≤ x
    → value_at (r ∷ rs) x ≡ value_at rs x
value_at_past r rs x a =
    cond-false (is_within r.start r.len x) (Some r.value) (value_at rs x) (is_within-above r.start r.len x a)

pub none_below : {K : Type 0} (same : K → K → Bool) (r : AddressRun K) (rs : List (AddressRun K)) (x : ℕ)
    → IsCanonical same (r ∷ rs) → x < r.start → value_at (r ∷ rs) x ≡ None
none_below same r rs x h l =
    rw (is_within-below r.start r.len x l)
    (none_before same (r.start + r.len) r.value rs x (canonical_follow same r rs h) (canonical_tail same r rs h)
    (omega arith))

-- ---- canonical lists that say the same are one

abbrev pub run : {K : Type 0} → ℕ → ℕ → K → AddressRun K
run start len value = record { start = start; len = len; value = value }

same_run : {K : Type 0} (r s : AddressRun K) → r.start ≡ s.start → r.len ≡ s.len → r.value ≡ s.value → r ≡ s
same_run {K} r s a b c =
    ap (λ (n : ℕ). run n r.len r.value) a
    ∙ (ap (λ (n : ℕ). run s.start n r.value) b ∙ ap (λ (k : K). run s.start s.len k) c)

-- neither begins first
start_le : {K : Type 0} (same : K → K → Bool) (r s : AddressRun K) (rs ss : List (AddressRun K))
    → IsCanonical same (r ∷ rs) → IsCanonical same (s ∷ ss) → ((x : ℕ) → value_at (r ∷ rs) x ≡ value_at (s ∷ ss) x)
    → s.start ≤ r.start
start_le same r s rs ss h g agree =
    elim (cases_lt r.start s.start) [
      | inl l ↦
          let a = value_at_start r rs (canonical_pos same r rs h) in
          let b = agree r.start in
          let c = none_below same s ss r.start g l in
          cc
      | inr l ↦ l
    ]

-- nor ends first
len_le : {K : Type 0} (same : K → K → Bool) (itself : (k : K) → same k k ≡ true) (r s : AddressRun K)
    (rs ss : List (AddressRun K)) → IsCanonical same (r ∷ rs) → IsCanonical same (s ∷ ss)
    → ((x : ℕ) → value_at (r ∷ rs) x ≡ value_at (s ∷ ss) x) → r.start ≡ s.start → r.value ≡ s.value → s.len ≤ r.len
len_le same itself r s rs ss h g agree e v =
    elim (cases_lt r.len s.len) [
      | inl l ↦
          let a = value_at_past r rs (r.start + r.len) (omega arith) in
          let b = agree (r.start + r.len) in
          let c = value_at_in s ss (r.start + r.len) (omega arith) (omega arith) in
          let d : value_at rs (r.start + r.len) ≡ Some s.value = cc in
          let f = none_alike same (r.start + r.len) r.value s.value rs (canonical_follow same r rs h)
          (canonical_tail same r rs h) d in
          let i = itself s.value in
          cc
      | inr l ↦ l
    ]

tails_agree : {K : Type 0} (same : K → K → Bool) (r s : AddressRun K) (rs ss : List (AddressRun K))
    → IsCanonical same (r ∷ rs) → IsCanonical same (s ∷ ss) → ((x : ℕ) → value_at (r ∷ rs) x ≡ value_at (s ∷ ss) x)
    → r ≡ s → (x : ℕ) → value_at rs x ≡ value_at ss x
tails_agree same r s rs ss h g agree e x =
    let start : r.start ≡ s.start = cc in
    let len : r.len ≡ s.len = cc in
    elim (within_or_not r.start r.len x) [
      | inl w ↦
          let a = none_before same (r.start + r.len) r.value rs x (canonical_follow same r rs h)
          (canonical_tail same r rs h) w.2 in
          let b = none_before same (s.start + s.len) s.value ss x (canonical_follow same s ss g)
          (canonical_tail same s ss g) (omega arith) in
          cc
      | inr w ↦
          let a = cond-false (is_within r.start r.len x) (Some r.value) (value_at rs x) w.0 in
          let out : is_within s.start s.len x ≡ false = cc in
          let b = cond-false (is_within s.start s.len x) (Some s.value) (value_at ss x) out in
          let c = agree x in
          cc
    ]

-- canonical lists that say the same of each address are one list
pub same_from_values : {K : Type 0} (same : K → K → Bool) (itself : (k : K) → same k k ≡ true)
    (rs ss : List (AddressRun K)) → IsCanonical same rs → IsCanonical same ss
    → ((x : ℕ) → value_at rs x ≡ value_at ss x) → rs ≡ ss
same_from_values same itself [] [] h g agree = refl
same_from_values same itself [] (s ∷ ss) h g agree =
    let a = value_at_start s ss (canonical_pos same s ss g) in
    let b = agree s.start in
    cc
same_from_values same itself (r ∷ rs) [] h g agree =
    let a = value_at_start r rs (canonical_pos same r rs h) in
    let b = agree r.start in
    cc
same_from_values same itself (r ∷ rs) (s ∷ ss) h g agree =
    let a = start_le same r s rs ss h g agree in
    let b = start_le same s r ss rs g h (λ x. sym (agree x)) in
    let start : r.start ≡ s.start = omega arith in
    let c = value_at_start r rs (canonical_pos same r rs h) in
    let d = value_at_start s ss (canonical_pos same s ss g) in
    let m = agree r.start in
    let value : r.value ≡ s.value = cc in
    let i = len_le same itself r s rs ss h g agree start value in
    let j = len_le same itself s r ss rs g h (λ x. sym (agree x)) (sym start) (sym value) in
    let one = same_run r s start (omega arith) value in
    let rest = same_from_values same itself rs ss (canonical_tail same r rs h) (canonical_tail same s ss g)
    (tails_agree same r s rs ss h g agree one) in
    cc

-- ---- the runs of a function

canonical_head : {K : Type 0} (same : K → K → Bool) (r s : AddressRun K) (rs : List (AddressRun K)) → 0 < s.len
    → s.start + s.len ≡ r.start + r.len → s.value ≡ r.value → IsCanonical same (r ∷ rs) → IsCanonical same (s ∷ rs)
canonical_head same r s [] pos e v h = pos
canonical_head same r s (t ∷ rs) pos e v h = (pos, omega arith, λ touch. let f = h.2 (omega arith) in cc, h.3)

-- runs that begin at this address or after it
abbrev IsFrom : {K : Type 0} → ℕ → List (AddressRun K) → Type 0
IsFrom a [] = Unit {0}
IsFrom a (r ∷ rs) = a ≤ r.start

canonical_front : {K : Type 0} (same : K → K → Bool) (decides : (j k : K) → same j k ≡ true → j ≡ k) (a : ℕ) (k : K)
    (rs : List (AddressRun K)) → IsCanonical same rs → IsFrom (a + 1) rs → IsCanonical same (with_address same a k rs)
canonical_front same decides a k [] h f = omega arith
canonical_front same decides a k (r ∷ rs) h f =
    elim (cases_Bool (eqb r.start (a + 1) && same k r.value)) [
      | inl t ↦
          let p = and_parts (eqb r.start (a + 1)) (same k r.value) t in
          let e = eqb-true r.start (a + 1) p.0 in
          let v = decides k r.value p.1 in
          rw t (canonical_head same r (run a (r.len + 1) k) rs (omega arith) (omega arith) v h)
      | inr t ↦
          rw t (
            omega arith,
            f,
            λ touch. elim (and_cases (eqb r.start (a + 1))
                (same k r.value) t) [
                  | inl apart ↦
                      let touches = eq-eqb r.start (a + 1) (sym touch) in cc
                  | inr differs ↦ differs
                ],
            h,
          )
    ]

from_front : {K : Type 0} (same : K → K → Bool) (a : ℕ) (k : K) (rs : List (AddressRun K))
    → IsFrom a (with_address same a k rs)
from_front same a k [] = omega arith
from_front same a k (r ∷ rs) =
    elim (cases_Bool (eqb r.start (a + 1) && same k r.value)) [
      | inl t ↦ rw t (omega arith)
      | inr t ↦ rw t (omega arith)
    ]

from_value : {K : Type 0} (same : K → K → Bool) (a : ℕ) (v : Option K) (rs : List (AddressRun K)) → IsFrom (a + 1) rs
    → IsFrom a (with_value same a v rs)
from_value same a None [] f = tt
from_value same a None (r ∷ rs) f = omega arith
from_value same a (Some k) rs f = from_front same a k rs

from_runs : {K : Type 0} (same : K → K → Bool) (f : ℕ → Option K) (a n : ℕ) → IsFrom a (runs same f a n)
unfolding runs
from_runs same f a zero = tt
from_runs same f a (suc n) = from_value same a (f a) (runs same f (a + 1) n) (from_runs same f (a + 1) n)

canonical_value : {K : Type 0} (same : K → K → Bool) (decides : (j k : K) → same j k ≡ true → j ≡ k) (a : ℕ)
    (v : Option K) (rs : List (AddressRun K)) → IsCanonical same rs → IsFrom (a + 1) rs
    → IsCanonical same (with_value same a v rs)
canonical_value same decides a None rs h f = h
canonical_value same decides a (Some k) rs h f = canonical_front same decides a k rs h f

-- the runs of a function are canonical
pub canonical_runs : {K : Type 0} (same : K → K → Bool) (decides : (j k : K) → same j k ≡ true → j ≡ k)
    (f : ℕ → Option K) (a n : ℕ) → IsCanonical same (runs same f a n)
unfolding runs
canonical_runs same decides f a zero = tt
canonical_runs same decides f a (suc n) =
    canonical_value same decides a (f a) (runs same f (a + 1) n) (canonical_runs same decides f (a + 1) n)
    (from_runs same f (a + 1) n)

value_at_front : {K : Type 0} (same : K → K → Bool) (decides : (j k : K) → same j k ≡ true → j ≡ k) (a : ℕ) (k : K)
    (rs : List (AddressRun K)) (x : ℕ) → value_at (with_address same a k rs) x ≡ cond (eqb x a) (Some k) (value_at rs x)
value_at_front same decides a k [] x = rw is_within-one
value_at_front same decides a k (r ∷ rs) x =
    elim (cases_Bool (eqb r.start (a + 1) && same k r.value)) [
      | inl t ↦
          let p = and_parts (eqb r.start (a + 1)) (same k r.value) t in
          let e = eqb-true r.start (a + 1) p.0 in
          let v = decides k r.value p.1 in
          rw (t, is_within-more, e, v) (either (eqb x a) (is_within (a + 1) r.len x) (Some r.value) (value_at rs x))
      | inr t ↦ rw (t, is_within-one)
    ]

value_at_value : {K : Type 0} (same : K → K → Bool) (decides : (j k : K) → same j k ≡ true → j ≡ k) (a : ℕ)
    (v : Option K) (rs : List (AddressRun K)) (x : ℕ) → value_at rs a ≡ None
    → value_at (with_value same a v rs) x ≡ cond (eqb x a) v (value_at rs x)
value_at_value same decides a None rs x h =
    elim (cases_Bool (eqb x a)) [
      | inl t ↦ let e = eqb-true x a t in rw (t, e) h
      | inr t ↦ rw t
    ]
value_at_value same decides a (Some k) rs x h = value_at_front same decides a k rs x

-- the runs say what the function says, of the addresses asked for
pub value_at-runs : {K : Type 0} (same : K → K → Bool) (decides : (j k : K) → same j k ≡ true → j ≡ k)
    (f : ℕ → Option K) (a n x : ℕ) → value_at (runs same f a n) x ≡ cond (is_within a n x) (f x) None
unfolding runs
value_at-runs same decides f a zero x = rw (is_within-none a x)
value_at-runs same decides f a (suc n) x =
    let before = value_at-runs same decides f (a + 1) n a in
    let none : value_at (runs same f (a + 1) n) a ≡ None = rw (is_within-below (a + 1) n a (omega arith)) at before in
    let here = value_at_value same decides a (f a) (runs same f (a + 1) n) x none in
    let rest = value_at-runs same decides f (a + 1) n x in
    let w = rw (add-one n) at (is_within-more a n x) in
    elim (cases_Bool (eqb x a)) [
      | inl t ↦ rw (here, w, t) (ap f (sym (eqb-true x a t)))
      | inr t ↦ rw (here, w, t) rest
    ]

-- two functions that agree at the addresses asked for have the same runs there
pub runs_agree : {K : Type 0} (same : K → K → Bool) (decides : (j k : K) → same j k ≡ true → j ≡ k)
    (itself : (k : K) → same k k ≡ true) (f g : ℕ → Option K) (a n : ℕ) → ((x : ℕ) → a ≤ x → x < a + n → f x ≡ g x)
    → runs same f a n ≡ runs same g a n
runs_agree same decides itself f g a n agree =
    same_from_values same itself (runs same f a n) (runs same g a n) (canonical_runs same decides f a n)
    (canonical_runs same decides g a n) (λ x.
    let p = value_at-runs same decides f a n x in
    let q = value_at-runs same decides g a n x in
    elim (within_or_not a n x) [
      | inl w ↦ rw (p, q, w.0) (agree x w.1 w.2)
      | inr w ↦ rw (p, q, w.0)
    ])

-- and two functions with the same runs agree there
pub agree_from_runs : {K : Type 0} (same : K → K → Bool) (decides : (j k : K) → same j k ≡ true → j ≡ k)
    (f g : ℕ → Option K) (a n : ℕ) → runs same f a n ≡ runs same g a n → (x : ℕ) → a ≤ x → x < a + n → f x ≡ g x
agree_from_runs same decides f g a n e x l m =
    let p = value_at-runs same decides f a n x in
    let q = value_at-runs same decides g a n x in
    let w = is_within-in a n x l m in
    let v = rw (w, e) at p in
    let u = rw w at q in
    cc

-- canonical runs are the runs of what they say
pub runs-value_at : {K : Type 0} (same : K → K → Bool) (decides : (j k : K) → same j k ≡ true → j ≡ k)
    (itself : (k : K) → same k k ≡ true) (rs : List (AddressRun K)) (a n : ℕ) → IsCanonical same rs
    → ((x : ℕ) → is_within a n x ≡ false → value_at rs x ≡ None) → runs same (value_at rs) a n ≡ rs
runs-value_at same decides itself rs a n h none =
    same_from_values same itself (runs same (value_at rs) a n) rs (canonical_runs same decides (value_at rs) a n) h
    (λ x.
    let p = value_at-runs same decides (value_at rs) a n x in
    elim (within_or_not a n x) [
      | inl w ↦ rw (p, w.0)
      | inr w ↦ let e = none x w.0 in rw (p, w.0) (sym e)
    ])

-- runs that all end by an address say nothing of it, nor past it
pub none_past : {K : Type 0} (rs : List (AddressRun K)) (end x : ℕ) → All (λ r. r.start + r.len ≤ end) rs → end ≤ x
    → value_at rs x ≡ None
none_past [] end x h l = refl
none_past (r ∷ rs) end x h l =
    let e : r.start + r.len ≤ end = All-head (λ r. r.start + r.len ≤ end) r rs h in
    rw (is_within-above r.start r.len x (omega arith))
    (none_past rs end x (All-tail (λ r. r.start + r.len ≤ end) r rs h) l)
