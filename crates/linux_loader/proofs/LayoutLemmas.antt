-- Segments by their addresses: where they end, and whether they lie apart.
use Rattle.std.proofs.Common.{◌≡◌, ◌≢◌, ◌∙◌, ℕ, zero, suc, ◌+◌, ◌<◌, ◌≤◌, List, [], ◌∷◌, add-one, arith, false, is_lt, length, get_or, nat_lt, set, true, All, AllPairs, inl, inr, refl}
use Rattle.std.proofs.lemmas.Bool.{cases_eq, cases_lt}
use Rattle.std.proofs.lemmas.List.{get_or-set_other, get_or-set_same, length-set}
use Rattle.std.proofs.lemmas.List.Edits.{length-swap}
use Rattle.std.proofs.lemmas.Bool.Decides.{nat_tests}
use Rattle.std.proofs.lemmas.List.Sorted.{IsPermutation-keeps}
use Rattle.std.specs.List.{swap}
use Rattle.std.specs.List.Sorted.{IsPermutation, IsSortedByKey}
use Rattle.std.specs.Ordering.{nat_cmp}
use Rattle.linux_loader.specs.Plan.{Apart, HasBytes, end_of}
use Rattle.linux_loader.specs.declared.segment.Segment.{Segment}

-- ---- segments sorted by address

-- an element, whatever is told past the end
irrelevant : {X : Type 0} (xs : List X) (i : ℕ) (d e : X) → i < length xs → get_or xs i d ≡ get_or xs i e
irrelevant [] i d e l = absurd (omega arith)
irrelevant (x ∷ xs) zero d e l = refl
irrelevant (x ∷ xs) (suc i) d e l = irrelevant xs i d e (omega arith)

-- what does not stand before another is not below it
not_below : (x y : ℕ) → is_lt (nat_cmp x y) ≡ false → y ≤ x
not_below x y h = elim (cases_lt x y) [
  | inl below ↦ (let test : nat_lt x y ≡ true = grind (arith, nat_tests) in absurd (let k = rw test at h in cc))
  | inr l ↦ l
]

-- the segments before a place lie apart, and end at or below an address, at which the last of them ends
pub record Scanned (xs : List Segment) (i end : ℕ) : Type 0 where
  pub pairs : (j k : ℕ) (d : Segment) → j < k → k < i → end_of (get_or xs j d) ≤ (get_or xs k d).addr.0
  pub ends : (k : ℕ) (d : Segment) → k < i → end_of (get_or xs k d) ≤ end
  pub first : i ≡ 0 → end ≡ 0
  pub last : (p : ℕ) (d : Segment) → i ≡ suc p → end ≡ end_of (get_or xs p d)

pub scanned_meets : (xs : List Segment) (i end : ℕ) (d : Segment) → All HasBytes xs
    → IsSortedByKey (λ s. s.addr.0) nat_cmp xs → Scanned xs i end → i < length xs → (get_or xs i d).addr.0 < end
    → AllPairs Apart xs → ⊥
scanned_meets xs zero end d some sorted s l below apart = let none = s.first refl in omega arith
scanned_meets xs (suc p) end d some sorted s l below apart =
    let at = s.last p d refl in
    let order = sorted p d in
    elim (apart p (suc p) d (omega arith) l) [
      | inl before ↦ omega arith
      | inr behind ↦ (let has = (some (suc p) d l).some in
          let above = not_below (get_or xs (p + 1) d).addr.0 (get_or xs p d).addr.0
          (order (omega arith) (omega arith)) in
          let same : (get_or xs (p + 1) d).addr.0 ≡ (get_or xs (suc p) d).addr.0 = rw add-one refl in omega arith)
    ]

-- ---- segments in another order

-- each two lie apart, whichever comes first
abbrev Each : List Segment → Type 0
Each xs = (j k : ℕ) (d : Segment) → j ≢ k → j < length xs → k < length xs → Apart (get_or xs j d) (get_or xs k d)

other_way : (s t : Segment) → Apart s t → Apart t s
other_way s t (inl l) = inr l
other_way s t (inr l) = inl l

each_of : (xs : List Segment) → AllPairs Apart xs → Each xs
each_of xs h j k d other l m = elim (cases_lt j k) [
  | inl before ↦ h j k d before m
  | inr behind ↦ other_way (get_or xs k d) (get_or xs j d) (h k j d (omega arith) l)
]

pairs_of : (xs : List Segment) → Each xs → AllPairs Apart xs
pairs_of xs h j k d l m = h j k d (omega arith) (omega arith) m

-- what stands at a place after two were swapped
at_second : (x : Segment) (xs : List Segment) (a b k : ℕ) (d : Segment) → a < length (x ∷ xs) → b < length (x ∷ xs)
    → k ≡ b → get_or (swap (x ∷ xs) a b) k d ≡ get_or (x ∷ xs) a d
at_second x xs a b k d l m is =
    let size = length-set (x ∷ xs) a (get_or (x ∷ xs) b x) in
    rw is (get_or-set_same (set (x ∷ xs) a (get_or (x ∷ xs) b x)) b (get_or (x ∷ xs) a x) d (omega arith)
    ∙ irrelevant (x ∷ xs) a x d l)

at_first : (x : Segment) (xs : List Segment) (a b k : ℕ) (d : Segment) → a < length (x ∷ xs) → b < length (x ∷ xs)
    → k ≡ a → k ≢ b → get_or (swap (x ∷ xs) a b) k d ≡ get_or (x ∷ xs) b d
at_first x xs a b k d l m is other =
    get_or-set_other (set (x ∷ xs) a (get_or (x ∷ xs) b x)) b k (get_or (x ∷ xs) a x) d other
    ∙ rw is (get_or-set_same (x ∷ xs) a (get_or (x ∷ xs) b x) d l ∙ irrelevant (x ∷ xs) b x d m)

at_other : (x : Segment) (xs : List Segment) (a b k : ℕ) (d : Segment) → k ≢ a → k ≢ b
    → get_or (swap (x ∷ xs) a b) k d ≡ get_or (x ∷ xs) k d
at_other x xs a b k d one two =
    get_or-set_other (set (x ∷ xs) a (get_or (x ∷ xs) b x)) b k (get_or (x ∷ xs) a x) d two
    ∙ get_or-set_other (x ∷ xs) a k (get_or (x ∷ xs) b x) d one

-- where what stands at a place stood before
record Came (xs : List Segment) (a b k : ℕ) : Type 0 where
  from : ℕ
  within : from < length xs
  is : (d : Segment) → get_or (swap xs a b) k d ≡ get_or xs from d
  back : (k ≡ b → from ≡ a) × (k ≢ b → k ≡ a → from ≡ b) × (k ≢ b → k ≢ a → from ≡ k)

came : (xs : List Segment) (a b k : ℕ) → a < length xs → b < length xs → k < length xs → Came xs a b k
came [] a b k l m n = absurd (omega arith)
came (x ∷ xs) a b k l m n = elim (cases_eq k b) [
  | inl is ↦ record {
    from = a;
    within = l;
    is = λ d. at_second x xs a b k d l m is;
    back = (λ e. refl, λ no. absurd (no is), λ no. absurd (no is));
  }
  | inr two ↦ elim (cases_eq k a) [
    | inl is ↦ record {
      from = b;
      within = m;
      is = λ d. at_first x xs a b k d l m is two;
      back = (λ e. absurd (two e), λ no e. refl, λ no other. absurd (other is));
    }
    | inr one ↦ record {
      from = k;
      within = n;
      is = λ d. at_other x xs a b k d one two;
      back = (λ e. absurd (two e), λ no e. absurd (one e), λ no other. refl);
    }
  ]
]

swapped : (xs : List Segment) (a b : ℕ) → a < length xs → b < length xs → Each xs → Each (swap xs a b)
swapped xs a b l m h j k d other n o =
    let size = length-swap xs a b in
    let p = came xs a b j l m (omega arith) in
    let q = came xs a b k l m (omega arith) in
    let apart : p.from ≢ q.from = λ same. other (injective p q same) in
    rw (p.is d, q.is d) (h p.from q.from d apart p.within q.within)
  where
    injective : (p : Came xs a b j) (q : Came xs a b k) → p.from ≡ q.from → j ≡ k
    injective p q same = elim (cases_eq j b) [
      | inl e ↦ elim (cases_eq k b) [
        | inl f ↦ omega arith
        | inr f ↦ (let x = p.back.0 e in elim (cases_eq k a) [
          | inl g ↦ (let y = q.back.1 f g in omega arith)
          | inr g ↦ (let y = q.back.2 f g in absurd (g (omega arith)))
        ])
      ]
      | inr e ↦ elim (cases_eq j a) [
        | inl e' ↦ (let x = p.back.1 e e' in elim (cases_eq k b) [
          | inl f ↦ (let y = q.back.0 f in omega arith)
          | inr f ↦ elim (cases_eq k a) [
            | inl g ↦ omega arith
            | inr g ↦ (let y = q.back.2 f g in absurd (f (omega arith)))
          ]
        ])
        | inr e' ↦ (let x = p.back.2 e e' in elim (cases_eq k b) [
          | inl f ↦ (let y = q.back.0 f in absurd (e' (omega arith)))
          | inr f ↦ elim (cases_eq k a) [
            | inl g ↦ (let y = q.back.1 f g in absurd (e (omega arith)))
            | inr g ↦ (let y = q.back.2 f g in omega arith)
          ]
        ])
      ]
    ]

pub apart_moved : (xs ys : List Segment) → IsPermutation xs ys → AllPairs Apart xs → AllPairs Apart ys
apart_moved xs ys moved h = pairs_of ys (IsPermutation-keeps xs Each (each_of xs h) swapped ys moved)
