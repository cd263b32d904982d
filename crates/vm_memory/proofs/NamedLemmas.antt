-- Elements of a list by their numbers.
use Rattle.std.proofs.Common.{◌≡◌, ℕ, ◌<◌, List, [], ◌∷◌, ◌++◌, length, IsSome, Option, Some, None, refl, ap, arith, inl, inr, sym, All, Contains, slice_get}
use Rattle.std.proofs.lemmas.Option.{none-some, same_Some, slice_get_cases, slice_get_within, get_or_from_slice_get}
use Rattle.std.proofs.lemmas.List.Elements.{All-nil, All-cons, All-head, All-tail, All-same}
use Rattle.vm_memory.specs.State.{named, put_first}

-- the first is there, and so are the others
first_there : {X : Type 0} (o : Option X) (rest : Option (List X)) (ys : List X)
    → put_first o rest ≡ Some ys
    → (x : X) × (xs : List X) × (o ≡ Some x) × (rest ≡ Some xs) × (x ∷ xs ≡ ys)
first_there None rest ys e = absurd (none-some ys e)
first_there (Some x) None ys e = absurd (none-some ys e)
first_there (Some x) (Some xs) ys e = (x, xs, refl, refl, same_Some (x ∷ xs) ys e)

some_first : {X : Type 0} (x : X) (rest : Option (List X)) → IsSome rest → IsSome (put_first (Some x) rest)
some_first x None h = absurd (cc)
some_first x (Some xs) h = refl

-- numbers below the length name elements
pub named_below : {X : Type 0} (xs : List X) (ns : List ℕ) → All (λ n. n < length xs) ns
    → IsSome (named xs ns)
named_below xs [] below = refl
named_below xs (n ∷ ns) below =
    elim (slice_get_cases xs n).1 [
      | inl found ↦
          rw found.2
          (some_first found.0 (named xs ns) (named_below xs ns (All-tail (λ m. m < length xs) n ns below)))
      | inr past ↦ absurd (omega (arith, past.0, All-head (λ m. m < length xs) n ns below))
    ]

-- and no others do
pub below_named : {X : Type 0} (xs : List X) (ns : List ℕ) → IsSome (named xs ns)
    → All (λ n. n < length xs) ns
below_named {X} xs ns h = go (named xs ns) refl h
  where
    all : (ms : List ℕ) (ys : List X) → named xs ms ≡ Some ys → All (λ n. n < length xs) ms
    all [] ys e = All-nil (λ n. n < length xs)
    all (m ∷ ms) ys e =
        let parts = first_there (slice_get xs m) (named xs ms) ys e in
        All-cons (λ n. n < length xs) m ms (slice_get_within xs m parts.0 parts.2) (all ms parts.1 parts.3)

    go : (o : Option (List X)) → named xs ns ≡ o → IsSome o → All (λ n. n < length xs) ns
    go None e some = absurd (cc)
    go (Some ys) e some = all ns ys e

-- they are elements
pub named-among : {X : Type 0} (xs : List X) (ns : List ℕ) (ys : List X) → named xs ns ≡ Some ys
    → All (Contains xs) ys
named-among xs [] ys e = All-same (Contains xs) ys [] (sym (same_Some [] ys e)) (All-nil (Contains xs))
named-among xs (n ∷ ns) ys e =
    let parts = first_there (slice_get xs n) (named xs ns) ys e in
    let x = parts.0 in
    let first : Contains xs x = (n, slice_get_within xs n x parts.2, get_or_from_slice_get xs n x x parts.2) in
    All-same (Contains xs) ys (x ∷ parts.1) (sym parts.4)
    (All-cons (Contains xs) x parts.1 first (named-among xs ns parts.1 parts.3))

-- one more number
pub named-push : {X : Type 0} (xs : List X) (ns : List ℕ) (ys : List X) (n : ℕ) (y : X)
    → named xs ns ≡ Some ys → slice_get xs n ≡ Some y → named xs (ns ++ n ∷ []) ≡ Some (ys ++ y ∷ [])
named-push xs [] ys n y e f = rw f (ap (λ zs. Some (zs ++ y ∷ [])) (same_Some [] ys e))
named-push xs (m ∷ ns) ys n y e f =
    let parts = first_there (slice_get xs m) (named xs ns) ys e in
    rw (parts.2, named-push xs ns parts.1 n y parts.3 f) (ap (λ zs. Some (zs ++ y ∷ [])) parts.4)
