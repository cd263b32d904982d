-- Proofs that the bytes of arrays stand for their values one for one, for the laws of implementations.
use Rattle.std.proofs.Common.{◌≡◌, ℕ, zero, suc, ◌*◌, List, [], ◌∷◌, ◌++◌, length, take, drop, sym, ◌∙◌, ap, refl, arith, length-append}
use Rattle.std.specs.List.{flat_map, All}
use Rattle.std.proofs.Math.Nat.{suc-mul}
use Rattle.std.proofs.lemmas.List.{length-drop, length-take-le, take-append-drop}
use Rattle.std.proofs.Math.Seq.{take-append_seam, drop-append_seam}
use Rattle.vm_memory_base.specs.Bytes.{AreBytes, IsByteCode, IsArrayOf, values_of}

pub append_are_bytes : (s t : List ℕ) → AreBytes s → AreBytes t → AreBytes (s ++ t)
append_are_bytes [] t a b i = b i
append_are_bytes (x ∷ s) t a b zero = a 0
append_are_bytes (x ∷ s) t a b (suc i) = append_are_bytes s t (λ j. a (suc j)) b i

pub take_are_bytes : (n : ℕ) (s : List ℕ) → AreBytes s → AreBytes (take n s)
take_are_bytes zero s a i = omega arith
take_are_bytes (suc n) [] a i = omega arith
take_are_bytes (suc n) (x ∷ s) a zero = a 0
take_are_bytes (suc n) (x ∷ s) a (suc i) = take_are_bytes n s (λ j. a (suc j)) i

pub drop_are_bytes : (n : ℕ) (s : List ℕ) → AreBytes s → AreBytes (drop n s)
drop_are_bytes zero s a i = a i
drop_are_bytes (suc n) [] a i = omega arith
drop_are_bytes (suc n) (x ∷ s) a i = drop_are_bytes n s (λ j. a (suc j)) i

All_cons : {V : Type 0} (P : V → Type 0) (x : V) (xs : List V) → P x → All P xs → All P (x ∷ xs)
All_cons P x xs p ps zero d h = p
All_cons P x xs p ps (suc k) d h = ps k d (omega arith)

-- the first and the other bytes of a piece and what follows
pub front_of : (s t : List ℕ) (w : ℕ) → length s ≡ w → take w (s ++ t) ≡ s
front_of s t w h = ap (λ n. take n (s ++ t)) (sym h) ∙ take-append_seam s t

pub rest_of : (s t : List ℕ) (w : ℕ) → length s ≡ w → drop w (s ++ t) ≡ t
rest_of s t w h = ap (λ n. drop n (s ++ t)) (sym h) ∙ drop-append_seam s t

module _ {V : Type 0} (width : ℕ) (bytes : V → List ℕ) (sized : (x : V) → length (bytes x) ≡ width) where
  pub length_all : (xs : List V) → length (flat_map bytes xs) ≡ length xs * width
  length_all [] = omega arith
  length_all (x ∷ xs) =
      let all = length-append (bytes x) (flat_map bytes xs) in
      omega (arith, all, sized x, length_all xs, suc-mul (length xs) width)

  module _ (value_of : List ℕ → V) where
    pub length_values : (n : ℕ) (s : List ℕ) → length (values_of value_of width n s) ≡ n
    length_values zero s = refl
    length_values (suc n) s = ap suc (length_values n (drop width s))

    pub from_all : (P : V → Type 0) → ((x : V) → P x → value_of (bytes x) ≡ x) → (n : ℕ) (xs : List V)
        → length xs ≡ n → All P xs
        → values_of value_of width n (flat_map bytes xs) ≡ xs
    from_all P back zero [] h ps = refl
    from_all P back zero (x ∷ xs) h ps = absurd (omega arith)
    from_all P back (suc n) [] h ps = absurd (omega arith)
    from_all P back (suc n) (x ∷ xs) h ps =
        let front = front_of (bytes x) (flat_map bytes xs) width (sized x) in
        let rest = rest_of (bytes x) (flat_map bytes xs) width (sized x) in
        let others = from_all P back n xs (omega arith) (λ k d i. ps (suc k) d (omega arith)) in
        rw (front, rest, back x (ps 0 x (omega arith)), others) refl

    pub to_all : ((t : List ℕ) → length t ≡ width → AreBytes t → bytes (value_of t) ≡ t)
        → (n : ℕ) (s : List ℕ) → length s ≡ n * width
        → AreBytes s → flat_map bytes (values_of value_of width n s) ≡ s
    to_all forth zero [] h a = refl
    to_all forth zero (b ∷ s) h a = absurd (omega arith)
    to_all forth (suc n) s h a =
        let front : length (take width s) ≡ width = length-take-le width s (omega (arith, suc-mul n width)) in
        let rest : length (drop width s) ≡ n * width = omega (arith, length-drop width s, suc-mul n width) in
        let first = forth (take width s) front (take_are_bytes width s a) in
        let others = to_all forth n (drop width s) rest (drop_are_bytes width s a) in
        rw (first, others) (take-append-drop width s)

    pub all_values : (P : V → Type 0) → ((t : List ℕ) → length t ≡ width → AreBytes t → P (value_of t))
        → (n : ℕ) (s : List ℕ)
        → length s ≡ n * width → AreBytes s → All P (values_of value_of width n s)
    all_values P made zero s h a = λ k d i. absurd (omega arith)
    all_values P made (suc n) s h a =
        let front : length (take width s) ≡ width = length-take-le width s (omega (arith, suc-mul n width)) in
        let rest : length (drop width s) ≡ n * width = omega (arith, length-drop width s, suc-mul n width) in
        All_cons P (value_of (take width s)) (values_of value_of width n (drop width s))
        (made (take width s) front (take_are_bytes width s a))
        (all_values P made n (drop width s) rest (drop_are_bytes width s a))

flat_are_bytes : {V : Type 0} (bytes : V → List ℕ) → ((x : V) → AreBytes (bytes x)) → (xs : List V)
    → AreBytes (flat_map bytes xs)
flat_are_bytes bytes a [] = λ i. omega arith
flat_are_bytes bytes a (x
    ∷ xs) = append_are_bytes (bytes x) (flat_map bytes xs) (a x) (flat_are_bytes bytes a xs)

-- arrays of n values that have as many bytes each
pub array_code : {V : Type 0} {width : ℕ} {P : V → Type 0} {bytes : V → List ℕ} {value_of : List ℕ → V}
    → IsByteCode width P bytes value_of
    → ((x : V) → length (bytes x) ≡ width) → (n : ℕ)
    → IsByteCode (n * width) (IsArrayOf P n) (flat_map bytes) (values_of value_of width n)
array_code {width = width} {P = P} {bytes = bytes} {value_of = value_of} code sized n = record {
  length_bytes = λ xs valid. length_all width bytes sized xs ∙ ap (λ k. k * width) valid.0;
  are_bytes = flat_are_bytes bytes code.are_bytes;
  from_bytes = λ xs valid. from_all width bytes sized value_of P code.from_bytes n xs valid.0 valid.1;
  to_bytes = to_all width bytes sized value_of code.to_bytes n;
  is_value = λ s h a. (
    length_values width bytes sized value_of n s,
    all_values width bytes sized value_of P code.is_value n s h a,
  );
}
