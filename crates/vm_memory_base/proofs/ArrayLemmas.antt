-- The bytes of arrays, one by one.
use Rattle.std.proofs.Common.{◌≡◌, ℕ, zero, suc, ◌+◌, ◌*◌, ◌/◌, ◌%◌, ◌<◌, List, [], ◌∷◌, ◌++◌, length, take, drop, slice_index, slice_set, get_or, sym, ◌∙◌, ap, refl, arith, replicate}
use Rattle.std.specs.List.{flat_map}
use Rattle.std.proofs.Math.Nat.{suc-mul, zero-mul, suc-add, zero-add}
use Rattle.std.proofs.lemmas.List.{get_or-append_right, get_or_append_left, drop-drop, set-append_right}
use Rattle.std.proofs.Math.Seq.{set-append_left}
use Rattle.std.proofs.lemmas.Nat.{div_below, mod_below, div-add-mod'}
use Rattle.vm_memory_base.specs.Bytes.{values_of}

replicate_sum : (z m n : ℕ) → replicate m z ++ replicate n z ≡ replicate (m + n) z
replicate_sum z zero n = ap (λ k. replicate k z) (sym (zero-add n))
replicate_sum z (suc m) n = ap (λ t. z ∷ t) (replicate_sum z m n) ∙ ap (λ k. replicate k z) (sym (suc-add m n))

module _ {V : Type 0} (width : ℕ) (bytes : V → List ℕ) (sized : (x : V) → length (bytes x) ≡ width) where
  -- byte j of value k
  pub byte_in : (xs : List V) (k j : ℕ) (d : V) → k < length xs → j < width
      → slice_index (flat_map bytes xs) (k * width + j) ≡ slice_index (bytes (get_or xs k d)) j
  byte_in [] k j d inside small = absurd (omega arith)
  byte_in (x ∷ xs) zero j d inside small =
      ap (slice_index (bytes x ++ flat_map bytes xs)) (omega arith)
      ∙ get_or_append_left (bytes x) (flat_map bytes xs) 0 j (omega (arith, sized x))
  byte_in (x ∷ xs) (suc k) j d inside small =
      ap (slice_index (bytes x ++ flat_map bytes xs)) (omega (arith, suc-mul k width))
      ∙ get_or-append_right (bytes x) (flat_map bytes xs) width (width + (k * width + j)) 0 (sized x) (omega arith)
      ∙ ap (slice_index (flat_map bytes xs)) (omega arith)
      ∙ byte_in xs k j d (omega arith) small

  -- byte j of value k replaced
  pub put_in : (xs : List V) (k j b : ℕ) (d y : V) → k < length xs → j < width
      → bytes y ≡ slice_set (bytes (get_or xs k d)) j b
      → flat_map bytes (slice_set xs k y) ≡ slice_set (flat_map bytes xs) (k * width + j) b
  put_in [] k j b d y inside small e = absurd (omega arith)
  put_in (x ∷ xs) zero j b d y inside small e =
      ap (λ t. t ++ flat_map bytes xs) e
      ∙ sym (set-append_left (bytes x) (flat_map bytes xs) j b (omega (arith, sized x)))
      ∙ ap (λ i. slice_set (bytes x ++ flat_map bytes xs) i b) (omega arith)
  put_in (x ∷ xs) (suc k) j b d y inside small e =
      ap (λ t. bytes x ++ t) (put_in xs k j b d y (omega arith) small e)
      ∙ ap (λ i. bytes x ++ slice_set (flat_map bytes xs) i b) (omega arith)
      ∙ sym (set-append_right (bytes x) (flat_map bytes xs) width (width + (k * width + j)) b (sized x) (omega arith))
      ∙ ap (λ i. slice_set (bytes x ++ flat_map bytes xs) i b) (omega (arith, suc-mul k width))

  -- byte i of them all, by its value and its place there
  pub byte_found : (xs : List V) (n i w : ℕ) (d : V) → length xs ≡ n → w ≡ width → 0 < w → i < n * width
      → slice_index (bytes (get_or xs (i / w) d)) (i % w) ≡ slice_index (flat_map bytes xs) i
  byte_found xs n i w d count e positive inside =
      let whole : i < n * w = rw e inside in
      let place : i / w * width + i % w ≡ i = ap (λ m. i / w * m + i % w) (sym e) ∙ div-add-mod' i w in
      let row : i / w < length xs = omega (arith, div_below i w n positive whole) in
      let small : i % w < width = omega (arith, mod_below i w positive) in
      sym (byte_in xs (i / w) (i % w) d row small) ∙ ap (slice_index (flat_map bytes xs)) place

  -- the same for a byte replaced
  pub put_found : (xs : List V) (n i w b : ℕ) (d y : V) → length xs ≡ n → w ≡ width → 0 < w → i < n * width
      → bytes y ≡ slice_set (bytes (get_or xs (i / w) d)) (i % w) b
      → flat_map bytes (slice_set xs (i / w) y) ≡ slice_set (flat_map bytes xs) i b
  put_found xs n i w b d y count e positive inside written =
      let whole : i < n * w = rw e inside in
      let place : i / w * width + i % w ≡ i = ap (λ m. i / w * m + i % w) (sym e) ∙ div-add-mod' i w in
      let row : i / w < length xs = omega (arith, div_below i w n positive whole) in
      let small : i % w < width = omega (arith, mod_below i w positive) in
      put_in xs (i / w) (i % w) b d y row small written
      ∙ ap (λ m. slice_set (flat_map bytes xs) m b) place

  pub zeros : (n : ℕ) (z : V) → bytes z ≡ replicate width 0 → flat_map bytes (replicate n z) ≡ replicate (n * width) 0
  zeros zero z e = ap (λ k. replicate k 0) (sym (zero-mul width))
  zeros (suc n) z e =
      rw (e, zeros n z e, suc-mul n width) (replicate_sum 0 width (n * width) ∙ ap (λ k. replicate k 0) (omega arith))

  module _ (value_of : List ℕ → V) where
    further : (k : ℕ) (s : List ℕ) → drop (suc k * width) s ≡ drop (k * width) (drop width s)
    further k s = ap (λ m. drop m s) (omega (arith, suc-mul k width)) ∙ sym (drop-drop (k * width) width s)

    -- a list that has at each index the value of that piece
    pub values_at : (n : ℕ) (xs : List V) (s : List ℕ) → length xs ≡ n
        → ((k : ℕ) (d : V) → k < n → get_or xs k d ≡ value_of (take width (drop (k * width) s)))
        → xs ≡ values_of value_of width n s
    values_at zero [] s h e = refl
    values_at zero (x ∷ xs) s h e = absurd (omega arith)
    values_at (suc n) [] s h e = absurd (omega arith)
    values_at (suc n) (x ∷ xs) s h e =
        let first : x ≡ value_of (take width s) =
        e 0 x (omega arith) ∙ ap (λ m. value_of (take width (drop m s))) (zero-mul width) in
        let others = values_at n xs (drop width s) (omega arith)
        (λ k d i. e (suc k) d (omega arith) ∙ ap (λ t. value_of (take width t)) (further k s)) in
        ap (λ z. z ∷ xs) first ∙ ap (λ zs. value_of (take width s) ∷ zs) others
