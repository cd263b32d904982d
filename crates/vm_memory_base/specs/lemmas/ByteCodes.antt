-- Proofs that the bytes of integers stand for their values one for one. They stand here since the laws of
-- implementations cite them; what a contract says is in Bytes.
use Rattle.std.proofs.Common.{◌≡◌, ℕ, zero, suc, ◌+◌, ◌-◌, ◌*◌, ◌/◌, ◌%◌, ◌^◌, ◌<◌, List, [], ◌∷◌, ◌++◌, length, take, slice_index, sym, ◌∙◌, ap, refl, arith, Fits, reverse, subst, inl, inr, Bool}
use Rattle.std.specs.Int.{Width, w8, w16, w32, w64, w128, byte_at, byte_len, byte_worth, bytes_low_first, sum_through, to_le_bytes, from_le_bytes, cast_signed, cast_unsigned}
use Rattle.std.specs.Int.RustNames.{FitsSigned}
use mir.Val.{bits}
use Rattle.std.specs.Bool.{Decides}
use Rattle.std.proofs.Math.Facts.{Fits-lt-pow, Fits-bits, Fits-of_z, sfits_to_z}
use Rattle.std.proofs.lemmas.Int.{to_z-of_z, of_z-to_z}
use Rattle.std.proofs.Math.Nat.{pow-suc, pow-succ', div-div-eq-div-mul, mod-lt}
use Rattle.std.proofs.Math.Seq.{take-suc}
use Rattle.std.proofs.lemmas.List.{length-take-le, take_all, length-reverse, reverse-reverse, get_or-reverse, get_or_past}
use Rattle.std.proofs.lemmas.Bool.{cases_lt}
use Rattle.vm_memory_base.specs.Bytes.{AreBytes, IsByteCode}

-- the number that bytes write, the lowest first
abbrev pub little : List ℕ → ℕ
little [] = 0
little (b ∷ bs) = b + 256 * little bs

byte_above : (i n : ℕ) → byte_at (suc i) n ≡ byte_at i (n / 256)
byte_above zero n = refl
byte_above (suc i) n =
    ap (λ x. x % 256) (ap (λ p. n / p) (pow-succ' 256 (suc i)) ∙ sym (div-div-eq-div-mul n 256 (256 ^ suc i)))

-- the bytes from the second one on are those of the rest
bytes_above : (i k n : ℕ) → bytes_low_first (suc i) k n ≡ bytes_low_first i k (n / 256)
bytes_above i zero n = refl
bytes_above i (suc k) n = rw (byte_above i n, bytes_above (suc i) k n) refl

pub length-low : (i k n : ℕ) → length (bytes_low_first i k n) ≡ k
length-low i zero n = refl
length-low i (suc k) n = let e = length-low (suc i) k n in omega (arith, e)

low_are_bytes : (i k n : ℕ) → AreBytes (bytes_low_first i k n)
low_are_bytes i zero n j = omega arith
low_are_bytes zero (suc k) n zero = omega arith
low_are_bytes (suc i) (suc k) n zero = mod-lt _ (omega arith)
low_are_bytes i (suc k) n (suc j) = low_are_bytes (suc i) k n j

-- bytes written as a number and back
pub low-little : (s : List ℕ) → AreBytes s → bytes_low_first 0 (length s) (little s) ≡ s
low-little [] all = refl
low-little (b ∷ bs) all =
    let small : b < 256 = all 0 in
    let first : (b + 256 * little bs) % 256 ≡ b = omega arith in
    let rest : (b + 256 * little bs) / 256 ≡ little bs = omega arith in
    rw (bytes_above 0 (length bs) (b + 256 * little bs), first, rest, low-little bs (λ i. all (suc i))) refl

-- a number written in enough bytes and back
little-low : (k n : ℕ) → n < 256 ^ k → little (bytes_low_first 0 k n) ≡ n
little-low zero n small = omega arith
little-low (suc k) n small =
    let rest : little (bytes_low_first 0 k (n / 256))
    ≡ n / 256 = little-low k (n / 256) (omega (arith, pow-suc 256 k)) in
    rw (bytes_above 0 k n, rest) (omega arith)

pub little-lt : (s : List ℕ) → AreBytes s → little s < 256 ^ length s
little-lt [] all = omega arith
little-lt (b ∷ bs) all =
    let small : b < 256 = all 0 in
    let rest = little-lt bs (λ i. all (suc i)) in
    omega (arith, pow-suc 256 (length bs))

-- one more byte above
little-snoc : (s : List ℕ) (b : ℕ) → little (s ++ b ∷ []) ≡ little s + b * 256 ^ length s
little-snoc [] b = omega arith
little-snoc (a ∷ s) b = rw (little-snoc s b, pow-suc 256 (length s)) (omega arith)

-- std's word for the number
sum_little : (m : ℕ) (s : List ℕ) → m < length s → sum_through (λ i. byte_worth i (slice_index s i)) m
    ≡ little (take (suc m) s)
sum_little zero [] h = absurd (omega arith)
sum_little zero (a ∷ s) h = omega arith
sum_little (suc m) s h =
    let front : length (take (suc m) s) ≡ suc m = length-take-le (suc m) s (omega arith) in
    let below = sum_little m s (omega arith) in
    rw (take-suc s (suc m) 0 h, little-snoc (take (suc m) s) (slice_index s (suc m)), front, below) refl

-- each width has a byte
some_byte : (w : Width) → suc (byte_len w - 1) ≡ byte_len w
some_byte w8 = refl
some_byte w16 = refl
some_byte w32 = refl
some_byte w64 = refl
some_byte w128 = refl

pub from_le_bytes-is : (w : Width) (s : List ℕ) → length s ≡ byte_len w → from_le_bytes w s ≡ little s
from_le_bytes-is w s h =
    let whole : take (byte_len w) s ≡ s = take_all (byte_len w) s (omega arith) in
    sum_little (byte_len w - 1) s (omega (arith, some_byte w)) ∙ rw (some_byte w, whole) refl

pow_bytes : (w : Width) → 2 ^ bits w ≡ 256 ^ byte_len w
pow_bytes w8 = refl
pow_bytes w16 = refl
pow_bytes w32 = refl
pow_bytes w64 = refl
pow_bytes w128 = refl

from_le_bytes-to_le_bytes : (w : Width) (n : ℕ) → n < 2 ^ bits w → from_le_bytes w (to_le_bytes w n) ≡ n
from_le_bytes-to_le_bytes w n small =
    from_le_bytes-is w (to_le_bytes w n) (length-low 0 (byte_len w) n)
    ∙ little-low (byte_len w) n (rw (← pow_bytes w) small)

to_le_bytes-from_le_bytes : (w : Width) (s : List ℕ) → length s ≡ byte_len w → AreBytes s
    → to_le_bytes w (from_le_bytes w s) ≡ s
to_le_bytes-from_le_bytes w s h all =
    ap (to_le_bytes w) (from_le_bytes-is w s h) ∙ ap (λ k. bytes_low_first 0 k (little s)) (sym h)
    ∙ low-little s all

from_le_bytes-lt : (w : Width) (s : List ℕ) → length s ≡ byte_len w → AreBytes s
    → from_le_bytes w s < 2 ^ bits w
from_le_bytes-lt w s h all =
    let small : little s < 256 ^ byte_len w = rw h at (little-lt s all) in
    rw (from_le_bytes-is w s h, pow_bytes w) small

-- the unsigned integers of width w
pub unsigned_code : (w : Width)
    → IsByteCode (byte_len w) (λ n. n < 2 ^ bits w) (to_le_bytes w) (from_le_bytes w)
unsigned_code w = record {
  length_bytes = λ n _. length-low 0 (byte_len w) n;
  are_bytes = λ n. low_are_bytes 0 (byte_len w) n;
  from_bytes = from_le_bytes-to_le_bytes w;
  to_bytes = to_le_bytes-from_le_bytes w;
  is_value = from_le_bytes-lt w;
}

fits_width : (w : Width) (n : ℕ) → n < 2 ^ bits w → Fits w n
fits_width w8 n small = Fits-bits 8 tt small
fits_width w16 n small = Fits-bits 16 tt small
fits_width w32 n small = Fits-bits 32 tt small
fits_width w64 n small = Fits-bits 64 tt small
fits_width w128 n small = Fits-bits 128 tt small

-- the signed integers of width w, in two's complement
pub signed_code : (w : Width)
    → IsByteCode (byte_len w) (FitsSigned w) (λ z. to_le_bytes w (cast_unsigned w z))
    (λ s. cast_signed w (from_le_bytes w s))
signed_code w = record {
  length_bytes = λ z _. length-low 0 (byte_len w) (cast_unsigned w z);
  are_bytes = λ z. low_are_bytes 0 (byte_len w) (cast_unsigned w z);
  from_bytes = λ z fits.
      let small : cast_unsigned w z < 2 ^ bits w = Fits-lt-pow (Fits-of_z fits) in
      ap (cast_signed w) (from_le_bytes-to_le_bytes w (cast_unsigned w z) small) ∙ to_z-of_z w z fits;
  to_bytes = λ s h all.
      ap (to_le_bytes w) (of_z-to_z w (from_le_bytes w s) (from_le_bytes-lt w s h all))
      ∙ to_le_bytes-from_le_bytes w s h all;
  is_value = λ s h all. sfits_to_z (fits_width w _ (from_le_bytes-lt w s h all));
}

-- the same for a type of values that are those of another
pub wrapped_code : {V W : Type 0} {width : ℕ} {P : V → Type 0} {b : V → List ℕ} {v : List ℕ → V}
    → (open_ : W → V) (close : V → W) → ((x : W) → close (open_ x) ≡ x)
    → ((y : V) → open_ (close y) ≡ y) → IsByteCode width P b v
    → IsByteCode width (λ x. P (open_ x)) (λ x. b (open_ x)) (λ s. close (v s))
wrapped_code {P = P} {b = b} open_ close closes opens code = record {
  length_bytes = λ x. code.length_bytes (open_ x);
  are_bytes = λ x. code.are_bytes (open_ x);
  from_bytes = λ x valid. ap close (code.from_bytes (open_ x) valid) ∙ closes x;
  to_bytes = λ s h all. ap b (opens _) ∙ code.to_bytes s h all;
  is_value = λ s h all. subst P (sym (opens _)) (code.is_value s h all);
}

pub length-reversed : (s : List ℕ) {n : ℕ} → length s ≡ n → length (reverse s) ≡ n
length-reversed s h = length-reverse s ∙ h

reversed_are_bytes : (s : List ℕ) → AreBytes s → AreBytes (reverse s)
reversed_are_bytes s all i =
    elim (cases_lt i (length s)) [
      | inl inside ↦ rw (get_or-reverse s i 0 inside) (all (length s - 1 - i))
      | inr outside ↦ rw (get_or_past (reverse s) i 0 (omega (arith, length-reverse s))) (omega arith)
    ]

-- the same with the bytes in turned order
pub reversed_code : {V W : Type 0} {width : ℕ} {P : V → Type 0} {b : V → List ℕ} {v : List ℕ → V}
    → (open_ : W → V) (close : V → W) → ((x : W) → close (open_ x) ≡ x)
    → ((y : V) → open_ (close y) ≡ y) → IsByteCode width P b v
    → IsByteCode width (λ x. P (open_ x)) (λ x. reverse (b (open_ x))) (λ s. close (v (reverse s)))
reversed_code {P = P} {b = b} {v = v} open_ close closes opens code = record {
  length_bytes = λ x valid. length-reversed (b (open_ x)) (code.length_bytes (open_ x) valid);
  are_bytes = λ x. reversed_are_bytes (b (open_ x)) (code.are_bytes (open_ x));
  from_bytes = λ x valid. ap close (ap v (reverse-reverse (b (open_ x)))
      ∙ code.from_bytes (open_ x) valid) ∙ closes x;
  to_bytes = λ s h all.
      ap (λ y. reverse (b y)) (opens _)
      ∙ ap reverse (code.to_bytes (reverse s) (length-reversed s h) (reversed_are_bytes s all))
      ∙ reverse-reverse s;
  is_value = λ s h all.
      subst P (sym (opens _)) (code.is_value (reverse s) (length-reversed s h) (reversed_are_bytes s all));
}

-- equality of the values that another type's values are
pub wrapped_equal : {V W : Type 0} {E : V → V → Bool} → (open_ : W → V) (close : V → W)
    → ((x : W) → close (open_ x) ≡ x)
    → ((a b : V) → Decides (E a b) (a ≡ b)) → (x y : W) → Decides (E (open_ x) (open_ y)) (x ≡ y)
wrapped_equal open_ close closes equal x y = (
  λ e. sym (closes x) ∙ ap close ((equal (open_ x) (open_ y)).0 e)
      ∙ closes y,
  λ e. (equal (open_ x) (open_ y)).1 (ap open_ e),
)
