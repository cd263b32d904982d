-- A patched image, byte by byte.
use Rattle.std.proofs.Common.{◌≡◌, ℕ, zero, suc, ◌+◌, ◌/◌, ◌<◌, ◌==◌, cond, List, ◌∷◌, map, length, get_or, refl, ap, ◌∙◌, arith, zero-add}
use Rattle.std.proofs.lemmas.List.{length-map, get_or-map}
use Rattle.std.proofs.lemmas.List.FromFn.{length-range_with_len, get_or-range_with_len}
use Rattle.std.specs.List.{list_any, range_with_len}
use Rattle.vm_memory_base.specs.Address.{numbers}
use Rattle.vm_memory_guest.specs.Patch.{patched}

numbers-is_range : (a n : ℕ) → numbers a n ≡ range_with_len a n
numbers-is_range a zero = refl
numbers-is_range a (suc n) = ap (λ (xs : List ℕ). a ∷ xs) (numbers-is_range (a + 1) n)

length-numbers : (a n : ℕ) → length (numbers a n) ≡ n
length-numbers a n = rw (numbers-is_range a n) (length-range_with_len a n)

get_or-numbers : (a n i d : ℕ) → i < n → get_or (numbers a n) i d ≡ a + i
get_or-numbers a n i d l = rw (numbers-is_range a n) (get_or-range_with_len a n i d l)

pub length-patched : (size : ℕ) (pages now image : List ℕ) → length (patched size pages now image) ≡ length image
length-patched size pages now image = simp (length-map, length-numbers)

pub get_or-patched : (size : ℕ) (pages now image : List ℕ) (k : ℕ) → k < length image
    → get_or (patched size pages now image) k 0
    ≡ cond (list_any (λ (page : ℕ). k / size == page) pages) (get_or now k 0) (get_or image k 0)
get_or-patched size pages now image k l =
    let byte : ℕ → ℕ = λ x. cond (list_any (λ (page : ℕ). x / size == page) pages) (get_or now x 0)
    (get_or image x 0) in
    let count : length (numbers 0 (length image)) ≡ length image = length-numbers 0 (length image) in
    get_or-map byte (numbers 0 (length image)) k 0 0 (omega arith)
    ∙ ap byte (get_or-numbers 0 (length image) k 0 l ∙ zero-add k)
