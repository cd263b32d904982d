-- Pages as bits of words: page n is bit n % 64 of word n / 64.
use Rattle.std.specs.Prelude.{◌≡◌, ℕ, ◌+◌, ◌*◌, ◌/◌, ◌%◌, ◌^◌, ◌<◌, ◌≤◌, List, slice_index}

-- a word, which has this number, has no bit of a page at or past len
abbrev pub IsWithin : ℕ → ℕ → ℕ → Type 0
IsWithin len k word = (bit : ℕ) → bit < 64 → len ≤ 64 * k + bit → word / 2 ^ bit % 2 ≡ 0

-- and so each of these words
abbrev pub AreWithin : ℕ → List ℕ → Type 0
AreWithin len words = (k : ℕ) → IsWithin len k (slice_index words k)
