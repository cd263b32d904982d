-- Numbers in bytes.
use Rattle.std.specs.Prelude.{ℕ, List, drop}
use Rattle.byteorder.specs.Endian.{little_number}

-- the number in the n bytes at a place, the lowest first
abbrev pub field : ℕ → ℕ → List ℕ → ℕ
field n at bytes = little_number n (drop at bytes)
