-- Numbers in payloads, each with its lowest byte first.
use Rattle.std.specs.Prelude.{ℕ, List, take, drop}
use Rattle.std.specs.Int.{w16, w32, w64, from_le_bytes}

-- the 8 bytes from a place on
abbrev pub number : List ℕ → ℕ → ℕ
number payload at = from_le_bytes w64 (take 8 (drop at payload))

-- the 4 bytes from a place on
abbrev pub word : List ℕ → ℕ → ℕ
word payload at = from_le_bytes w32 (take 4 (drop at payload))

-- the 2 bytes from a place on
abbrev pub half : List ℕ → ℕ → ℕ
half payload at = from_le_bytes w16 (take 2 (drop at payload))
