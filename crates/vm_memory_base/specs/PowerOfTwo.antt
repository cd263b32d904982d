-- Powers of two, by a test that computes.
use Rattle.std.specs.Prelude.{◌≡◌, ℕ, ◌-◌, ◌<◌, bit_and}

-- a positive number that shares no bit with its predecessor: 1, 2, 4, 8, ..
abbrev pub HasOneBit : ℕ → Type 0
HasOneBit p = (0 < p) × (bit_and p (p - 1) ≡ 0)
