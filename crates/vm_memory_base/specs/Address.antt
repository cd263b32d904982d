-- Addresses of 64 bits. The one after the greatest is 0.
use Rattle.std.specs.Prelude.{ℕ, zero, suc, ◌+◌, ◌-◌, ◌%◌, ◌^◌, Bool, ◌&&◌, nat_le, nat_lt, List, [], ◌∷◌}

-- the address i steps on from a
abbrev pub step : ℕ → ℕ → ℕ
step a i = (a + i) % 2 ^ 64

-- the next address, 0 after the greatest
abbrev pub next : ℕ → ℕ
next a = step a 1

-- how far a target lies on from a source, modulo 2 ^ 64
abbrev pub difference : ℕ → ℕ → ℕ
difference source target = (target + 2 ^ 64 - source) % 2 ^ 64

-- whether x is one of the len addresses from start on
abbrev pub is_within : ℕ → ℕ → ℕ → Bool
is_within start len x = nat_le start x && nat_lt x (start + len)

-- the n numbers from a on
abbrev pub numbers : ℕ → ℕ → List ℕ
numbers a zero = []
numbers a (suc n) = a ∷ numbers (a + 1) n
