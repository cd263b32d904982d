-- The parts of data: as many bytes as a part may have, and the last one what is left.
use Rattle.std.specs.Prelude.{ℕ, ◌+◌, ◌-◌, ◌*◌, ◌/◌, ◌%◌, min, nat_lt, if◌then◌else◌}
use Rattle.vhost_backend.specs.declared.parts.Part.{Part}
use Rattle.vhost_backend.specs.declared.parts.TheConstants.{PART}

abbrev pub parts_of : ℕ → ℕ
parts_of len = len / PART + (if nat_lt 0 (len % PART) then 1 else 0)

-- the one that is served when so many are left
abbrev pub next_part : ℕ → ℕ → Part
next_part len left = let offset = (parts_of len - left) * PART in
    record { offset = offset; len = min PART (len - offset) }
