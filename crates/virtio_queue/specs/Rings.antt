-- Rings: which slot an index has, and how indices go on. They count modulo 2^16.
use Rattle.std.specs.Prelude.{◌≡◌, ◌⊎◌, ℕ, ◌+◌, ◌-◌, ◌%◌, ◌^◌, nat_lt, ◌==◌, if◌then◌else◌, Option, Some, None, Result, Ok, Err}
use Rattle.virtio_queue.specs.declared.error.QueueError.{QueueError}
use Rattle.virtio_queue.specs.declared.error.QueueError.TheVariants.{InvalidAvailRingIndex}

-- what comes of a result: of a value what is made of it, and an error stays
abbrev pub and_then : {S T E : Type 0} → Result S E → (S → Result T E) → Result T E
and_then (Ok x) f = f x
and_then (Err e) f = Err e

-- one of two steps may fail to allocate: the first, or the second if the first gives something
abbrev pub WantsThen : {S : Type 0} → Type 0 → Result S QueueError → (S → Type 0) → Type 0
WantsThen {S} first given second = first ⊎ ((x : S) × (given ≡ Ok x) × second x)

-- the index after one, and the one before it
abbrev pub index_after : ℕ → ℕ
index_after i = (i + 1) % 2 ^ 16

abbrev pub before : ℕ → ℕ
before i = (i + (2 ^ 16 - 1)) % 2 ^ 16

-- how far an index is ahead of another
abbrev pub ahead : ℕ → ℕ → ℕ
ahead index other = (index + (2 ^ 16 - other)) % 2 ^ 16

-- the slot of an index in a ring of N slots
abbrev pub slot : ℕ → ℕ → ℕ
slot size i = i % size

-- what is taken next from a ring of heads: nothing if its index is the next one. It is at most the size ahead
abbrev pub next_in : ℕ → ℕ → ℕ → (ℕ → Result ℕ QueueError) → Result (Option ℕ) QueueError
next_in size index next head = if ahead index next == 0 then Ok None
    else if nat_lt size (ahead index next) then Err InvalidAvailRingIndex
    else and_then (head (slot size next)) (λ h. Ok (Some h))
