-- What accesses return, and how a buffer is filled.
use Rattle.std.specs.Prelude.{◌≡◌, ◌⊎◌, ℕ, ◌-◌, ◌==◌, nat_lt, if◌then◌else◌, min, List, [], ◌∷◌, ◌++◌, drop, length, Option, Some, None, option_map, Result, Ok, Err}
use Rattle.vm_memory_base.specs.declared.io.VolatileMemoryError.{VolatileMemoryError}
use Rattle.vm_memory_base.specs.declared.io.VolatileMemoryError.TheVariants.{OutOfBounds}
use Rattle.vm_memory_guest.specs.Host.{Cell, bytes_at}
use Rattle.vm_memory_guest.specs.Window.{Window, part}

-- the windows that an access reaches, and what keeps it from reaching more
pub record Reach (E : Type 0) : Type 0 where
  pub windows : List Window
  pub fault : Option E

-- what is reached, with what stops it as an error
abbrev pub told : {F E : Type 0} → (F → E) → Reach F → Reach E
told error reach = record { windows = reach.windows; fault = option_map error reach.fault }

module _ {E : Type 0} where
  -- a call returned what is expected and left its effect. Or it returned that an allocation failed, if it
  -- may make one, and left everything
  abbrev pub Outcome : {T : Type 0} → E → Type 0 → Result T E → Type 0 → Type 0 → Result T E → Type 0
  Outcome memory may_want expected unchanged effect (Ok value) = (Ok value ≡ expected) × effect
  Outcome memory may_want expected unchanged effect (Err e) =
      ((e ≡ memory) × may_want × unchanged) ⊎ ((Err e ≡ expected) × effect)

-- n bytes of a window from an offset on: as many as it has, and none if the offset is past its last byte. To
-- reach none of none nothing stops
abbrev pub window_reach : Window → ℕ → ℕ → Reach VolatileMemoryError
window_reach w offset n = if n == 0
    then record { windows = []; fault = None }
    else if nat_lt offset w.size
    then record { windows = part w offset (min n (w.size - offset)) ∷ []; fault = None }
    else record { windows = []; fault = Some (OutOfBounds offset) }

-- the buffer after the bytes in these cells came to its front
abbrev pub filled_buffer : List (List ℕ) → List Cell → List ℕ → List ℕ
filled_buffer blocks cells buffer = bytes_at blocks cells ++ drop (length cells) buffer
