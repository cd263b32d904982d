-- References to one value in a window, and to values one after the other.
use Rattle.std.specs.Prelude.{ℕ, ◌+◌, ◌*◌, ◌^◌, ◌&&◌, nat_lt, nat_le, if◌then◌else◌, Result, Ok, Err}
use Rattle.vm_memory_base.specs.declared.io.VolatileMemoryError.{VolatileMemoryError}
use Rattle.vm_memory_base.specs.declared.io.VolatileMemoryError.TheVariants.{OutOfBounds, Overflow, TooBig}
use Rattle.vm_memory_guest.specs.Window.{Window, part}

-- a sum of 64 bits
abbrev pub sum_of : ℕ → ℕ → Result ℕ VolatileMemoryError
sum_of base offset =
    if nat_lt (base + offset) (2 ^ 64) then Ok (base + offset) else Err (Overflow base offset)

-- where N bytes from base on end, in a memory of this size
abbrev pub end_of : ℕ → ℕ → ℕ → Result ℕ VolatileMemoryError
end_of size base offset =
    if nat_lt (base + offset) (2 ^ 64)
    then (if nat_le (base + offset) size then Ok (base + offset) else Err (OutOfBounds (base + offset)))
    else Err (Overflow base offset)

-- values of one type, one after the other in a window
pub record Elements : Type 0 where
  pub window : Window
  pub count : ℕ

-- the window of the value of this number, if each has N bytes
abbrev pub element_at : Elements → ℕ → ℕ → Window
element_at elements size index = part elements.window (index * size) size

-- that many values of N bytes each, if the window of as many bytes is asked of a memory. Their
-- number and their bytes are fewer than 2 ^ 63
abbrev pub elements_in : ℕ → Result Window VolatileMemoryError → Result Elements VolatileMemoryError
elements_in count (Ok w) = Ok (record { window = w; count = count })
elements_in count (Err e) = Err e

abbrev pub array_of : (ℕ → Result Window VolatileMemoryError) → ℕ → ℕ → Result Elements VolatileMemoryError
array_of slice count size =
    if nat_lt count (2 ^ 63) && nat_lt (count * size) (2 ^ 63) then elements_in count (slice (count * size))
    else Err (TooBig count size)
