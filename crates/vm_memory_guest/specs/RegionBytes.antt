-- Accesses of a region: those of the window of all its bytes, with their errors as those of guest memory.
use Rattle.std.specs.Prelude.{ℕ, [], Some, Result, Ok, Err}
use Rattle.std.specs.Result.{result_map_both}
use Rattle.vm_memory_base.specs.declared.io.VolatileMemoryError.{VolatileMemoryError}
use Rattle.vm_memory_guest.specs.Answer.{Reach, told, window_reach}
use Rattle.vm_memory_guest.specs.Error.{of_window}
use Rattle.vm_memory_guest.specs.Region.{Region, slice_of}
use Rattle.vm_memory_guest.specs.Typed.{aligned_of}
use Rattle.vm_memory_guest.specs.Window.{Window}
use Rattle.vm_memory_guest.specs.declared.region.error.GuestMemoryError.{GuestMemoryError}

-- a result of a window, as guest memory reports it
abbrev pub as_guest : {T : Type 0} → Result T VolatileMemoryError → Result T GuestMemoryError
as_guest answer = result_map_both (λ x. x) of_window answer

-- what an access of n bytes from an offset on reaches
abbrev pub reach_in : Result Window GuestMemoryError → ℕ → ℕ → Reach GuestMemoryError
reach_in (Err e) offset n = record { windows = []; fault = Some e }
reach_in (Ok w) offset n = told of_window (window_reach w offset n)

abbrev pub region_reach : Region → ℕ → ℕ → Reach GuestMemoryError
region_reach r offset n = reach_in (slice_of r 0 r.len) offset n

-- the window of a load or a store of N bytes at an offset
abbrev pub place_in : Result Window GuestMemoryError → ℕ → ℕ → Result Window GuestMemoryError
place_in (Err e) offset size = Err e
place_in (Ok w) offset size = as_guest (aligned_of w offset size)

abbrev pub region_place : Region → ℕ → ℕ → Result Window GuestMemoryError
region_place r offset size = place_in (slice_of r 0 r.len) offset size

-- what a transfer moves of a region: what it moves of the window of all its bytes
abbrev pub moved_in : Result Window GuestMemoryError → (Window → Reach VolatileMemoryError) → Reach GuestMemoryError
moved_in (Err e) moved = record { windows = []; fault = Some e }
moved_in (Ok w) moved = told of_window (moved w)
