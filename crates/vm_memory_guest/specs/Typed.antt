-- Values in windows and in guest memory: loads and stores, which take one window or none.
use Rattle.std.specs.Prelude.{ℕ, ◌-◌, ◌%◌, ◌^◌, min, Bool, true, not, ◌&&◌, ◌==◌, if◌then◌else◌, List, [], ◌∷◌, length, Option, Some, None, option_map, Result, Ok, Err}
use Rattle.vm_memory_base.specs.declared.io.VolatileMemoryError.{VolatileMemoryError}
use Rattle.vm_memory_base.specs.declared.io.VolatileMemoryError.TheVariants.{Misaligned}
use Rattle.vm_memory_guest.specs.Access.{Access, Reached, is_cut, windows}
use Rattle.vm_memory_guest.specs.Error.{error_of}
use Rattle.vm_memory_guest.specs.Window.{Window, subslice_of}
use Rattle.vm_memory_guest.specs.declared.region.error.GuestMemoryError.{GuestMemoryError}
use Rattle.vm_memory_guest.specs.declared.region.error.GuestMemoryError.TheVariants.{InvalidBackendAddress}

-- how many bytes the values of a type are said to take: their width, cut to 64 bits
abbrev pub size_of : ℕ → ℕ
size_of width = min width (2 ^ 64 - 1)

module _ {E : Type 0} where
  -- a result that is made of what is given
  abbrev pub answered : {S T : Type 0} → (S → T) → Result S E → Result T E
  answered f (Ok x) = Ok (f x)
  answered f (Err e) = Err e

  -- the window that is given, if one is
  abbrev pub given : Result Window E → List Window
  given (Ok w) = w ∷ []
  given (Err e) = []

-- the window of a load or a store at an offset of a window: N bytes from there on, if their place in
-- the block is a multiple of their number
abbrev pub if_aligned : Result Window VolatileMemoryError → Result Window VolatileMemoryError
if_aligned (Err e) = Err e
if_aligned (Ok w) = if w.offset % w.size == 0 then Ok w else Err (Misaligned w.offset w.size)

abbrev pub aligned_of : Window → ℕ → ℕ → Result Window VolatileMemoryError
aligned_of w offset size = if_aligned (subslice_of w offset size)

-- the window of a load or a store in guest memory: the first that is reached, if it has all bytes and its
-- place in the block is a multiple of their number
abbrev pub first_aligned : ℕ → List Window → Option GuestMemoryError → Result Window GuestMemoryError
first_aligned size [] None = Err InvalidBackendAddress
first_aligned size [] (Some e) = Err e
first_aligned size (w ∷ ws) fault =
    if w.size == size && w.offset % size == 0 then Ok w else Err InvalidBackendAddress

abbrev pub place_of : ℕ → Access → Result Window GuestMemoryError
place_of size access = first_aligned size (windows access.path) (option_map error_of access.fault)

-- no two neighbouring bytes have a cut between them
abbrev pub is_uncut : List Reached → Bool
is_uncut [] = true
is_uncut (x ∷ []) = true
is_uncut (x ∷ y ∷ xs) = not (is_cut x y) && is_uncut (y ∷ xs)

-- the bytes of a load or a store in guest memory: all that are reached, if none is missing, there is no cut
-- between them, and the first one's place in its block is a multiple of their number
abbrev pub whole_path : ℕ → List Reached → Option GuestMemoryError → Result (List Reached) GuestMemoryError
whole_path size [] None = Err InvalidBackendAddress
whole_path size [] (Some e) = Err e
whole_path size (x ∷ xs) fault = if length (x ∷ xs) == size && is_uncut (x ∷ xs) && x.cell.offset % size == 0
    then Ok (x ∷ xs)
    else Err InvalidBackendAddress

abbrev pub typed_path : ℕ → Access → Result (List Reached) GuestMemoryError
typed_path size access = whole_path size access.path (option_map error_of access.fault)

-- the bytes that are given, if any are
abbrev pub path_given : Result (List Reached) GuestMemoryError → List Reached
path_given (Ok xs) = xs
path_given (Err e) = []
