-- Walks: the windows of an access, one after the other, and then the error of what stops it.
use Rattle.std.specs.Prelude.{◌≡◌, ◌<◌, ℕ, true, false, List, [], ◌∷◌, ◌++◌, length, map, Option, Some, None, Result, Ok, Err}
use Rattle.vm_memory_base.specs.Table.{Table, pieces}
use Rattle.vm_memory_base.specs.declared.iotlb.Permissions.{Permissions}
use Rattle.vm_memory_guest.specs.Access.{AccessFault, Access, windows, path, first_fault, meets, access_of, allowed, refusal}
use Rattle.vm_memory_guest.specs.Answer.{Reach}
use Rattle.vm_memory_guest.specs.Error.{error_of}
use Rattle.vm_memory_guest.specs.Memory.{Memory, Route, IsOn, Direct, said_on, route}
use Rattle.vm_memory_guest.specs.Region.{Region}
use Rattle.vm_memory_guest.specs.Window.{Window}
use Rattle.vm_memory_guest.specs.declared.region.error.GuestMemoryError.{GuestMemoryError}
use Rattle.vm_memory_guest.specs.declared.region.error.GuestMemoryError.TheVariants as errors

-- the windows of an access, and what stops it
abbrev pub reach_of : Access → Reach AccessFault
reach_of access = record { windows = windows access.path; fault = access.fault }

-- a walk that goes through one window, and ends there
abbrev pub alone : Window → Reach AccessFault
alone w = record { windows = w ∷ []; fault = None }

-- what a walk gives that has these windows left: them in order, and then the error, if something stops it
abbrev pub error_item : Option AccessFault → List (Result Window GuestMemoryError)
error_item None = []
error_item (Some fault) = Err (error_of fault) ∷ []

abbrev pub items_of : Reach AccessFault → List (Result Window GuestMemoryError)
items_of walk = map (λ w. Ok w) walk.windows ++ error_item walk.fault

-- the windows without the error: that is returned if it comes first, and otherwise dropped
abbrev pub windows_before : List Window → Option AccessFault → Result (List Window) GuestMemoryError
windows_before [] (Some fault) = Err (error_of fault)
windows_before ws fault = Ok ws

-- the windows that are left, if this one comes next: with none there are no others
abbrev pub windows_from : Option Window → List Window → List Window
windows_from None ws = []
windows_from (Some w) ws = w ∷ ws

-- the walk over n bytes from a on, without translation
abbrev pub walk_of : List Region → ℕ → ℕ → Reach AccessFault
walk_of regions a n = reach_of (record {
  path = path (meets regions Direct a) 0 n;
  fault = first_fault (meets regions Direct a) 0 n;
})

-- what an access of a memory reaches
abbrev pub reached : Memory → List Table → ℕ → ℕ → Permissions → Reach AccessFault
reached memory tables a n access = reach_of (access_of memory.regions (route memory tables) a n access)

-- an access is allowed, and this is its walk
abbrev pub GivesAccess : Memory → List Table → ℕ → ℕ → Permissions → Reach AccessFault → Type 0
GivesAccess memory tables a n access walk =
    (allowed (route memory tables) a n access ≡ true) × (walk ≡ reached memory tables a n access)

-- an access is not allowed, and this is why
abbrev pub RefusesAccess : Memory → List Table → ℕ → ℕ → Permissions → GuestMemoryError → Type 0
RefusesAccess memory tables a n access e =
    (allowed (route memory tables) a n access ≡ false) × (e ≡ error_of (refusal (route memory tables) a n))

-- a translation of n addresses from a on leads to two pieces or more
unfoldable pub IsSplit : Route → ℕ → ℕ → Type 0
IsSplit route a n = 1 < length (pieces (said_on route) a n)

-- an access of n bytes takes a list of pieces: the memory has an IOMMU that is on, which leads to two pieces or more and
-- allows the access. One that lies in one mapping takes none
abbrev pub NeedsPieces : Memory → List Table → ℕ → ℕ → Permissions → Type 0
NeedsPieces memory tables a n access =
    IsOn memory × IsSplit (route memory tables) a n × (allowed (route memory tables) a n access ≡ true)

-- the allocation of these pieces failed
abbrev pub WantsMemory : Memory → List Table → ℕ → ℕ → Permissions → GuestMemoryError → Type 0
WantsMemory memory tables a n access e = (e ≡ errors.Memory) × NeedsPieces memory tables a n access
