-- Guest memory: its regions, and the translation that its accesses go through.
use Rattle.std.specs.Prelude.{ℕ, ◌+◌, Bool, true, false, List, [], ◌∷◌, ◌++◌, flat_map, slice_get, Option, Some, None, IsSome}
use Rattle.vm_memory_base.specs.Address.{step}
use Rattle.vm_memory_base.specs.Table.{Table, Says, says, says_nothing, Mapping, target}
use Rattle.vm_memory_guest.specs.Host as host
use Rattle.vm_memory_guest.specs.Host.{Name}
use Rattle.vm_memory_guest.specs.Region.{Region, region_names}

-- the table that translates, and the space that writes mark
pub record Translation : Type 0 where
  pub table : ℕ
  pub space : ℕ

-- an IOMMU: what memory lies behind if it is on, and whether it is
pub record Switched : Type 0 where
  pub behind : Translation
  pub on : Bool

-- regions, and their IOMMU, if they have one
pub record Memory : Type 0 where
  pub regions : List Region
  pub iommu : Option Switched

-- what a memory lies behind: nothing if its IOMMU is off
abbrev pub behind_if : Bool → Translation → Option Translation
behind_if false b = None
behind_if true b = Some b

abbrev pub behind_of : Option Switched → Option Translation
behind_of None = None
behind_of (Some s) = behind_if s.on s.behind

-- a memory has an IOMMU that is on
abbrev pub IsOn : Memory → Type 0
IsOn memory = IsSome (behind_of memory.iommu)

-- how addresses become physical: as they are, or by what a table says of them, and then writes mark a space
pub data Route : Type 0 where
  Direct : Route
  Through : (says : Says) (space : ℕ) → Route

abbrev pub says_of : Option Table → Says
says_of None = says_nothing
says_of (Some table) = says table

abbrev pub route_behind : Option Translation → List Table → Route
route_behind None tables = Direct
route_behind (Some b) tables = Through (says_of (slice_get tables b.table)) b.space

abbrev pub route : Memory → List Table → Route
route memory tables = route_behind (behind_of memory.iommu) tables

-- what is said of addresses on the way: nothing if they are physical as they are
abbrev pub said_on : Route → Says
said_on Direct = says_nothing
said_on (Through f space) = f

-- the mapping of the byte i of an access at a, if its address is translated and has one
abbrev pub mapping_of : Route → ℕ → ℕ → Option Mapping
mapping_of route a i = said_on route (a + i)

-- the physical address of byte i of an access at a. One that is translated has a mapping, since an access
-- without is refused
abbrev pub translated : ℕ → Option Mapping → ℕ
translated x None = x
translated x (Some m) = target x m

abbrev pub physical : Route → ℕ → ℕ → ℕ
physical Direct a i = step a i
physical (Through f space) a i = translated (a + i) (f (a + i))

-- what a memory names: the bytes of its regions, and its table and space, even if its IOMMU is off
abbrev pub switched_names : Option Switched → List Name
switched_names None = []
switched_names (Some s) = host.Tlb s.behind.table ∷ host.Space s.behind.space ∷ []

abbrev pub memory_names : Memory → List Name
memory_names memory = flat_map region_names memory.regions ++ switched_names memory.iommu
