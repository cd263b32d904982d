-- What an access reaches, which bytes go through a mapping, and the last of the calls of a table that covers an address.
use Rattle.std.specs.Prelude.{◌≡◌, ℕ, true, false, List, ◌∷◌, ◌++◌, All, Option, Some}
use Rattle.vm_memory_base.specs.Permissions.{allow}
use Rattle.vm_memory_base.specs.Table.{Table, TableEvent, covers, Mapping, target}
use Rattle.vm_memory_base.specs.declared.iotlb.Permissions.{Permissions}
use Rattle.vm_memory_guest.specs.Access.{Access, Reached, access_of}
use Rattle.vm_memory_guest.specs.Memory.{Memory, route}
use Rattle.vm_memory_guest.specs.Region.{Region, Backed, cell}

-- what an access of n bytes at a reaches in a host with these tables
abbrev pub reached_by : Memory → List Table → ℕ → ℕ → Permissions → Access
reached_by m tables a n access = access_of m.regions (route m tables) a n access

-- of these events, the last that covers an address is this one
pub record IsLast (address : ℕ) (calls : List TableEvent) (call : TableEvent) : Type 0 where
  pub earlier : List TableEvent
  pub later : List TableEvent
  pub is_among : calls ≡ earlier ++ call ∷ later
  pub covers_it : covers call address ≡ true
  pub none_later : All (λ other. covers other address ≡ false) later

-- a byte that an access reaches at an address, of which this is said: it is mapped, with the permissions that the
-- access needs, and the byte is what lies at its target
pub record GoesThrough (regions : List Region) (address : ℕ) (said : Option Mapping) (access : Permissions)
    (x : Reached) : Type 0 where
  pub mapping : Mapping
  pub is_said : said ≡ Some mapping
  pub is_taken : x.mapping ≡ Some mapping
  pub permits : allow mapping.permissions access ≡ true
  pub lies_there : cell regions (target address mapping) ≡ Backed x.region x.cell
