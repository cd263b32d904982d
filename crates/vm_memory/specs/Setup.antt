-- What setup lines make, as a model: the state of a machine that has no layout and no memory yet.
use Rattle.std.specs.Prelude.{◌≡◌, ◌⊎◌, ◌+◌, ◌^◌, ◌==◌, ◌&&◌, ◌||◌, ◌++◌, ℕ, Bool, if◌then◌else◌, nat_le, nat_lt, List, [], ◌∷◌, length, Some, Result, Ok, Err}
use Rattle.std.specs.Int.NonZero.{non_zero_usize_get}
use Rattle.std.specs.Option.{option_map}
use Rattle.vm_memory_base.specs.Pages.{new_pages}
use Rattle.vm_memory_guest.specs.Host.{block_at, has_bytes, shape_of, with_block, with_bytes_block, with_space, with_given_table, without_block}
use Rattle.vm_memory_guest.specs.Region.{Region}
use Rattle.vm_memory.specs.State.{State}
use Rattle.vm_memory.specs.declared.machine.setup.GiveBackError.{GiveBackError}
use Rattle.vm_memory.specs.declared.machine.setup.GiveBackError.TheVariants as give
use Rattle.vm_memory.specs.declared.machine.setup.Setup as setups
use Rattle.vm_memory.specs.declared.machine.setup.Setup.TheVariants as setup
use Rattle.vm_memory.specs.declared.machine.setup.SetupReply.{SetupReply}
use Rattle.vm_memory.specs.declared.machine.setup.SetupReply.TheVariants.{BlockMade, SpaceMade, TableMade, RegionMade, TranslatorMade}
use Rattle.vm_memory.specs.declared.machine.setup.SetupReply.TheVariants.{InvalidSize, InvalidRegion, NoSuch, Memory}

-- a whole block at a guest address
abbrev pub region_at : ℕ → ℕ → ℕ → Region
region_at start block len = record { start = start; len = len; place = Some (record { block = block; offset = 0 }) }

-- a region of a block of len bytes, if it ends below the greatest address
abbrev pub add_region : State → ℕ → ℕ → ℕ → SetupReply × State
add_region old block start len = if nat_lt (start + len) (2 ^ 64)
    then (RegionMade (length old.regions), record old { regions = old.regions ++ region_at start block len ∷ [] })
    else (InvalidRegion, old)

-- the reply to a setup line and what it leaves, if no allocation fails
abbrev pub set_up : State → setups.Setup → SetupReply × State
set_up old (setup.Block size page) =
    if size == 0 || nat_le (2 ^ 63) size then (InvalidSize, old)
    else (
      BlockMade (length old.host.blocks),
      record old { host = with_block old.host size (new_pages (non_zero_usize_get page) size) },
    )
set_up old (setup.Space size page) = (
  SpaceMade (length old.host.spaces),
  record old { host = with_space old.host (new_pages (non_zero_usize_get page) size) },
)
set_up old (setup.Table limit) = (
  TableMade (length old.host.tables),
  record old {
    host = with_given_table old.host (record { limit = option_map non_zero_usize_get limit; ranges = [] });
  },
)
set_up old (setup.Region block addr) = if has_bytes (shape_of old.host) block.0
    then add_region old block.0 addr.0 (length (block_at old.host.blocks block.0)) else (NoSuch, old)
set_up old (setup.Translator table) =
    if nat_lt table.0 (length old.host.tables) then
    (TranslatorMade (length old.translators), record old { translators = old.translators ++ table.0 ∷ [] })
    else (NoSuch, old)

-- the reply to a call that lends a block of these bytes, and what it leaves, if no allocation fails
abbrev pub block_made_at : State → List ℕ → ℕ → SetupReply × State
block_made_at old bytes page = (
  BlockMade (length old.host.blocks),
  record old { host = with_bytes_block old.host bytes (new_pages page (length bytes)) },
)

-- and if one may fail
abbrev pub MakesBlockAt : State → List ℕ → ℕ → SetupReply → State → Type 0
MakesBlockAt old bytes page r new = ((r, new) ≡ block_made_at old bytes page) ⊎ ((r ≡ Memory) × (new ≡ old))

-- the machine without regions, layouts and memories
abbrev pub without_regions : State → State
without_regions old = record old { regions = []; layouts = []; memories = [] }

-- whether a machine has none of these, so that nothing of it names a block
abbrev pub names_no_block : State → Bool
names_no_block old = length old.regions == 0 && length old.layouts == 0 && length old.memories == 0

-- the answer to a call that gives a block back, and what it leaves, if no allocation fails
abbrev pub given_back : State → ℕ → Result (Unit {0}) GiveBackError × State
given_back old block = if has_bytes (shape_of old.host) block
    then (if names_no_block old
    then (Ok tt, record old { host = without_block old.host block (new_pages 1 0) }) else (Err give.InUse, old))
    else (Err give.NoSuch, old)

-- and if one may fail
abbrev pub GivesBack : State → ℕ → Result (Unit {0}) GiveBackError → State → Type 0
GivesBack old block r new = ((r, new) ≡ given_back old block)
    ⊎ ((r ≡ Err give.Memory) × ((given_back old block).0 ≡ Ok tt) × (new ≡ old))

-- a reply with the number of what was made
abbrev pub IsMade : SetupReply → Type 0
IsMade InvalidSize = ⊥
IsMade InvalidRegion = ⊥
IsMade NoSuch = ⊥
IsMade Memory = ⊥
IsMade reply = Unit {0}

-- a setup line may get this reply, and leave new: if something is to be made, its allocation may fail
abbrev pub SetsUp : State → setups.Setup → SetupReply → State → Type 0
SetsUp old s r new = ((r, new) ≡ set_up old s) ⊎ ((r ≡ Memory) × IsMade (set_up old s).0 × (new ≡ old))
