-- The guest memory of a connection, and what a call finds there.
use Rattle.std.specs.Prelude.{◌≡◌, ℕ, ◌+◌, length, true, ◌∷◌, ◌-◌, ◌^◌, ◌&&◌, max, min, nat_lt, Bool, false, if◌then◌else◌, List, [], map, flat_map, slice_get, Option, Some, None, option_map}
use Rattle.vm_memory_base.specs.declared.bitmap.BitmapId.{BitmapId}
use Rattle.vm_memory_base.specs.declared.bitmap.BitmapId.TheVariants.{Block, Space}
use Rattle.vm_memory_base.specs.Table.{Table, InvalidateAll, changed}
use Rattle.vm_memory_guest.specs.Host.{Holds, Host, block_at, shape_of, with_bytes_block, with_space, with_table, with_table_at}
use Rattle.vm_memory_guest.specs.Layout.{inserted}
use Rattle.vm_memory_guest.specs.Memory.{Memory, memory_names}
use Rattle.vm_memory_guest.specs.Mmap.{PlacedBlock, mmap_region}
use Rattle.vm_memory_guest.specs.Region.{containing_in, region_names}
use Rattle.vm_memory_guest.specs.declared.host.TlbId.{TlbId}
use Rattle.vm_memory_device.specs.Iommu.{Behind, behind}
use Rattle.vhost_message.specs.declared.regions.MemoryRegion.{MemoryRegion}
use Rattle.vhost_backend.specs.BlockTable.{can_ask}
use Rattle.vhost_backend.specs.PageList.{Pages, no_pages}
use Rattle.vhost_backend.specs.RingMemory.{Logs, MemoryStep, Returned}
use Rattle.vhost_backend.specs.Sight.{Sight}
use Rattle.vhost_backend.specs.declared.block_backend.BlockBackend.{BlockBackend}
use Rattle.vhost_backend.specs.declared.connection_memory.RegionPiece.{RegionPiece}
use Rattle.vhost_backend.specs.declared.pieces.Piece.{Piece}
use Rattle.vhost_backend.specs.declared.ring_memory.Logged.{Logged}

pub record MemoryState : Type 0 where
  -- the regions, ascending
  pub layout : List PlacedBlock
  -- the memory of the host, the pages that are to be marked in the log, and the region of requests in flight
  pub logged : Logged (Unit {0})
  -- what the front end's messages say of I/O addresses
  pub table : Table
  -- whether regions were joined, so that the host has a table for rings
  pub is_joined : Bool
  -- whether rings lie at I/O addresses
  pub is_behind : Bool

abbrev pub no_host : Host (Unit {0})
no_host = record { blocks = []; bitmaps = []; spaces = []; tables = [] }

-- none, with a table that keeps so many ranges, at least one
abbrev pub no_memory : ℕ → MemoryState
no_memory limit = record {
  layout = [];
  logged = record { host = no_host; pages = no_pages; region = [] };
  table = record { limit = Some (max limit 1); ranges = [] };
  is_joined = false;
  is_behind = false;
}

-- all regions are forgotten, the bytes that they have, and what was said of I/O addresses. The pages are still to be
-- marked
abbrev pub forgotten : MemoryState → MemoryState
forgotten m = record m {
  layout = [];
  logged = record m.logged { host = no_host };
  table = record m.table { ranges = [] };
  is_joined = false;
}

-- the host whose first table says nothing, if it has one
abbrev pub first_emptied : Host (Unit {0}) → Option Table → Host (Unit {0})
first_emptied host None = host
first_emptied host (Some t) = with_table_at host 0 (changed InvalidateAll t)

-- nothing is said of I/O addresses any more
abbrev pub emptied : MemoryState → MemoryState
emptied m = record m {
  logged = record m.logged { host = first_emptied m.logged.host (slice_get m.logged.host.tables 0) };
  table = record m.table { ranges = [] };
}

-- the host has the bytes of each region
abbrev pub IsHeldBy : List PlacedBlock → Host (Unit {0}) → Type 0
IsHeldBy layout host = Holds (shape_of host) (flat_map region_names (map mmap_region layout))

-- regions behind an IOMMU, whose table is the host's first
abbrev pub io_view : List PlacedBlock → Bool → Behind (List PlacedBlock) ℕ
io_view layout on = record { backend = layout; iommu = 0; on = on; space = 0 }

abbrev pub io_memory_in : List PlacedBlock → Bool → Memory
io_memory_in layout on = behind (map mmap_region layout) 0 0 on

-- if regions were joined, there is such memory of them, and the host has its table
abbrev pub IsIoMemory : List PlacedBlock → Host (Unit {0}) → Bool → Option (Behind (List PlacedBlock) ℕ) → Type 0
IsIoMemory layout host on None = Unit {0}
IsIoMemory layout host on (Some b) =
    (b ≡ io_view layout on) × Holds (shape_of host) (memory_names (io_memory_in layout on))

abbrev pub with_pages : MemoryState → Pages → MemoryState
with_pages m pages = record m { logged = record m.logged { pages = pages } }

-- the region of requests in flight has these bytes
abbrev pub with_tracked : MemoryState → List ℕ → MemoryState
with_tracked m bytes = record m { logged = record m.logged { region = bytes } }

abbrev pub with_behind : MemoryState → Bool → MemoryState
with_behind m is = record m { is_behind = is }

-- guest memory, whose blocks track nothing
abbrev pub memory_of : MemoryState → Memory
memory_of m = record { regions = map mmap_region m.layout; iommu = None }

-- that of rings: the same behind an IOMMU, if regions were joined and rings lie at I/O addresses
abbrev pub ring_memory_of : MemoryState → Memory
ring_memory_of m = if m.is_joined && m.is_behind then io_memory_in m.layout true else memory_of m

abbrev pub ring_table_of : MemoryState → Option TlbId
ring_table_of m = if m.is_joined && m.is_behind then Some (record { 0 = 0 }) else None

-- guest memory behind an IOMMU, if regions were joined, and the table that has what is kept for rings, whether these lie
-- at I/O addresses by now or not
abbrev pub joined_memory_of : MemoryState → Memory
joined_memory_of m = if m.is_joined then io_memory_in m.layout m.is_behind else memory_of m

abbrev pub kept_table_of : MemoryState → Option TlbId
kept_table_of m = if m.is_joined then Some (record { 0 = 0 }) else None

-- what translates the addresses of rings, if they lie at I/O addresses: what the front end's messages say
abbrev pub way_of : MemoryState → BlockBackend → Option Sight
way_of m w = if m.is_joined && m.is_behind then Some (record { table = m.table; can_ask = can_ask w }) else None

abbrev pub marks_nothing : Unit {0} → ℕ → ℕ → Unit {0} → Type 0
marks_nothing old offset len new = new ≡ old

-- a step of a ring on this memory
abbrev pub memory_step : MemoryState → Logged (Unit {0}) → (s : MemoryStep) → Returned s → Logged (Unit {0}) → Type 0
memory_step m = Logs marks_nothing (ring_memory_of m) (memory_of m) (ring_table_of m)

-- a step that changes what is kept for rings
abbrev pub table_step : MemoryState → Logged (Unit {0}) → (s : MemoryStep) → Returned s → Logged (Unit {0}) → Type 0
table_step m = Logs marks_nothing (joined_memory_of m) (memory_of m) (kept_table_of m)

-- the bytes of the next region come, as the next block, or are not taken
abbrev pub Maps : MemoryState → List ℕ → Bool → MemoryState → Type 0
Maps m bytes true m' = m' ≡ record m { logged = record m.logged { host = with_bytes_block m.logged.host bytes tt } }
Maps m bytes false m' = m' ≡ m

-- the block of a number, at an address
abbrev pub IsBlockAt : Host (Unit {0}) → ℕ → ℕ → PlacedBlock → Type 0
IsBlockAt host number a r =
    (r.start ≡ a) × (r.mapping.block ≡ number) × (r.mapping.size ≡ length (block_at host.blocks number))

-- each of these regions lies at its address, over the block of its number: the first has this number
abbrev pub LiesOver : Host (Unit {0}) → ℕ → List PlacedBlock → List MemoryRegion → List PlacedBlock → Type 0
LiesOver host number old [] new = new ≡ old
LiesOver host number old (region ∷ rest) new = (r : PlacedBlock) × IsBlockAt host number region.guest_address.0 r
    × LiesOver host (number + 1) (inserted mmap_region old r) rest new

-- the host with its first space and its first table, which says nothing
abbrev pub with_first_table : Host (Unit {0}) → Host (Unit {0})
with_first_table host = with_table (with_space host tt)

-- the regions become guest memory, and there is a table for rings. Or that cannot be done, and all is forgotten
abbrev pub Joins : MemoryState → List MemoryRegion → Bool → MemoryState → Type 0
Joins m regions true m' = (m.logged.host.tables ≡ []) × LiesOver m.logged.host 0 [] regions m'.layout
    × (m' ≡ record m {
      layout = m'.layout;
      logged = record m.logged { host = with_first_table m.logged.host };
      is_joined = true;
    })
Joins m regions false m' = m' ≡ forgotten m

-- ---- places

-- the number of the block that a bitmap belongs to
abbrev pub block_of : BitmapId → ℕ
block_of (Block block) = block
block_of (Space block) = block

-- at most N bytes at an address, as far as they lie in a region
abbrev pub place_in : ℕ → ℕ → PlacedBlock → RegionPiece
place_in a n r = record {
  region = r.mapping.block;
  offset = a - r.start;
  len = min n (r.mapping.size - (a - r.start));
}

-- the first bytes of a piece, as far as they lie in one region
abbrev pub place_of : MemoryState → Piece → Option RegionPiece
place_of m p = let a = p.base + p.offset in if nat_lt a (2 ^ 64)
    then option_map (place_in a p.len) (containing_in mmap_region m.layout a) else None
