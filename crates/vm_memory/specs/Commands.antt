-- What is said of each command: what it does, when it may fail to allocate, and which memory or table it is on.
use Rattle.std.specs.Prelude.{◌≡◌, ◌≢◌, ◌<◌, ◌==◌, if◌then◌else◌, ℕ, Bool, true, false, IsTrue, List, [], ◌∷◌, length, slice_get}
use Rattle.std.specs.Prelude.{Option, Some, None, IsSome, IsSomeAnd}
use Rattle.std.specs.Int.{byte_len}
use Rattle.vm_memory_base.specs.Pages.{dirty_pages, cleaned}
use Rattle.vm_memory_base.specs.Table as table
use Rattle.vm_memory_base.specs.Table.{TableEvent, says, overruns}
use Rattle.vm_memory_base.specs.declared.bitmap.BitmapId.{BitmapId}
use Rattle.vm_memory_base.specs.declared.bitmap.BitmapId.TheVariants.{Block, Space}
use Rattle.vm_memory_base.specs.declared.iotlb.Permissions.{Permissions}
use Rattle.vm_memory_base.specs.declared.iotlb.Permissions.TheVariants as permissions
use Rattle.vm_memory_guest.specs.Host.{Host, has_bytes, shape_of}
use Rattle.vm_memory_guest.specs.Layout.{inserted, removed}
use Rattle.vm_memory_guest.specs.Region.{layout_error}
use Rattle.vm_memory_guest.specs.Walk.{NeedsPieces}
use Rattle.vm_memory_guest.specs.Window.{with_bitmap}
use Rattle.vm_memory_device.specs.Iommu.{behind}
use Rattle.vm_memory_device.specs.Memories.{plain}
use Rattle.vm_memory.specs.State.{State, named}
use Rattle.vm_memory.specs.Copy.{copies}
use Rattle.vm_memory.specs.Effect.{Effect, Replies, AddsMemory, SetsMemory, Leaves}
use Rattle.vm_memory.specs.Effect.{if_there, laid_out, without, leaves, asks, changes_by}
use Rattle.vm_memory.specs.Reply.{reads, reads_whole, writes, checks}
use Rattle.vm_memory.specs.Tables.{changes, looks_up}
use Rattle.vm_memory.specs.Transfers.{receives, sends}
use Rattle.vm_memory.specs.Typed.{integer_of, fits_width, loads, stores}
use Rattle.vm_memory.specs.declared.machine.command.Command.{Command}
use Rattle.vm_memory.specs.declared.machine.command.Command.TheVariants.{FromRegions, Insert, Remove, Plain}
use Rattle.vm_memory.specs.declared.machine.command.Command.TheVariants.{NewMemory, ReplaceBackend, Enable}
use Rattle.vm_memory.specs.declared.machine.command.Command.TheVariants.{Read, Write, ReadSlice, WriteSlice}
use Rattle.vm_memory.specs.declared.machine.command.Command.TheVariants.{Store, Load, Copy, Dirty}
use Rattle.vm_memory.specs.declared.machine.command.Command.TheVariants.{Harvest, CheckRange, Set, Invalidate}
use Rattle.vm_memory.specs.declared.machine.command.Command.TheVariants.{InvalidateAll, Lookup}
use Rattle.vm_memory.specs.declared.machine.command.Command.TheVariants.{ReadFrom, ReadExactFrom}
use Rattle.vm_memory.specs.declared.machine.command.Command.TheVariants.{WriteTo, WriteAllTo}
use Rattle.vm_memory.specs.declared.machine.command.Reply.{Reply}
use Rattle.vm_memory.specs.declared.machine.command.Reply.TheVariants.{Pages, Done}

-- the bitmap of this name, if there is one, and its block was not given back
abbrev pub bitmap_in : {B : Type 0} → Host B → BitmapId → Option B
bitmap_in host (Block block) = if has_bytes (shape_of host) block then slice_get host.bitmaps block else None
bitmap_in host (Space space) = slice_get host.spaces space

-- what a command does, if no allocation fails
abbrev pub effect : State → Command → Effect
effect old (FromRegions numbers) = if_there (named old.regions numbers) (λ rs. laid_out rs (layout_error rs))
effect old (Insert layout region) =
    if_there (slice_get old.layouts layout)
    (λ rs. if_there (slice_get old.regions region)
    (λ r. let more = inserted (λ q. q) rs r in laid_out more (layout_error more)))
effect old (Remove layout base size) =
    if_there (slice_get old.layouts layout) (λ rs. without (removed (λ r. r) rs base.0 size))
effect old (Plain layout) = if_there (slice_get old.layouts layout) (λ rs. AddsMemory (plain rs))
effect old (NewMemory layout translator space on) =
    if_there (slice_get old.layouts layout)
    (λ rs. if_there (slice_get old.translators translator)
    (λ table. if_there (slice_get old.host.spaces space)
    (λ pages. AddsMemory (behind rs table space on))))
effect old (ReplaceBackend memory layout) =
    if_there (slice_get old.memories memory)
    (λ m. if_there m.iommu
    (λ s. if_there (slice_get old.layouts layout)
    (λ rs. AddsMemory (record { regions = rs; iommu = Some s }))))
effect old (Enable memory on) =
    if_there (slice_get old.memories memory)
    (λ m. if_there m.iommu (λ s. SetsMemory memory (record m { iommu = Some (record s { on = on }) })))
effect old (Read memory addr count) = asks old memory (λ m host. reads m host addr.0 count)
effect old (Write memory addr bytes) = changes_by old memory (λ m host. writes false m host addr.0 bytes)
effect old (ReadSlice memory addr count) = asks old memory (λ m host. reads_whole m host addr.0 count)
effect old (WriteSlice memory addr bytes) = changes_by old memory (λ m host. writes true m host addr.0 bytes)
effect old (Store memory width addr value) =
    changes_by old memory (λ m host. stores m host addr.0 (integer_of width) value)
effect old (Load memory width addr) = asks old memory (λ m host. loads m host addr.0 (integer_of width))
effect old (ReadFrom memory addr count source) =
    changes_by old memory (λ m host. receives false m host addr.0 count source)
effect old (ReadExactFrom memory addr count source) =
    changes_by old memory (λ m host. receives true m host addr.0 count source)
effect old (WriteTo memory addr count sink) = asks old memory (λ m host. sends false m host addr.0 count sink)
effect old (WriteAllTo memory addr count sink) = asks old memory (λ m host. sends true m host addr.0 count sink)
effect old (CheckRange memory addr count access) = asks old memory (λ m host. checks m host addr.0 count access)
effect old (Dirty id) = if_there (bitmap_in old.host id) (λ set. Replies (Pages (dirty_pages set)))
effect old (Harvest id) =
    if_there (bitmap_in old.host id) (λ set. Leaves (Pages (dirty_pages set)) (with_bitmap old.host id (cleaned set)))
effect old (Copy from to) = leaves (copies old.host from to)
effect old (Set number iova to len perm) =
    leaves (changes old.host number iova.0 len (table.Set iova.0 to.0 len perm))
effect old (Invalidate number iova len) = leaves (changes old.host number iova.0 len (table.Invalidate iova.0 len))
effect old (InvalidateAll number) = leaves (changes old.host number 0 0 table.InvalidateAll)
effect old (Lookup number iova len access) =
    if_there (slice_get old.host.tables number) (λ t. Replies (looks_up (says t) iova.0 len access))

-- an access of n bytes at a of a memory that is there takes the pieces of a translation
abbrev pub MayTranslate : State → ℕ → ℕ → ℕ → Permissions → Type 0
MayTranslate old memory a n access =
    IsSomeAnd (slice_get old.memories memory) (λ m. NeedsPieces m old.host.tables a n access)

-- a bitmap that is there has a dirty page
abbrev pub HasDirtyPage : State → BitmapId → Type 0
HasDirtyPage old id = IsSomeAnd (bitmap_in old.host id) (λ set. dirty_pages set ≢ [])

-- when an allocation may fail: for what is made, for a range that is mapped or no longer is, for the bytes, the pages
-- and the ranges that a reply lists, for the room of a sink, and for the pieces of a translation that is allowed. For
-- nothing it is not wanting
abbrev pub MayWant : State → Command → Type 0
MayWant old (FromRegions numbers) = IsSome (named old.regions numbers)
MayWant old (Insert layout region) =
    IsSome (slice_get old.layouts layout) × IsSome (slice_get old.regions region)
MayWant old (Remove layout base size) =
    IsSomeAnd (slice_get old.layouts layout) (λ rs. IsSome (removed (λ r. r) rs base.0 size))
MayWant old (Plain layout) = IsSome (slice_get old.layouts layout)
MayWant old (NewMemory layout translator space on) = IsSome (slice_get old.layouts layout)
    × IsSome (slice_get old.translators translator) × IsSome (slice_get old.host.spaces space)
MayWant old (ReplaceBackend memory layout) =
    IsSomeAnd (slice_get old.memories memory) (λ m. IsSome m.iommu) × IsSome (slice_get old.layouts layout)
MayWant old (Enable memory on) = ⊥
MayWant old (Read memory addr n) = IsSome (slice_get old.memories memory) × (0 < n)
MayWant old (Write memory addr bytes) = MayTranslate old memory addr.0 (length bytes) permissions.Write
MayWant old (ReadSlice memory addr n) = IsSome (slice_get old.memories memory) × (0 < n)
MayWant old (WriteSlice memory addr bytes) = MayTranslate old memory addr.0 (length bytes) permissions.Write
MayWant old (Store memory width addr value) =
    MayTranslate old memory addr.0 (byte_len (integer_of width)) permissions.Write
    × IsTrue (fits_width (integer_of width) value)
MayWant old (Load memory width addr) =
    MayTranslate old memory addr.0 (byte_len (integer_of width)) permissions.Read
MayWant old (ReadFrom memory addr n source) = MayTranslate old memory addr.0 n permissions.Write
MayWant old (ReadExactFrom memory addr n source) = MayTranslate old memory addr.0 n permissions.Write
MayWant old (WriteTo memory addr n sink) = IsSome (slice_get old.memories memory) × (0 < n)
MayWant old (WriteAllTo memory addr n sink) = IsSome (slice_get old.memories memory) × (0 < n)
MayWant old (CheckRange memory addr n access) = MayTranslate old memory addr.0 n access
MayWant old (Dirty id) = HasDirtyPage old id
MayWant old (Harvest id) = HasDirtyPage old id
MayWant old (Copy from to) = ⊥
MayWant old (Set number iova to len perm) =
    IsSome (slice_get old.host.tables number) × (overruns iova.0 len ≡ false) × (0 < len)
MayWant old (Invalidate number iova len) =
    IsSome (slice_get old.host.tables number) × (overruns iova.0 len ≡ false) × (0 < len)
MayWant old (InvalidateAll number) = ⊥
MayWant old (Lookup number iova len access) = IsSome (slice_get old.host.tables number) × (0 < len)

-- the memory that a command accesses, if it is an access
abbrev pub accessed_memory : Command → Option ℕ
accessed_memory (Read memory addr count) = Some memory
accessed_memory (Write memory addr bytes) = Some memory
accessed_memory (ReadSlice memory addr count) = Some memory
accessed_memory (WriteSlice memory addr bytes) = Some memory
accessed_memory (Store memory width addr value) = Some memory
accessed_memory (Load memory width addr) = Some memory
accessed_memory (ReadFrom memory addr count source) = Some memory
accessed_memory (ReadExactFrom memory addr count source) = Some memory
accessed_memory (WriteTo memory addr count sink) = Some memory
accessed_memory (WriteAllTo memory addr count sink) = Some memory
accessed_memory (CheckRange memory addr count access) = Some memory
accessed_memory c = None

-- whether it moves bytes from a source or to a sink
abbrev pub is_transfer : Command → Bool
is_transfer (ReadFrom memory addr count source) = true
is_transfer (ReadExactFrom memory addr count source) = true
is_transfer (WriteTo memory addr count sink) = true
is_transfer (WriteAllTo memory addr count sink) = true
is_transfer c = false

-- the table that a command changes or asks, if it is one on tables
abbrev pub table_of : Command → Option ℕ
table_of (Set table iova to len perm) = Some table
table_of (Invalidate table iova len) = Some table
table_of (InvalidateAll table) = Some table
table_of (Lookup table iova len access) = Some table
table_of c = None

-- the memory that a command writes to, if it writes
abbrev pub written_memory : Command → Option ℕ
written_memory (Write memory addr bytes) = Some memory
written_memory (WriteSlice memory addr bytes) = Some memory
written_memory (Store memory width addr value) = Some memory
written_memory (ReadFrom memory addr count source) = Some memory
written_memory (ReadExactFrom memory addr count source) = Some memory
written_memory c = None

-- the calls of the table of this number that a command made: its own, if it is one of this table and was done
abbrev pub table_call : ℕ → Command → Reply → List TableEvent
table_call number (Set t iova to len perm) Done = if t == number then table.Set iova.0 to.0 len perm ∷ [] else []
table_call number (Invalidate t iova len) Done = if t == number then table.Invalidate iova.0 len ∷ [] else []
table_call number (InvalidateAll t) Done = if t == number then table.InvalidateAll ∷ [] else []
table_call number c r = []
