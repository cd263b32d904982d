-- The bytes of a block, of either kind.
use Rattle.std.specs.Prelude.{ℕ, List}
use Rattle.std.specs.Borrow.{Lends, MutBor, Fml, Array, u8}
use Rattle.std.specs.Vec.{with_items}
use Rattle.vm_memory_guest.specs.declared.host.block_bytes.BlockBytes.{BlockBytes}
use Rattle.vm_memory_guest.specs.declared.host.block_bytes.BlockBytes.TheVariants.{Owned, Lent}
use Rattle.vm_memory_guest.specs.contracts.host.block_bytes.BlockBytes.{the_row}

abbrev pub bytes_of : BlockBytes → List ℕ
bytes_of (Owned v) = v.items
bytes_of (Lent v) = v.items

-- the block with other bytes, in memory of the same kind
abbrev pub with_bytes : BlockBytes → List ℕ → BlockBytes
with_bytes (Owned v) bytes = Owned (with_items v bytes)
with_bytes (Lent v) bytes = Lent (with_items v bytes)

-- the bytes of a block, lent to be changed
abbrev pub LendsBytes : MutBor BlockBytes → MutBor (List ℕ) → Fml
LendsBytes block lent = Lends the_row (Array u8 0) block lent (with_bytes block.now)
