-- What a host holds: blocks of bytes, each with a bitmap, spaces and tables, each kind by number from 0.
use Rattle.std.specs.Prelude.{ℕ, zero, suc, ◌+◌, ◌<◌, ◌≤◌, nat_lt, Bool, List, [], ◌∷◌, ◌++◌, length, map, None, replicate, slice_set, slice_index, slice_index_or}
use Rattle.vm_memory_base.specs.Table.{Table}

-- the bytes of each block, the bitmap of each block, the bitmap of each space, and each table
pub record Host (B : Type 0) : Type 0 where
  pub blocks : List (List ℕ)
  pub bitmaps : List B
  pub spaces : List B
  pub tables : List Table

-- how long each block is, and how many spaces and tables there are
pub record Shape : Type 0 where
  pub blocks : List ℕ
  pub spaces : ℕ
  pub tables : ℕ

-- the host with one more block, of N zeroed bytes
abbrev pub with_block : {B : Type 0} → Host B → ℕ → B → Host B
with_block host size bitmap = record host {
  blocks = host.blocks ++ replicate size 0 ∷ [];
  bitmaps = host.bitmaps ++ bitmap ∷ [];
}

-- the host with one more block, of these bytes
abbrev pub with_bytes_block : {B : Type 0} → Host B → List ℕ → B → Host B
with_bytes_block host bytes bitmap = record host {
  blocks = host.blocks ++ bytes ∷ [];
  bitmaps = host.bitmaps ++ bitmap ∷ [];
}

-- the host without the bytes of a block, whose number stays, and with this bitmap in place of the block's
abbrev pub without_block : {B : Type 0} → Host B → ℕ → B → Host B
without_block host block bitmap = record host {
  blocks = slice_set host.blocks block [];
  bitmaps = slice_set host.bitmaps block bitmap;
}

-- the host with one more space
abbrev pub with_space : {B : Type 0} → Host B → B → Host B
with_space host bitmap = record host { spaces = host.spaces ++ bitmap ∷ [] }

-- the host with one more table, which says nothing
abbrev pub with_table : {B : Type 0} → Host B → Host B
with_table host = record host { tables = host.tables ++ record { limit = None; ranges = [] } ∷ [] }

-- the host with one more table, which is given
abbrev pub with_given_table : {B : Type 0} → Host B → Table → Host B
with_given_table host table = record host { tables = host.tables ++ table ∷ [] }

-- the host with another table of this number
abbrev pub with_table_at : {B : Type 0} → Host B → ℕ → Table → Host B
with_table_at host number table = record host { tables = slice_set host.tables number table }

abbrev pub shape_of : {B : Type 0} → Host B → Shape
shape_of host = record {
  blocks = map length host.blocks;
  spaces = length host.spaces;
  tables = length host.tables;
}

-- whether a block has bytes: each that is there and was not given back has
abbrev pub has_bytes : Shape → ℕ → Bool
has_bytes shape block = nat_lt 0 (slice_index_or shape.blocks block 0)

-- what a value can name in a host
pub data Name : Type 0 where
  Block : (block : ℕ) → Name
  Place : (block offset len : ℕ) → Name
  Space : (space : ℕ) → Name
  Tlb : (table : ℕ) → Name

-- a host of this shape holds what is named
abbrev pub IsHeld : Shape → Name → Type 0
IsHeld shape (Block block) = block < length shape.blocks
IsHeld shape (Place block offset len) =
    (block < length shape.blocks) × (offset + len ≤ slice_index shape.blocks block)
IsHeld shape (Space space) = space < shape.spaces
IsHeld shape (Tlb table) = table < shape.tables

-- a host of this shape holds everything that is named
abbrev pub Holds : Shape → List Name → Type 0
Holds shape [] = Unit {0}
Holds shape (name ∷ names) = IsHeld shape name × Holds shape names

-- a byte of a block
pub record Cell : Type 0 where
  pub block : ℕ
  pub offset : ℕ

-- len bytes of a block from an offset on
abbrev pub cells_from : ℕ → ℕ → ℕ → List Cell
cells_from block offset zero = []
cells_from block offset (suc len) =
    record { block = block; offset = offset } ∷ cells_from block (offset + 1) len

-- the bytes of a block
abbrev pub block_at : List (List ℕ) → ℕ → List ℕ
block_at blocks block = slice_index_or blocks block []

abbrev pub byte_at : List (List ℕ) → Cell → ℕ
byte_at blocks cell = slice_index (block_at blocks cell.block) cell.offset

-- the bytes in these cells
abbrev pub bytes_at : List (List ℕ) → List Cell → List ℕ
bytes_at blocks cells = map (byte_at blocks) cells

abbrev pub with_byte : List (List ℕ) → Cell → ℕ → List (List ℕ)
with_byte blocks cell byte =
    slice_set blocks cell.block (slice_set (block_at blocks cell.block) cell.offset byte)

-- the blocks after the first bytes went into the cells, one after the other
abbrev pub written : List Cell → List ℕ → List (List ℕ) → List (List ℕ)
written [] bytes blocks = blocks
written (cell ∷ cells) [] blocks = blocks
written (cell ∷ cells) (byte ∷ bytes) blocks = written cells bytes (with_byte blocks cell byte)
