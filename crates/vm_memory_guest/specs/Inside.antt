-- What is true of the parts of a host's memory. No public clause cites this module.
use Rattle.std.specs.Prelude.{◌≡◌, ℕ, ◌^◌, ◌<◌, List, length, map, All, Vec}
use Rattle.std.specs.declared.alloc.Global.{Global}
use Rattle.vm_memory_base.specs.Table.{Table}
use Rattle.vm_memory_guest.specs.Host.{Shape}
use Rattle.vm_memory_guest.specs.BlockBytes.{bytes_of}
use Rattle.vm_memory_guest.specs.declared.host.block_bytes.BlockBytes.{BlockBytes}

-- the shape is that of the parts, and each block has a bitmap, and at most 2 ^ 63 - 1 bytes
pub record IsSound {B : Type 0} (shape : Shape) (blocks : List (List ℕ)) (bitmaps spaces : List B)
    (tables : List Table) : Type 0 where
  pub lengths : shape.blocks ≡ map length blocks
  pub spaces_counted : shape.spaces ≡ length spaces
  pub tables_counted : shape.tables ≡ length tables
  pub tracked : length bitmaps ≡ length (map length blocks)
  pub sized : All (λ len. len < 2 ^ 63) (map length blocks)

-- the bytes of each block
abbrev pub blocks_of : Vec BlockBytes Global → List (List ℕ)
blocks_of blocks = map bytes_of blocks.items
