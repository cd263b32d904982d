-- The bytes of a region, if there is one.
use Rattle.std.specs.Prelude.{ℕ, List, [], Option, Some, None}
use Rattle.vm_memory_guest.specs.BlockBytes.{bytes_of}
use Rattle.vm_memory_guest.specs.declared.host.block_bytes.BlockBytes.{BlockBytes}

abbrev pub region_bytes : Option BlockBytes → List ℕ
region_bytes None = []
region_bytes (Some bytes) = bytes_of bytes
