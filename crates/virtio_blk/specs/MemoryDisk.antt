-- Disks in memory, as their owner sees them.
use Rattle.std.specs.Prelude.{ℕ, List}
use Rattle.virtio_blk.specs.declared.disk.memory.MemoryDisk.{MemoryDisk}

-- the bytes of a disk, also those after its last whole sector
abbrev pub bytes_of : MemoryDisk → List ℕ
bytes_of disk = disk.bytes.items
