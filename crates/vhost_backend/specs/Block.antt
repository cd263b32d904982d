-- Requests of a block device, part by part.
use Rattle.std.specs.Prelude.{ℕ, ◌+◌, ◌-◌, ◌*◌, ◌<◌, ◌≤◌, ◌^◌, Bool, true, false, ◌==◌, if◌then◌else◌}
use Rattle.virtio_blk.specs.declared.request.Request.{Request}
use Rattle.virtio_blk.specs.declared.request.Request.TheVariants.{Read, Write, Flush, GetId, Refused, Unserved}
use Rattle.vhost_backend.specs.Parts.{next_part, parts_of}
use Rattle.vhost_backend.specs.declared.block.BlockStep.{BlockStep}
use Rattle.vhost_backend.specs.declared.block.BlockStep.TheVariants as step
use Rattle.vhost_backend.specs.declared.parts.Part.{Part}

-- how many bytes of data a request has, and where they lie on the disk
abbrev pub len_of : Request → ℕ
len_of (Read sector len) = len
len_of (Write sector len flush) = len
len_of (GetId len) = len
len_of _ = 0

abbrev pub place_of : Request → ℕ
place_of (Read sector len) = 512 * sector
place_of (Write sector len flush) = 512 * sector
place_of _ = 0

-- the data are those of one chain, and end below 2^64 on the disk
abbrev pub Short : Request → Type 0
Short request = (len_of request < 2 ^ 32) × (place_of request + len_of request < 2 ^ 64)

abbrev pub if_so : Bool → ℕ
if_so true = 1
if_so false = 0

-- a write that has to be stable ends with a part that flushes
abbrev pub block_parts : Request → ℕ
block_parts (Read sector len) = parts_of len
block_parts (Write sector len flush) = parts_of len + if_so flush
block_parts Flush = 1
block_parts (GetId len) = 1
block_parts (Refused status) = 0
block_parts Unserved = 0

abbrev pub read_step : ℕ → Part → BlockStep
read_step place p = step.Read (place + p.offset) p.offset p.len

abbrev pub write_step : ℕ → Part → BlockStep
write_step place p = step.Write (place + p.offset) p.offset p.len

-- the part that is served when so many are left
abbrev pub block_step : Request → ℕ → BlockStep
block_step (Read sector len) left = read_step (512 * sector) (next_part len left)
block_step (Write sector len false) left = write_step (512 * sector) (next_part len left)
block_step (Write sector len true) left = if left == 1 then step.Flush
    else write_step (512 * sector) (next_part len (left - 1))
block_step (GetId len) left = step.Name len
block_step Flush left = step.Flush
block_step (Refused status) left = step.Flush
block_step Unserved left = step.Flush

-- its status, if a part failed or none did
abbrev pub status_of : Request → Bool → ℕ
status_of (Refused status) failed = status
status_of Unserved failed = 1
status_of request failed = if_so failed

-- how many bytes were written to its chain
abbrev pub written_of : Request → ℕ → ℕ
written_of (Read sector len) moved = moved
written_of (GetId len) moved = moved
written_of _ moved = 0

-- what a part asks for lies on a disk of so many sectors
abbrev pub LiesOn : ℕ → BlockStep → Type 0
LiesOn sectors (step.Read place offset len) = place + len ≤ 512 * sectors
LiesOn sectors (step.Write place offset len) = place + len ≤ 512 * sectors
LiesOn sectors step.Flush = Unit {0}
LiesOn sectors (step.Name len) = Unit {0}
