-- Requests: their headers, and what they ask for.
use Rattle.std.specs.Prelude.{ℕ, ◌+◌, ◌*◌, ◌%◌, min, nat_le, Bool, not, ◌&&◌, ◌==◌, if◌then◌else◌, List, take, drop}
use Rattle.std.specs.Int.{w32, w64, from_le_bytes}
use Rattle.virtio_blk.specs.Config.{must_stay}
use Rattle.virtio_blk.specs.declared.request.Request.{Request}
use Rattle.virtio_blk.specs.declared.request.Request.TheVariants.{Read, Write, Flush, GetId, Refused}
use Rattle.virtio_blk.specs.declared.request.DeviceLimits.{DeviceLimits}

-- a header is 16 bytes: kind, 4 bytes that are not used, and sector, each with its lowest byte first
abbrev pub kind_of : List ℕ → ℕ
kind_of header = from_le_bytes w32 (take 4 header)

abbrev pub sector_of : List ℕ → ℕ
sector_of header = from_le_bytes w64 (drop 8 header)

-- N bytes from a sector on are whole sectors of a disk of M sectors
abbrev pub fits : ℕ → ℕ → ℕ → Bool
fits sectors sector len = len % 512 == 0 && nat_le (512 * sector + len) (512 * sectors)

-- what a request asks for, by its header, if N readable bytes follow that, and as many writable ones stand
-- in front of the status
abbrev pub request_of : DeviceLimits → List ℕ → ℕ → ℕ → Request
request_of limits header given room = let sector = sector_of header in
    if kind_of header == 0 then (if fits limits.sectors sector room then Read sector room else Refused 1)
    else if kind_of header == 1 then
    (if not limits.read_only && fits limits.sectors sector given
    then Write sector given (must_stay limits.acked given) else Refused 1)
    else if kind_of header == 4 then Flush
    else if kind_of header == 8 then GetId (min room 20)
    else Refused 2
