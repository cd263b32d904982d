-- What the parts of a call say of one another. No public clause cites this module.
use Rattle.std.specs.Prelude.{◌≡◌, ℕ, ◌+◌, ◌*◌, ◌%◌, ◌<◌, ◌≤◌, ◌^◌, Bool, true, false, List, length, Option, Result, Ok, Err}
use Rattle.vm_memory_base.specs.declared.iotlb.Permissions.TheVariants as permissions
use Rattle.vm_memory_guest.specs.Access.{access_of}
use Rattle.vm_memory_guest.specs.Dirt.{path_cells}
use Rattle.vm_memory_guest.specs.Host.{Host, bytes_at}
use Rattle.vm_memory_guest.specs.Memory as memory
use Rattle.vm_memory_guest.specs.Memory.{route}
use Rattle.vm_memory_guest.specs.declared.region.error.GuestMemoryError.{GuestMemoryError}
use Rattle.vm_memory_guest.specs.declared.region.error.GuestMemoryError.TheVariants.{Memory}
use Rattle.vm_memory_device.specs.Chain.{Entry}
use Rattle.virtio_blk.specs.Config.{Device}
use Rattle.virtio_blk.specs.Disk.{Call}
use Rattle.virtio_blk.specs.Served.{Does}
use Rattle.virtio_blk.specs.Texts.{WritesAt}
use Rattle.virtio_blk.specs.declared.request.Request.{Request}
use Rattle.virtio_blk.specs.declared.request.Request.TheVariants.{Read, Write, Flush, GetId, Refused, Unserved}

-- whether an error says that an allocation failed
abbrev pub is_memory : GuestMemoryError → Bool
is_memory Memory = true
is_memory e = false

-- what a chain asks for, and whether an allocation failed for that. If it cannot be found out, it is refused
abbrev pub asked_of : Result Request GuestMemoryError → Request × Bool
asked_of (Ok request) = (request, false)
asked_of (Err e) = (Refused 1, is_memory e)

-- the length of a chain that is served, and whether an allocation failed for the status. If that was not written, it is
-- the number of bytes that were written before
abbrev pub length_of : Result ℕ GuestMemoryError → ℕ → ℕ × Bool
length_of (Ok n) moved = (n, false)
length_of (Err e) moved = (moved, is_memory e)

-- what has to hold to do a request, whose data lie at a text of N bytes, or go to another: they are whole
-- sectors that the disk has, and these have bytes of 64 bits
abbrev pub CanDo : ℕ → Request → ℕ → ℕ → Type 0
CanDo sectors (Read sector len) given room =
    (len % 512 ≡ 0) × (512 * sector + len ≤ 512 * sectors) × (len + 1 ≡ room) × (sectors < 2 ^ 55)
CanDo sectors (Write sector len flush) given room =
    (len % 512 ≡ 0) × (512 * sector + len ≤ 512 * sectors) × (len ≡ given) × (sectors < 2 ^ 55)
CanDo sectors Flush given room = Unit {0}
CanDo sectors (GetId len) given room = (len ≤ 20) × (len < room)
CanDo sectors (Refused status) given room = Unit {0}
CanDo sectors Unserved given room = Unit {0}

-- an access at an address reaches all of its N bytes, and these are the bytes
abbrev pub IsLent : {B : Type 0} → memory.Memory → Host B → ℕ → ℕ → List ℕ → Type 0
IsLent m host a n bytes = let p = (access_of m.regions (route m host.tables) a n permissions.Read).path in
    (length p ≡ n) × (bytes ≡ bytes_at host.blocks (path_cells p))

module _ {B D : Type 0} (marks : B → ℕ → ℕ → B → Type 0) (bytes : D → Option (List ℕ)) (sectors : D → ℕ)
    (calls : D → Call → Bool → D → Type 0) (m : memory.Memory) where
  -- a request was done: its data, N bytes, went to the front of a text, and of the device only the disk changed
  pub record Did (request : Request) (given room : List Entry) (old : Device D) (host : Host B) (status moved : ℕ)
      (wanted : Bool) (new : Device D) (after : Host B) : Type 0 where
    pub sent : List ℕ
    pub disk : D
    pub count : length sent ≡ moved
    pub does : Does bytes sectors calls m host request given room old status wanted sent disk
    pub written : WritesAt marks m room sent host after
    pub is : new ≡ record old { disk = disk }
