-- The two steps of a request, before and after the disk.
use Rattle.std.specs.Prelude.{◌≡◌, ◌⊎◌, ℕ, ◌+◌, ◌-◌, ◌*◌, ◌%◌, ◌≤◌, min, nat_lt, Bool, true, false, ◌==◌, ◌&&◌, ◌||◌, if◌then◌else◌, List, [], ◌∷◌, length, take, drop, Option, Some, None, is_none, Result, Ok, Err, is_ok, MatchBool}
use Rattle.std.specs.List.{list_any}
use Rattle.vm_memory_base.specs.Table.{Table}
use Rattle.vm_memory_base.specs.declared.iotlb.Permissions.TheVariants as permissions
use Rattle.vm_memory_guest.specs.Access.{AccessFault}
use Rattle.vm_memory_guest.specs.Access as access
use Rattle.vm_memory_guest.specs.Error.{error_of}
use Rattle.vm_memory_guest.specs.Host.{Host}
use Rattle.vm_memory_guest.specs.Memory.{Memory, IsOn, route}
use Rattle.vm_memory_guest.specs.declared.region.error.GuestMemoryError.{GuestMemoryError}
use Rattle.vm_memory_guest.specs.declared.region.error.GuestMemoryError.TheVariants as errors
use Rattle.vm_memory_device.specs.Chain.{Entry, text_fault}
use Rattle.vm_memory_device.specs.declared.chain.Segment.{Segment}
use Rattle.virtio_blk.specs.Request.{request_of}
use Rattle.virtio_blk.specs.Texts.{WritesAt, text_bytes}
use Rattle.virtio_blk.specs.declared.request.Request.{Request}
use Rattle.virtio_blk.specs.declared.request.Request.TheVariants.{Read, Write, Flush, GetId, Refused, Unserved}
use Rattle.virtio_blk.specs.declared.request.DeviceLimits.{DeviceLimits}

-- what a step returns: it was done, or it was done without bytes that have no memory. It is the error of an access that
-- the IOMMU refuses, which the mapping may still come for
abbrev pub answer_of : {T : Type 0} → Option AccessFault → T → T → Result T GuestMemoryError
answer_of None done without = Ok done
answer_of (Some (access.NoRegion a)) done without = Ok without
answer_of (Some access.NoHostBytes) done without = Ok without
answer_of (Some (access.Refused iova len reason)) done without = Err (error_of (access.Refused iova len reason))

-- the same, or the allocation for the translation of an access failed
abbrev pub Told : {T : Type 0} → Memory → Option AccessFault → T → T → Result T GuestMemoryError → Type 0
Told m fault done without answer =
    (answer ≡ answer_of fault done without) ⊎ ((answer ≡ Err errors.Memory) × IsOn m)

-- ---- the first step

-- what stops the accesses to a header, which is the first 16 bytes of a text
abbrev pub header_fault : Memory → List Table → List Entry → Option AccessFault
header_fault m tables es = text_fault m.regions (route m tables) permissions.Read true (take 16 es)

-- a number is above a limit, if there is one
abbrev pub is_over : Option ℕ → ℕ → Bool
is_over None n = false
is_over (Some most) n = nat_lt most n

-- one of these segments has more bytes than a limit, if there is one
abbrev pub has_longer : Option ℕ → List Segment → Bool
has_longer None segments = false
has_longer (Some most) segments = list_any (λ s. nat_lt most s.len) segments

-- the segments of a chain break a limit that the driver keeps: beside the two with the header and the status they are
-- too many, or one of all is too long
abbrev pub breaks_limits : DeviceLimits → List Segment → Bool
breaks_limits limits segments = is_over limits.seg_max (length segments - 2) || has_longer limits.size_max segments

-- what a chain with these texts asks for, which breaks a limit or not. One with no byte for the status is not served, and
-- one that breaks a limit, or whose header is short, or has no memory, is refused
abbrev pub Begins : {B : Type 0} → Memory → Host B → DeviceLimits → Bool → List Entry → List Entry
    → Result Request GuestMemoryError → Type 0
Begins m host limits is_broken given room answer =
    MatchBool (length room == 0) (answer ≡ Ok Unserved)
    (MatchBool (is_broken || nat_lt (length given) 16) (answer ≡ Ok (Refused 1))
    (Told m (header_fault m host.tables given)
    (request_of limits (text_bytes m host given 16) (length given - 16) (length room - 1)) (Refused 1) answer))

-- the data of a request are whole sectors of a disk of N, or at most the 20 bytes of a name
abbrev pub FitsOn : ℕ → Request → Type 0
FitsOn sectors (Read sector len) = (len % 512 ≡ 0) × (512 * sector + len ≤ 512 * sectors)
FitsOn sectors (Write sector len flush) = (len % 512 ≡ 0) × (512 * sector + len ≤ 512 * sectors)
FitsOn sectors Flush = Unit {0}
FitsOn sectors (GetId len) = len ≤ 20
FitsOn sectors (Refused status) = Unit {0}
FitsOn sectors Unserved = Unit {0}

-- ---- the second step

-- what stops the access to the status, which is the last byte of a text
abbrev pub status_fault : Memory → List Table → List Entry → Option AccessFault
status_fault m tables es = text_fault m.regions (route m tables) permissions.Write true (drop (length es - 1) es)

-- N bytes of a text are written without a gap after its status, if M were before that
abbrev pub gapless : List Entry → ℕ → ℕ
gapless es front = if front + 1 == length es then front + 1 else front

-- a status went to the last byte of a text. Nothing else changed, and nothing at all if that cannot be written. The
-- result is the number of bytes that are written without a gap, if N were, or all before the status if that
-- number is larger
abbrev pub Finishes : {B : Type 0} → (B → ℕ → ℕ → B → Type 0) → Memory → List Entry → ℕ → ℕ → Host B
    → Result ℕ GuestMemoryError → Host B → Type 0
Finishes marks m es status moved old answer new =
    let fault = status_fault m old.tables es in
    let front = min moved (length es - 1) in
    MatchBool (length es == 0) ((answer ≡ Ok 0) × (new ≡ old))
    (Told m fault (gapless es front) front answer
    × MatchBool (is_ok answer && is_none fault) (WritesAt marks m (drop (length es - 1) es) (status ∷ []) old new)
    (new ≡ old))
