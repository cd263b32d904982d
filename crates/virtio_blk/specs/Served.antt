-- What serving a chain does.
use Rattle.std.specs.Prelude.{◌≡◌, ◌⊎◌, ℕ, ◌+◌, ◌-◌, ◌*◌, ◌/◌, ◌%◌, ◌<◌, ◌≤◌, min, Bool, true, false, ◌==◌, ◌||◌, if◌then◌else◌, List, [], ◌∷◌, length, take, drop, Option, MatchBool, nat_lt}
use Rattle.vm_memory_base.specs.declared.iotlb.Permissions.TheVariants as permissions
use Rattle.vm_memory_guest.specs.Host.{Host}
use Rattle.vm_memory_guest.specs.Memory.{Memory}
use Rattle.vm_memory_device.specs.Chain.{Entry, readable, text, writable}
use Rattle.vm_memory_device.specs.declared.chain.Segment.{Segment}
use Rattle.virtio_blk.specs.Config.{Device, counted, limits_of}
use Rattle.virtio_blk.specs.Disk.{Call, reads, writes, flushes, LieAt, Moves, after_write, joined}
use Rattle.virtio_blk.specs.Request.{request_of}
use Rattle.virtio_blk.specs.Texts.{Accessed, Stops, StopsAt, StopsWithin, WritesAt, reached, text_bytes}
use Rattle.virtio_blk.specs.declared.request.Request.{Request}
use Rattle.virtio_blk.specs.declared.request.Request.TheVariants.{Read, Write, Flush, GetId, Refused, Unserved}

-- a piece: how many bytes are moved between the guest and the disk at once
abbrev pub piece : ℕ
piece = 65536

-- the piece of a number of bytes in which one of them lies ends after the last byte of a whole piece, or of all
abbrev pub piece_end : ℕ → ℕ → ℕ
piece_end len at = min (at / piece * piece + piece) len

-- so many bytes are cut into pieces, of which these came, the last one first: each is a whole one, or all that is left
abbrev pub AreCut : ℕ → List (List ℕ) → Type 0
AreCut len [] = Unit {0}
AreCut len (p ∷ ps) =
    AreCut len ps × (length (joined ps) < len) × (length p ≡ min piece (len - length (joined ps)))

-- the header cannot be read: the text has fewer bytes, or a call for one of them reaches none
abbrev pub NoHeader : {B : Type 0} → Memory → Host B → List Entry → Bool → Type 0
NoHeader m host es wanted = ((length es < 16) × (wanted ≡ false))
    ⊎ StopsWithin m host.tables permissions.Read es 16 wanted

-- no byte of a disk changed
abbrev pub SameDisk : {D : Type 0} → (D → Option (List ℕ)) → (D → ℕ) → D → D → Type 0
SameDisk bytes sectors old new = (bytes new ≡ bytes old) × (sectors new ≡ sectors old)

-- the bytes of a text went to a disk, from a sector on, in pieces that it took: all N, or whole pieces, up to
-- one that the disk did not take, or that has a byte that could not be read, maybe for a failed allocation
pub record Stores {B D : Type 0} (bytes : D → Option (List ℕ)) (sectors : D → ℕ)
    (calls : D → Call → Bool → D → Type 0) (m : Memory) (host : Host B) (es : List Entry) (sector len : ℕ) (old : D)
    (status : ℕ) (wanted : Bool) (new : D) : Type 0 where
  pub moved : ℕ
  pub pieces : List (List ℕ)
  pub last : D
  pub taken : Moves calls writes sector pieces old last
  pub cut : AreCut len pieces
  pub are : joined pieces ≡ text_bytes m host es moved
  pub within : moved ≤ length (reached m host.tables es)
  pub access : Accessed m host.tables permissions.Read es moved
  pub disk : bytes new ≡ after_write (512 * sector) (text_bytes m host es moved) (bytes old)
  pub size : sectors new ≡ sectors old
  pub ended : ((status ≡ 0) × (wanted ≡ false) × (moved ≡ len) × (new ≡ last))
      ⊎ ((status ≡ 1) × (moved < len) × (moved % piece ≡ 0)
      × (((wanted ≡ false) × calls last
      (writes (sector + moved / 512) (text_bytes m host (drop moved es) (min piece (len - moved)))) false new)
      ⊎ ((new ≡ last) × StopsWithin m host.tables permissions.Read (drop moved es) (min piece (len - moved)) wanted)))

-- bytes that a disk gave, in pieces from a sector on, went to a text: all N, or whole pieces up to one that the
-- disk did not give, or those in front of an address that could not be written, maybe for a failed allocation
pub record Loads {B D : Type 0} (bytes : D → Option (List ℕ)) (sectors : D → ℕ)
    (calls : D → Call → Bool → D → Type 0) (m : Memory) (host : Host B) (es : List Entry) (sector len : ℕ) (old : D)
    (status : ℕ) (wanted : Bool) (sent : List ℕ) (new : D) : Type 0 where
  pub pieces : List (List ℕ)
  pub last : D
  pub given : Moves calls reads sector pieces old last
  pub cut : AreCut len pieces
  pub front : sent ≡ take (length sent) (joined pieces)
  pub lie : LieAt (512 * sector) sent (bytes old)
  pub disk : SameDisk bytes sectors old new
  pub ended : ((status ≡ 0) × (wanted ≡ false) × (length sent ≡ len) × (new ≡ last))
      ⊎ ((status ≡ 1) × (length sent < len)
      × (((wanted ≡ false) × (length sent ≡ length (joined pieces))
      × ((spoilt : List ℕ) × (length spoilt ≡ min piece (len - length sent))
      × calls last (reads (sector + length sent / 512) spoilt) false new))
      ⊎ ((new ≡ last) × (length (joined pieces) ≡ piece_end len (length sent))
      × StopsAt m host.tables permissions.Write es (piece_end len (length sent)) wanted (length sent))))

-- what was written was flushed to stable storage, or that failed
abbrev pub Flushes : {D : Type 0} → (D → Option (List ℕ)) → (D → ℕ) → (D → Call → Bool → D → Type 0) → D → ℕ → D
    → Type 0
Flushes bytes sectors calls old status new = SameDisk bytes sectors old new
    × (((status ≡ 0) × calls old flushes true new) ⊎ ((status ≡ 1) × calls old flushes false new))

-- the first N bytes of a name were written, or those before an address that could not be written
abbrev pub Names : {B : Type 0} → Memory → Host B → List Entry → List ℕ → ℕ → ℕ → Bool → List ℕ → Type 0
Names m host es name len status wanted sent = (sent ≡ take (length sent) name)
    × (((status ≡ 0) × (wanted ≡ false) × (length sent ≡ len))
    ⊎ ((status ≡ 1) × StopsAt m host.tables permissions.Write es len wanted (length sent)))

module _ {B D : Type 0} (bytes : D → Option (List ℕ)) (sectors : D → ℕ) (calls : D → Call → Bool → D → Type 0)
    (m : Memory) (host : Host B) where
  -- data of a text went to the disk to stay: after all of it was stored, a flush followed, which makes the status
  abbrev pub StoresToStay : List Entry → ℕ → ℕ → D → ℕ → Bool → D → Type 0
  StoresToStay given sector len old status wanted new = (stored : ℕ) × (mid : D)
      × Stores bytes sectors calls m host given sector len old stored wanted mid
      × MatchBool (stored == 0) (Flushes bytes sectors calls mid status new) ((status ≡ stored) × (new ≡ mid))

  -- what is done for a request whose data lies at one text, or goes to another: the status, whether an allocation
  -- failed for an access, the data that goes to that text, and the disk afterwards
  abbrev pub Does : Request → List Entry → List Entry → Device D → ℕ → Bool → List ℕ → D → Type 0
  Does (Read sector len) given room old status wanted sent new =
      Loads bytes sectors calls m host room sector len old.disk status wanted sent new
  Does (Write sector len flush) given room old status wanted sent new = (sent ≡ []) × MatchBool flush
      (StoresToStay given sector len old.disk status wanted new)
      (Stores bytes sectors calls m host given sector len old.disk status wanted new)
  Does Flush given room old status wanted sent new =
      (sent ≡ []) × (wanted ≡ false) × Flushes bytes sectors calls old.disk status new
  Does (GetId len) given room old status wanted sent new =
      Names m host room old.id len status wanted sent × (new ≡ old.disk)
  Does (Refused code) given room old status wanted sent new =
      (sent ≡ []) × (wanted ≡ false) × (status ≡ code) × (new ≡ old.disk)
  Does Unserved given room old status wanted sent new = (sent ≡ []) × (wanted ≡ false) × (new ≡ old.disk)

  -- what is done for a chain with these texts: nothing if its header cannot be read, and else what that asks for
  abbrev pub Performs : List Entry → List Entry → Device D → ℕ → Bool → List ℕ → D → Type 0
  Performs es room old status wanted sent new =
      (NoHeader m host es wanted × Does (Refused 1) (drop 16 es) room old status false sent new)
      ⊎ ((16 ≤ length (reached m host.tables es)) × Accessed m host.tables permissions.Read es 16
      × Does (request_of (limits_of sectors old) (text_bytes m host es 16) (length es - 16) (length room - 1))
      (drop 16 es) room old status wanted sent new)

module _ {B : Type 0} (marks : B → ℕ → ℕ → B → Type 0) (m : Memory) where
  -- a status went to the last byte of a text, or that cannot be written, maybe for a failed allocation. Nothing else
  -- changed. N of the text's bytes are written without a gap then, if N were before
  abbrev pub TellsStatus : List Entry → ℕ → ℕ → Bool → Host B → ℕ → Host B → Type 0
  TellsStatus es status sent wanted old len new = let last = drop (length es - 1) es in
      (WritesAt marks m last (status ∷ []) old new × (wanted ≡ false)
      × (len ≡ (if sent + 1 == length es then sent + 1 else sent)))
      ⊎ (Stops m old.tables permissions.Write last 1 wanted × (new ≡ old) × (len ≡ sent))

  -- data went to the front of a text, and after that the status to its last byte
  abbrev pub Tells : List Entry → ℕ → List ℕ → Bool → Host B → ℕ → Host B → Type 0
  Tells es status sent wanted old len new =
      (mid : Host B) × WritesAt marks m es sent old mid × TellsStatus es status (length sent) wanted mid len new

module _ {B D : Type 0} (marks : B → ℕ → ℕ → B → Type 0) (bytes : D → Option (List ℕ)) (sectors : D → ℕ)
    (calls : D → Call → Bool → D → Type 0) (m : Memory) where
  -- a chain with no byte for the status is not served. One for which an allocation failed is counted
  abbrev pub ServesTexts : List Entry → List Entry → Device D → Host B → ℕ → Device D → Host B → Type 0
  ServesTexts given room old host len new after = MatchBool (nat_lt 0 (length room))
      ((status : ℕ) × (sent : List ℕ) × (disk : D) × (before : Bool) × (later : Bool)
      × Performs bytes sectors calls m host given room old status before sent disk
      × Tells marks m room status sent later host len after
      × (new ≡ record old { disk = disk; starved = counted (before || later) old.starved }))
      ((len ≡ 0) × (new ≡ old) × (after ≡ host))

  -- a chain was served: N bytes from its first writable one on were written without a gap
  abbrev pub Serves : List Segment → Device D → Host B → ℕ → Device D → Host B → Type 0
  Serves chain old host len new after =
      ServesTexts (text (readable chain)) (text (writable chain)) old host len new after
