-- Ranges of I/O addresses that are fetched from a table before a queue uses them: the areas of a ring, rows of an
-- indirect table, the bytes of a chain.
use Rattle.std.specs.Prelude.{◌≡◌, ℕ, ◌+◌, ◌-◌, ◌*◌, ◌^◌, ◌==◌, ◌&&◌, ◌<◌, ◌⊎◌, ◌≤◌, Bool, true, false, not, nat_lt, nat_le, is_none, if◌then◌else◌, List, [], ◌∷◌, ◌++◌, All, length, drop, filter, map, slice_get, Option, Some, None, option_to_list, IsSomeAnd, MatchBool}
use Rattle.std.specs.List.{list_all, list_any}
use Rattle.std.specs.Option.{option_or}
use Rattle.vm_memory_base.specs.Table.{Says}
use Rattle.vm_memory_base.specs.declared.iotlb.Permissions.{Permissions}
use Rattle.vm_memory_base.specs.declared.iotlb.Permissions.TheVariants.{Read, Write, ReadWrite}
use Rattle.vm_memory_device.specs.Chain.{Entry, chain_fault, readable, text, writable}
use Rattle.vm_memory_device.specs.declared.chain.Segment.{Segment}
use Rattle.virtio_queue.specs.declared.any.AnyQueue.{AnyQueue}
use Rattle.virtio_queue.specs.declared.any.AnyQueue.TheVariants.{Split, Packed}
use Rattle.vhost_iotlb.specs.Kept.{IsCurrent, IsReal, differs}
use Rattle.vhost_iotlb.specs.Leads.{LeadsTo}
use Rattle.vhost_iotlb.specs.Taking.{Covers, StopsAt, left}
use Rattle.vhost_iotlb.specs.declared.kept.Change.{Change}
use Rattle.vhost_iotlb.specs.declared.kept.Kept.{Kept}
use Rattle.vhost_iotlb.specs.declared.taking.Progress.{Progress}
use Rattle.vhost_iotlb.specs.declared.taking.Progress.TheVariants as progress
use Rattle.vhost_iotlb.specs.declared.taking.Want.{Want}
use Rattle.vhost_backend.specs.PageList.{capped}
use Rattle.vhost_backend.specs.Pieces.{side}
use Rattle.vhost_backend.specs.declared.fetch.Goal.{Goal}
use Rattle.vhost_backend.specs.declared.fetch.Goal.TheVariants.{Ring, Rows, Chain, Status}
use Rattle.vhost_backend.specs.declared.fetch.State.{State}
use Rattle.vhost_backend.specs.declared.fetch.State.TheVariants.{Begun, Waits, Stops, Whole}

-- ---- the areas of a ring

abbrev pub want : ℕ → ℕ → Permissions → Want
want iova len access = record { iova = iova; len = len; access = access }

-- event indices take two bytes more of a split ring's available and used rings
abbrev pub event_len : Bool → ℕ
event_len on = if on then 2 else 0

-- those that are read alone come first, and the one that is read and written comes last, so that bytes which two of them
-- have may be written
abbrev pub areas_of : AnyQueue → Want × Want × Want
areas_of (Split q) = let s = q.state in (
  want s.desc_table (16 * s.size) Read,
  want s.avail_ring (4 + 2 * s.size + event_len s.event_idx_enabled) Read,
  want s.used_ring (4 + 8 * s.size + event_len s.event_idx_enabled) ReadWrite,
)
areas_of (Packed q) = let s = q.state in
    (want s.driver_area 4 Read, want s.device_area 4 Write, want s.desc_ring (16 * s.size) ReadWrite)

-- two queues have the same areas
abbrev pub same_area : Want → Want → Bool
same_area a b = a.iova == b.iova && a.len == b.len

abbrev pub is_same_place : AnyQueue → AnyQueue → Bool
is_same_place q other = let a = areas_of q in let b = areas_of other in
    same_area a.0 b.0 && same_area a.1 b.1 && same_area a.2 b.2

-- the one that the front end calls the used ring
abbrev pub used_of : AnyQueue → Want
used_of (Split q) = (areas_of (Split q)).2
used_of (Packed q) = (areas_of (Packed q)).1

-- and as many bytes from where its writes are logged, if that is elsewhere
abbrev pub log_wants : Want → Option ℕ → List Want
log_wants used None = []
log_wants used (Some log) = if log == used.iova then [] else want log used.len Write ∷ []

abbrev pub ring_wants : AnyQueue → Option ℕ → List Want
ring_wants q log = let areas = areas_of q in areas.0 ∷ areas.1 ∷ log_wants (used_of q) log ++ areas.2 ∷ []

-- ---- the bytes of a chain

abbrev pub has_bytes : Segment → Bool
has_bytes s = nat_lt 0 s.len

abbrev pub access_of : Bool → Permissions
access_of writes = if writes then Write else Read

abbrev pub segment_want : Segment → Want
segment_want s = want s.addr.0 s.len (access_of s.writable)

-- all of them, in order
abbrev pub chain_wants : List Segment → List Want
chain_wants segments = map segment_want (filter has_bytes segments)

-- the last one of a segment, if it is written
abbrev pub last_want : Segment → Option Want
last_want s = if s.writable && has_bytes s then Some (want (capped (s.addr.0 + (s.len - 1))) 1 Write) else None

-- the last one that is written: that of the status
abbrev pub status_want : List Segment → Option Want
status_want [] = None
status_want (s ∷ ss) = option_or (status_want ss) (last_want s)

-- a chain has bytes that are written before the last one
abbrev pub has_gap : List Segment → Bool
has_gap chain = nat_lt 1 (length (text (writable chain)))

-- ---- the chain of guest addresses

abbrev pub is_write : Permissions → Bool
is_write Write = true
is_write access = false

-- a segment of each kept range
abbrev pub guest_segment : Kept → Segment
guest_segment k = record { addr = record { 0 = k.base }; len = k.len; writable = is_write k.access }

abbrev pub guest_segments : List Kept → List Segment
guest_segments ks = map guest_segment ks

-- it has more bytes than a segment can have
abbrev pub is_long : Kept → Bool
is_long k = nat_le (2 ^ 32) k.len

abbrev pub chain_of : List Segment → Option (List Segment)
chain_of segments = if is_none (chain_fault segments) then Some segments else None

abbrev pub guest_chain : List Kept → Option (List Segment)
guest_chain ks = if list_any is_long ks then None else chain_of (guest_segments ks)

-- entry by entry, one text leads to another
pub record AllLead (f : Says) (access : Permissions) (from to : List Entry) : Type 0 where
  pub lens : length to ≡ length from
  pub bytes : (k : ℕ) (x y : Entry) → slice_get from k ≡ Some x → slice_get to k ≡ Some y
      → LeadsTo f x.address y.address access

-- byte by byte, what is read of a chain is where what is read of a driver's chain leads, and so is what is written
abbrev pub IsTranslated : Says → List Segment → List Segment → Type 0
IsTranslated f driver guest =
    (writes : Bool) → AllLead f (access_of writes) (text (side writes driver)) (text (side writes guest))

-- a chain has one byte, where the last one that is written of a driver's chain leads, or none if that has none
pub record IsStatusOf (f : Says) (driver guest : List Segment) : Type 0 where
  pub reads : text (readable guest) ≡ []
  pub writes : let xs = text (writable driver) in AllLead f Write (drop (length xs - 1) xs) (text (writable guest))

-- ---- fetches

-- what is fetched, what is wanted for that, what was found of it, and how far that is
pub record FetchState : Type 0 where
  pub goal : Goal
  pub wants : List Want
  pub kept : List Kept
  pub state : State

-- a range has bytes, and its end is an address
abbrev pub is_real : Want → Bool
is_real w = nat_lt 0 w.len && nat_lt (w.iova + w.len) (2 ^ 64)

-- the wants of a chain are all its bytes, or that of its status
abbrev pub IsFor : Goal → List Want → Type 0
IsFor Ring ws = Unit {0}
IsFor Rows ws = Unit {0}
IsFor (Chain found) ws = ws ≡ chain_wants found.chain
IsFor (Status found) ws = ws ≡ option_to_list (status_want found.chain)

-- nothing is found yet. A range that runs past the addresses cannot be fetched
abbrev pub begun : Goal → List Want → Option FetchState
begun goal ws = if list_all is_real ws
    then Some (record { goal = goal; wants = ws; kept = []; state = Begun }) else None

-- how far it is, by why it stopped. If an allocation failed, it is tried again
abbrev pub state_by : Progress → State
state_by progress.Whole = Whole
state_by (progress.Misses iova access) = Waits iova access
state_by (progress.Bars iova access) = Stops
state_by progress.TooMany = Stops
state_by progress.NoMemory = Begun

abbrev pub waits : State → Bool
waits (Waits iova access) = true
waits state = false

-- the mapping that it waits for does not come
abbrev pub stopped : FetchState → FetchState
stopped f = if waits f.state then record f { state = Stops } else f

-- it waits for the next byte that is not found, and nothing is left of one that is whole
abbrev pub Awaits : State → List Want × ℕ → Type 0
Awaits Begun rest = Unit {0}
Awaits (Waits iova access) ([], from) = ⊥
Awaits (Waits iova access) (w ∷ ws, from) = (iova ≡ w.iova + from) × (access ≡ w.access)
Awaits Stops rest = Unit {0}
Awaits Whole rest = rest.0 ≡ []

-- it goes on by what a table says: what was found only grows, by ranges that lead where the table says, until all is
-- found, the next byte has no mapping, or a limit, a mapping or an allocation stops it
pub record GoesOn (f : Says) (most : ℕ) (old new : FetchState) : Type 0 where
  pub goal : new.goal ≡ old.goal
  pub wants : new.wants ≡ old.wants
  pub takes : (ks : List Kept) × (new.kept ≡ old.kept ++ ks) × All (IsCurrent f) ks
  pub real : All IsReal new.kept
  pub stops : (p : Progress) × StopsAt f most (length new.kept) (left new.wants 0 new.kept) p × (new.state ≡ state_by p)

-- if what it waited for leads on by now, it found more, unless it has as many ranges as may be or an allocation failed
abbrev pub TakesWhatCame : Says → ℕ → FetchState → FetchState → Type 0
TakesWhatCame f most old new = (iova to : ℕ) (access : Permissions) → old.state ≡ Waits iova access
    → LeadsTo f iova to access
    → (length old.kept < length new.kept) ⊎ ((most ≤ length old.kept) ⊎ (new.state ≡ Begun))

-- all of it is found, each byte once and in order
abbrev pub IsFound : List Want → List Kept → Type 0
IsFound ws ks = Covers ws 0 ks × ((left ws 0 ks).0 ≡ [])

-- what it makes of a chain is what that leads to
abbrev pub LeadsAs : Says → Goal → List Segment → Type 0
LeadsAs f Ring guest = Unit {0}
LeadsAs f Rows guest = Unit {0}
LeadsAs f (Chain found) guest = IsTranslated f found.chain guest
LeadsAs f (Status found) guest = IsStatusOf f found.chain guest

-- ---- the fetch of a ring, if there is one

abbrev pub is_dropped : Change → Option FetchState → Bool
is_dropped c None = false
is_dropped c (Some fetch) = list_any (differs c) fetch.kept

-- it is dropped by a change of what it kept
abbrev pub after_drop : Change → Option FetchState → Option FetchState
after_drop c fetch = if is_dropped c fetch then None else fetch

-- one that waits goes on, and its ring can go on then if it waits no more
abbrev pub ResumesOne : Says → ℕ → FetchState → Bool → FetchState → Type 0
ResumesOne f most old can new = MatchBool (waits old.state)
    (GoesOn f most old new × TakesWhatCame f most old new × (can ≡ not (waits new.state)))
    ((can ≡ false) × (new ≡ old))

abbrev pub Resumes : Says → ℕ → Option FetchState → Bool → Option FetchState → Type 0
Resumes f most None can new = (can ≡ false) × (new ≡ None)
Resumes f most (Some old) can new = IsSomeAnd new (ResumesOne f most old can)
