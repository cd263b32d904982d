-- Chains of descriptors: the text of their segments, and what a call moves of it.
use Rattle.std.specs.Prelude.{◌≡◌, ◌⊎◌, ℕ, zero, suc, ◌+◌, ◌<◌, ◌≤◌, ◌^◌, nat_le, Bool, true, false, not, ◌&&◌, if◌then◌else◌, List, [], ◌∷◌, ◌++◌, length, take, drop, filter, map, flat_map, sum_by, Option, Some, None, option_map, Result, All}
use Rattle.std.specs.List.{list_any}
use Rattle.std.specs.Option.{option_or}
use Rattle.vm_memory_base.specs.Table.{Table}
use Rattle.vm_memory_base.specs.declared.iotlb.Permissions.{Permissions}
use Rattle.vm_memory_base.specs.declared.iotlb.Permissions.TheVariants as permissions
use Rattle.vm_memory_guest.specs.Access.{AccessFault, Meets, Reached, Stops, Stretch, allowed, refusal, meets, onto, or_fault, lengthened, window_of}
use Rattle.vm_memory_guest.specs.Answer.{filled_buffer}
use Rattle.vm_memory_guest.specs.Dirt.{path_cells, path_marks, window_marks}
use Rattle.vm_memory_guest.specs.Error.{error_of}
use Rattle.vm_memory_guest.specs.Host.{Host}
use Rattle.vm_memory_guest.specs.Memory.{Memory, Route, IsOn, route}
use Rattle.vm_memory_guest.specs.Region.{Region}
use Rattle.vm_memory_guest.specs.Transfer.{ended}
use Rattle.vm_memory_guest.specs.Window.{Window, Writes, cells}
use Rattle.vm_memory_guest.specs.declared.region.error.GuestMemoryError.{GuestMemoryError}
use Rattle.vm_memory_guest.specs.declared.region.error.GuestMemoryError.TheVariants as errors
use Rattle.vm_memory_device.specs.declared.chain.ChainFault.{ChainFault}
use Rattle.vm_memory_device.specs.declared.chain.ChainFault.TheVariants.{Range, Order, TooLong}
use Rattle.vm_memory_device.specs.declared.chain.Segment.{Segment}

-- ---- chains

-- the segments that a device reads, and those that it writes
abbrev pub readable : List Segment → List Segment
readable segments = filter (λ s. not s.writable) segments

abbrev pub writable : List Segment → List Segment
writable segments = filter (λ s. s.writable) segments

-- the number of bytes of segments
abbrev pub total_len : List Segment → ℕ
total_len segments = sum_by (λ s. s.len) segments

-- why a segment cannot follow others, one of which is writable or not, and which have this number of bytes
abbrev pub fault_past : Bool → ℕ → Segment → Option ChainFault
fault_past writes total s = if nat_le (2 ^ 64) (s.addr.0 + s.len) then Some Range
    else if writes && not s.writable then Some Order
    else if nat_le (2 ^ 32) (total + s.len) then Some TooLong
    else None

-- why segments cannot follow these: the fault of the first of them that has one
unfoldable pub fault_after : List Segment → List Segment → Option ChainFault
fault_after before [] = None
fault_after before (s ∷ ss) = option_or
    (fault_past (list_any (λ b. b.writable) before) (total_len before) s)
    (fault_after (before ++ s ∷ []) ss)

-- why segments are not a chain
abbrev pub chain_fault : List Segment → Option ChainFault
chain_fault segments = fault_after [] segments

-- ---- texts

-- an entry of a text: an address, and whether its segment ends there
pub record Entry : Type 0 where
  pub address : ℕ
  pub ends : Bool

-- the entries of a segment of n addresses from a on
unfoldable pub entries_from : ℕ → ℕ → List Entry
entries_from a zero = []
entries_from a (suc zero) = record { address = a; ends = true } ∷ []
entries_from a (suc (suc len)) = record { address = a; ends = false } ∷ entries_from (a + 1) (suc len)

-- the text of segments: their addresses, in order
abbrev pub text : List Segment → List Entry
text segments = flat_map (λ s. entries_from s.addr.0 s.len) segments

-- an access goes up to the end of a segment: the number of entries that the first of a text takes
unfoldable pub access_len : List Entry → ℕ
access_len [] = 0
access_len (e ∷ es) = if e.ends then 1 else access_len es + 1

module _ (regions : List Region) (route : Route) (access : Permissions) where
  -- what the first entry of a text meets: if an access begins with it that is not allowed, its refusal, and
  -- else what its address meets
  abbrev pub meets_entry : Bool → Entry → List Entry → Meets
  meets_entry begins e es = if begins && not (allowed route e.address (access_len (e ∷ es)) access)
      then Stops (refusal route e.address (access_len (e ∷ es)))
      else meets regions route e.address 0

  -- the bytes of a text that are reached, up to the first that is not, whether an access begins with the text or not
  unfoldable pub text_path : Bool → List Entry → List Reached
  text_path begins [] = []
  text_path begins (e ∷ es) = onto (meets_entry begins e es) (text_path e.ends es)

  -- what stops it before its end, if something does
  unfoldable pub text_fault : Bool → List Entry → Option AccessFault
  text_fault begins [] = None
  text_fault begins (e ∷ es) = or_fault (meets_entry begins e es) (text_fault e.ends es)

-- ---- calls

-- what a call reaches, and the error of what stops it
pub record Extent : Type 0 where
  pub path : List Reached
  pub error : Option GuestMemoryError

-- what a call over this text reaches
abbrev pub extent_of : Memory → List Table → Permissions → List Entry → Extent
extent_of m tables access es = record {
  path = text_path m.regions (route m tables) access true es;
  error = option_map error_of (text_fault m.regions (route m tables) access true es);
}

-- whether an access begins with the entry of this index, if one begins with the first or not
abbrev pub begins_at : Bool → List Entry → ℕ → Bool
begins_at begins es zero = begins
begins_at begins [] (suc k) = false
begins_at begins (e ∷ es) (suc k) = begins_at e.ends es k

-- an access begins with the entry of this index, all before it is reached, and its translation may fail to allocate
pub record MayWantAt (m : Memory) (tables : List Table) (access : Permissions) (es : List Entry) (k : ℕ) : Type 0 where
  pub on : IsOn m
  pub more : k < length es
  pub begins : begins_at true es k ≡ true
  pub reached : k ≤ length (extent_of m tables access es).path

-- a call over this text reached what there is. Or it ended before an access whose translation failed to allocate
abbrev pub Extends : Memory → List Table → Permissions → List Entry → Extent → Type 0
Extends m tables access es x = (x ≡ extent_of m tables access es)
    ⊎ ((k : ℕ) × MayWantAt m tables access es k
    × (x ≡ record { path = take k (extent_of m tables access es).path; error = Some errors.Memory }))

-- a call returned the number of bytes that it moved, or why it moved none, and it advanced by that number
pub record Moves (m : Memory) (tables : List Table) (access : Permissions) (es : List Entry) (most : ℕ)
    (x : Extent) (answer : Result ℕ GuestMemoryError) (left : List Entry) : Type 0 where
  pub reached : Extends m tables access (take most es) x
  pub answered : answer ≡ ended (length x.path) x.error
  pub place : left ≡ drop (length x.path) es

-- the bytes at the next addresses of a text came to the front of a buffer
abbrev pub ReadsText : {B : Type 0} → Memory → Host B → List Entry → List ℕ → Result ℕ GuestMemoryError → List Entry
    → List ℕ → Type 0
ReadsText m host es buffer answer left filled = (x : Extent)
    × Moves m host.tables permissions.Read es (length buffer) x answer left
    × (filled ≡ filled_buffer host.blocks (path_cells x.path) buffer)

-- these windows are a path, cut somewhere: they have its cells, and mark what its bytes mark, at offsets of 64 bits
pub record AreWindowsOf (xs : List Reached) (ws : List Window) : Type 0 where
  pub cells : cells ws ≡ path_cells xs
  pub marks : flat_map window_marks ws ≡ path_marks xs
  pub fit : All (λ w. w.bitmap.base + w.size ≤ 2 ^ 64) ws

-- the bytes that a call over a text reached, between cuts: those of an access, and one at the end of each segment
unfoldable pub text_stretches : List Entry → List Reached → List Stretch
text_stretches es [] = []
text_stretches [] (x ∷ xs) = []
text_stretches (e ∷ es) (x ∷ xs) = if e.ends then record { first = x; len = 1 } ∷ text_stretches es xs
    else lengthened x (text_stretches es xs)

-- their windows: those of one access for each segment, in order
abbrev pub text_windows : List Entry → List Reached → List Window
text_windows es xs = map window_of (text_stretches es xs)

-- the front of a buffer went to the next addresses of a text, in the windows of one access for each segment; each
-- window is marked once, in order
abbrev pub WritesText : {B : Type 0} → (B → ℕ → ℕ → B → Type 0) → Memory → List Entry → List ℕ → Host B
    → Result ℕ GuestMemoryError → List Entry → Host B → Type 0
WritesText marks m es buffer old answer left new = (x : Extent)
    × Moves m old.tables permissions.Write es (length buffer) x answer left
    × AreWindowsOf x.path (text_windows es x.path) × Writes marks (text_windows es x.path) buffer old new
