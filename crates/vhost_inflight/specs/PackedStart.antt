-- Where a packed queue goes on, by what its region and one slot of its ring say.
use Rattle.std.specs.Prelude.{◌≡◌, ℕ, zero, suc, ◌+◌, ◌*◌, ◌-◌, ◌^◌, ◌<◌, Bool, true, false, not, ◌&&◌, ◌||◌, ◌==◌, nat_le, nat_lt, max, bit_and, if◌then◌else◌, List, [], ◌∷◌, ◌++◌, length, map, fold, replicate, slice_index_or, slice_set, Option, Some, None}
use Rattle.std.specs.List.{flat_map, list_any, sum_by}
use Rattle.vhost_inflight.specs.Packed.{PackedKept, PackedRegion, changed, copy_of, counter_of, entry_of, entry_offset, is_in_flight, kept_of, moved}
use Rattle.vhost_inflight.specs.declared.packed.PackedStore.{PackedStore}
use Rattle.vhost_inflight.specs.declared.packed.PackedStore.TheVariants.{InFlight, Next, FreeHead, OldFreeHead, Used, DescNum, Version}
use Rattle.vhost_inflight.specs.declared.packed_region.PackedCopy.{PackedCopy}
use Rattle.vhost_inflight.specs.declared.packed_region.PackedEntry.{PackedEntry}
use Rattle.vhost_inflight.specs.declared.packed_region.PackedHeader.{PackedHeader}
use Rattle.vhost_inflight.specs.declared.packed_region.PackedPosition.{PackedPosition}
use Rattle.vhost_inflight.specs.declared.packed_start.Opened.{Opened}
use Rattle.vhost_inflight.specs.declared.packed_start.PackedAgain.{PackedAgain}
use Rattle.vhost_inflight.specs.declared.packed_start.PackedStart.{PackedStart}
use Rattle.vhost_inflight.specs.declared.packed_error.PackedStartError.{PackedStartError}
use Rattle.vhost_inflight.specs.declared.packed_error.PackedStartError.TheVariants as refused
use Rattle.vhost_inflight.specs.declared.packed_start.Place.{Place}
use Rattle.vhost_inflight.specs.declared.packed_start.Taken.{Taken}

-- ---- what the ring says

-- of a slot's flags, those that a device with this wrap counter finds available
abbrev pub available_flags : Bool → ℕ
available_flags wrap = if wrap then 0x80 else 0x8000

abbrev pub is_available : ℕ → Bool → Bool
is_available flags wrap = bit_and flags 0x8080 == available_flags wrap

abbrev pub is_same : PackedPosition → PackedPosition → Bool
is_same p q = (p.slot == q.slot) && (if p.wrap then q.wrap else not q.wrap)

-- whether the last return reached the ring, though the region does not say so yet
abbrev pub commits : PackedHeader → ℕ → Bool
commits h flags = not (is_same h.used h.old_used) && not (is_available flags h.old_used.wrap)

-- where the free entries begin, and the next used position
abbrev pub place_of : PackedHeader → ℕ → Place
place_of h flags = if commits h flags then record { free_head = h.free_head; used = h.used }
    else record { free_head = h.old_free_head; used = h.old_used }

-- ---- a fresh region, in which each entry is free

abbrev pub taken_header : PackedHeader → PackedPosition → PackedHeader
taken_header h base = if h.version == 0
    then record h { free_head = 0; old_free_head = 0; used = base; old_used = base } else h

-- so many entries from an index on lead to the ones after them
abbrev pub linked : List PackedEntry → ℕ → ℕ → List PackedEntry
linked entries index zero = entries
linked entries index (suc n) = linked (changed entries index (λ e. record e { next = index + 1 })) (index + 1) n

abbrev pub listed : ℕ → List PackedEntry → List PackedEntry
listed version entries = if version == 0 then linked entries 0 (length entries) else entries

abbrev pub taken_entries : PackedRegion → List PackedEntry
taken_entries r = listed r.header.version r.entries

abbrev pub taken_place : PackedRegion → PackedPosition → ℕ → Place
taken_place r base flags = place_of (taken_header r.header base) flags

-- ---- the free entries

abbrev pub in_front : ℕ → Option (List ℕ) → Option (List ℕ)
in_front x None = None
in_front x (Some xs) = Some (x ∷ xs)

-- the entries from one on to the end, of which there are at most so many. None if they lead elsewhere
abbrev pub free_list : List PackedEntry → ℕ → ℕ → Option (List ℕ)
free_list entries zero head = if head == length entries then Some [] else None
free_list entries (suc n) head = if head == length entries then Some [] else (
    if nat_lt (length entries) head then None else
    in_front head (free_list entries n (entry_of entries head).next))

abbrev pub free_of : PackedRegion → PackedPosition → ℕ → Option (List ℕ)
free_of r base flags =
    free_list (taken_entries r) (length r.entries) (taken_place r base flags).free_head

abbrev pub or_none : Option (List ℕ) → List ℕ
or_none None = []
or_none (Some xs) = xs

abbrev pub free : PackedRegion → PackedPosition → ℕ → List ℕ
free r base flags = or_none (free_of r base flags)

-- the entries when these are in flight no longer
abbrev pub cleared : List PackedEntry → List ℕ → List PackedEntry
cleared entries [] = entries
cleared entries (index ∷ indices) = cleared (changed entries index (λ e. record e { in_flight = 0 })) indices

-- the entries when what is free is in flight no longer
abbrev pub settled : PackedRegion → PackedPosition → ℕ → List PackedEntry
settled r base flags = cleared (taken_entries r) (free r base flags)

-- ---- what is in flight

-- by their counts; equal counts, which no back end writes, by their numbers
abbrev pub rank : List PackedEntry → ℕ → ℕ
rank entries head = counter_of entries head * 2 ^ 16 + head

abbrev pub is_among : ℕ → List ℕ → Bool
is_among head heads = list_any (λ x. x == head) heads

-- each stands in front of those after it
abbrev pub Rises : List PackedEntry → List ℕ → Type 0
Rises entries [] = Unit {0}
Rises entries (x ∷ xs) = ((y : ℕ) → is_among y xs ≡ true → rank entries x < rank entries y) × Rises entries xs

-- a list has the heads in flight, in their order
pub record IsInFlight (entries : List PackedEntry) (heads : List ℕ) : Type 0 where
  pub each : (head : ℕ) → is_among head heads ≡ is_in_flight entries head
  pub order : Rises entries heads

-- the heads of what a start serves again
abbrev pub Flies : PackedRegion → PackedPosition → ℕ → List ℕ → Type 0
Flies r base flags heads = IsInFlight (settled r base flags) heads

-- the greatest count of what is in flight
abbrev pub greatest : List PackedEntry → ℕ
greatest entries = fold (λ most e. max most (if e.in_flight == 1 then e.counter else 0)) 0 entries

-- ---- chains

abbrev pub num_of : List PackedEntry → ℕ → ℕ
num_of entries head = (entry_of entries head).num

-- so many entries, each led to by the one in front of it
abbrev pub walk : List PackedEntry → ℕ → ℕ → List ℕ
walk entries zero index = []
walk entries (suc n) index = index ∷ walk entries n (entry_of entries index).next

-- the entries of the chain that begins at one
abbrev pub nodes_of : List PackedEntry → ℕ → List ℕ
nodes_of entries head = walk entries (num_of entries head) head

abbrev pub last_of : ℕ → List ℕ → ℕ
last_of x [] = x
last_of x (y ∷ ys) = last_of y ys

abbrev pub copies_of : List PackedEntry → List ℕ → List PackedCopy
copies_of entries indices = map (λ index. copy_of (entry_of entries index)) indices

abbrev pub chain_of : List PackedEntry → ℕ → List PackedCopy
chain_of entries head = copies_of entries (nodes_of entries head)

abbrev pub again_of : List PackedEntry → ℕ → PackedAgain
again_of entries head = record { head = head; len = num_of entries head }

-- how many slots of the ring the chains have
abbrev pub slots_of : List PackedEntry → List ℕ → ℕ
slots_of entries heads = sum_by (num_of entries) heads

-- what the chains give that begin at these
pub record TakesUp (entries : List PackedEntry) (heads : List ℕ) (t : Taken) : Type 0 where
  pub again : t.again.items ≡ map (again_of entries) heads
  pub copies : t.copies.items ≡ flat_map (chain_of entries) heads
  pub slots : t.slots ≡ slots_of entries heads

-- ---- what is wrong

-- the first fault
abbrev pub or_else : Option PackedStartError → Option PackedStartError → Option PackedStartError
or_else None later = later
or_else (Some e) later = Some e

abbrev pub header_fault : ℕ → ℕ → PackedHeader → PackedPosition → Option PackedStartError
header_fault descriptors size h base =
    if nat_lt 1 h.version then Some refused.Version else (
    if (h.version == 1) && not (h.desc_num == descriptors) then Some refused.DescNum else (
    if nat_le size (taken_header h base).used.slot || nat_le size (taken_header h base).old_used.slot
    then Some refused.Position else None))

abbrev pub free_fault : Option (List ℕ) → Option PackedStartError
free_fault None = Some refused.FreeList
free_fault (Some xs) = None

abbrev pub entries_fault : List PackedEntry → List PackedEntry → Option PackedStartError
entries_fault entries settled = if list_any (λ e. nat_lt 1 e.in_flight) entries then Some refused.Mark else (
    if list_any (λ e. e.in_flight == 1 && nat_le (2 ^ 63) e.counter) settled then Some refused.Counter else None)

-- what is wrong before one looks at the chains
abbrev pub opening_fault : ℕ → ℕ → PackedRegion → PackedPosition → ℕ → Option PackedStartError
opening_fault descriptors size r base flags =
    or_else (header_fault descriptors size r.header base) (or_else (free_fault (free_of r base flags))
    (entries_fault (taken_entries r) (settled r base flags)))

-- whether one of these was seen before, or stands there twice, or is outside
abbrev pub repeats : List Bool → List ℕ → Bool
repeats seen [] = false
repeats seen (x ∷ xs) = slice_index_or seen x true || repeats (slice_set seen x true) xs

abbrev pub seen_too : List Bool → List ℕ → List Bool
seen_too seen [] = seen
seen_too seen (x ∷ xs) = seen_too (slice_set seen x true) xs

-- of the chain that begins at an entry, where so many slots are left
abbrev pub chain_fault : List PackedEntry → List Bool → ℕ → ℕ → Option PackedStartError
chain_fault entries seen room head =
    if num_of entries head == 0 || nat_lt room (num_of entries head) then Some refused.ChainLen else (
    if repeats seen (nodes_of entries head) then Some refused.Shared else (
    if last_of head (nodes_of entries head) == (entry_of entries head).last then None else Some refused.Last))

abbrev pub chains_fault : List PackedEntry → List Bool → ℕ → List ℕ → Option PackedStartError
chains_fault entries seen room [] = None
chains_fault entries seen room (head ∷ heads) = or_else (chain_fault entries seen room head)
    (chains_fault entries (seen_too seen (nodes_of entries head)) (room - num_of entries head) heads)

abbrev pub free_seen : ℕ → List ℕ → List Bool
free_seen descriptors free = seen_too (replicate descriptors false) free

-- what is wrong with a region in which the chains begin at these: nothing if a start goes through
abbrev pub fault : ℕ → ℕ → PackedRegion → PackedPosition → ℕ → List ℕ → Option PackedStartError
fault descriptors size r base flags heads = or_else (opening_fault descriptors size r base flags)
    (chains_fault (settled r base flags) (free_seen descriptors (free r base flags)) size heads)

-- an error is the fault
abbrev pub StartFails : ℕ → ℕ → PackedRegion → PackedPosition → ℕ → PackedStartError → Type 0
StartFails descriptors size r base flags e =
    (heads : List ℕ) → Flies r base flags heads → fault descriptors size r base flags heads ≡ Some e

-- what is wrong with the size of a region, or of its ring
abbrev pub start_fault : ℕ → ℕ → List ℕ → Option PackedStartError
start_fault descriptors size bytes =
    if nat_lt (length bytes) (entry_offset descriptors) then Some refused.TooShort else (
    if nat_lt descriptors size then Some refused.RingSize else None)

-- ---- a start

abbrev pub link_stores : ℕ → ℕ → List PackedStore
link_stores index zero = []
link_stores index (suc n) = Next index (index + 1) ∷ link_stores (index + 1) n

-- what a fresh region takes first
abbrev pub fresh_stores : ℕ → ℕ → List PackedStore
fresh_stores descriptors version = if version == 0 then DescNum descriptors ∷ link_stores 0 descriptors else []

abbrev pub settle_stores : Place → List ℕ → List PackedStore
settle_stores place free = OldFreeHead place.free_head ∷ FreeHead place.free_head
    ∷ Used place.used place.used ∷ map (λ index. InFlight index false) free

abbrev pub version_stores : ℕ → List PackedStore
version_stores version = if version == 0 then Version 1 ∷ [] else []

abbrev pub start_stores : ℕ → ℕ → Place → List ℕ → List PackedStore
start_stores descriptors version place free =
    fresh_stores descriptors version ++ (settle_stores place free ++ version_stores version)

-- what the back end keeps then
abbrev pub started : ℕ → PackedRegion → PackedPosition → ℕ → PackedKept
started size r base flags = record {
  entries = settled r base flags;
  free_head = (taken_place r base flags).free_head;
  next_free = (taken_place r base flags).free_head;
  used = (taken_place r base flags).used;
  size = size;
  count = greatest (settled r base flags);
}

-- what a start reads off a region, before it looks at the chains
pub record Opens (descriptors size : ℕ) (r : PackedRegion) (base : PackedPosition) (flags : ℕ) (o : Opened)
    : Type 0 where
  pub accepted : opening_fault descriptors size r base flags ≡ None
  pub free : free_of r base flags ≡ Some o.free.items
  pub entries : o.entries.items ≡ settled r base flags
  pub place : o.place ≡ taken_place r base flags

-- where the queue goes on
pub record Starts (descriptors size : ℕ) (r : PackedRegion) (base : PackedPosition) (flags : ℕ) (s : PackedStart)
    : Type 0 where
  pub heads : List ℕ
  pub order : Flies r base flags heads
  pub accepted : fault descriptors size r base flags heads ≡ None
  pub again : s.again.items ≡ map (again_of (settled r base flags)) heads
  pub copies : s.copies.items ≡ flat_map (chain_of (settled r base flags)) heads
  pub next_used : s.next_used ≡ (taken_place r base flags).used
  pub next_avail : s.next_avail
      ≡ moved size (taken_place r base flags).used (slots_of (settled r base flags) heads)
  pub stores : s.stores.items
      ≡ start_stores descriptors r.header.version (taken_place r base flags) (free r base flags)
  pub kept : kept_of s.in_flight ≡ started size r base flags
