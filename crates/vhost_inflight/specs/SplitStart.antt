-- Where a split queue goes on, by what its region and its ring say.
use Rattle.std.specs.Prelude.{◌≡◌, ℕ, zero, suc, ◌+◌, ◌*◌, ◌-◌, ◌%◌, ◌^◌, ◌<◌, Bool, true, false, not, ◌&&◌, ◌==◌, nat_le, nat_lt, max, if◌then◌else◌, List, [], ◌∷◌, ◌++◌, drop, length, map, fold, Option, Some, None}
use Rattle.std.specs.List.{list_any}
use Rattle.vhost_inflight.specs.Split.{SplitRegion, changed, counter_of, entry_of, entry_offset, is_in_flight}
use Rattle.vhost_inflight.specs.SplitBytes.{region_of}
use Rattle.vhost_inflight.specs.declared.split.SplitInFlight.{SplitInFlight}
use Rattle.vhost_inflight.specs.declared.split.SplitStore.{SplitStore}
use Rattle.vhost_inflight.specs.declared.split.SplitStore.TheVariants.{InFlight, UsedIdx, DescNum, Version}
use Rattle.vhost_inflight.specs.declared.split_region.SplitEntry.{SplitEntry}
use Rattle.vhost_inflight.specs.declared.split_start.SplitStart.{SplitStart}
use Rattle.vhost_inflight.specs.declared.split_start.StartError.{StartError}
use Rattle.vhost_inflight.specs.declared.split_start.StartError.TheVariants as refused

-- ---- what was returned

-- how far the ring's used index is ahead of the region's
abbrev pub difference : ℕ → ℕ → ℕ
difference used used_idx = (used + (2 ^ 16 - used_idx)) % 2 ^ 16

-- as many heads of a batch, the last one first
abbrev pub batch : List SplitEntry → ℕ → ℕ → List ℕ
batch entries zero head = []
batch entries (suc n) head = head ∷ batch entries n (entry_of entries head).next

-- the heads that were returned, though the region does not say so yet
abbrev pub returned : SplitRegion → ℕ → List ℕ
returned r used = if r.version == 0 then [] else batch r.entries (difference used r.used_idx) r.last_batch_head

-- the entries when these heads are in flight no longer
abbrev pub cleared : List SplitEntry → List ℕ → List SplitEntry
cleared entries [] = entries
cleared entries (head ∷ heads) = cleared (changed entries head (λ e. record e { in_flight = 0 })) heads

-- the entries when what was returned is in flight no longer
abbrev pub settled : SplitRegion → ℕ → List SplitEntry
settled r used = cleared r.entries (returned r used)

-- ---- what is in flight

-- by their counts; equal counts, which no back end writes, by their numbers
abbrev pub rank : List SplitEntry → ℕ → ℕ
rank entries head = counter_of entries head * 2 ^ 16 + head

abbrev pub is_among : ℕ → List ℕ → Bool
is_among head heads = list_any (λ x. x == head) heads

-- each stands in front of those after it
abbrev pub Rises : List SplitEntry → List ℕ → Type 0
Rises entries [] = Unit {0}
Rises entries (x ∷ xs) = ((y : ℕ) → is_among y xs ≡ true → rank entries x < rank entries y) × Rises entries xs

-- a list has the heads in flight, in their order
pub record IsInFlight (entries : List SplitEntry) (heads : List ℕ) : Type 0 where
  pub each : (head : ℕ) → is_among head heads ≡ is_in_flight entries head
  pub order : Rises entries heads

-- what a start serves again
abbrev pub Flies : SplitRegion → ℕ → List ℕ → Type 0
Flies r used heads = IsInFlight (settled r used) heads

-- the greatest count of what is in flight
abbrev pub greatest : List SplitEntry → ℕ
greatest entries = fold (λ most e. max most (if e.in_flight == 1 then e.counter else 0)) 0 entries

-- ---- a start, on a region and a ring with so many descriptors

abbrev pub start_stores : ℕ → SplitRegion → ℕ → List SplitStore
start_stores descriptors r used =
    if r.version == 0 then DescNum descriptors ∷ UsedIdx used ∷ Version 1 ∷ [] else (
    if r.used_idx == used then [] else map (λ head. InFlight head false) (returned r used) ++ UsedIdx used ∷ [])

-- what the back end keeps then
abbrev pub started : SplitRegion → ℕ → SplitInFlight
started r used = record { last_batch_head = r.last_batch_head; count = greatest (settled r used) }

-- what is wrong with the header of a region, or with what was returned
abbrev pub header_fault : ℕ → ℕ → SplitRegion → ℕ → Option StartError
header_fault descriptors size r used =
    if r.version == 0 then None else (
    if not (r.version == 1) then Some refused.Version else (
    if not (r.desc_num == descriptors) then Some refused.DescNum else (
    if nat_lt size (difference used r.used_idx) then Some refused.TooManyReturned else (
    if list_any (λ head. nat_le size head) (returned r used) then Some refused.Head else None))))

-- what is wrong with the entries, once what was returned is in flight no longer
abbrev pub settled_fault : ℕ → List SplitEntry → Option StartError
settled_fault size entries =
    if list_any (λ e. e.in_flight == 1) (drop size entries) then Some refused.Head else (
    if list_any (λ e. e.in_flight == 1 && nat_le (2 ^ 63) e.counter) entries then Some refused.Counter else None)

-- the same, and what is wrong with the entries before
abbrev pub entries_fault : ℕ → List SplitEntry → List SplitEntry → Option StartError
entries_fault size entries settled =
    if list_any (λ e. nat_lt 1 e.in_flight) entries then Some refused.Mark else settled_fault size settled

-- the first fault
abbrev pub or_else : Option StartError → Option StartError → Option StartError
or_else None later = later
or_else (Some e) later = Some e

-- what is wrong with a region: nothing if a start goes through
abbrev pub fault : ℕ → ℕ → SplitRegion → ℕ → Option StartError
fault descriptors size r used =
    or_else (header_fault descriptors size r used) (entries_fault size r.entries (settled r used))

-- what is wrong with the bytes of a region
abbrev pub start_fault : ℕ → ℕ → List ℕ → ℕ → Option StartError
start_fault descriptors size bytes used =
    if nat_lt (length bytes) (entry_offset descriptors) then Some refused.TooShort else (
    if nat_lt descriptors size then Some refused.RingSize else
    fault descriptors size (region_of descriptors bytes) used)

-- where the queue goes on
pub record Starts (descriptors : ℕ) (r : SplitRegion) (used : ℕ) (s : SplitStart) : Type 0 where
  pub again : Flies r used s.again.items
  pub next : s.next_avail ≡ (used + length s.again.items) % 2 ^ 16
  pub stores : s.stores.items ≡ start_stores descriptors r used
  pub kept : s.in_flight ≡ started r used
