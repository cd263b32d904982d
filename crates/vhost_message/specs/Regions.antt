-- The memory that a front end shares.
use Rattle.std.specs.Prelude.{ℕ, ◌+◌, ◌-◌, ◌*◌, ◌^◌, Bool, true, not, ◌&&◌, ◌==◌, nat_le, nat_lt, if◌then◌else◌, List, [], ◌∷◌, length, take, Option, Some, None, Result, Ok, Err}
use Rattle.std.specs.List.{list_all, list_any}
use Rattle.vm_memory_base.specs.Address.{step}
use Rattle.vm_memory_base.specs.declared.address.GuestAddress.{GuestAddress}
use Rattle.vhost_message.specs.Numbers.{number, word}
use Rattle.vhost_message.specs.declared.refusal.Refusal.{Refusal}
use Rattle.vhost_message.specs.declared.refusal.Refusal.TheVariants.{PayloadSize, RegionRange, RegionOverlap}
use Rattle.vhost_message.specs.declared.regions.MemoryRegion.{MemoryRegion}

-- ---- as a payload: their number in 4 bytes, 4 bytes that mean nothing, and 32 bytes for each

abbrev pub region_at : List ℕ → ℕ → MemoryRegion
region_at payload at = record {
  guest_address = record { 0 = number payload at };
  size = number payload (at + 8);
  user_address = number payload (at + 16);
  mmap_offset = number payload (at + 24);
}

abbrev pub no_region : MemoryRegion
no_region = record { guest_address = record { 0 = 0 }; size = 0; user_address = 0; mmap_offset = 0 }

unfoldable pub region_or_none : List ℕ → ℕ → MemoryRegion
region_or_none payload i =
    if nat_lt (length payload) (8 + 32 * i + 32) then no_region else region_at payload (8 + 32 * i)

unfoldable pub table_in : List ℕ → Result (List MemoryRegion) Refusal
table_in payload = if length payload == 8 + 32 * word payload 0
    then Ok (take (word payload 0) (region_or_none payload 0 ∷ region_or_none payload 1 ∷ region_or_none payload 2
    ∷ region_or_none payload 3 ∷ region_or_none payload 4 ∷ region_or_none payload 5 ∷ region_or_none payload 6
    ∷ region_or_none payload 7 ∷ []))
    else Err PayloadSize

-- ---- which there can be

-- it has bytes, and none past the last address: of guest memory, of the front end's own, or of its file
abbrev pub is_whole : MemoryRegion → Bool
is_whole r = nat_lt 0 r.size && (nat_lt (r.guest_address.0 + r.size) (2 ^ 64)
    && (nat_lt (r.user_address + r.size) (2 ^ 64) && nat_lt (r.mmap_offset + r.size) (2 ^ 64)))

abbrev pub are_whole : List MemoryRegion → Bool
are_whole rs = list_all is_whole rs

abbrev pub begins_below : MemoryRegion → MemoryRegion → Bool
begins_below r s = nat_lt r.guest_address.0 (s.guest_address.0 + s.size)

-- two have a guest address in common
abbrev pub overlap : MemoryRegion → MemoryRegion → Bool
overlap r s = begins_below r s && begins_below s r

abbrev pub overlaps_any : MemoryRegion → List MemoryRegion → Bool
overlaps_any r rs = list_any (overlap r) rs

abbrev pub are_apart : List MemoryRegion → Bool
are_apart [] = true
are_apart (r ∷ rs) = not (overlaps_any r rs) && are_apart rs

abbrev pub tested : List MemoryRegion → Result (Unit {0}) Refusal
tested t = if not (are_whole t) then Err RegionRange else (
    if not (are_apart t) then Err RegionOverlap else Ok tt)

-- ---- where the front end's own addresses lie

-- whether a region has N bytes of the front end's memory from an address on
abbrev pub has_range : ℕ → ℕ → MemoryRegion → Bool
has_range user size r = nat_le r.user_address user && nat_le (user + size) (r.user_address + r.size)

-- the address of guest memory that is this one of the front end's
abbrev pub guest_address : ℕ → MemoryRegion → GuestAddress
guest_address user r = record { 0 = step r.guest_address.0 (user - r.user_address) }

-- where a range of the front end's memory lies: in the first region that has all of it
abbrev pub guest_of : List MemoryRegion → ℕ → ℕ → Option GuestAddress
guest_of [] user size = None
guest_of (r ∷ rs) user size = if has_range user size r then Some (guest_address user r) else guest_of rs user size
