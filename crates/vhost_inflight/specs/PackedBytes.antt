-- The region of a packed queue, as bytes: each number has its lowest byte first.
use Rattle.std.specs.Prelude.{ℕ, ◌+◌, ◌*◌, ◌/◌, ◌==◌, ◌&&◌, not, nat_lt, if◌then◌else◌, List, Option, Some, None, drop, length, map, slice_index, take}
use Rattle.std.specs.Int.{w16, w32, w64, from_le_bytes}
use Rattle.std.specs.List.{range_with_len}
use Rattle.vhost_inflight.specs.Packed.{PackedRegion, entry_offset}
use Rattle.vhost_inflight.specs.declared.packed_region.PackedEntry.{PackedEntry}
use Rattle.vhost_inflight.specs.declared.packed_region.PackedHeader.{PackedHeader}

abbrev pub word : List ℕ → ℕ → ℕ
word bytes at = from_le_bytes w16 (take 2 (drop at bytes))

abbrev pub double : List ℕ → ℕ → ℕ
double bytes at = from_le_bytes w32 (take 4 (drop at bytes))

abbrev pub quad : List ℕ → ℕ → ℕ
quad bytes at = from_le_bytes w64 (take 8 (drop at bytes))

-- a wrap counter that is not 0 counts as 1
abbrev pub header_in : List ℕ → PackedHeader
header_in bytes = record {
  version = word bytes 8;
  desc_num = word bytes 10;
  free_head = word bytes 12;
  old_free_head = word bytes 14;
  used = record { slot = word bytes 16; wrap = not (slice_index bytes 20 == 0) };
  old_used = record { slot = word bytes 18; wrap = not (slice_index bytes 21 == 0) };
}

abbrev pub entry_at : List ℕ → ℕ → PackedEntry
entry_at bytes index = record {
  in_flight = slice_index bytes (entry_offset index);
  next = word bytes (entry_offset index + 2);
  last = word bytes (entry_offset index + 4);
  num = word bytes (entry_offset index + 6);
  counter = quad bytes (entry_offset index + 8);
  id = word bytes (entry_offset index + 16);
  flags = word bytes (entry_offset index + 18);
  len = double bytes (entry_offset index + 20);
  addr = quad bytes (entry_offset index + 24);
}

abbrev pub entries_in : ℕ → List ℕ → List PackedEntry
entries_in descriptors bytes = map (entry_at bytes) (range_with_len 0 descriptors)

-- what the bytes say of so many descriptors
abbrev pub region_of : ℕ → List ℕ → PackedRegion
region_of descriptors bytes = record { header = header_in bytes; entries = entries_in descriptors bytes }

-- how many bytes such a region has, a multiple of 64
abbrev pub region_len : ℕ → ℕ
region_len descriptors = (entry_offset descriptors + 63) / 64 * 64

-- the slot that a start looks at
abbrev pub old_slot : ℕ → List ℕ → Option ℕ
old_slot size bytes = if nat_lt (length bytes) 32 then None else (
    if ((header_in bytes).version == 1) && nat_lt (header_in bytes).old_used.slot size
    then Some (header_in bytes).old_used.slot else None)
