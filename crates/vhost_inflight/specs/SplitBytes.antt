-- The region of a split queue, as bytes: each number has its lowest byte first.
use Rattle.std.specs.Prelude.{ℕ, ◌+◌, ◌*◌, ◌/◌, ◌^◌, ◌<◌, List, drop, map, slice_index, take}
use Rattle.std.specs.Int.{w16, w64, from_le_bytes}
use Rattle.std.specs.List.{range_with_len}
use Rattle.vhost_inflight.specs.Split.{SplitRegion, entry_offset}
use Rattle.vhost_inflight.specs.declared.split.SplitStore.{SplitStore}
use Rattle.vhost_inflight.specs.declared.split.SplitStore.TheVariants.{Counter, InFlight, Next, LastBatchHead, UsedIdx, DescNum, Version}
use Rattle.vhost_inflight.specs.declared.split_region.SplitEntry.{SplitEntry}
use Rattle.vhost_inflight.specs.declared.split_region.SplitHeader.{SplitHeader}

abbrev pub word : List ℕ → ℕ → ℕ
word bytes at = from_le_bytes w16 (take 2 (drop at bytes))

abbrev pub quad : List ℕ → ℕ → ℕ
quad bytes at = from_le_bytes w64 (take 8 (drop at bytes))

abbrev pub header_in : List ℕ → SplitHeader
header_in bytes = record {
  version = word bytes 8;
  desc_num = word bytes 10;
  last_batch_head = word bytes 12;
  used_idx = word bytes 14;
}

abbrev pub entry_at : List ℕ → ℕ → SplitEntry
entry_at bytes head = record {
  in_flight = slice_index bytes (entry_offset head);
  next = word bytes (entry_offset head + 6);
  counter = quad bytes (entry_offset head + 8);
}

abbrev pub entries_in : ℕ → List ℕ → List SplitEntry
entries_in descriptors bytes = map (entry_at bytes) (range_with_len 0 descriptors)

abbrev pub region_with : SplitHeader → List SplitEntry → SplitRegion
region_with header entries = record {
  version = header.version;
  desc_num = header.desc_num;
  last_batch_head = header.last_batch_head;
  used_idx = header.used_idx;
  entries = entries;
}

-- what the bytes say of so many descriptors
abbrev pub region_of : ℕ → List ℕ → SplitRegion
region_of descriptors bytes = region_with (header_in bytes) (entries_in descriptors bytes)

-- how many bytes such a region has, a multiple of 64
abbrev pub region_len : ℕ → ℕ
region_len descriptors = (entry_offset descriptors + 63) / 64 * 64

-- a store to a region with so many descriptors: the head is one of them, and the number has the size of its field
abbrev pub IsWithin : ℕ → SplitStore → Type 0
IsWithin descriptors (Counter head count) = (head < descriptors) × (count < 2 ^ 64)
IsWithin descriptors (InFlight head is) = head < descriptors
IsWithin descriptors (Next head next) = (head < descriptors) × (next < 2 ^ 16)
IsWithin descriptors (LastBatchHead head) = head < 2 ^ 16
IsWithin descriptors (UsedIdx used) = used < 2 ^ 16
IsWithin descriptors (DescNum count) = count < 2 ^ 16
IsWithin descriptors (Version version) = version < 2 ^ 16
