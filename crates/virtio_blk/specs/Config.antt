-- The device as its owner sees it, and the features that it offers.
use Rattle.std.specs.Prelude.{ℕ, ◌+◌, ◌-◌, ◌^◌, min, if◌then◌else◌, Bool, true, false, ◌==◌, ◌&&◌, not, nat_lt, List, None, bit_and}
use Rattle.virtio_blk.specs.declared.request.DeviceLimits.{DeviceLimits}

-- a device: its disk, whether it only reads that, its name of 20 bytes, the features that were accepted, and how many
-- chains it served with an access that there was no memory to translate
pub record Device (D : Type 0) : Type 0 where
  pub disk : D
  pub read_only : Bool
  pub id : List ℕ
  pub acked : ℕ
  pub starved : ℕ

-- what its requests are checked against: the device offers no limits
abbrev pub limits_of : {D : Type 0} → (D → ℕ) → Device D → DeviceLimits
limits_of sectors d = record {
  sectors = sectors d.disk;
  read_only = d.read_only;
  acked = d.acked;
  seg_max = None;
  size_max = None;
}

-- one chain more is counted if an allocation failed for it. The count stays at the greatest number of 64 bits
abbrev pub counted : Bool → ℕ → ℕ
counted wanted n = if wanted then min (n + 1) (2 ^ 64 - 1) else n

-- VERSION_1, INDIRECT_DESC, EVENT_IDX and FLUSH, and RO if the device only reads
abbrev pub offered : Bool → ℕ
offered true = 2 ^ 32 + 2 ^ 28 + 2 ^ 29 + 2 ^ 9 + 2 ^ 5
offered false = 2 ^ 32 + 2 ^ 28 + 2 ^ 29 + 2 ^ 9

-- a driver may accept what is offered, and has to accept VERSION_1
abbrev pub acceptable : Bool → ℕ → Bool
acceptable read_only features =
    bit_and features (offered read_only) == features && not (bit_and features (2 ^ 32) == 0)

-- whether a write of N bytes has to be stable when its status is written: the driver did not accept FLUSH, so it
-- cannot ask for that later
abbrev pub must_stay : ℕ → ℕ → Bool
must_stay acked len = bit_and acked (2 ^ 9) == 0 && nat_lt 0 len
