-- How a front end spells what it asks for.
use Rattle.std.specs.Prelude.{◌≡◌, ◌⊎◌, ℕ, ◌+◌, ◌^◌, ◌<◌, ◌≤◌, Bool, true, false, List, [], ◌∷◌, ◌++◌, length}
use Rattle.std.specs.Int.{w16, w32, w64, to_le_bytes}
use Rattle.vhost_message.specs.BackendReq.{flags_of}
use Rattle.vhost_message.specs.Iotlb.{IsMessage, fields_of, payload_bytes}
use Rattle.vhost_message.specs.declared.frontend_req.ConfigSpace.{ConfigSpace}
use Rattle.vhost_message.specs.declared.frontend_req.FrontendReq.{FrontendReq}
use Rattle.vhost_message.specs.declared.frontend_req.FrontendReq.TheVariants.{GetFeatures, SetFeatures, SetOwner, ResetOwner, SetMemTable, SetLogBase, SetLogFd, SetVringNum, SetVringAddr, SetVringBase, GetVringBase, SetVringKick, SetVringCall, SetVringErr, GetProtocolFeatures, SetProtocolFeatures, GetQueueNum, SetVringEnable, SetBackendReqFd, IotlbMsg, GetConfig, SetConfig, GetInflightFd, SetInflightFd}
use Rattle.vhost_message.specs.declared.frontend_req.VhostUserInflight.{VhostUserInflight}
use Rattle.vhost_message.specs.declared.frontend_req.VringAddr.{VringAddr}
use Rattle.vhost_message.specs.declared.header.Header.{Header}
use Rattle.vhost_message.specs.declared.iotlb.IotlbMessage.{IotlbMessage}
use Rattle.vhost_message.specs.declared.iotlb.IotlbMessage.TheVariants.{Miss, Update, Invalidate, AccessFail}
use Rattle.vhost_message.specs.declared.regions.MemoryRegion.{MemoryRegion}

abbrev pub number_of : FrontendReq → ℕ
number_of GetFeatures = 1
number_of (SetFeatures features) = 2
number_of SetOwner = 3
number_of ResetOwner = 4
number_of (SetMemTable table) = 5
number_of (SetLogBase size offset) = 6
number_of SetLogFd = 7
number_of (SetVringNum index num) = 8
number_of (SetVringAddr address) = 9
number_of (SetVringBase index base) = 10
number_of (GetVringBase index) = 11
number_of (SetVringKick index descriptor) = 12
number_of (SetVringCall index descriptor) = 13
number_of (SetVringErr index descriptor) = 14
number_of GetProtocolFeatures = 15
number_of (SetProtocolFeatures features) = 16
number_of GetQueueNum = 17
number_of (SetVringEnable index enable) = 18
number_of SetBackendReqFd = 21
number_of (IotlbMsg m) = 22
number_of (GetConfig space) = 24
number_of (SetConfig space) = 25
number_of (GetInflightFd region) = 31
number_of (SetInflightFd region) = 32

-- ---- payloads

abbrev pub region_bytes : MemoryRegion → List ℕ
region_bytes r = to_le_bytes w64 r.guest_address.0 ++ (to_le_bytes w64 r.size ++ (to_le_bytes w64 r.user_address
    ++ to_le_bytes w64 r.mmap_offset))

abbrev pub regions_bytes : List MemoryRegion → List ℕ
regions_bytes [] = []
regions_bytes (r ∷ rs) = region_bytes r ++ regions_bytes rs

abbrev pub address_bytes : VringAddr → List ℕ
address_bytes a = to_le_bytes w32 a.index ++ (to_le_bytes w32 a.flags ++ (to_le_bytes w64 a.descriptor
    ++ (to_le_bytes w64 a.used ++ (to_le_bytes w64 a.available ++ to_le_bytes w64 a.log))))

abbrev pub pair_bytes : ℕ → ℕ → List ℕ
pair_bytes index num = to_le_bytes w32 index ++ to_le_bytes w32 num

-- bit 8 says that no descriptor comes
abbrev pub notifier_bytes : ℕ → Bool → List ℕ
notifier_bytes index true = to_le_bytes w64 index
notifier_bytes index false = to_le_bytes w64 (256 + index)

abbrev pub switch : Bool → ℕ
switch true = 1
switch false = 0

abbrev pub space_bytes : ConfigSpace → List ℕ
space_bytes c = to_le_bytes w32 c.offset ++ (to_le_bytes w32 c.size ++ to_le_bytes w32 c.flags)

abbrev pub inflight_bytes : VhostUserInflight → List ℕ
inflight_bytes r = to_le_bytes w64 r.mmap_size ++ (to_le_bytes w64 r.mmap_offset
    ++ (to_le_bytes w16 r.num_queues ++ to_le_bytes w16 r.queue_size))

-- the payload of a request: that of a part of the configuration ends in its bytes, and that of a region of what is in
-- flight in its padding
abbrev pub payload_of : FrontendReq → List ℕ → List ℕ
payload_of (SetFeatures features) bytes = to_le_bytes w64 features
payload_of (SetMemTable table) bytes =
    to_le_bytes w32 (length table) ++ (to_le_bytes w32 0 ++ regions_bytes table)
payload_of (SetLogBase size offset) bytes = to_le_bytes w64 size ++ to_le_bytes w64 offset
payload_of (SetVringNum index num) bytes = pair_bytes index num
payload_of (SetVringAddr address) bytes = address_bytes address
payload_of (SetVringBase index base) bytes = pair_bytes index base
payload_of (GetVringBase index) bytes = pair_bytes index 0
payload_of (SetVringKick index descriptor) bytes = notifier_bytes index descriptor
payload_of (SetVringCall index descriptor) bytes = notifier_bytes index descriptor
payload_of (SetVringErr index descriptor) bytes = notifier_bytes index descriptor
payload_of (SetProtocolFeatures features) bytes = to_le_bytes w64 features
payload_of (SetVringEnable index enable) bytes = pair_bytes index (switch enable)
payload_of (IotlbMsg m) bytes = payload_bytes (fields_of m)
payload_of (GetConfig space) bytes = space_bytes space ++ bytes
payload_of (SetConfig space) bytes = space_bytes space ++ bytes
payload_of (GetInflightFd region) bytes = inflight_bytes region ++ bytes
payload_of (SetInflightFd region) bytes = inflight_bytes region ++ bytes
payload_of request bytes = []

-- its header
abbrev pub header_of : FrontendReq → List ℕ → Bool → Header
header_of request bytes need_reply =
    record { request = number_of request; flags = flags_of need_reply; size = length (payload_of request bytes) }

-- ---- what has a spelling

abbrev pub AreNumbers : MemoryRegion → Type 0
AreNumbers r = (r.guest_address.0 < 2 ^ 64) × (r.size < 2 ^ 64) × (r.user_address < 2 ^ 64) × (r.mmap_offset < 2 ^ 64)

abbrev pub AreRegions : List MemoryRegion → Type 0
AreRegions [] = Unit {0}
AreRegions (r ∷ rs) = AreNumbers r × AreRegions rs

abbrev pub IsAddress : VringAddr → Type 0
IsAddress a = (a.index < 2 ^ 32) × (a.flags < 2 ^ 32) × (a.descriptor < 2 ^ 64) × (a.used < 2 ^ 64)
    × (a.available < 2 ^ 64) × (a.log < 2 ^ 64)

abbrev pub IsSpace : ConfigSpace → List ℕ → Type 0
IsSpace c bytes = (c.offset < 2 ^ 32) × (c.size ≡ length bytes) × (length bytes ≤ 256) × (c.flags ≤ 1)

-- no padding, or 4 bytes
abbrev pub IsInflight : VhostUserInflight → List ℕ → Type 0
IsInflight r bytes = (r.mmap_size < 2 ^ 64) × (r.mmap_offset < 2 ^ 64) × (r.num_queues < 2 ^ 16)
    × (r.queue_size < 2 ^ 16) × ((length bytes ≡ 0) ⊎ (length bytes ≡ 4))

abbrev pub IsOfFront : IotlbMessage → Type 0
IsOfFront (Update iova size user permissions) = IsMessage (Update iova size user permissions)
IsOfFront (Invalidate iova size) = IsMessage (Invalidate iova size)
IsOfFront (Miss iova access) = ⊥
IsOfFront (AccessFail iova access) = ⊥

abbrev pub IsRequest : FrontendReq → List ℕ → Type 0
IsRequest (SetFeatures features) bytes = features < 2 ^ 64
IsRequest (SetMemTable table) bytes = (length table ≤ 8) × AreRegions table
IsRequest (SetLogBase size offset) bytes = (size < 2 ^ 64) × (offset < 2 ^ 64)
IsRequest (SetVringNum index num) bytes = (index < 2 ^ 32) × (num < 2 ^ 32)
IsRequest (SetVringAddr address) bytes = IsAddress address
IsRequest (SetVringBase index base) bytes = (index < 2 ^ 32) × (base < 2 ^ 32)
IsRequest (GetVringBase index) bytes = index < 2 ^ 32
IsRequest (SetVringKick index descriptor) bytes = index < 256
IsRequest (SetVringCall index descriptor) bytes = index < 256
IsRequest (SetVringErr index descriptor) bytes = index < 256
IsRequest (SetProtocolFeatures features) bytes = features < 2 ^ 64
IsRequest (SetVringEnable index enable) bytes = index < 2 ^ 32
IsRequest (IotlbMsg m) bytes = IsOfFront m
IsRequest (GetConfig space) bytes = IsSpace space bytes
IsRequest (SetConfig space) bytes = IsSpace space bytes
IsRequest (GetInflightFd region) bytes = IsInflight region bytes
IsRequest (SetInflightFd region) bytes = IsInflight region bytes
IsRequest request bytes = Unit {0}
