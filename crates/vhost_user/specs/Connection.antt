-- A connection: what was offered, what was negotiated, and what the front end said of its memory and its rings. And what
-- each request makes of it, or why it is refused.
use Rattle.std.specs.Prelude.{◌≡◌, ℕ, ◌+◌, ◌^◌, Bool, true, false, not, ◌&&◌, ◌||◌, ◌==◌, nat_le, nat_lt, bit_or, if◌then◌else◌, List, [], ◌++◌, length, take, drop, replicate, slice_get, slice_set, Option, Some, None, Result, Ok, Err}
use Rattle.std.specs.List.{list_any}
use Rattle.vhost_user.specs.Features as feature
use Rattle.vhost_user.specs.Features.{are_of, has}
use Rattle.vhost_user.specs.Inflight.{region_len}
use Rattle.vhost_message.specs.FrontendReq.{◌>>=◌, descriptors_of, request_of}
use Rattle.vhost_message.specs.Regions.{tested}
use Rattle.vhost_user.specs.Vring.{is_aligned, is_placed_as, is_started, new_vring, notifier_of}
use Rattle.vhost_user.specs.declared.backend_req_handler.Offer.{Offer}
use Rattle.vhost_user.specs.declared.backend_req_handler.OfferError.{OfferError}
use Rattle.vhost_user.specs.declared.backend_req_handler.OfferError.TheVariants.{Invalid, Memory}
use Rattle.vhost_message.specs.declared.frontend_req.ConfigSpace.{ConfigSpace}
use Rattle.vhost_message.specs.declared.frontend_req.FrontendReq.{FrontendReq}
use Rattle.vhost_message.specs.declared.frontend_req.FrontendReq.TheVariants.{SetFeatures, SetOwner, SetMemTable, SetLogBase, SetLogFd, SetVringNum, SetVringAddr, SetVringBase, GetVringBase, SetVringKick, SetVringCall, SetVringErr, GetProtocolFeatures, SetProtocolFeatures, GetQueueNum, SetVringEnable, SetBackendReqFd, IotlbMsg, GetConfig, SetConfig, GetInflightFd, SetInflightFd}
use Rattle.vhost_message.specs.declared.frontend_req.VhostUserInflight.{VhostUserInflight}
use Rattle.vhost_message.specs.declared.frontend_req.VringAddr.{VringAddr}
use Rattle.vhost_message.specs.declared.header.Header.{Header}
use Rattle.vhost_message.specs.declared.refusal.Refusal.{Refusal}
use Rattle.vhost_message.specs.declared.refusal.Refusal.TheVariants.{Descriptors, NotNegotiated, Features, Index, QueueSize, Base, Flags, Alignment, Started, RegionRange, ConfigRange, ConfigReadOnly}
use Rattle.vhost_message.specs.declared.regions.MemoryRegion.{MemoryRegion}
use Rattle.vhost_user.specs.declared.vring.Notifier.TheVariants.{Unset}
use Rattle.vhost_user.specs.declared.vring.Vring.{Vring}

pub record Connection : Type 0 where
  pub offer : Offer
  -- the bytes of the device's configuration
  pub config : List ℕ
  pub owned : Bool
  -- the features that were accepted, and those of the protocol
  pub features : ℕ
  pub protocol_features : ℕ
  pub memory : List MemoryRegion
  -- how many bytes the log of dirty pages has that was shared last
  pub log : Option ℕ
  -- the region of what is in flight that was shared last
  pub inflight : Option VhostUserInflight
  pub vrings : List Vring

-- ---- features

-- a request belongs to a feature that has to be among those that were offered, or accepted
abbrev pub needed : ℕ → ℕ → Result (Unit {0}) Refusal
needed features feature = if has features feature then Ok tt else Err NotNegotiated

abbrev pub is_any_started : Connection → Bool
is_any_started s = list_any is_started s.vrings

-- whether two differ by no more than that writes are logged
abbrev pub differ_in_log : ℕ → ℕ → Bool
differ_in_log features others = bit_or features feature.log_all == bit_or others feature.log_all

abbrev pub with_features : Connection → ℕ → Result Connection Refusal
with_features s features = if not (are_of features s.offer.features) then Err Features else (
    if is_any_started s && not (differ_in_log features s.features) then Err Started
    else Ok (record s { features = features }))

abbrev pub with_protocol_features : Connection → ℕ → Result Connection Refusal
with_protocol_features s features = needed s.offer.features feature.protocol_features
    >>= λ _. if not (are_of features s.offer.protocol_features) then Err Features
    else Ok (record s { protocol_features = features })

-- ---- memory

abbrev pub with_memory : Connection → List MemoryRegion → Result Connection Refusal
with_memory s table = tested table >>= λ _. Ok (record s { memory = table })

-- ---- the log

abbrev pub with_log : Connection → ℕ → Result Connection Refusal
with_log s size = needed s.protocol_features feature.log_shmfd >>= λ _. Ok (record s { log = Some size })

-- ---- what is in flight

-- a region is for rings that there are, and of a size that is offered
abbrev pub in_offer : Connection → VhostUserInflight → Result (Unit {0}) Refusal
in_offer s r = needed s.protocol_features feature.inflight_shmfd
    >>= λ _. if r.num_queues == 0 || nat_lt (length s.vrings) r.num_queues then Err Index else (
    if r.queue_size == 0 || nat_lt s.offer.max_queue_size r.queue_size then Err QueueSize else Ok tt)

-- and has room for each of them, in a file
abbrev pub with_inflight : Connection → VhostUserInflight → Result Connection Refusal
with_inflight s r = in_offer s r
    >>= λ _. if nat_lt r.mmap_size (region_len s.features r) || not (nat_lt (r.mmap_offset + r.mmap_size) (2 ^ 64))
    then Err RegionRange else Ok (record s { inflight = Some r })

-- ---- rings

abbrev pub there : Option Vring → Result Vring Refusal
there None = Err Index
there (Some v) = Ok v

abbrev pub vring_at : Connection → ℕ → Result Vring Refusal
vring_at s i = there (slice_get s.vrings i)

abbrev pub with_vring : Connection → ℕ → Vring → Connection
with_vring s i v = record s { vrings = slice_set s.vrings i v }

-- one that is not started
abbrev pub stopped_at : Connection → ℕ → Result Vring Refusal
stopped_at s i = vring_at s i >>= λ v. if is_started v then Err Started else Ok v

abbrev pub with_num : Connection → ℕ → ℕ → Result Connection Refusal
with_num s i num = stopped_at s i >>= λ v. if num == 0 || nat_lt s.offer.max_queue_size num then Err QueueSize
    else Ok (with_vring s i (record v { num = num }))

-- where a stopped ring goes on: a split one at an index of 16 bits
abbrev pub with_base : Connection → ℕ → ℕ → Result Connection Refusal
with_base s i base = stopped_at s i >>= λ v.
    if not (has s.features feature.ring_packed) && nat_lt 65535 base then Err Base
    else Ok (with_vring s i (record v { base = base }))

abbrev pub with_address : Connection → VringAddr → Result Connection Refusal
with_address s a = vring_at s a.index >>= λ v. if nat_lt 1 a.flags then Err Flags else (
    if not (is_aligned a) then Err Alignment else (
    if is_started v && not (is_placed_as v.address a) then Err Started
    else Ok (with_vring s a.index (record v { address = Some a }))))

-- the ring is stopped
abbrev pub without_kick : Connection → ℕ → Result Connection Refusal
without_kick s i = vring_at s i >>= λ v. Ok (with_vring s i (record v { kick = Unset }))

abbrev pub with_kick : Connection → ℕ → Bool → Result Connection Refusal
with_kick s i descriptor = vring_at s i >>= λ v. Ok (with_vring s i (record v { kick = notifier_of descriptor }))

abbrev pub with_call : Connection → ℕ → Bool → Result Connection Refusal
with_call s i descriptor = vring_at s i >>= λ v. Ok (with_vring s i (record v { call = notifier_of descriptor }))

abbrev pub with_err : Connection → ℕ → Bool → Result Connection Refusal
with_err s i descriptor = vring_at s i >>= λ v. Ok (with_vring s i (record v { err = notifier_of descriptor }))

abbrev pub with_enabled : Connection → ℕ → Bool → Result Connection Refusal
with_enabled s i enable = needed s.features feature.protocol_features >>= λ _. vring_at s i
    >>= λ v. Ok (with_vring s i (record v { enabled = enable }))

-- ---- configuration

-- it has N bytes from a place on
abbrev pub in_config : Connection → ℕ → ℕ → Result (Unit {0}) Refusal
in_config s offset len = needed s.protocol_features feature.config
    >>= λ _. if nat_lt (length s.config) (offset + len) then Err ConfigRange else Ok tt

-- a driver writes what was offered to be written, and a migration any of it
abbrev pub is_writable : Offer → ℕ → ℕ → ℕ → Bool
is_writable offer flags offset len = flags == 1
    || nat_le offer.writable_from offset && nat_le (offset + len) (offer.writable_from + offer.writable_len)

abbrev pub replaced : List ℕ → ℕ → List ℕ → List ℕ
replaced bytes at new = take at bytes ++ (new ++ drop (at + length new) bytes)

abbrev pub with_config : Connection → ConfigSpace → List ℕ → Result Connection Refusal
with_config s c bytes = in_config s c.offset (length bytes)
    >>= λ _. if is_writable s.offer c.flags c.offset (length bytes)
    then Ok (record s { config = replaced s.config c.offset bytes }) else Err ConfigReadOnly

-- the device changes it: it grew, for one
abbrev pub with_changed_config : Connection → ℕ → List ℕ → Result Connection Refusal
with_changed_config s offset bytes = if nat_lt (length s.config) (offset + length bytes) then Err ConfigRange
    else Ok (record s { config = replaced s.config offset bytes })

-- ---- what a request makes of a connection

abbrev pub vring_served : Connection → FrontendReq → Result Connection Refusal
vring_served s (SetVringNum index num) = with_num s index num
vring_served s (SetVringAddr address) = with_address s address
vring_served s (SetVringBase index base) = with_base s index base
vring_served s (GetVringBase index) = without_kick s index
vring_served s (SetVringKick index descriptor) = with_kick s index descriptor
vring_served s (SetVringCall index descriptor) = with_call s index descriptor
vring_served s (SetVringErr index descriptor) = with_err s index descriptor
vring_served s (SetVringEnable index enable) = with_enabled s index enable
vring_served s _ = Ok s

abbrev pub served : Connection → FrontendReq → List ℕ → Result Connection Refusal
served s (SetFeatures features) payload = with_features s features
served s (SetProtocolFeatures features) payload = with_protocol_features s features
served s SetOwner payload = Ok (record s { owned = true })
served s (SetMemTable table) payload = with_memory s table
served s (SetConfig space) payload = with_config s space (drop 12 payload)
served s (GetConfig space) payload = in_config s space.offset space.size >>= λ _. Ok s
served s GetProtocolFeatures payload = needed s.offer.features feature.protocol_features >>= λ _. Ok s
served s GetQueueNum payload = needed s.protocol_features feature.mq >>= λ _. Ok s
served s (SetLogBase size offset) payload = with_log s size
served s (GetInflightFd region) payload = in_offer s region >>= λ _. Ok s
served s (SetInflightFd region) payload = with_inflight s region
served s SetLogFd payload = needed s.offer.features feature.log_all >>= λ _. Ok s
served s SetBackendReqFd payload = needed s.protocol_features feature.backend_req >>= λ _. Ok s
served s (IotlbMsg message) payload = needed s.features feature.access_platform >>= λ _. Ok s
served s request payload = vring_served s request

-- it makes this of it, or it is refused and changes nothing
abbrev pub Steps : Connection → Result Connection Refusal → Result (Unit {0}) Refusal → Connection → Type 0
Steps old step (Ok done) new = step ≡ Ok new
Steps old step (Err e) new = (step ≡ Err e) × (new ≡ old)

-- ---- messages

-- what a message asks for, and what it makes of a connection, by its header, its payload, and how many descriptors came
abbrev pub handled : Connection → Header → List ℕ → ℕ → Result (FrontendReq × Connection) Refusal
handled s h payload descriptors = request_of h payload
    >>= λ request. if not (descriptors == descriptors_of request) then Err Descriptors
    else (served s request payload >>= λ new. Ok (request, new))

abbrev pub Handles : Connection → Header → List ℕ → ℕ → Result FrontendReq Refusal → Connection → Type 0
Handles old h payload descriptors (Ok request) new = handled old h payload descriptors ≡ Ok (request, new)
Handles old h payload descriptors (Err e) new = (handled old h payload descriptors ≡ Err e) × (new ≡ old)

-- ---- a new connection

-- what a back end may offer
abbrev pub can_offer : Offer → ℕ → List ℕ → Bool
can_offer offer queues config = are_of offer.protocol_features feature.known && (nat_lt 0 offer.max_queue_size
    && (nat_le offer.max_queue_size 32768 && (nat_lt 0 queues && (nat_le queues 256 && nat_le (length config) 256))))

abbrev pub connected : Offer → ℕ → List ℕ → Connection
connected offer queues config = record {
  offer = offer;
  config = config;
  owned = false;
  features = 0;
  protocol_features = 0;
  memory = [];
  log = None;
  inflight = None;
  vrings = replicate queues new_vring;
}

-- a connection is made, or nothing like it can be offered, or an allocation failed
abbrev pub Connects : Offer → ℕ → List ℕ → Result Connection OfferError → Type 0
Connects offer queues config (Ok new) = (can_offer offer queues config ≡ true) × (new ≡ connected offer queues config)
Connects offer queues config (Err Invalid) = can_offer offer queues config ≡ false
Connects offer queues config (Err Memory) = can_offer offer queues config ≡ true
