-- What a front end asks for, by the number of the request and the payload.
use Rattle.std.specs.Prelude.{ℕ, ◌+◌, ◌/◌, ◌%◌, Bool, true, false, ◌||◌, ◌==◌, nat_lt, if◌then◌else◌, List, length, take, Result, Ok, Err}
use Rattle.vhost_message.specs.Iotlb.{fields_in, message_in}
use Rattle.vhost_message.specs.Numbers.{half, number, word}
use Rattle.vhost_message.specs.Regions.{table_in}
use Rattle.vhost_message.specs.Requests.{expected}
use Rattle.vhost_message.specs.declared.frontend_req.ConfigSpace.{ConfigSpace}
use Rattle.vhost_message.specs.declared.frontend_req.FrontendReq.{FrontendReq}
use Rattle.vhost_message.specs.declared.frontend_req.FrontendReq.TheVariants.{GetFeatures, SetFeatures, SetOwner, ResetOwner, SetMemTable, SetLogBase, SetLogFd, SetVringNum, SetVringAddr, SetVringBase, GetVringBase, SetVringKick, SetVringCall, SetVringErr, GetProtocolFeatures, SetProtocolFeatures, GetQueueNum, SetVringEnable, SetBackendReqFd, IotlbMsg, GetConfig, SetConfig, GetInflightFd, SetInflightFd}
use Rattle.vhost_message.specs.declared.frontend_req.VhostUserInflight.{VhostUserInflight}
use Rattle.vhost_message.specs.declared.frontend_req.VringAddr.{VringAddr}
use Rattle.vhost_message.specs.declared.header.Header.{Header}
use Rattle.vhost_message.specs.declared.iotlb.IotlbMessage.{IotlbMessage}
use Rattle.vhost_message.specs.declared.iotlb.IotlbMessage.TheVariants.{Miss, Update, Invalidate, AccessFail}
use Rattle.vhost_message.specs.declared.refusal.Malformed.{Malformed}
use Rattle.vhost_message.specs.declared.refusal.Malformed.TheVariants.{Kind}
use Rattle.vhost_message.specs.declared.refusal.Refusal.{Refusal}
use Rattle.vhost_message.specs.declared.refusal.Refusal.TheVariants.{Request, PayloadSize, Flags, Iotlb}

infixl 10 ◌>>=◌
abbrev pub ◌>>=◌ : {A B : Type 0} → Result A Refusal → (A → Result B Refusal) → Result B Refusal
(Ok x) >>= f = f x
(Err e) >>= f = Err e

-- ---- payloads

abbrev pub vring_addr_in : List ℕ → VringAddr
vring_addr_in payload = record {
  index = word payload 0;
  flags = word payload 4;
  descriptor = number payload 8;
  used = number payload 16;
  available = number payload 24;
  log = number payload 32;
}

-- the ring is in bits 0 to 7, and bit 8 says that no descriptor came
abbrev pub ring_in : List ℕ → ℕ
ring_in payload = number payload 0 % 256

abbrev pub has_descriptor : List ℕ → Bool
has_descriptor payload = number payload 0 / 256 % 2 == 0

unfoldable pub enabling_in : List ℕ → Result FrontendReq Refusal
enabling_in payload = if word payload 4 == 0 then Ok (SetVringEnable (word payload 0) false) else (
    if word payload 4 == 1 then Ok (SetVringEnable (word payload 0) true) else Err Flags)

-- three numbers, and as many bytes as the second says
unfoldable pub config_in : List ℕ → Result ConfigSpace Refusal
config_in payload = if length payload == 12 + word payload 4
    then (if nat_lt 1 (word payload 8) then Err Flags else Ok (record {
      offset = word payload 0;
      size = word payload 4;
      flags = word payload 8;
    })) else Err PayloadSize

-- the description of a region, which 4 bytes without a meaning may follow
unfoldable pub inflight_in : List ℕ → Result VhostUserInflight Refusal
inflight_in payload = if length payload == 20 || length payload == 24
    then Ok (record {
      mmap_size = number payload 0;
      mmap_offset = number payload 8;
      num_queues = half payload 16;
      queue_size = half payload 18;
    }) else Err PayloadSize

-- what a front end may send on the device's table
abbrev pub of_front : Result IotlbMessage Malformed → Result FrontendReq Refusal
of_front (Ok (Update iova size user permissions)) = Ok (IotlbMsg (Update iova size user permissions))
of_front (Ok (Invalidate iova size)) = Ok (IotlbMsg (Invalidate iova size))
of_front (Ok (Miss iova access)) = Err (Iotlb Kind)
of_front (Ok (AccessFail iova access)) = Err (Iotlb Kind)
of_front (Err e) = Err (Iotlb e)

unfoldable pub iotlb_in : List ℕ → Result FrontendReq Refusal
iotlb_in payload = of_front (message_in (fields_in (take 32 payload)))

-- ---- requests

unfoldable pub vring_request_in : ℕ → List ℕ → Result FrontendReq Refusal
vring_request_in request payload =
    if request == 8 then Ok (SetVringNum (word payload 0) (word payload 4)) else (
    if request == 9 then Ok (SetVringAddr (vring_addr_in payload)) else (
    if request == 10 then Ok (SetVringBase (word payload 0) (word payload 4)) else (
    if request == 11 then Ok (GetVringBase (word payload 0)) else (
    if request == 12 then Ok (SetVringKick (ring_in payload) (has_descriptor payload)) else (
    if request == 13 then Ok (SetVringCall (ring_in payload) (has_descriptor payload)) else (
    if request == 14 then Ok (SetVringErr (ring_in payload) (has_descriptor payload)) else (
    if request == 18 then enabling_in payload else Err Request)))))))

abbrev pub request_in : ℕ → List ℕ → Result FrontendReq Refusal
request_in request payload =
    if request == 1 then Ok GetFeatures else (
    if request == 2 then Ok (SetFeatures (number payload 0)) else (
    if request == 3 then Ok SetOwner else (
    if request == 4 then Ok ResetOwner else (
    if request == 5 then (table_in payload >>= λ table. Ok (SetMemTable table)) else (
    if request == 6 then Ok (SetLogBase (number payload 0) (number payload 8)) else (
    if request == 7 then Ok SetLogFd else (
    if request == 15 then Ok GetProtocolFeatures else (
    if request == 16 then Ok (SetProtocolFeatures (number payload 0)) else (
    if request == 17 then Ok GetQueueNum else (
    if request == 21 then Ok SetBackendReqFd else (
    if request == 22 then iotlb_in payload else (
    if request == 24 then (config_in payload >>= λ space. Ok (GetConfig space)) else (
    if request == 25 then (config_in payload >>= λ space. Ok (SetConfig space)) else (
    if request == 31 then (inflight_in payload >>= λ region. Ok (GetInflightFd region)) else (
    if request == 32 then (inflight_in payload >>= λ region. Ok (SetInflightFd region)) else
    vring_request_in request payload)))))))))))))))

-- what a message asks for
abbrev pub request_of : Header → List ℕ → Result FrontendReq Refusal
request_of h payload = expected h >>= λ _. if length payload == h.size then request_in h.request payload
    else Err PayloadSize

-- ---- descriptors

abbrev pub if_any : Bool → ℕ
if_any true = 1
if_any false = 0

-- how many come with a request
abbrev pub descriptors_of : FrontendReq → ℕ
descriptors_of (SetMemTable table) = length table
descriptors_of (SetLogBase size offset) = 1
descriptors_of SetLogFd = 1
descriptors_of SetBackendReqFd = 1
descriptors_of (SetInflightFd region) = 1
descriptors_of (SetVringKick index descriptor) = if_any descriptor
descriptors_of (SetVringCall index descriptor) = if_any descriptor
descriptors_of (SetVringErr index descriptor) = if_any descriptor
descriptors_of _ = 0
