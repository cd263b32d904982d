-- What a back end replies.
use Rattle.std.specs.Prelude.{ℕ, ◌+◌, ◌&&◌, ◌==◌, nat_lt, if◌then◌else◌, List, [], ◌∷◌, ◌++◌, length, slice_range, slice_get, Option, Some, None}
use Rattle.std.specs.Int.{w32, w64, to_le_bytes}
use Rattle.vhost_user.specs.Connection.{Connection}
use Rattle.vhost_user.specs.Features as feature
use Rattle.vhost_user.specs.Features.{has}
use Rattle.vhost_user.specs.Inflight.{region_len}
use Rattle.vhost_message.specs.Header.{header_bytes, needs_reply}
use Rattle.vhost_message.specs.Requests.{is_among}
use Rattle.vhost_message.specs.Spelling.{inflight_bytes}
use Rattle.vhost_message.specs.declared.frontend_req.ConfigSpace.{ConfigSpace}
use Rattle.vhost_message.specs.declared.frontend_req.FrontendReq.{FrontendReq}
use Rattle.vhost_message.specs.declared.frontend_req.FrontendReq.TheVariants.{GetFeatures, SetLogBase, GetVringBase, GetProtocolFeatures, GetQueueNum, GetConfig, GetInflightFd}
use Rattle.vhost_message.specs.declared.frontend_req.VhostUserInflight.{VhostUserInflight}
use Rattle.vhost_message.specs.declared.header.Header.{Header}
use Rattle.vhost_user.specs.declared.vring.Vring.{Vring}

-- a reply: version 1 and the flag of replies, and N bytes
abbrev pub reply : ℕ → ℕ → List ℕ → List ℕ
reply request size payload = header_bytes (record { request = request; flags = 5; size = size }) ++ payload

abbrev pub number_reply : ℕ → ℕ → List ℕ
number_reply request value = reply request 8 (to_le_bytes w64 value)

-- a message without a reply of its own is answered if it asks for that: with 0 if it was done
abbrev pub acknowledgement : Connection → Header → ℕ → List ℕ
acknowledgement s h value =
    if needs_reply h && has s.protocol_features feature.reply_ack then number_reply h.request value else []

-- the ring, and where it goes on
abbrev pub vring_reply : ℕ → ℕ → Option Vring → List ℕ
vring_reply request index None = []
vring_reply request index (Some v) = reply request 8 (to_le_bytes w32 index ++ to_le_bytes w32 v.base)

abbrev pub base_reply : Connection → ℕ → ℕ → List ℕ
base_reply s request index = vring_reply request index (slice_get s.vrings index)

-- the three numbers that were asked with, and the bytes; no payload if the configuration does not have them
abbrev pub config_reply : Connection → ℕ → ConfigSpace → List ℕ
config_reply s request c = if nat_lt (length s.config) (c.offset + c.size) then reply request 0 []
    else reply request (12 + c.size) (to_le_bytes w32 c.offset ++ (to_le_bytes w32 c.size
    ++ (to_le_bytes w32 c.flags ++ slice_range s.config c.offset (c.offset + c.size))))

-- the region of a shape: it begins its file
abbrev pub inflight_for : Connection → VhostUserInflight → VhostUserInflight
inflight_for s asked = record asked { mmap_size = region_len s.features asked; mmap_offset = 0 }

-- in as many bytes as it was asked for, with padding or without
abbrev pub inflight_reply : Connection → Header → VhostUserInflight → List ℕ
inflight_reply s h asked = if h.size == 24
    then reply h.request 24 (inflight_bytes (inflight_for s asked) ++ to_le_bytes w32 0)
    else reply h.request 20 (inflight_bytes (inflight_for s asked))

-- what is answered to a request that was done
abbrev pub reply_to : Connection → Header → FrontendReq → List ℕ
reply_to s h GetFeatures = number_reply h.request s.offer.features
reply_to s h GetProtocolFeatures = number_reply h.request s.offer.protocol_features
reply_to s h GetQueueNum = number_reply h.request (length s.vrings)
reply_to s h (GetVringBase index) = base_reply s h.request index
reply_to s h (GetConfig space) = config_reply s h.request space
reply_to s h (GetInflightFd region) = inflight_reply s h region
reply_to s h (SetLogBase size offset) = reply h.request 0 []
reply_to s h request = acknowledgement s h 0

-- and to one that was refused: of those that have a reply of their own only a GET_CONFIG, by no payload
abbrev pub refused : Connection → Header → List ℕ
refused s h = if h.request == 24 then reply 24 0 [] else (
    if is_among h.request (1 ∷ 6 ∷ 11 ∷ 15 ∷ 17 ∷ 31 ∷ []) then [] else acknowledgement s h 1)
