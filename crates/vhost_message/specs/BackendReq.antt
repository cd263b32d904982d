-- The back end's own channel.
use Rattle.std.specs.Prelude.{ℕ, Bool, true, false, not, ◌&&◌, ◌||◌, ◌==◌, if◌then◌else◌, List, ◌++◌, length, Result, Ok, Err}
use Rattle.vhost_message.specs.Header.{header_bytes, is_reply, version_of}
use Rattle.vhost_message.specs.Iotlb.{fields_of, payload_bytes}
use Rattle.vhost_message.specs.Numbers.{number}
use Rattle.vhost_message.specs.declared.backend_req.BackendReply.{BackendReply}
use Rattle.vhost_message.specs.declared.backend_req.BackendReq.{BackendReq}
use Rattle.vhost_message.specs.declared.backend_req.BackendReq.TheVariants.{IotlbMsg, ConfigChange}
use Rattle.vhost_message.specs.declared.header.Header.{Header}
use Rattle.vhost_message.specs.declared.refusal.Refusal.{Refusal}
use Rattle.vhost_message.specs.declared.refusal.Refusal.TheVariants.{Version, Direction, Request, PayloadSize}

-- version 1, and the flag that a reply is wanted
abbrev pub flags_of : Bool → ℕ
flags_of true = 9
flags_of false = 1

-- the messages of a back end
abbrev pub backend_request : BackendReq → Bool → List ℕ
backend_request (IotlbMsg m) need_reply =
    header_bytes (record { request = 1; flags = flags_of need_reply; size = 32 }) ++ payload_bytes (fields_of m)
backend_request ConfigChange need_reply =
    header_bytes (record { request = 2; flags = flags_of need_reply; size = 0 })

-- the replies to them
abbrev pub backend_reply : Header → List ℕ → Result BackendReply Refusal
backend_reply h payload = if not (version_of h == 1) then Err Version else (
    if not (is_reply h) then Err Direction else (
    if not (h.request == 1 || h.request == 2) then Err Request else (
    if not (h.size == 8 && length payload == 8) then Err PayloadSize
    else Ok (record { request = h.request; value = number payload 0 }))))
