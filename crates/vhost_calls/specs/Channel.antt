-- The back end's own channel: what it sends there, and the replies.
use Rattle.std.specs.Prelude.{ℕ, ◌==◌, true, false, nat_lt, if◌then◌else◌, List, [], length, drop, Option, Some, None, Result, Ok, Err}
use Rattle.vm_memory_base.specs.declared.iotlb.Permissions.{Permissions}
use Rattle.vm_memory_base.specs.declared.iotlb.Permissions.TheVariants as permissions
use Rattle.vhost_message.specs.BackendReq.{backend_reply, backend_request}
use Rattle.vhost_message.specs.Header.{header_in}
use Rattle.vhost_message.specs.declared.backend_req.BackendReply.{BackendReply}
use Rattle.vhost_message.specs.declared.backend_req.BackendReq.TheVariants.{IotlbMsg, ConfigChange}
use Rattle.vhost_message.specs.declared.header.Header.{Header}
use Rattle.vhost_message.specs.declared.iotlb.IotlbMessage.TheVariants.{Miss, AccessFail}
use Rattle.vhost_message.specs.declared.refusal.Refusal.{Refusal}
use Rattle.vhost_calls.specs.Codes.{code_of_refusal}

-- an access by its number
abbrev pub access_at : ℕ → Option Permissions
access_at n = if n == 1 then Some permissions.Read else (
    if n == 2 then Some permissions.Write else (
    if n == 3 then Some permissions.ReadWrite else None))

-- a MISS, which asks for a reply
abbrev pub miss_of : ℕ → Option Permissions → List ℕ
miss_of iova None = []
miss_of iova (Some access) = backend_request (IotlbMsg (Miss iova access)) true

-- an ACCESS_FAIL, which asks for none
abbrev pub access_fail_of : ℕ → Option Permissions → List ℕ
access_fail_of iova None = []
access_fail_of iova (Some access) = backend_request (IotlbMsg (AccessFail iova access)) false

-- a CONFIG_CHANGE_MSG, which asks for none
abbrev pub config_change : List ℕ
config_change = backend_request ConfigChange false

abbrev pub value_of : Result BackendReply Refusal → Result ℕ ℕ
value_of (Ok r) = Ok r.value
value_of (Err e) = Err (code_of_refusal e)

-- the number in a reply, by its header and its payload
unfoldable pub payload_value : Header → List ℕ → Result ℕ ℕ
payload_value h payload = value_of (backend_reply h payload)

-- the number in a reply
abbrev pub answered : List ℕ → Result ℕ ℕ
answered message = if nat_lt (length message) 12 then Err 101
    else payload_value (header_in message) (drop 12 message)
