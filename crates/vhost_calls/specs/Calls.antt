-- The calls: a code, 0 if the call was done, and what it gives then.
use Rattle.std.specs.Prelude.{◌≡◌, ℕ, ◌+◌, ◌-◌, ◌<◌, ◌≤◌, nat_le, nat_lt, if◌then◌else◌, List, [], ◌++◌, length, drop, slice_get, Option, Some, None, Result, Ok, Err}
use Rattle.vhost_message.specs.FrontendReq.{request_of}
use Rattle.vhost_message.specs.Header.{header_in}
use Rattle.vhost_message.specs.Requests.{expected}
use Rattle.vhost_message.specs.declared.frontend_req.FrontendReq.{FrontendReq}
use Rattle.vhost_message.specs.declared.header.Header.{Header}
use Rattle.vhost_message.specs.declared.refusal.Refusal.{Refusal}
use Rattle.vhost_message.specs.declared.regions.MemoryRegion.{MemoryRegion}
use Rattle.vhost_message.specs.declared.requests.Expected.{Expected}
use Rattle.vhost_user.specs.Connection as connection
use Rattle.vhost_user.specs.Connection.{Connection, Connects, Steps, with_base, with_changed_config}
use Rattle.vhost_user.specs.Log.{logged}
use Rattle.vhost_user.specs.Reply.{refused, reply_to}
use Rattle.vhost_user.specs.Running.{running}
use Rattle.vhost_user.specs.declared.backend_req_handler.OfferError.{OfferError}
use Rattle.vhost_user.specs.declared.log.LogPages.{LogPages}
use Rattle.vhost_user.specs.declared.vring.NotRunning.{NotRunning}
use Rattle.vhost_user.specs.declared.vring.RunningVring.{RunningVring}
use Rattle.vhost_calls.specs.Codes.{code_of_not_running, code_of_offer, code_of_refusal, code_of_step}
use Rattle.vhost_calls.specs.Values.{asked_by, offer_of, pages_row, region_row, vring_row}
use Rattle.vhost_calls.specs.declared.values.VhostOffer.{VhostOffer}
use Rattle.vhost_calls.specs.declared.values.VhostPages.{VhostPages}
use Rattle.vhost_calls.specs.declared.values.VhostRegion.{VhostRegion}
use Rattle.vhost_calls.specs.declared.values.VhostRequest.{VhostRequest}
use Rattle.vhost_calls.specs.declared.values.VhostVring.{VhostVring}
use Rattle.vhost_calls.specs.declared.values.VhostWanted.{VhostWanted}

-- a call that is refused leaves the place of its result as it was
abbrev pub Gives : {A : Type 0} → Result A ℕ → A → ℕ → A → Type 0
Gives (Ok x) old code new = (code ≡ 0) × (new ≡ x)
Gives (Err e) old code new = (code ≡ e) × (new ≡ old)

-- bytes go to the front of an output if they fit, and how many they are is returned
abbrev pub Sends : List ℕ → List ℕ → ℕ → List ℕ → Type 0
Sends bytes out count out' = (count ≡ length bytes) × (out' ≡ (if nat_le (length bytes) (length out)
    then bytes ++ drop (length bytes) out else out))

-- ---- connections

abbrev pub Opens : VhostOffer → List ℕ → Result Connection ℕ → Type 0
Opens offer config (Ok new) = Connects (offer_of offer) offer.queues config (Ok new)
Opens offer config (Err code) =
    (e : OfferError) × Connects (offer_of offer) offer.queues config (Err e) × (code ≡ code_of_offer e)

-- where a ring goes on
abbrev pub Stops : Connection → ℕ → ℕ → ℕ → Connection → Type 0
Stops old index base code new =
    (r : Result (Unit {0}) Refusal) × Steps old (with_base old index base) r new × (code ≡ code_of_step r)

-- the device changes its configuration
abbrev pub ChangesConfig : Connection → ℕ → List ℕ → ℕ → Connection → Type 0
ChangesConfig old offset bytes code new = (r : Result (Unit {0}) Refusal)
    × Steps old (with_changed_config old offset bytes) r new × (code ≡ code_of_step r)

-- ---- messages

-- a payload is to follow, of which some came
abbrev pub rest_of : Result Expected Refusal → ℕ → Result VhostWanted ℕ
rest_of (Ok e) came = Ok (record { bytes = 12 + e.payload - came; descriptors = e.descriptors })
rest_of (Err e) came = Err (code_of_refusal e)

-- what is still to come of a message that begins so: of its header, and then of its payload
abbrev pub wanted_of : List ℕ → Result VhostWanted ℕ
wanted_of start = if nat_lt (length start) 12 then Ok (record { bytes = 12 - length start; descriptors = 8 })
    else rest_of (expected (header_in start)) (length start)

abbrev pub answer_of : ℕ → Result FrontendReq Refusal → Result VhostRequest ℕ
answer_of n (Ok request) = Ok (asked_by n request)
answer_of n (Err e) = Err (code_of_refusal e)

-- a header and a payload are handled
unfoldable pub Takes : Connection → Header → List ℕ → ℕ → VhostRequest → ℕ → VhostRequest → Connection → Type 0
Takes old h payload descriptors request code request' new =
    (r : Result FrontendReq Refusal) × connection.Handles old h payload descriptors r new
    × Gives (answer_of h.request r) request code request'

-- a message is, and nothing changes if its header is not whole
abbrev pub Handles : Connection → List ℕ → ℕ → VhostRequest → ℕ → VhostRequest → Connection → Type 0
Handles old message descriptors request code request' new =
    (length message < 12 → (code ≡ 101) × (request' ≡ request) × (new ≡ old))
    × (12 ≤ length message → Takes old (header_in message) (drop 12 message) descriptors request code request' new)

abbrev pub reply_if : Connection → Header → Result FrontendReq Refusal → List ℕ
reply_if s h (Ok request) = reply_to s h request
reply_if s h (Err e) = []

-- the reply to what was done, by its header and its payload
unfoldable pub payload_reply : Connection → Header → List ℕ → List ℕ
payload_reply s h payload = reply_if s h (request_of h payload)

-- the replies to a message that was done, and to one that was not
abbrev pub reply_of : Connection → List ℕ → List ℕ
reply_of s message = if nat_lt (length message) 12 then [] else payload_reply s (header_in message) (drop 12 message)

abbrev pub refusal_of : Connection → List ℕ → List ℕ
refusal_of s message = if nat_lt (length message) 12 then [] else refused s (header_in message)

-- ---- memory

abbrev pub row_if : Option MemoryRegion → Result VhostRegion ℕ
row_if None = Err 1
row_if (Some r) = Ok (region_row r)

abbrev pub region_at : Connection → ℕ → Result VhostRegion ℕ
region_at s number = row_if (slice_get s.memory number)

-- ---- the log

abbrev pub pages_if : Option LogPages → Result VhostPages ℕ
pages_if None = Err 125
pages_if (Some p) = Ok (pages_row p)

abbrev pub pages_at : Connection → ℕ → ℕ → Result VhostPages ℕ
pages_at s address len = pages_if (logged s address len)

-- ---- rings

abbrev pub vring_if : Result RunningVring NotRunning → Result VhostVring ℕ
vring_if (Ok v) = Ok (vring_row v)
vring_if (Err e) = Err (code_of_not_running e)

abbrev pub vring_at : Connection → ℕ → Result VhostVring ℕ
vring_at s index = vring_if (running s index)
