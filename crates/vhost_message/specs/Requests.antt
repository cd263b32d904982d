-- The requests by their numbers, and what may come with each.
use Rattle.std.specs.Prelude.{ℕ, Bool, false, not, ◌||◌, ◌&&◌, ◌==◌, nat_le, if◌then◌else◌, List, [], ◌∷◌, Option, Some, None, Result, Ok, Err}
use Rattle.vhost_message.specs.Header.{is_reply, version_of}
use Rattle.vhost_message.specs.declared.header.Header.{Header}
use Rattle.vhost_message.specs.declared.refusal.Refusal.{Refusal}
use Rattle.vhost_message.specs.declared.refusal.Refusal.TheVariants.{Version, Direction, Request, PayloadSize}
use Rattle.vhost_message.specs.declared.requests.Expected.{Expected}
use Rattle.vhost_message.specs.declared.requests.Shape.{Shape}

abbrev pub is_among : ℕ → List ℕ → Bool
is_among n [] = false
is_among n (m ∷ ms) = n == m || is_among n ms

-- a payload of at least N and at most M bytes, and at most D descriptors
abbrev pub sized : ℕ → ℕ → ℕ → Option Shape
sized least most descriptors = Some (record { least = least; most = most; descriptors = descriptors })

-- what may come with the request of a number
abbrev pub shape_of : ℕ → Option Shape
shape_of request =
    -- GET_FEATURES, SET_OWNER, RESET_OWNER, GET_PROTOCOL_FEATURES, GET_QUEUE_NUM
    if is_among request (1 ∷ 3 ∷ 4 ∷ 15 ∷ 17 ∷ []) then sized 0 0 0 else (
    -- SET_LOG_FD, SET_BACKEND_REQ_FD
    if is_among request (7 ∷ 21 ∷ []) then sized 0 0 1 else (
    -- SET_FEATURES, SET_PROTOCOL_FEATURES; SET_VRING_NUM, SET_VRING_BASE, GET_VRING_BASE, SET_VRING_ENABLE
    if is_among request (2 ∷ 16 ∷ 8 ∷ 10 ∷ 11 ∷ 18 ∷ []) then sized 8 8 0 else (
    -- SET_VRING_KICK, SET_VRING_CALL, SET_VRING_ERR
    if is_among request (12 ∷ 13 ∷ 14 ∷ []) then sized 8 8 1 else (
    -- SET_MEM_TABLE of at most 8 regions
    if request == 5 then sized 8 264 8 else (
    -- SET_LOG_BASE
    if request == 6 then sized 16 16 1 else (
    -- SET_VRING_ADDR
    if request == 9 then sized 40 40 0 else (
    -- IOTLB_MSG
    if request == 22 then sized 32 32 0 else (
    -- GET_CONFIG, SET_CONFIG of at most 256 bytes
    if is_among request (24 ∷ 25 ∷ []) then sized 12 268 0 else (
    -- GET_INFLIGHT_FD, SET_INFLIGHT_FD
    if request == 31 then sized 20 24 0 else (
    if request == 32 then sized 20 24 1 else None))))))))))

-- how many bytes its payload has at least
abbrev pub least_in : Option Shape → ℕ
least_in None = 0
least_in (Some s) = s.least

abbrev pub least_of : ℕ → ℕ
least_of request = least_in (shape_of request)

abbrev pub of_shape : Option Shape → ℕ → Result Expected Refusal
of_shape None size = Err Request
of_shape (Some s) size =
    if nat_le s.least size && nat_le size s.most then Ok (record { payload = size; descriptors = s.descriptors })
    else Err PayloadSize

-- what follows a header
abbrev pub expected : Header → Result Expected Refusal
expected h = if not (version_of h == 1) then Err Version else (
    if is_reply h then Err Direction else of_shape (shape_of h.request) h.size)
