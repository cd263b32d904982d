-- Features, each as the number that has its bit.
use Rattle.std.specs.Prelude.{ℕ, ◌^◌, ◌+◌, Bool, not, ◌==◌, bit_and}

abbrev pub log_all : ℕ
log_all = 2 ^ 26

abbrev pub event_idx : ℕ
event_idx = 2 ^ 29

abbrev pub protocol_features : ℕ
protocol_features = 2 ^ 30

abbrev pub access_platform : ℕ
access_platform = 2 ^ 33

abbrev pub ring_packed : ℕ
ring_packed = 2 ^ 34

-- ---- of the protocol

abbrev pub mq : ℕ
mq = 2 ^ 0

abbrev pub log_shmfd : ℕ
log_shmfd = 2 ^ 1

abbrev pub reply_ack : ℕ
reply_ack = 2 ^ 3

abbrev pub backend_req : ℕ
backend_req = 2 ^ 5

abbrev pub config : ℕ
config = 2 ^ 9

abbrev pub inflight_shmfd : ℕ
inflight_shmfd = 2 ^ 12

-- those that a back end may offer
abbrev pub known : ℕ
known = mq + log_shmfd + reply_ack + backend_req + config + inflight_shmfd

-- ----

abbrev pub has : ℕ → ℕ → Bool
has features feature = not (bit_and features feature == 0)

-- whether some features are all among others
abbrev pub are_of : ℕ → ℕ → Bool
are_of features others = bit_and features others == features
