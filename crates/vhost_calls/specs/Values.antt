-- What crosses to C, as plain numbers.
use Rattle.std.specs.Prelude.{ℕ, Bool, true, false, length, Option, Some, None}
use Rattle.vhost_message.specs.declared.frontend_req.ConfigSpace.{ConfigSpace}
use Rattle.vhost_message.specs.declared.frontend_req.FrontendReq.{FrontendReq}
use Rattle.vhost_message.specs.declared.frontend_req.FrontendReq.TheVariants.{SetFeatures, SetProtocolFeatures, SetLogBase, SetVringNum, SetVringAddr, SetVringBase, GetVringBase, SetVringKick, SetVringCall, SetVringErr, SetVringEnable, GetConfig, SetConfig, GetInflightFd, SetInflightFd}
use Rattle.vhost_message.specs.declared.frontend_req.VhostUserInflight.{VhostUserInflight}
use Rattle.vhost_message.specs.declared.regions.MemoryRegion.{MemoryRegion}
use Rattle.vhost_user.specs.Connection.{Connection}
use Rattle.vhost_user.specs.declared.backend_req_handler.Offer.{Offer}
use Rattle.vhost_user.specs.declared.log.LogPages.{LogPages}
use Rattle.vhost_user.specs.declared.vring.Notifier.{Notifier}
use Rattle.vhost_user.specs.declared.vring.Notifier.TheVariants.{Unset, Polled, Descriptor}
use Rattle.vhost_user.specs.declared.vring.RunningVring.{RunningVring}
use Rattle.vhost_calls.specs.declared.values.VhostOffer.{VhostOffer}
use Rattle.vhost_calls.specs.declared.values.VhostPages.{VhostPages}
use Rattle.vhost_calls.specs.declared.values.VhostRegion.{VhostRegion}
use Rattle.vhost_calls.specs.declared.values.VhostRequest.{VhostRequest}
use Rattle.vhost_calls.specs.declared.values.VhostState.{VhostState}
use Rattle.vhost_calls.specs.declared.values.VhostVring.{VhostVring}

abbrev pub offer_of : VhostOffer → Offer
offer_of o = record {
  features = o.features;
  protocol_features = o.protocol_features;
  max_queue_size = o.max_queue_size;
  writable_from = o.writable_from;
  writable_len = o.writable_len;
}

abbrev pub number_of_bool : Bool → ℕ
number_of_bool true = 1
number_of_bool false = 0

-- ---- requests

abbrev pub no_request : ℕ → VhostRequest
no_request request = record { request = request; index = 0; flag = 0; queue_size = 0; value = 0; size = 0 }

abbrev pub valued : ℕ → ℕ → VhostRequest
valued request value = record (no_request request) { value = value }

abbrev pub on_ring : ℕ → ℕ → ℕ → VhostRequest
on_ring request index value = record (no_request request) { index = index; value = value }

abbrev pub switched : ℕ → ℕ → Bool → VhostRequest
switched request index on = record (no_request request) { index = index; flag = number_of_bool on }

abbrev pub on_config : ℕ → ConfigSpace → VhostRequest
on_config request c = record (no_request request) { flag = c.flags; value = c.offset; size = c.size }

abbrev pub on_inflight : ℕ → VhostUserInflight → VhostRequest
on_inflight request r = record (no_request request) {
  index = r.num_queues;
  queue_size = r.queue_size;
  value = r.mmap_offset;
  size = r.mmap_size;
}

-- what a request of this number asks for
abbrev pub asked_by : ℕ → FrontendReq → VhostRequest
asked_by n (SetFeatures features) = valued n features
asked_by n (SetProtocolFeatures features) = valued n features
asked_by n (SetLogBase size offset) = record (no_request n) { value = offset; size = size }
asked_by n (SetVringNum index num) = on_ring n index num
asked_by n (SetVringAddr address) = on_ring n address.index 0
asked_by n (SetVringBase index base) = on_ring n index base
asked_by n (GetVringBase index) = on_ring n index 0
asked_by n (SetVringKick index descriptor) = switched n index descriptor
asked_by n (SetVringCall index descriptor) = switched n index descriptor
asked_by n (SetVringErr index descriptor) = switched n index descriptor
asked_by n (SetVringEnable index enable) = switched n index enable
asked_by n (GetConfig space) = on_config n space
asked_by n (SetConfig space) = on_config n space
asked_by n (GetInflightFd region) = on_inflight n region
asked_by n (SetInflightFd region) = on_inflight n region
asked_by n request = no_request n

-- ---- memory and rings

abbrev pub region_row : MemoryRegion → VhostRegion
region_row r = record {
  guest_address = r.guest_address.0;
  size = r.size;
  user_address = r.user_address;
  mmap_offset = r.mmap_offset;
}

abbrev pub number_of_notifier : Notifier → ℕ
number_of_notifier Unset = 0
number_of_notifier Polled = 1
number_of_notifier Descriptor = 2

-- an address in the log, and whether there is one
abbrev pub address_in : Option ℕ → ℕ
address_in None = 0
address_in (Some a) = a

abbrev pub number_if_any : Option ℕ → ℕ
number_if_any None = 0
number_if_any (Some a) = 1

abbrev pub vring_row : RunningVring → VhostVring
vring_row v = record {
  size = v.num;
  base = v.base;
  descriptor = v.descriptor;
  available = v.available;
  used = v.used;
  used_len = v.used_len;
  log = address_in v.log;
  is_logged = number_if_any v.log;
  kick = number_of_notifier v.kick;
  call = number_of_notifier v.call;
}

-- ---- the log

abbrev pub pages_row : LogPages → VhostPages
pages_row p = record { first = p.first; count = p.count }

abbrev pub connection_state : Connection → VhostState
connection_state s = record {
  features = s.features;
  protocol_features = s.protocol_features;
  queues = length s.vrings;
  regions = length s.memory;
  is_owned = number_of_bool s.owned;
}
