-- Refusals as codes.
use Rattle.std.specs.Prelude.{ℕ, Result, Ok, Err}
use Rattle.vhost_message.specs.declared.refusal.Malformed.{Malformed}
use Rattle.vhost_message.specs.declared.refusal.Malformed.TheVariants as malformed
use Rattle.vhost_message.specs.declared.refusal.Refusal.{Refusal}
use Rattle.vhost_message.specs.declared.refusal.Refusal.TheVariants as refusal
use Rattle.vhost_user.specs.declared.backend_req_handler.OfferError.{OfferError}
use Rattle.vhost_user.specs.declared.backend_req_handler.OfferError.TheVariants as offer
use Rattle.vhost_user.specs.declared.vring.NotRunning.{NotRunning}
use Rattle.vhost_user.specs.declared.vring.NotRunning.TheVariants as reason

abbrev pub code_of_offer : OfferError → ℕ
code_of_offer offer.Invalid = 100
code_of_offer offer.Memory = 3

abbrev pub code_of_malformed : Malformed → ℕ
code_of_malformed malformed.Kind = 57
code_of_malformed malformed.EmptyRange = 58
code_of_malformed malformed.Range = 59
code_of_malformed malformed.Permissions = 60

abbrev pub code_of_refusal : Refusal → ℕ
code_of_refusal refusal.Version = 102
code_of_refusal refusal.Direction = 103
code_of_refusal refusal.Request = 104
code_of_refusal refusal.PayloadSize = 105
code_of_refusal refusal.Descriptors = 106
code_of_refusal refusal.NotNegotiated = 107
code_of_refusal refusal.Features = 108
code_of_refusal refusal.Index = 109
code_of_refusal refusal.QueueSize = 110
code_of_refusal refusal.Base = 111
code_of_refusal refusal.Flags = 112
code_of_refusal refusal.Alignment = 113
code_of_refusal refusal.Started = 114
code_of_refusal refusal.RegionRange = 115
code_of_refusal refusal.RegionOverlap = 116
code_of_refusal refusal.ConfigRange = 117
code_of_refusal refusal.ConfigReadOnly = 118
code_of_refusal (refusal.Iotlb e) = code_of_malformed e

abbrev pub code_of_step : Result (Unit {0}) Refusal → ℕ
code_of_step (Ok done) = 0
code_of_step (Err e) = code_of_refusal e

abbrev pub code_of_not_running : NotRunning → ℕ
code_of_not_running reason.Index = 109
code_of_not_running reason.Stopped = 120
code_of_not_running reason.Disabled = 121
code_of_not_running reason.NoSize = 122
code_of_not_running reason.NoAddress = 123
code_of_not_running reason.UserAddress = 124
