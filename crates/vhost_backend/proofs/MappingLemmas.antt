-- Guest memory is mapped when nothing is under way.
use Rattle.std.proofs.Common.{◌≡◌, ℕ, ◌+◌, ◌-◌, true, List, Some, refl, arith}
use Rattle.std.specs.List.{slice_get}
use Rattle.std.specs.Option.{option_map}
use Rattle.std.proofs.lemmas.Bool.{ne_eqb}
use Rattle.vhost_message.specs.declared.frontend_req.FrontendReq.{FrontendReq}
use Rattle.vhost_message.specs.declared.frontend_req.FrontendReq.TheVariants as req
use Rattle.vhost_message.specs.declared.header.Header.{Header}
use Rattle.vhost_message.specs.declared.regions.MemoryRegion.{MemoryRegion}
use Rattle.vhost_user.specs.Connection.{Connection}
use Rattle.vhost_backend.proofs.AtRestLemmas.{all_at_rest}
use Rattle.vhost_backend.specs.Backend.{mapping_at, new_backend}
use Rattle.vhost_backend.specs.Mapping.{mapping_of}
use Rattle.vhost_backend.specs.Messages.{Happening, after, changes_all}
use Rattle.vhost_backend.specs.Rings.{all_idle}
use Rattle.vhost_backend.specs.declared.backend.Taken.{Taken}
use Rattle.vhost_backend.specs.declared.backend.Taken.TheVariants as taken
use Rattle.vhost_backend.specs.declared.mapping.Mapping.{Mapping}
use Rattle.vhost_backend.specs.declared.mapping.Mapping.TheVariants.{Map}
use Rattle.vhost_backend.specs.declared.rings.Hold.TheVariants.{Held}

changes : (request : FrontendReq) (number : ℕ) (mapping : Mapping) → mapping_of request number ≡ Some mapping
    → changes_all request ≡ true
changes req.GetFeatures number mapping is = absurd (cc)
changes (req.SetFeatures features) number mapping is = absurd (cc)
changes req.SetOwner number mapping is = absurd (cc)
changes req.ResetOwner number mapping is = absurd (cc)
changes (req.SetMemTable table) number mapping is = refl
changes (req.SetLogBase size offset) number mapping is = absurd (cc)
changes req.SetLogFd number mapping is = absurd (cc)
changes (req.SetVringNum index num) number mapping is = absurd (cc)
changes (req.SetVringAddr address) number mapping is = absurd (cc)
changes (req.SetVringBase index base) number mapping is = absurd (cc)
changes (req.SetVringKick index descriptor) number mapping is = absurd (cc)
changes (req.SetVringCall index descriptor) number mapping is = absurd (cc)
changes (req.SetVringErr index descriptor) number mapping is = absurd (cc)
changes req.GetProtocolFeatures number mapping is = absurd (cc)
changes (req.SetProtocolFeatures features) number mapping is = absurd (cc)
changes req.GetQueueNum number mapping is = absurd (cc)
changes (req.SetVringEnable index enable) number mapping is = absurd (cc)
changes req.SetBackendReqFd number mapping is = absurd (cc)
changes (req.IotlbMsg message) number mapping is = absurd (cc)
changes (req.GetConfig space) number mapping is = absurd (cc)
changes (req.SetConfig space) number mapping is = absurd (cc)
changes (req.GetInflightFd region) number mapping is = absurd (cc)
changes (req.SetInflightFd region) number mapping is = absurd (cc)
changes (req.GetVringBase index) number mapping is = absurd (cc)

pub rest : (c : Connection) (ids : ℕ) (xs : List Happening) (number : ℕ) (mapping : Mapping)
    → (let b = after xs (new_backend c ids) in mapping_at b.taken number ≡ Some mapping
    → (b.rings.hold ≡ Held) × (all_idle b.rings.rings ≡ true))
rest c ids xs number mapping is = go (after xs (new_backend c ids)).taken refl is
  where
    go : (t : Taken) → (after xs (new_backend c ids)).taken ≡ t → mapping_at t number ≡ Some mapping
        → ((after xs (new_backend c ids)).rings.hold ≡ Held)
        × (all_idle (after xs (new_backend c ids)).rings.rings ≡ true)
    go taken.Nothing same is = absurd (cc)
    go taken.Over same is = absurd (cc)
    go (taken.Waits h request until) same is = absurd (cc)
    go (taken.Begun h request) same is = all_at_rest c ids xs h request same (changes request number mapping is)

pub each : (h : Header) (table : List MemoryRegion) (k : ℕ) → mapping_at (taken.Begun h (req.SetMemTable table)) (k + 1)
    ≡ option_map (λ region. Map region k) (slice_get table k)
each h table k =
    let same : k + 1 - 1 ≡ k = omega arith in
    rw (ne_eqb (k + 1) 0 (λ bad. omega arith), same) refl
