-- Messages whose request is refused.
use Rattle.std.proofs.Common.{◌≡◌, ◌∙◌, ℕ, Bool, cond, eqb, List, Result, Ok, Err, sym, ap}
use Rattle.std.specs.Prelude.{not}
use Rattle.std.proofs.lemmas.Bool.{cond-false, eq-eqb}
use Rattle.vhost_message.specs.FrontendReq.{◌>>=◌, descriptors_of, request_of}
use Rattle.vhost_message.specs.declared.frontend_req.FrontendReq.{FrontendReq}
use Rattle.vhost_message.specs.declared.header.Header.{Header}
use Rattle.vhost_message.specs.declared.refusal.Refusal.{Refusal}
use Rattle.vhost_message.specs.declared.refusal.Refusal.TheVariants.{Descriptors}
use Rattle.vhost_user.specs.Connection.{Connection, Handles, handled, served}

abbrev with_request : Connection → List ℕ → ℕ → FrontendReq → Result (FrontendReq × Connection) Refusal
with_request s payload count request = cond (not (eqb count (descriptors_of request))) (Err Descriptors)
    (served s request payload >>= λ (new : Connection). Ok (request, new))

pub refused_when_served : (s new : Connection) (h : Header) (payload : List ℕ) (count : ℕ) (request : FrontendReq)
    (e : Refusal) → Ok request ≡ request_of h payload → count ≡ descriptors_of request
    → served s request payload ≡ Err e → new ≡ s → Handles s h payload count (Err e) new
refused_when_served s new h payload count request e asked same fails kept = (
  ap (λ (r : Result FrontendReq Refusal). r >>= with_request s payload count) (sym asked)
      ∙ cond-false (not (eqb count (descriptors_of request))) (Err Descriptors)
      (served s request payload >>= λ (new : Connection). Ok (request, new))
      (ap not (eq-eqb count (descriptors_of request) same))
      ∙ ap (λ (r : Result Connection Refusal). r >>= λ (new : Connection). Ok (request, new)) fails,
  kept,
)
