-- What a connection keeps.
use Rattle.std.proofs.Common.{◌≡◌, ◌∙◌, ℕ, zero, suc, ◌+◌, Bool, true, false, length, List, Result, Ok, Err, refl, ap, arith}
use Rattle.std.proofs.Math.ListN.{length-set}
use Rattle.vhost_user.specs.Connection.{Connection, served}
use Rattle.vhost_user.specs.Reply.{reply_to}
use Rattle.vhost_user.specs.Reply as reply
use Rattle.vhost_message.specs.declared.frontend_req.FrontendReq.{FrontendReq}
use Rattle.vhost_message.specs.declared.header.Header.{Header}
use Rattle.vhost_message.specs.declared.refusal.Refusal.{Refusal}
use Rattle.vhost_backend.specs.Backend.{BackendState, begun, begun_by, begun_or_waits, finished, over, refreshed, refreshed_one}
use Rattle.vhost_backend.specs.declared.backend.Next.TheVariants as next
use Rattle.vhost_backend.specs.declared.backend.Taken.{Taken}
use Rattle.vhost_backend.specs.declared.backend.Until.{Until}

-- what is taken does not matter to a message that begins
pub same_begun : (b : BackendState) (t : Taken) (h : Header) (request : FrontendReq) (payload : List ℕ)
    → begun (record b { taken = t }) h request payload ≡ begun b h request payload
same_begun b t h request payload = go (served b.connection request payload)
  where
    go : (o : Result Connection Refusal) → begun_by (record b { taken = t }) h request o ≡ begun_by b h request o
    go (Ok new) = refl
    go (Err e) = refl

pub same_waits : (b : BackendState) (t : Taken) (h : Header) (request : FrontendReq) (payload : List ℕ) (until : Until)
    (due : Bool) → begun_or_waits (record b { taken = t }) h request payload until due
    ≡ begun_or_waits b h request payload until due
same_waits b t h request payload until true = same_begun b t h request payload
same_waits b t h request payload until false = refl

pub refreshed_length : (n : ℕ) (b : BackendState) → length (refreshed n b).placings ≡ length b.placings
refreshed_length zero b = refl
refreshed_length (suc n) b = length-set (refreshed n b).placings _ _ ∙ refreshed_length n b

pub refreshed_next : (n : ℕ) (b : BackendState) → refreshed_one (refreshed n b) n ≡ refreshed (n + 1) b
refreshed_next n b = let same : suc n ≡ n + 1 = omega arith in ap (λ m. refreshed m b) same

pub finished_is : (request : FrontendReq) (h : Header) (new looped : BackendState) (t : BackendState × Bool) (n : ℕ)
    (bytes : List ℕ) → (new, true) ≡ t → looped ≡ refreshed n new → n ≡ length new.placings
    → bytes ≡ reply_to looped.connection h request → (looped, (bytes, next.Messages)) ≡ finished request h t
finished_is request h new looped t n bytes is loops ends replies = rw (← is, ← ends, ← loops, ← replies) refl

pub refused_is : (request : FrontendReq) (h : Header) (new ended : BackendState) (t : BackendState × Bool)
    (bytes : List ℕ) → (new, false) ≡ t → bytes ≡ reply.refused new.connection h → ended ≡ over new
    → (ended, (bytes, next.End)) ≡ finished request h t
refused_is request h new ended t bytes is replies ends = rw (← is, replies, ends) refl
