-- What is said on the channel: nothing changes but what is left to ask, and no message waits for it.
use Rattle.std.proofs.Common.{◌≡◌, ℕ, ◌==◌, ◌&&◌, not, Bool, true, false, List, length, Option, Some, None, is_none, Result, Ok, Err, if◌then◌else◌, refl, sym, subst}
use Rattle.vhost_message.specs.FrontendReq.{descriptors_of, request_of}
use Rattle.vhost_message.specs.declared.frontend_req.FrontendReq.{FrontendReq}
use Rattle.vhost_message.specs.declared.frontend_req.FrontendReq.TheVariants.{IotlbMsg}
use Rattle.vhost_message.specs.declared.header.Header.{Header}
use Rattle.vhost_message.specs.declared.iotlb.IotlbMessage.{IotlbMessage}
use Rattle.vhost_message.specs.declared.refusal.Refusal.{Refusal}
use Rattle.vhost_message.specs.declared.refusal.Refusal.TheVariants.{Descriptors}
use Rattle.vhost_user.specs.Connection.{Connection, served}
use Rattle.vhost_backend.specs.Backend.{BackendState, after_message, begun_by, decoded, is_free, placed, refused, taken_until, to_do, waiting}
use Rattle.vhost_backend.specs.BlockBackend.{asked_due, asked_next, came, in_use, is_asked, is_quiet, may_ask, said_on_channel, taken_by, with_change}
use Rattle.vhost_backend.specs.Questions.{QuestionsState, has_next, taken_due}
use Rattle.vhost_backend.specs.Rings.{nothing}
use Rattle.vhost_backend.specs.declared.backend.Outcome.TheVariants.{Stays}
use Rattle.vhost_backend.specs.declared.backend.Todo.{Todo}
use Rattle.vhost_backend.specs.declared.backend.Until.TheVariants.{Now}
use Rattle.vhost_backend.specs.declared.block_backend.BlockBackend.{BlockBackend}
use Rattle.vhost_backend.specs.declared.deeds.Deed.{Deed}
use Rattle.vhost_backend.specs.declared.deeds.Deed.TheVariants as deed
use Rattle.vhost_backend.specs.declared.deeds.Made.{Made}
use Rattle.vhost_backend.specs.declared.deeds.Made.TheVariants as made
use Rattle.vhost_backend.specs.declared.questions.Miss.{Miss}

-- what holds if nothing is said, and whatever is said, holds
pub on_channel : (w : BlockBackend) (P : BlockBackend × Made → Type 0) → (may_ask w ≡ false → P (w, made.Idle))
    → ((q : QuestionsState) (d : Deed) → P (record w { questions = q }, made.Deed d))
    → ((q : QuestionsState) → P (record w { questions = q }, made.Again)) → P (said_on_channel w)
on_channel w P idle says again = go (may_ask w) refl
  where
    due : (t : QuestionsState × Option Miss) → P (asked_due w t)
    due (questions, Some miss) = says questions (deed.Ask miss)
    due (questions, None) = again questions

    go : (v : Bool) → may_ask w ≡ v → P (if v then asked_next w else (w, made.Idle))
    go true is = due (taken_due w.questions)
    go false is = idle is

-- ---- messages

-- what is asked makes no difference to a message
pub came_same : (w : BlockBackend) (q : QuestionsState) (h : Header) (payload : List ℕ) (n : ℕ)
    → has_next q ≡ has_next w.questions → came (record w { questions = q }) h payload n
    ≡ (record (came w h payload n).0 { questions = q }, (came w h payload n).1)
came_same w q h payload n same =
    subst (λ (v : Bool). (if test v then then_of (record w { questions = q }) else (record w { questions = q }, false))
    ≡ (record (came w h payload n).0 { questions = q }, (came w h payload n).1)) (sym same)
    (go (test (has_next w.questions)))
  where
    test : Bool → Bool
    test v = is_none w.todo.place && (length w.todo.actions == 0) && is_quiet w.todo.message && is_none w.returning
        && not w.broken && is_asked w.ask && (length w.reply == 0) && is_none w.called && is_none w.end
        && not (is_free w.backend.taken && v) && is_free w.backend.taken

    then_of : BlockBackend → BlockBackend × Bool
    then_of u = let v = with_change u (request_of h payload) in (taken_by v h payload n (in_use v), true)

    go : (v : Bool) → (if v then then_of (record w { questions = q }) else (record w { questions = q }, false))
        ≡ (let r : BlockBackend × Bool = if v then then_of w else (w, false) in (record r.0 { questions = q }, r.1))
    go true = refl
    go false = refl

module _ (b : BackendState) (h : Header) (payload : List ℕ) (n : ℕ) (m : IotlbMessage) where
  begins : (s : BackendState) (r : Result Connection Refusal) → is_quiet (begun_by s h (IotlbMsg m) r).1 ≡ false
  begins s (Ok new) = refl
  begins s (Err e) = refl

  at_once : is_quiet (decoded b h payload n false (Ok (IotlbMsg m))).1.message ≡ false
  at_once = go (n == descriptors_of (IotlbMsg m))
    where
      go : (v : Bool) → is_quiet (let t : BackendState × Todo = if v then taken_until b h (IotlbMsg m) payload Now
          else (b, refused b h Descriptors) in t.1.message) ≡ false
      go true = let t = waiting b Now in let s = placed t.0 t.1 in begins s (served s.connection (IotlbMsg m) payload)
      go false = refl

  -- one on the table does not wait if nothing is in use that it changes
  pub takes_effect : request_of h payload ≡ Ok (IotlbMsg m) → is_free b.taken ≡ true
      → is_quiet (after_message b h payload n false).1.message ≡ false
  takes_effect is free =
      subst (λ (o : Result FrontendReq Refusal). is_quiet (let t : BackendState × Todo = if is_free b.taken
      then decoded b h payload n false o else (b, to_do (nothing 0) None Stays) in t.1.message) ≡ false) (sym is)
      (subst (λ (v : Bool). is_quiet (let t : BackendState × Todo = if v
      then decoded b h payload n false (Ok (IotlbMsg m)) else (b, to_do (nothing 0) None Stays) in t.1.message) ≡ false)
      (sym free) at_once)
