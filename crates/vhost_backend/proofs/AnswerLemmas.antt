-- Each message is answered once.
use Rattle.std.proofs.Common.{◌≡◌, ℕ, zero, suc, ◌+◌, ◌==◌, Bool, true, false, List, [], ◌∷◌, length, Option, Some, None, Result, Ok, Err, if◌then◌else◌, refl, ap, arith}
use Rattle.vhost_message.specs.FrontendReq.{descriptors_of, request_of}
use Rattle.vhost_message.specs.declared.frontend_req.FrontendReq.{FrontendReq}
use Rattle.vhost_message.specs.declared.header.Header.{Header}
use Rattle.vhost_message.specs.declared.refusal.Refusal.{Refusal}
use Rattle.vhost_message.specs.declared.refusal.Refusal.TheVariants.{Descriptors}
use Rattle.vhost_user.specs.Connection.{Connection, served, with_base}
use Rattle.vhost_backend.proofs.MessageLemmas.{placed_taken}
use Rattle.vhost_backend.specs.Backend.{BackendState, begun, begun_by, begun_or_waits, decoded, finish_by, finished, happened, happened_by, is_due, is_free, is_outer, placed, rebased, rebased_at, rebased_by, refreshed, refused, released, stopped_ring, taken_until, to_do, to_place, until_of, waiting, with_outcome}
use Rattle.vhost_backend.specs.Messages.{Happening, Came, Done, Told, after, HungUp, is_begun, is_over, is_pending, is_refused, is_taken, over_count, pending, stepped, taken_count}
use Rattle.vhost_backend.specs.Rings.{happens, nothing}
use Rattle.vhost_backend.specs.declared.backend.Finish.{Finish}
use Rattle.vhost_backend.specs.declared.backend.Finish.TheVariants as end
use Rattle.vhost_backend.specs.declared.backend.Outcome.{Outcome}
use Rattle.vhost_backend.specs.declared.backend.Outcome.TheVariants.{Stays}
use Rattle.vhost_backend.specs.declared.backend.Taken.{Taken}
use Rattle.vhost_backend.specs.declared.backend.Taken.TheVariants as taken
use Rattle.vhost_backend.specs.declared.backend.Until.{Until}
use Rattle.vhost_backend.specs.declared.rings.Actions.{Actions}

abbrev one_if : Bool → ℕ
one_if b = if b then 1 else 0

-- one was taken: it is over, or it is pending
abbrev Over : BackendState × Outcome → Type 0
Over t = 1 ≡ one_if (is_refused t.1) + pending t.0

begun_over : (b : BackendState) (h : Header) (request : FrontendReq) (payload : List ℕ) → Over (begun b h request payload)
begun_over b h request payload = go (served b.connection request payload)
  where
    go : (o : Result Connection Refusal) → Over (begun_by b h request o)
    go (Ok new) = refl
    go (Err e) = refl

due_over : (b : BackendState) (h : Header) (request : FrontendReq) (payload : List ℕ) (until : Until) (due : Bool)
    → Over (begun_or_waits b h request payload until due)
due_over b h request payload until true = begun_over b h request payload
due_over b h request payload until false = refl

pub rebased_taken : (b : BackendState) (request : FrontendReq) (end : Finish) → (rebased b request end).0.taken ≡ b.taken
rebased_taken b request end.Done = refl
rebased_taken b request (end.At base) = at (stopped_ring request)
  where
    by : (o : Result Connection Refusal) → (rebased_by b o).0.taken ≡ b.taken
    by (Ok new) = refl
    by (Err e) = refl

    at : (o : Option ℕ) → (rebased_at b base o).0.taken ≡ b.taken
    at None = refl
    at (Some i) = by (with_base b.connection i base)
rebased_taken b request end.Failed = refl

pub refreshed_taken : (n : ℕ) (b : BackendState) → (refreshed n b).taken ≡ b.taken
refreshed_taken zero b = refl
refreshed_taken (suc n) b = refreshed_taken n b

finished_pending : (request : FrontendReq) (h : Header) (t : BackendState × Bool) → is_pending t.0.taken ≡ false
    → is_pending (finished request h t).0.taken ≡ false
finished_pending request h (b, true) none = rw (refreshed_taken (length b.placings) b) none
finished_pending request h (b, false) none = refl

free_none : (t : Taken) → is_free t ≡ true → is_pending t ≡ false
free_none taken.Nothing free = refl
free_none taken.Over free = refl
free_none (taken.Waits h request until) free = absurd (cc)
free_none (taken.Begun h request) free = absurd (cc)

module _ (b : BackendState) where
  abbrev Counts : Bool → Bool → BackendState → Type 0
  Counts came over new = pending b + one_if came ≡ one_if over + pending new

  decoded_counts : (h : Header) (payload : List ℕ) (n : ℕ) (used : Bool) (o : Result FrontendReq Refusal) → is_free b.taken ≡ true
      → (let t = decoded b h payload n used o in Counts true (is_refused t.1.message) t.0)
  decoded_counts h payload n used (Err e) free = rw (free_none b.taken free) refl
  decoded_counts h payload n used (Ok request) free = go (n == descriptors_of request)
    where
      go : (right : Bool) → (let t = if right then taken_until b h request payload (until_of b used request)
          else (b, refused b h Descriptors) in Counts true (is_refused t.1.message) t.0)
      go false = rw (free_none b.taken free) refl
      go true =
          let until = until_of b used request in
          let t = waiting b until in
          rw (free_none b.taken free) (due_over (placed t.0 t.1) h request payload until (is_due until t.1))

  happened_counts : (old : BackendState) (done : Actions) (t : Taken) → old.taken ≡ t → b.taken ≡ t
      → (let n = happened_by old done t in Counts false (is_refused n.1) n.0)
  happened_counts old done taken.Nothing same is = rw (same, is) refl
  happened_counts old done taken.Over same is = rw (same, is) refl
  happened_counts old done (taken.Begun h request) same is = rw (same, is) refl
  happened_counts old done (taken.Waits h request until) same is =
      rw is (due_over old h request [] until (is_due until done))

  end_counts : (end : Finish) (t : Taken) → b.taken ≡ t → Counts false (is_begun t) (finish_by b end t).0
  end_counts end taken.Nothing is = omega arith
  end_counts end taken.Over is = omega arith
  end_counts end (taken.Waits h request until) is = omega arith
  end_counts end (taken.Begun h request) is =
      let t = rebased (released b) request end in
      let none : is_pending (finished request h t).0.taken ≡ false =
      finished_pending request h t (ap is_pending (rebased_taken (released b) request end)) in
      rw (is, none) refl

  step_counts : (x : Happening) → Counts (is_taken b x) (is_over b x) (stepped b x)
  step_counts (Came h payload n used) = go (is_free b.taken) refl
    where
      go : (free : Bool) → is_free b.taken ≡ free
          → (let t = if free then decoded b h payload n used (request_of h payload) else (b, to_do (nothing 0) None Stays) in
          Counts free (is_refused t.1.message) t.0)
      go true free = decoded_counts h payload n used (request_of h payload) free
      go false free = omega arith
  step_counts (Done end) = end_counts end b.taken refl
  step_counts (Told e) = go (is_outer e)
    where
      go : (outer : Bool) → (let u = happens b.rings e in let old : BackendState = record b { rings = u.0 } in
          let t = if outer then with_outcome u.1 (to_place old u.1) (happened (placed old u.1) u.1)
          else (b, to_do (nothing 0) None Stays) in Counts false (is_refused t.1.message) t.0)
      go true =
          let u = happens b.rings e in
          let old : BackendState = record b { rings = u.0 } in
          rw (placed_taken old u.1) (happened_counts (placed old u.1) u.1 b.taken (placed_taken old u.1) refl)
      go false = omega arith
  step_counts HungUp = omega arith

pub answered : (b : BackendState) (xs : List Happening)
    → pending b + taken_count xs b ≡ over_count xs b + pending (after xs b)
answered b [] = omega arith
answered b (x ∷ xs) =
    let here : pending b + one_if (is_taken b x) ≡ one_if (is_over b x) + pending (stepped b x) = step_counts b x in
    let rest : pending (stepped b x) + taken_count xs (stepped b x)
    ≡ over_count xs (stepped b x) + pending (after xs (stepped b x)) = answered (stepped b x) xs in
    omega arith
