-- Messages come to events of rings.
use Rattle.std.proofs.Common.{◌≡◌, ◌∙◌, ℕ, zero, suc, ◌==◌, Bool, true, false, List, [], ◌∷◌, ◌++◌, length, set, Option, Some, None, Result, Ok, Err, is_ok, if◌then◌else◌, refl, ap, sym, append_assoc}
use Rattle.std.specs.List.{slice_get}
use Rattle.std.proofs.lemmas.Grind.{flat_map-append}
use Rattle.std.proofs.lemmas.List.{append-nil}
use Rattle.vhost_message.specs.FrontendReq.{descriptors_of, request_of}
use Rattle.vhost_message.specs.declared.frontend_req.FrontendReq.{FrontendReq}
use Rattle.vhost_message.specs.declared.header.Header.{Header}
use Rattle.vhost_message.specs.declared.refusal.Refusal.{Refusal}
use Rattle.vhost_message.specs.declared.refusal.Refusal.TheVariants.{Descriptors}
use Rattle.vhost_user.specs.Connection.{Connection, served, with_base}
use Rattle.vhost_user.specs.Running.{running}
use Rattle.vhost_backend.specs.Backend.{BackendState, begun, begun_by, begun_or_waits, decoded, finish_by, finished, happened, happened_by, is_due, is_free, is_outer, placed, rebased, rebased_at, rebased_by, refreshed, refused, released, started_if, stopped_ring, taken_until, to_do, to_place, until_of, waited, with_outcome}
use Rattle.vhost_backend.specs.Messages.{Happening, Came, Done, Told, HungUp, after, all_events, all_to_do, ending, events_if_done, events_if_due, events_if_refused, events_of, events_of_decoded, events_of_end, events_of_request, events_of_waiting, events_until, own_actions, refreshing, ring_actions, starts_if, stepped}
use Rattle.vhost_backend.specs.Messages as message
use Rattle.vhost_backend.specs.Ring.{RingState, step}
use Rattle.vhost_backend.specs.Rings.{Happens, RingsState, admits, happens, held, holding, nothing, now_held, on_ring, turn_used, with_step}
use Rattle.vhost_backend.specs.Rings.{is_free as is_free_hold}
use Rattle.vhost_backend.specs.Turns.{actions_of, after_all, all_done}
use Rattle.vhost_backend.specs.Turns as turn
use Rattle.vhost_backend.specs.declared.backend.Finish.{Finish}
use Rattle.vhost_backend.specs.declared.backend.Finish.TheVariants as end
use Rattle.vhost_backend.specs.declared.backend.Outcome.TheVariants.{Stays}
use Rattle.vhost_backend.specs.declared.backend.Placing.TheVariants.{Placed}
use Rattle.vhost_backend.specs.declared.backend.Taken.{Taken}
use Rattle.vhost_backend.specs.declared.backend.Taken.TheVariants as taken
use Rattle.vhost_backend.specs.declared.backend.Until.{Until}
use Rattle.vhost_backend.specs.declared.backend.Until.TheVariants.{Now, Ring, AllRings}
use Rattle.vhost_backend.specs.declared.ring.RingEvent.{RingEvent}
use Rattle.vhost_backend.specs.declared.ring.RingEvent.TheVariants.{Start, Enable}
use Rattle.vhost_backend.specs.declared.rings.Actions.{Actions}
use Rattle.vhost_backend.specs.declared.rings.Event.{Event}
use Rattle.vhost_backend.specs.declared.rings.Event.TheVariants as event

-- ---- lists of events

pub after-append : (xs ys : List Event) (s : RingsState) → after_all (xs ++ ys) s ≡ after_all ys (after_all xs s)
after-append [] ys s = refl
after-append (x ∷ xs) ys s = after-append xs ys (happens s x).0

module _ (i : ℕ) where
  pub done-append : (xs ys : List Event) (s : RingsState) → actions_of i (all_done (xs ++ ys) s)
      ≡ actions_of i (all_done xs s) ++ actions_of i (all_done ys (after_all xs s))
  done-append [] ys s = refl
  done-append (x ∷ xs) ys s =
      ap (λ rest. turn.own_actions i (happens s x).1 ++ rest) (done-append xs ys (happens s x).0)
      ∙ sym (append_assoc (turn.own_actions i (happens s x).1) (actions_of i (all_done xs (happens s x).0))
      (actions_of i (all_done ys (after_all xs (happens s x).0))))

-- ---- what leaves the rings as they are

pub placed_rings : (b : BackendState) (done : Actions) → (placed b done).rings ≡ b.rings
placed_rings b done = go (length done.actions == 0)
  where
    go : (none : Bool) → (let new : BackendState = if none then b else record b { placings = set b.placings done.ring Placed } in
        new.rings ≡ b.rings)
    go true = refl
    go false = refl

pub placed_connection : (b : BackendState) (done : Actions) → (placed b done).connection ≡ b.connection
placed_connection b done = go (length done.actions == 0)
  where
    go : (none : Bool) → (let new : BackendState = if none then b else record b { placings = set b.placings done.ring Placed } in
        new.connection ≡ b.connection)
    go true = refl
    go false = refl

pub placed_taken : (b : BackendState) (done : Actions) → (placed b done).taken ≡ b.taken
placed_taken b done = go (length done.actions == 0)
  where
    go : (none : Bool) → (let new : BackendState = if none then b else record b { placings = set b.placings done.ring Placed } in
        new.taken ≡ b.taken)
    go true = refl
    go false = refl

-- ---- what becomes of rings

-- a message that takes effect or is refused
begun_rings : (b : BackendState) (h : Header) (request : FrontendReq) (payload : List ℕ)
    → (begun b h request payload).0.rings ≡ after_all (events_if_refused (served b.connection request payload)) b.rings
begun_rings b h request payload = go (served b.connection request payload)
  where
    go : (o : Result Connection Refusal) → (begun_by b h request o).0.rings ≡ after_all (events_if_refused o) b.rings
    go (Ok new) = refl
    go (Err e) = refl

due_rings : (b : BackendState) (h : Header) (request : FrontendReq) (payload : List ℕ) (until : Until) (due : Bool)
    → (begun_or_waits b h request payload until due).0.rings
    ≡ after_all (events_if_due b request payload due) b.rings
due_rings b h request payload until true = begun_rings b h request payload
due_rings b h request payload until false = refl

waited_rings : (s : RingsState) (until : Until) → (waited s until).0 ≡ after_all (events_until until) s
waited_rings s Now = refl
waited_rings s (Ring i) = refl
waited_rings s AllRings = refl

-- what is to be placed does not matter
due_placed : (b : BackendState) (done : Actions) (request : FrontendReq) (payload : List ℕ) (due : Bool)
    → events_if_due (placed b done) request payload due ≡ events_if_due b request payload due
due_placed b done request payload true =
    ap (λ c. events_if_refused (served c request payload)) (placed_connection b done)
due_placed b done request payload false = refl

module _ (b : BackendState) where
  request_rings : (h : Header) (request : FrontendReq) (payload : List ℕ) (until : Until)
      → (taken_until b h request payload until).0.rings ≡ after_all (events_of_request b request payload until) b.rings
  request_rings h request payload until =
      let t = waited b.rings until in
      let old : BackendState = record b { rings = t.0 } in
      let due = is_due until t.1 in
      let events = events_if_due b request payload due in
      due_rings (placed old t.1) h request payload until due
      ∙ ap (λ es. after_all es (placed old t.1).rings) (due_placed old t.1 request payload due)
      ∙ ap (after_all events) (placed_rings old t.1 ∙ waited_rings b.rings until)
      ∙ sym (after-append (events_until until) events b.rings)

  decoded_rings : (h : Header) (payload : List ℕ) (n : ℕ) (used : Bool) (o : Result FrontendReq Refusal)
      → (decoded b h payload n used o).0.rings ≡ after_all (events_of_decoded b payload n used o) b.rings
  decoded_rings h payload n used (Err e) = refl
  decoded_rings h payload n used (Ok request) = go (n == descriptors_of request)
    where
      go : (right : Bool) → (if right then taken_until b h request payload (until_of b used request)
          else (b, refused b h Descriptors)).0.rings
          ≡ after_all (if right then events_of_request b request payload (until_of b used request) else []) b.rings
      go true = request_rings h request payload (until_of b used request)
      go false = refl

  message_rings : (h : Header) (payload : List ℕ) (n : ℕ) (used : Bool)
      → (stepped b (Came h payload n used)).rings ≡ after_all (events_of b (Came h payload n used)) b.rings
  message_rings h payload n used = go (is_free b.taken)
    where
      go : (free : Bool) → (if free then decoded b h payload n used (request_of h payload)
          else (b, to_do (nothing 0) None Stays)).0.rings
          ≡ after_all (if free then events_of_decoded b payload n used (request_of h payload) else []) b.rings
      go true = decoded_rings h payload n used (request_of h payload)
      go false = refl

  -- one that waits, after an event
  happened_rings : (old : BackendState) (e : Event) (done : Actions) (t : Taken) → old.connection ≡ b.connection
      → old.rings ≡ (happens b.rings e).0 → done ≡ (happens b.rings e).1
      → (happened_by old done t).0.rings ≡ after_all (e ∷ events_of_waiting b e t) b.rings
  happened_rings old e done taken.Nothing same rings is = rings
  happened_rings old e done taken.Over same rings is = rings
  happened_rings old e done (taken.Begun h request) same rings is = rings
  happened_rings old e done (taken.Waits h request until) same rings is =
      let due = is_due until done in
      due_rings old h request [] until due
      ∙ ap (λ s. after_all (events_if_due old request [] due) s) rings
      ∙ ap (λ es. after_all es (happens b.rings e).0) (due_same old request due same)
      ∙ ap (λ d. after_all (events_if_due b request [] (is_due until d)) (happens b.rings e).0) is
    where
      due_same : (old : BackendState) (request : FrontendReq) (due : Bool) → old.connection ≡ b.connection
          → events_if_due old request [] due ≡ events_if_due b request [] due
      due_same old request true same = ap (λ c. events_if_refused (served c request [])) same
      due_same old request false same = refl

  event_rings : (e : Event) → (stepped b (Told e)).rings ≡ after_all (events_of b (Told e)) b.rings
  event_rings e = let t = happens b.rings e in let old : BackendState = record b { rings = t.0 } in
      go t old (is_outer e) (ap (λ u. (happened_by (placed old t.1) t.1 u).0.rings) (placed_taken old t.1)
      ∙ happened_rings (placed old t.1) e t.1 b.taken (placed_connection old t.1) (placed_rings old t.1) refl)
    where
      go : (t : RingsState × Actions) (old : BackendState) (outer : Bool)
          → (happened (placed old t.1) t.1).0.rings ≡ after_all (e ∷ events_of_waiting b e b.taken) b.rings
          → (if outer then with_outcome t.1 (to_place old t.1) (happened (placed old t.1) t.1)
          else (b, to_do (nothing 0) None Stays)).0.rings
          ≡ after_all (if outer then e ∷ events_of_waiting b e b.taken else []) b.rings
      go t old true is = is
      go t old false is = refl

-- rings run as the protocol's state has it
started_rings : (on : Bool) (i : ℕ) (s : RingsState) → started_if on i s ≡ after_all (starts_if on i) s
started_rings true i s = refl
started_rings false i s = refl

pub refreshed_connection : (n : ℕ) (b : BackendState) → (refreshed n b).connection ≡ b.connection
refreshed_connection zero b = refl
refreshed_connection (suc n) b = refreshed_connection n b

refreshed_rings : (n : ℕ) (b : BackendState) → (refreshed n b).rings ≡ after_all (refreshing b.connection n) b.rings
refreshed_rings zero b = refl
refreshed_rings (suc n) b =
    let before = refreshed n b in
    let same = ap (λ c. is_ok (running c n)) (refreshed_connection n b) in
    let on = is_ok (running b.connection n) in
    let last = event.Ring n (Enable on) ∷ starts_if on n in
    ap (λ on. started_if on n (happens before.rings (event.Ring n (Enable on))).0) same
    ∙ started_rings on n (happens before.rings (event.Ring n (Enable on))).0
    ∙ ap (after_all last) (refreshed_rings n b)
    ∙ sym (after-append (refreshing b.connection n) last b.rings)

pub rebased_rings : (b : BackendState) (request : FrontendReq) (end : Finish) → (rebased b request end).0.rings ≡ b.rings
rebased_rings b request end.Done = refl
rebased_rings b request (end.At base) = at (stopped_ring request)
  where
    by : (o : Result Connection Refusal) → (rebased_by b o).0.rings ≡ b.rings
    by (Ok new) = refl
    by (Err e) = refl

    at : (o : Option ℕ) → (rebased_at b base o).0.rings ≡ b.rings
    at None = refl
    at (Some i) = by (with_base b.connection i base)
rebased_rings b request end.Failed = refl

finished_rings : (request : FrontendReq) (h : Header) (t : BackendState × Bool)
    → (finished request h t).0.rings ≡ after_all (events_if_done t) t.0.rings
finished_rings request h (b, true) = refreshed_rings (length b.placings) b
finished_rings request h (b, false) = refl

end_rings : (b : BackendState) (end : Finish) (t : Taken)
    → (finish_by b end t).0.rings ≡ after_all (events_of_end b end t) b.rings
end_rings b end taken.Nothing = refl
end_rings b end taken.Over = refl
end_rings b end (taken.Waits h request until) = refl
end_rings b end (taken.Begun h request) =
    let t = rebased (released b) request end in
    finished_rings request h t ∙ ap (after_all (events_if_done t)) (rebased_rings (released b) request end)

pub step_rings : (b : BackendState) (x : Happening) → (stepped b x).rings ≡ after_all (events_of b x) b.rings
step_rings b (Came h payload n used) = message_rings b h payload n used
step_rings b (Done end) = end_rings b end b.taken
step_rings b (Told e) = event_rings b e
step_rings b HungUp = refl

pub becomes : (b : BackendState) (xs : List Happening) → (after xs b).rings ≡ after_all (all_events xs b) b.rings
becomes b [] = refl
becomes b (x ∷ xs) =
    becomes (stepped b x) xs ∙ ap (after_all (all_events xs (stepped b x))) (step_rings b x)
    ∙ sym (after-append (events_of b x) (all_events xs (stepped b x)) b.rings)

-- ---- what is to be done for a ring

module _ (i : ℕ) where
  -- starting, enabling, holding and releasing bring nothing to do
  quiet : (j : ℕ) (e : RingEvent) (s : RingsState) → ((r : RingState) → (step r e).1 ≡ [])
      → (happens s (event.Ring j e)).1.actions ≡ []
  quiet j e s none = go (slice_get s.rings j)
    where
      one : (r : RingState) (b : Bool) → (if b
          then with_step (record s { turn = turn_used s.turn j e }) j (step r e) else (s, nothing j)).1.actions ≡ []
      one r true = none r
      one r false = refl

      go : (o : Option RingState) → (on_ring s j o e).1.actions ≡ []
      go None = refl
      go (Some r) = one r (admits s.turn j e)

  own_none : (done : Actions) → done.actions ≡ [] → turn.own_actions i done ≡ []
  own_none done none = go (done.ring == i)
    where
      go : (b : Bool) → (if b then done.actions else []) ≡ []
      go true = none
      go false = refl

  refused_quiet : (o : Result Connection Refusal) (s : RingsState) → actions_of i (all_done (events_if_refused o) s) ≡ []
  refused_quiet (Ok new) s = refl
  refused_quiet (Err e) s = ap (λ l. l ++ []) (own_none (nothing 0) refl)

  due_quiet : (b : BackendState) (request : FrontendReq) (payload : List ℕ) (due : Bool) (s : RingsState)
      → actions_of i (all_done (events_if_due b request payload due) s) ≡ []
  due_quiet b request payload true s = refused_quiet (served b.connection request payload) s
  due_quiet b request payload false s = refl

  waited_done : (s : RingsState) (until : Until)
      → turn.own_actions i (waited s until).1 ≡ actions_of i (all_done (events_until until) s)
  waited_done s Now = own_none (nothing 0) refl
  waited_done s (Ring j) = sym (append-nil _)
  waited_done s AllRings = sym (append-nil _)

  refreshing_quiet : (c : Connection) (n : ℕ) (s : RingsState) → actions_of i (all_done (refreshing c n) s) ≡ []
  refreshing_quiet c zero s = refl
  refreshing_quiet c (suc n) s =
      let on = is_ok (running c n) in
      done-append i (refreshing c n) (event.Ring n (Enable on) ∷ starts_if on n) s
      ∙ rw (refreshing_quiet c n s) (last on (after_all (refreshing c n) s))
    where
      last : (on : Bool) (s : RingsState)
          → actions_of i (all_done (event.Ring n (Enable on) ∷ starts_if on n) s) ≡ []
      last true s = rw (own_none (happens s (event.Ring n (Enable true))).1 (quiet n (Enable true) s (λ r. refl))) (
          let next = (happens s (event.Ring n (Enable true))).0 in
          ap (λ l. l ++ []) (own_none (happens next (event.Ring n Start)).1 (quiet n Start next (λ r. refl))))
      last false s =
          ap (λ l. l ++ []) (own_none (happens s (event.Ring n (Enable false))).1 (quiet n (Enable false) s (λ r. refl)))

  hold_quiet : (s : RingsState) → (happens s event.Hold).1.actions ≡ []
  hold_quiet s = go (is_free_hold s.hold)
    where
      go : (free : Bool) → (let t : Happens = if free
          then (held (holding s), record { ring = 0; actions = []; held = now_held (holding s) })
          else (s, nothing 0) in t.1.actions ≡ [])
      go true = refl
      go false = refl

  ending_quiet : (s : RingsState) → actions_of i (all_done ending s) ≡ []
  ending_quiet s = ap (λ l. l ++ []) (own_none (happens s event.Hold).1 (hold_quiet s))

  done_quiet : (t : BackendState × Bool) (s : RingsState) → actions_of i (all_done (events_if_done t) s) ≡ []
  done_quiet (b, true) s = refreshing_quiet b.connection (length b.placings) s
  done_quiet (b, false) s = ending_quiet s

  waiting_quiet : (b : BackendState) (e : Event) (t : Taken) (s : RingsState)
      → actions_of i (all_done (events_of_waiting b e t) s) ≡ []
  waiting_quiet b e taken.Nothing s = refl
  waiting_quiet b e taken.Over s = refl
  waiting_quiet b e (taken.Begun h request) s = refl
  waiting_quiet b e (taken.Waits h request until) s =
      due_quiet b request [] (is_due until (happens b.rings e).1) s

  end_quiet : (b : BackendState) (end : Finish) (t : Taken) (s : RingsState)
      → actions_of i (all_done (events_of_end b end t) s) ≡ []
  end_quiet b end taken.Nothing s = refl
  end_quiet b end taken.Over s = refl
  end_quiet b end (taken.Waits h request until) s = refl
  end_quiet b end (taken.Begun h request) s = rw (own_none (nothing 0) refl)
      (done_quiet (rebased (released b) request end) (happens s event.Release).0)

  module _ (b : BackendState) where
    request_done : (h : Header) (request : FrontendReq) (payload : List ℕ) (until : Until)
        → ring_actions i ((taken_until b h request payload until).1 ∷ [])
        ≡ actions_of i (all_done (events_of_request b request payload until) b.rings)
    request_done h request payload until =
        let due = events_if_due b request payload (is_due until (waited b.rings until).1) in
        let before = actions_of i (all_done (events_until until) b.rings) in
        append-nil _ ∙ waited_done b.rings until ∙ sym (append-nil before)
        ∙ ap (λ rest. before ++ rest) (sym (due_quiet b request payload (is_due until (waited b.rings until).1)
        (after_all (events_until until) b.rings)))
        ∙ sym (done-append i (events_until until) due b.rings)

    refused_done : (h : Header) (e : Refusal) → ring_actions i (refused b h e ∷ []) ≡ []
    refused_done h e = ap (λ l. l ++ []) (own_none (nothing 0) refl)

    decoded_done : (h : Header) (payload : List ℕ) (n : ℕ) (used : Bool) (o : Result FrontendReq Refusal)
        → ring_actions i ((decoded b h payload n used o).1 ∷ [])
        ≡ actions_of i (all_done (events_of_decoded b payload n used o) b.rings)
    decoded_done h payload n used (Err e) = refused_done h e
    decoded_done h payload n used (Ok request) = go (n == descriptors_of request)
      where
        go : (right : Bool) → ring_actions i ((if right then taken_until b h request payload (until_of b used request)
            else (b, refused b h Descriptors)).1 ∷ [])
            ≡ actions_of i (all_done (if right then events_of_request b request payload (until_of b used request) else [])
            b.rings)
        go true = request_done h request payload (until_of b used request)
        go false = refused_done h Descriptors

    pub step_done : (x : Happening) → ring_actions i (message.to_do b x)
        ≡ actions_of i (all_done (events_of b x) b.rings)
    step_done (Came h payload n used) = go (is_free b.taken)
      where
        go : (free : Bool) → ring_actions i ((if free then decoded b h payload n used (request_of h payload)
            else (b, to_do (nothing 0) None Stays)).1 ∷ [])
            ≡ actions_of i (all_done (if free then events_of_decoded b payload n used (request_of h payload) else []) b.rings)
        go true = decoded_done h payload n used (request_of h payload)
        go false = ap (λ l. l ++ []) (own_none (nothing 0) refl)
    step_done (Done end) = sym (end_quiet b end b.taken b.rings)
    step_done HungUp = sym (ending_quiet b.rings)
    step_done (Told e) = go (is_outer e)
      where
        go : (outer : Bool) → (let t = happens b.rings e in let old : BackendState = record b { rings = t.0 } in
            ring_actions i ((if outer then with_outcome t.1 (to_place old t.1) (happened (placed old t.1) t.1)
            else (b, to_do (nothing 0) None Stays)).1 ∷ [])
            ≡ actions_of i (all_done (if outer then e ∷ events_of_waiting b e b.taken else []) b.rings))
        go true = ap (λ rest. turn.own_actions i (happens b.rings e).1 ++ rest)
            (sym (waiting_quiet b e b.taken (happens b.rings e).0))
        go false = ap (λ l. l ++ []) (own_none (nothing 0) refl)

pub done : (b : BackendState) (xs : List Happening) (i : ℕ)
    → ring_actions i (all_to_do xs b) ≡ actions_of i (all_done (all_events xs b) b.rings)
done b [] i = refl
done b (x ∷ xs) i =
    flat_map-append (own_actions i) (message.to_do b x) (all_to_do xs (stepped b x))
    ∙ ap (λ l. l ++ ring_actions i (all_to_do xs (stepped b x))) (step_done i b x)
    ∙ ap (λ l. actions_of i (all_done (events_of b x) b.rings) ++ l) (done (stepped b x) xs i
    ∙ ap (λ s. actions_of i (all_done (all_events xs (stepped b x)) s)) (step_rings b x))
    ∙ sym (done-append i (events_of b x) (all_events xs (stepped b x)) b.rings)
