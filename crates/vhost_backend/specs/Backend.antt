-- A connection with a front end: what a message waits for, what it makes of the protocol's state and of the rings, and what
-- is to be done.
use Rattle.std.specs.Prelude.{ℕ, zero, suc, Bool, true, false, ◌&&◌, ◌==◌, nat_lt, if◌then◌else◌, List, [], length, replicate, slice_index_or, slice_set, Option, Some, None, Result, Ok, Err, is_ok}
use Rattle.std.specs.List.{list_any}
use Rattle.vhost_message.specs.FrontendReq.{descriptors_of, request_of}
use Rattle.vhost_message.specs.declared.frontend_req.FrontendReq.{FrontendReq}
use Rattle.vhost_message.specs.declared.frontend_req.FrontendReq.TheVariants.{GetVringBase, IotlbMsg, SetFeatures, SetInflightFd, SetLogBase, SetMemTable, SetVringAddr}
use Rattle.vhost_message.specs.declared.header.Header.{Header}
use Rattle.vhost_message.specs.declared.refusal.Refusal.{Refusal}
use Rattle.vhost_message.specs.declared.refusal.Refusal.TheVariants.{Descriptors}
use Rattle.vhost_user.specs.Connection.{Connection, served, with_base}
use Rattle.vhost_user.specs.Reply.{reply_to}
use Rattle.vhost_user.specs.Reply as reply
use Rattle.vhost_user.specs.Running.{running}
use Rattle.vhost_backend.specs.Actions.{is_answer}
use Rattle.vhost_backend.specs.Mapping.{mapping_of}
use Rattle.vhost_backend.specs.Rings.{RingsState, happens, is_held, is_stopped_at, new_rings, nothing}
use Rattle.vhost_backend.specs.declared.backend.Finish.{Finish}
use Rattle.vhost_backend.specs.declared.backend.Finish.TheVariants.{Done, At, Failed}
use Rattle.vhost_backend.specs.declared.backend.Next.{Next}
use Rattle.vhost_backend.specs.declared.backend.Next.TheVariants as next
use Rattle.vhost_backend.specs.declared.backend.Outcome.{Outcome}
use Rattle.vhost_backend.specs.declared.backend.Outcome.TheVariants.{Stays, Begins, Refused}
use Rattle.vhost_backend.specs.declared.backend.Place.{Place}
use Rattle.vhost_backend.specs.declared.backend.Placing.{Placing}
use Rattle.vhost_backend.specs.declared.backend.Placing.TheVariants.{Placed, Moved, Fresh}
use Rattle.vhost_backend.specs.declared.backend.Taken.{Taken}
use Rattle.vhost_backend.specs.declared.backend.Taken.TheVariants as taken
use Rattle.vhost_backend.specs.declared.backend.Todo.{Todo}
use Rattle.vhost_backend.specs.declared.backend.Until.{Until}
use Rattle.vhost_backend.specs.declared.backend.Until.TheVariants.{Now, Ring, AllRings}
use Rattle.vhost_backend.specs.declared.mapping.Mapping.{Mapping}
use Rattle.vhost_backend.specs.declared.ring.RingEvent.TheVariants.{Start, Stop, Enable}
use Rattle.vhost_backend.specs.declared.rings.Actions.{Actions}
use Rattle.vhost_backend.specs.declared.rings.Event.{Event}
use Rattle.vhost_backend.specs.declared.rings.Event.TheVariants as event

pub record BackendState : Type 0 where
  -- the protocol's state
  pub connection : Connection
  pub rings : RingsState
  -- for each ring whether its queue was told where it lies
  pub placings : List Placing
  -- the message that was taken
  pub taken : Taken

abbrev pub new_backend : Connection → ℕ → BackendState
new_backend c ids = let count = length c.vrings in
    record { connection = c; rings = new_rings count ids; placings = replicate count Moved; taken = taken.Nothing }

abbrev pub is_free : Taken → Bool
is_free taken.Nothing = true
is_free _ = false

abbrev pub is_over : Taken → Bool
is_over taken.Over = true
is_over _ = false

-- whether it is over, and nothing is under way any more
abbrev pub is_at_rest : BackendState → Bool
is_at_rest b = is_over b.taken && is_held b.rings.hold

-- what is to be done with mappings by the message that took effect
abbrev pub mapping_at : Taken → ℕ → Option Mapping
mapping_at (taken.Begun h request) number = mapping_of request number
mapping_at _ number = None

-- what is to be done, by what is to be done for a ring
abbrev pub to_do : Actions → Option Place → Outcome → Todo
to_do done place message = record { ring = done.ring; place = place; actions = done.actions; message = message }

-- ---- where rings lie

abbrev pub place_by : Connection → ℕ → Placing → Option Place
place_by c i Placed = None
place_by c i Moved = Some (record { vring = running c i; fresh = false })
place_by c i Fresh = Some (record { vring = running c i; fresh = true })

-- before something is done for a ring its queue is told where it lies, if it was not
abbrev pub to_place : BackendState → Actions → Option Place
to_place b done = if length done.actions == 0 then None
    else place_by b.connection done.ring (slice_index_or b.placings done.ring Placed)

abbrev pub placed : BackendState → Actions → BackendState
placed b done = if length done.actions == 0 then b
    else record b { placings = slice_set b.placings done.ring Placed }

abbrev pub moved : Placing → Placing
moved Placed = Moved
moved Moved = Moved
moved Fresh = Fresh

-- ---- messages

-- what has to be returned before a request takes effect: all that is under way, if it changes memory, features or log,
-- where a ring lies that is not stopped, or mappings that are in use; and what is under way of a ring that it stops
abbrev pub until_of : BackendState → Bool → FrontendReq → Until
until_of b in_use (SetMemTable table) = AllRings
until_of b in_use (SetFeatures features) = AllRings
until_of b in_use (SetLogBase size offset) = AllRings
until_of b in_use (SetInflightFd region) = AllRings
until_of b in_use (SetVringAddr address) = if is_stopped_at b.rings address.index then Now else AllRings
until_of b in_use (GetVringBase index) = if nat_lt index (length b.rings.rings) then Ring index else Now
until_of b in_use (IotlbMsg message) = if in_use then AllRings else Now
until_of b in_use _ = Now

-- what it makes of the rings
abbrev pub waited : RingsState → Until → RingsState × Actions
waited s Now = (s, nothing 0)
waited s (Ring i) = happens s (event.Ring i Stop)
waited s AllRings = happens s event.Hold

-- whether that was returned
abbrev pub is_due : Until → Actions → Bool
is_due Now done = true
is_due (Ring i) done = done.ring == i && list_any is_answer done.actions
is_due AllRings done = done.held

-- the message that was taken is over
abbrev pub released : BackendState → BackendState
released b = record b { taken = taken.Nothing; rings = (happens b.rings event.Release).0 }

-- it takes effect, or it is refused and changes nothing
abbrev pub begun_by : BackendState → Header → FrontendReq → Result Connection Refusal → BackendState × Outcome
begun_by b h request (Ok new) = (record b { connection = new; taken = taken.Begun h request }, Begins)
begun_by b h request (Err e) = (released b, Refused e h)

abbrev pub begun : BackendState → Header → FrontendReq → List ℕ → BackendState × Outcome
begun b h request payload = begun_by b h request (served b.connection request payload)

abbrev pub refused : BackendState → Header → Refusal → Todo
refused b h e = to_do (nothing 0) None (Refused e h)

-- it takes effect at once, or waits
abbrev pub begun_or_waits : BackendState → Header → FrontendReq → List ℕ → Until → Bool → BackendState × Outcome
begun_or_waits b h request payload until true = begun b h request payload
begun_or_waits b h request payload until false = (record b { taken = taken.Waits h request until }, Stays)

abbrev pub with_outcome : Actions → Option Place → BackendState × Outcome → BackendState × Todo
with_outcome done place t = (t.0, to_do done place t.1)

-- what it waits for is stopped or held
abbrev pub waiting : BackendState → Until → BackendState × Actions
waiting b until = let t = waited b.rings until in (record b { rings = t.0 }, t.1)

abbrev pub taken_until : BackendState → Header → FrontendReq → List ℕ → Until → BackendState × Todo
taken_until b h request payload until = let t = waiting b until in
    with_outcome t.1 (to_place t.0 t.1) (begun_or_waits (placed t.0 t.1) h request payload until (is_due until t.1))

abbrev pub decoded : BackendState → Header → List ℕ → ℕ → Bool → Result FrontendReq Refusal → BackendState × Todo
decoded b h payload descriptors in_use (Err e) = (b, refused b h e)
decoded b h payload descriptors in_use (Ok request) = if descriptors == descriptors_of request
    then taken_until b h request payload (until_of b in_use request) else (b, refused b h Descriptors)

-- one that comes while another one was not finished is ignored
abbrev pub after_request : BackendState → Header → Result FrontendReq Refusal → List ℕ → ℕ → Bool → BackendState × Todo
after_request b h asked payload descriptors in_use = if is_free b.taken
    then decoded b h payload descriptors in_use asked else (b, to_do (nothing 0) None Stays)

abbrev pub after_message : BackendState → Header → List ℕ → ℕ → Bool → BackendState × Todo
after_message b h payload descriptors in_use = after_request b h (request_of h payload) payload descriptors in_use

-- ---- what happens to rings

-- whether an event comes from outside, and not from a message
abbrev pub is_outer : Event → Bool
is_outer (event.Ring i Start) = false
is_outer (event.Ring i Stop) = false
is_outer (event.Ring i (Enable on)) = false
is_outer (event.Ring i e) = true
is_outer event.GoOn = true
is_outer event.Hold = false
is_outer event.Release = false

-- a message that waits takes effect after what it waits for was returned
abbrev pub happened_by : BackendState → Actions → Taken → BackendState × Outcome
happened_by b done (taken.Waits h request until) = begun_or_waits b h request [] until (is_due until done)
happened_by b done _ = (b, Stays)

abbrev pub happened : BackendState → Actions → BackendState × Outcome
happened b done = happened_by b done b.taken

abbrev pub after_event : BackendState → Event → BackendState × Todo
after_event b e = if is_outer e then (let t = happens b.rings e in
    let old = record b { rings = t.0 } in with_outcome t.1 (to_place old t.1) (happened (placed old t.1) t.1))
    else (b, to_do (nothing 0) None Stays)

-- ---- the end of a message

-- the connection is over: none is taken any more, and no chain is popped
abbrev pub over : BackendState → BackendState
over b = record b { taken = taken.Over; rings = (happens b.rings event.Hold).0 }

-- whether it was done, and the ring that it stopped goes on from its base
abbrev pub rebased_by : BackendState → Result Connection Refusal → BackendState × Bool
rebased_by b (Ok new) = (record b { connection = new }, true)
rebased_by b (Err e) = (b, false)

-- the ring that a request stops
abbrev pub stopped_ring : FrontendReq → Option ℕ
stopped_ring (GetVringBase index) = Some index
stopped_ring _ = None

abbrev pub rebased_at : BackendState → ℕ → Option ℕ → BackendState × Bool
rebased_at b base None = (b, true)
rebased_at b base (Some i) = rebased_by b (with_base b.connection i base)

abbrev pub rebased : BackendState → FrontendReq → Finish → BackendState × Bool
rebased b request Done = (b, true)
rebased b request (At base) = rebased_at b base (stopped_ring request)
rebased b request Failed = (b, false)

-- a ring runs as the protocol's state has it, and starts if it is stopped
abbrev pub started_if : Bool → ℕ → RingsState → RingsState
started_if false i s = s
started_if true i s = (happens s (event.Ring i Start)).0

abbrev pub refreshed_one : BackendState → ℕ → BackendState
refreshed_one b i = let on = is_ok (running b.connection i) in record b {
  rings = started_if on i (happens b.rings (event.Ring i (Enable on))).0;
  placings = slice_set b.placings i
      (if on && is_stopped_at b.rings i then Fresh else moved (slice_index_or b.placings i Placed));
}

abbrev pub refreshed : ℕ → BackendState → BackendState
refreshed zero b = b
refreshed (suc n) b = refreshed_one (refreshed n b) n

abbrev pub finished : FrontendReq → Header → BackendState × Bool → BackendState × (List ℕ × Next)
finished request h (b, true) = let new = refreshed (length b.placings) b in
    (new, (reply_to new.connection h request, next.Messages))
finished request h (b, false) = (over b, (reply.refused b.connection h, next.End))

-- the message that took effect is answered, and rings start and run by it. If it could not be done, the connection is over
abbrev pub finish_by : BackendState → Finish → Taken → BackendState × (List ℕ × Next)
finish_by b end (taken.Begun h request) = finished request h (rebased (released b) request end)
finish_by b end _ = (b, ([], next.Messages))

abbrev pub after_finish : BackendState → Finish → BackendState × (List ℕ × Next)
after_finish b end = finish_by b end b.taken
