-- The story of a connection: all that happens to it, what becomes of it, and what happens to its rings by that.
use Rattle.std.specs.Prelude.{ℕ, zero, suc, ◌+◌, Bool, true, false, ◌==◌, if◌then◌else◌, List, [], ◌∷◌, ◌++◌, length, Option, Some, None, Result, Ok, Err, is_ok}
use Rattle.std.specs.List.{flat_map}
use Rattle.vhost_message.specs.FrontendReq.{descriptors_of, request_of}
use Rattle.vhost_message.specs.declared.frontend_req.FrontendReq.{FrontendReq}
use Rattle.vhost_message.specs.declared.frontend_req.FrontendReq.TheVariants.{SetFeatures, SetMemTable, SetLogBase}
use Rattle.vhost_message.specs.declared.header.Header.{Header}
use Rattle.vhost_message.specs.declared.refusal.Refusal.{Refusal}
use Rattle.vhost_user.specs.Connection.{Connection, served}
use Rattle.vhost_user.specs.Running.{running}
use Rattle.vhost_user.specs.declared.vring.NotRunning.{NotRunning}
use Rattle.vhost_user.specs.declared.vring.RunningVring.{RunningVring}
use Rattle.vhost_backend.specs.Backend.{BackendState, after_event, after_finish, after_message, is_due, is_free, is_outer, over, rebased, released, until_of, waited}
use Rattle.vhost_backend.specs.Rings.{happens}
use Rattle.vhost_backend.specs.declared.backend.Finish.{Finish}
use Rattle.vhost_backend.specs.declared.backend.Outcome.{Outcome}
use Rattle.vhost_backend.specs.declared.backend.Outcome.TheVariants.{Refused}
use Rattle.vhost_backend.specs.declared.backend.Place.{Place}
use Rattle.vhost_backend.specs.declared.backend.Taken.{Taken}
use Rattle.vhost_backend.specs.declared.backend.Taken.TheVariants as taken
use Rattle.vhost_backend.specs.declared.backend.Todo.{Todo}
use Rattle.vhost_backend.specs.declared.backend.Until.{Until}
use Rattle.vhost_backend.specs.declared.backend.Until.TheVariants.{Now, Ring, AllRings}
use Rattle.vhost_backend.specs.declared.ring.RingEvent.TheVariants.{Start, Stop, Enable}
use Rattle.vhost_backend.specs.declared.ring.actions.RingAction.{RingAction}
use Rattle.vhost_backend.specs.declared.rings.Event.{Event}
use Rattle.vhost_backend.specs.declared.rings.Event.TheVariants as event

pub data Happening : Type 0 where
  -- a message came whole, with a number of descriptors. If it is one on the table, what it changes may be in use
  Came : Header → List ℕ → ℕ → Bool → Happening
  -- what the message that took effect asks for was done or not
  Done : Finish → Happening
  -- something happened to rings
  Told : Event → Happening
  -- the front end ended it
  HungUp : Happening

abbrev pub stepped : BackendState → Happening → BackendState
stepped b (Came h payload descriptors in_use) = (after_message b h payload descriptors in_use).0
stepped b (Done end) = (after_finish b end).0
stepped b (Told e) = (after_event b e).0
stepped b HungUp = over b

-- what becomes of it
abbrev pub after : List Happening → BackendState → BackendState
after [] b = b
after (x ∷ xs) b = after xs (stepped b x)

-- what is to be done by each
abbrev pub to_do : BackendState → Happening → List Todo
to_do b (Came h payload descriptors in_use) = (after_message b h payload descriptors in_use).1 ∷ []
to_do b (Done end) = []
to_do b (Told e) = (after_event b e).1 ∷ []
to_do b HungUp = []

abbrev pub all_to_do : List Happening → BackendState → List Todo
all_to_do [] b = []
all_to_do (x ∷ xs) b = to_do b x ++ all_to_do xs (stepped b x)

-- what is to be done for a ring
abbrev pub own_actions : ℕ → Todo → List RingAction
own_actions ring todo = if todo.ring == ring then todo.actions else []

abbrev pub ring_actions : ℕ → List Todo → List RingAction
ring_actions ring all = flat_map (own_actions ring) all

-- ---- what happens to rings

abbrev pub events_until : Until → List Event
events_until Now = []
events_until (Ring i) = event.Ring i Stop ∷ []
events_until AllRings = event.Hold ∷ []

-- one that is refused holds them no more
abbrev pub events_if_refused : Result Connection Refusal → List Event
events_if_refused (Ok new) = []
events_if_refused (Err e) = event.Release ∷ []

abbrev pub events_if_due : BackendState → FrontendReq → List ℕ → Bool → List Event
events_if_due b request payload true = events_if_refused (served b.connection request payload)
events_if_due b request payload false = []

abbrev pub events_of_request : BackendState → FrontendReq → List ℕ → Until → List Event
events_of_request b request payload until =
    events_until until ++ events_if_due b request payload (is_due until (waited b.rings until).1)

abbrev pub events_of_decoded : BackendState → List ℕ → ℕ → Bool → Result FrontendReq Refusal → List Event
events_of_decoded b payload descriptors in_use (Err e) = []
events_of_decoded b payload descriptors in_use (Ok request) = if descriptors == descriptors_of request
    then events_of_request b request payload (until_of b in_use request) else []

abbrev pub events_of_waiting : BackendState → Event → Taken → List Event
events_of_waiting b e (taken.Waits h request until) =
    events_if_due b request [] (is_due until (happens b.rings e).1)
events_of_waiting b e _ = []

-- each ring starts and runs as the protocol's state has it
abbrev pub starts_if : Bool → ℕ → List Event
starts_if false i = []
starts_if true i = event.Ring i Start ∷ []

abbrev pub refreshing : Connection → ℕ → List Event
refreshing c zero = []
refreshing c (suc n) = refreshing c n
    ++ (event.Ring n (Enable (is_ok (running c n))) ∷ starts_if (is_ok (running c n)) n)

-- none has a turn any more
abbrev pub ending : List Event
ending = event.Hold ∷ []

abbrev pub events_if_done : BackendState × Bool → List Event
events_if_done (b, true) = refreshing b.connection (length b.placings)
events_if_done (b, false) = ending

abbrev pub events_of_end : BackendState → Finish → Taken → List Event
events_of_end b end (taken.Begun h request) =
    event.Release ∷ events_if_done (rebased (released b) request end)
events_of_end b end _ = []

-- what happens to rings by something that happens to the connection
abbrev pub events_of : BackendState → Happening → List Event
events_of b (Came h payload descriptors in_use) = if is_free b.taken
    then events_of_decoded b payload descriptors in_use (request_of h payload) else []
events_of b (Done end) = events_of_end b end b.taken
events_of b (Told e) = if is_outer e then e ∷ events_of_waiting b e b.taken else []
events_of b HungUp = ending

abbrev pub all_events : List Happening → BackendState → List Event
all_events [] b = []
all_events (x ∷ xs) b = events_of b x ++ all_events xs (stepped b x)

-- ---- places

-- where the queue of a ring was told last that it lies, if it was told so far
abbrev pub Lies : Type 0
Lies = Option (Result RunningVring NotRunning)

abbrev pub told_by : Option Place → Lies → Lies
told_by None before = before
told_by (Some place) before = Some place.vring

abbrev pub told_last : ℕ → Lies → List Todo → Lies
told_last ring before [] = before
told_last ring before (todo ∷ rest) =
    told_last ring (if todo.ring == ring then told_by todo.place before else before) rest

-- ---- messages

-- whether a request changes memory, features or the log
abbrev pub changes_all : FrontendReq → Bool
changes_all (SetMemTable table) = true
changes_all (SetFeatures features) = true
changes_all (SetLogBase size offset) = true
changes_all _ = false

-- how many messages are taken
abbrev pub is_taken : BackendState → Happening → Bool
is_taken b (Came h payload descriptors in_use) = is_free b.taken
is_taken b _ = false

abbrev pub taken_count : List Happening → BackendState → ℕ
taken_count [] b = 0
taken_count (x ∷ xs) b = (if is_taken b x then 1 else 0) + taken_count xs (stepped b x)

-- how many of them are over: refused, finished, or dropped since the connection ended
abbrev pub is_refused : Outcome → Bool
is_refused (Refused e h) = true
is_refused _ = false

abbrev pub is_begun : Taken → Bool
is_begun (taken.Begun h request) = true
is_begun _ = false

abbrev pub is_pending : Taken → Bool
is_pending (taken.Waits h request until) = true
is_pending (taken.Begun h request) = true
is_pending _ = false

abbrev pub is_over : BackendState → Happening → Bool
is_over b (Came h payload descriptors in_use) =
    is_refused (after_message b h payload descriptors in_use).1.message
is_over b (Done end) = is_begun b.taken
is_over b (Told e) = is_refused (after_event b e).1.message
is_over b HungUp = is_pending b.taken

abbrev pub over_count : List Happening → BackendState → ℕ
over_count [] b = 0
over_count (x ∷ xs) b = (if is_over b x then 1 else 0) + over_count xs (stepped b x)

-- whether one was taken and is not over
abbrev pub pending : BackendState → ℕ
pending b = if is_pending b.taken then 1 else 0
