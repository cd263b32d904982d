-- The story of a ring: all that happens to it, what was to be done, and what became of its chains.
use Rattle.std.specs.Prelude.{ℕ, ◌+◌, ◌-◌, Bool, true, false, ◌&&◌, ◌||◌, not, ◌==◌, if◌then◌else◌, List, [], ◌∷◌, ◌++◌, Option, Some, None, is_some, count_by}
use Rattle.std.specs.List.{filter, filter_map, list_any, sum_by}
use Rattle.vhost_backend.specs.Actions.{is_answer}
use Rattle.vhost_backend.specs.Ring.{RingState, Step, after_turn, has_place, is_stopped, is_stopping, may_run, request_at, step}
use Rattle.vhost_backend.specs.declared.request.Chain.{Chain}
use Rattle.vhost_backend.specs.declared.request.PartEnd.TheVariants.{Moved, Failed}
use Rattle.vhost_backend.specs.declared.request.Request.{Request}
use Rattle.vhost_backend.specs.declared.ring.RingEvent.{RingEvent}
use Rattle.vhost_backend.specs.declared.ring.RingEvent.TheVariants.{Start, Stop, Kick, Popped, Emptied, Ended}
use Rattle.vhost_backend.specs.declared.ring.actions.RingAction.{RingAction}
use Rattle.vhost_backend.specs.declared.ring.actions.RingAction.TheVariants as action

pub data RingStep : Type 0 where
  On : RingEvent → RingStep
  Turn : RingStep

abbrev pub stepped : RingState → RingStep → Step
stepped r (On event) = step r event
stepped r Turn = after_turn r

-- what becomes of a ring
abbrev pub after : List RingStep → RingState → RingState
after [] r = r
after (s ∷ ss) r = after ss (stepped r s).0

-- what was to be done, in order
abbrev pub actions : List RingStep → RingState → List RingAction
actions [] r = []
actions (s ∷ ss) r = (stepped r s).1 ++ actions ss (stepped r s).0

-- ---- chains

-- the chain that a ring takes, if it takes one
abbrev pub taken : RingState → RingStep → List Chain
taken r (On (Popped chain parts bytes)) = if may_run r && has_place r chain.id then chain ∷ [] else []
taken r _ = []

-- the chains that were popped, in order
abbrev pub popped : List RingStep → RingState → List Chain
popped [] r = []
popped (s ∷ ss) r = taken r s ++ popped ss (stepped r s).0

abbrev pub chain_of : RingAction → Option Chain
chain_of (action.Return chain moved failed) = Some chain
chain_of _ = None

-- the chains that were returned, in order
abbrev pub returned : List RingAction → List Chain
returned all = filter_map chain_of all

abbrev pub of_id : ℕ → List Chain → List Chain
of_id id chains = filter (λ chain. chain.id == id) chains

-- the chain of an id that is under way, if one is
abbrev pub chain_under_way : ℕ → Option Request → List Chain
chain_under_way id None = []
chain_under_way id (Some request) = record { id = id; slots = request.slots } ∷ []

abbrev pub under_way : RingState → ℕ → List Chain
under_way r id = chain_under_way id (request_at r id)

-- ---- stops

abbrev pub is_start : RingStep → Bool
is_start (On Start) = true
is_start _ = false

abbrev pub has_start : List RingStep → Bool
has_start ss = list_any is_start ss

abbrev pub is_stop : RingStep → Bool
is_stop (On Stop) = true
is_stop _ = false

-- how many answers there are to messages that stopped a ring
abbrev pub answers : List RingAction → ℕ
answers all = count_by is_answer all

-- how many messages stop a ring, except for those that come while one waits
abbrev pub stops : List RingStep → RingState → ℕ
stops [] r = 0
stops (s ∷ ss) r = (if is_stop s && not (is_stopping r.phase) then 1 else 0) + stops ss (stepped r s).0

-- one of them waits
abbrev pub waiting : RingState → ℕ
waiting r = if is_stopping r.phase then 1 else 0

-- ---- notifications

-- whether a ring was notified or started since it was found empty last
abbrev pub notified_by : Bool → RingState → RingStep → Bool
notified_by notified r (On Kick) = true
notified_by notified r (On Start) = is_stopped r.phase || notified
notified_by notified r (On Emptied) = false
notified_by notified r _ = notified

abbrev pub notified : Bool → List RingStep → RingState → Bool
notified before [] r = before
notified before (s ∷ ss) r = notified (notified_by before r s) ss (stepped r s).0

-- whether chains were returned since the driver was told last
abbrev pub owing : Bool → List RingAction → Bool
owing owes [] = owes
owing owes (action.Return chain moved failed ∷ rest) = owing true rest
owing owes (action.Notify ∷ rest) = owing false rest
owing owes (action.Pop ∷ rest) = owing owes rest
owing owes (action.Serve id left ∷ rest) = owing owes rest
owing owes (action.Broke ∷ rest) = owing owes rest
owing owes (action.Stopped ∷ rest) = owing owes rest

-- ---- parts

abbrev pub parts_of : Option Request → ℕ
parts_of None = 0
parts_of (Some request) = 1 + (request.left - 1)

-- how often a part of the request with an id is served
abbrev pub is_serve : ℕ → RingAction → Bool
is_serve id (action.Serve i left) = i == id
is_serve id _ = false

abbrev pub served : ℕ → List RingAction → ℕ
served id all = count_by (is_serve id) all

-- how often a part of the request with an id ends that is under way
abbrev pub is_end : ℕ → RingState → RingStep → Bool
is_end id r (On (Ended i end)) = i == id && is_some (request_at r id)
is_end id r _ = false

abbrev pub ends : ℕ → List RingStep → RingState → ℕ
ends id [] r = 0
ends id (s ∷ ss) r = (if is_end id r s then 1 else 0) + ends id ss (stepped r s).0

-- how many bytes a part of the request with an id moves that is under way, and how many all of them move
abbrev pub moved_by : ℕ → RingState → RingStep → ℕ
moved_by id r (On (Ended i (Moved count))) = if i == id && is_some (request_at r id) then count else 0
moved_by id r _ = 0

abbrev pub moved : ℕ → List RingStep → RingState → ℕ
moved id [] r = 0
moved id (s ∷ ss) r = moved_by id r s + moved id ss (stepped r s).0

-- how often a part fails of the request with an id that is under way
abbrev pub is_failure : ℕ → RingState → RingStep → Bool
is_failure id r (On (Ended i Failed)) = i == id && is_some (request_at r id)
is_failure id r _ = false

abbrev pub failures : ℕ → List RingStep → RingState → ℕ
failures id [] r = 0
failures id (s ∷ ss) r = (if is_failure id r s then 1 else 0) + failures id ss (stepped r s).0

-- how many bytes chains of an id are returned with, and how many of them as failed
abbrev pub returned_bytes : ℕ → RingAction → ℕ
returned_bytes id (action.Return chain bytes failed) = if chain.id == id then bytes else 0
returned_bytes id _ = 0

abbrev pub all_returned_bytes : ℕ → List RingAction → ℕ
all_returned_bytes id all = sum_by (returned_bytes id) all

abbrev pub is_returned_failed : ℕ → RingAction → Bool
is_returned_failed id (action.Return chain bytes failed) = chain.id == id && failed
is_returned_failed id _ = false

abbrev pub returned_failed : ℕ → List RingAction → ℕ
returned_failed id all = count_by (is_returned_failed id) all

-- how many bytes the request with an id that is under way has moved
abbrev pub moved_of : Option Request → ℕ
moved_of None = 0
moved_of (Some request) = request.moved

abbrev pub so_far : RingState → ℕ → ℕ
so_far r id = moved_of (request_at r id)

-- whether a request with an id is under way, as a number
abbrev pub busy : RingState → ℕ → ℕ
busy r id = if is_some (request_at r id) then 1 else 0

-- how many parts of what is under way have not ended
abbrev pub parts_left : RingState → ℕ
parts_left r = sum_by parts_of r.requests
