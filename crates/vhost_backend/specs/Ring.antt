-- A ring, and its requests that are under way: what each event makes of them, and what is to be done.
use Rattle.std.specs.Prelude.{ℕ, ◌+◌, ◌-◌, Bool, true, false, ◌&&◌, ◌||◌, not, ◌==◌, nat_lt, min, if◌then◌else◌, List, [], ◌∷◌, ◌++◌, length, replicate, count_by, slice_index_or, slice_set, Option, Some, None, is_some}
use Rattle.vhost_backend.specs.Actions.{if_so}
use Rattle.vhost_backend.specs.declared.request.Chain.{Chain}
use Rattle.vhost_backend.specs.declared.request.PartEnd.{PartEnd}
use Rattle.vhost_backend.specs.declared.request.PartEnd.TheVariants.{Moved, Failed}
use Rattle.vhost_backend.specs.declared.request.Request.{Request}
use Rattle.vhost_backend.specs.declared.ring.Phase.{Phase}
use Rattle.vhost_backend.specs.declared.ring.Phase.TheVariants.{Stopped, Started, Broken, Stopping}
use Rattle.vhost_backend.specs.declared.ring.RingEvent.{RingEvent}
use Rattle.vhost_backend.specs.declared.ring.RingEvent.TheVariants.{Start, Stop, Enable, Break, Kick, Popped, Emptied, Ended}
use Rattle.vhost_backend.specs.declared.ring.actions.RingAction.{RingAction}
use Rattle.vhost_backend.specs.declared.ring.actions.RingAction.TheVariants as action

pub record RingState : Type 0 where
  pub phase : Phase
  pub enabled : Bool
  -- it may have chains that were not popped
  pub kicked : Bool
  -- chains were returned of which its driver was not told
  pub owes : Bool
  -- for each id the request that is under way, if one is
  pub requests : List (Option Request)

-- a stopped ring, with a number of ids
abbrev pub new_ring : ℕ → RingState
new_ring ids = record { phase = Stopped; enabled = false; kicked = false; owes = false; requests = replicate ids None }

-- what becomes of a ring, and what is to be done, in order
abbrev pub Step : Type 0
Step = RingState × List RingAction

-- ---- whether it runs

abbrev pub is_started : Phase → Bool
is_started Started = true
is_started _ = false

abbrev pub is_stopped : Phase → Bool
is_stopped Stopped = true
is_stopped _ = false

abbrev pub is_stopping : Phase → Bool
is_stopping Stopping = true
is_stopping _ = false

abbrev pub is_broken : Phase → Bool
is_broken Broken = true
is_broken _ = false

-- it was started, and was not stopped since
abbrev pub is_on : Phase → Bool
is_on Started = true
is_on Broken = true
is_on Stopped = false
is_on Stopping = false

-- whether it may pop chains
abbrev pub may_run : RingState → Bool
may_run r = is_started r.phase && r.enabled

-- how many requests are under way, and whether none is
abbrev pub count_of : List (Option Request) → ℕ
count_of requests = count_by is_some requests

abbrev pub is_idle : RingState → Bool
is_idle r = count_of r.requests == 0

-- ---- turns

-- whether it is to pop chains in its turn, and whether it wants one
abbrev pub pops : RingState → Bool
pops r = r.kicked && may_run r

abbrev pub wants : RingState → Bool
wants r = r.owes || pops r

-- in its turn the driver is told of what was returned, and chains are popped
abbrev pub after_turn : RingState → Step
after_turn r = (record r { owes = false }, if_so r.owes action.Notify ++ if_so (pops r) action.Pop)

-- ---- messages

-- a stopped ring starts, and its driver may have notified before. Another one stays as it is
abbrev pub started : RingState → Phase → RingState
started r Stopped = record r { phase = Started; kicked = true }
started r _ = r

abbrev pub after_start : RingState → Step
after_start r = (started r r.phase, [])

-- a stop is answered at once if nothing is under way. Else it waits
abbrev pub after_stop : RingState → Step
after_stop r = if is_idle r
    then (record r { phase = Stopped; owes = false }, if_so r.owes action.Notify ++ action.Stopped ∷ [])
    else (record r { phase = Stopping }, [])

-- a started ring breaks
abbrev pub broken : RingState → Phase → Step
broken r Started = (record r { phase = Broken }, action.Broke ∷ [])
broken r _ = (r, [])

abbrev pub after_break : RingState → Step
after_break r = broken r r.phase

-- ---- requests

abbrev pub request_at : RingState → ℕ → Option Request
request_at r id = slice_index_or r.requests id None

abbrev pub with_request : RingState → ℕ → Option Request → RingState
with_request r id request = record r { requests = slice_set r.requests id request }

-- a chain can be under way if its id has a place, and no other of this id is
abbrev pub has_place : RingState → ℕ → Bool
has_place r id = nat_lt id (length r.requests) && not (is_some (request_at r id))

-- a request begins with its first part. One without parts is over
abbrev pub begun : RingState → Chain → ℕ → Step
begun r chain parts = if parts == 0 then (record r { owes = true }, action.Return chain 0 false ∷ [])
    else (
      with_request r chain.id (Some (record { slots = chain.slots; left = parts; moved = 0 })),
      action.Serve chain.id parts ∷ [],
    )

-- a ring that may not run pops nothing, and one that cannot have the chain breaks
abbrev pub after_pop : RingState → Chain → ℕ → Step
after_pop r chain parts = if not (may_run r) then (r, []) else (
    if has_place r chain.id then begun r chain parts else after_break r)

-- a stop that waited is answered after the last chain is returned, and after the driver is told
abbrev pub returning : RingState → RingAction → Step
returning r chain = if is_stopping r.phase && is_idle r
    then (record r { phase = Stopped; owes = false }, chain ∷ action.Notify ∷ action.Stopped ∷ [])
    else (record r { owes = true }, chain ∷ [])

-- a request is over, and its chain is returned
abbrev pub returned : RingState → ℕ → Request → Bool → Step
returned r id request failed =
    returning (with_request r id None) (action.Return (record { id = id; slots = request.slots }) request.moved failed)

abbrev pub with_moved : Request → ℕ → Request
with_moved request count =
    record request { left = request.left - 1; moved = min (request.moved + count) 0xffff_ffff_ffff_ffff }

-- the next part of a request comes after the one before it. After the last one it is over
abbrev pub part_moved : RingState → ℕ → Request → Step
part_moved r id request = if nat_lt 0 request.left
    then (with_request r id (Some request), action.Serve id request.left ∷ []) else returned r id request false

-- a part that failed is the last one
abbrev pub part_ended : RingState → ℕ → Request → PartEnd → Step
part_ended r id request (Moved count) = part_moved r id (with_moved request count)
part_ended r id request Failed = returned r id request true

-- an end of what is not under way is ignored
abbrev pub ended : RingState → ℕ → Option Request → PartEnd → Step
ended r id None end = (r, [])
ended r id (Some request) end = part_ended r id request end

abbrev pub after_end : RingState → ℕ → PartEnd → Step
after_end r id end = ended r id (request_at r id) end

-- ---- all of it

abbrev pub step : RingState → RingEvent → Step
step r Start = after_start r
step r Stop = after_stop r
step r (Enable on) = (record r { enabled = on }, [])
step r Break = after_break r
step r Kick = (record r { kicked = true }, [])
step r (Popped chain parts bytes) = after_pop r chain parts
step r Emptied = (record r { kicked = false }, [])
step r (Ended id end) = after_end r id end
