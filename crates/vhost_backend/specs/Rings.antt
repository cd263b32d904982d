-- Rings and their turns: what each event makes of them, and what is to be done.
use Rattle.std.specs.Prelude.{ℕ, ◌-◌, Bool, true, false, ◌&&◌, ◌==◌, nat_lt, if◌then◌else◌, List, [], replicate, slice_get, slice_set, Option, Some, None, is_some}
use Rattle.std.specs.List.{list_all}
use Rattle.vhost_backend.specs.Line.{settled, without}
use Rattle.vhost_backend.specs.Ring.{RingState, Step, after_turn, is_idle, is_stopped, may_run, new_ring, pops, step, wants}
use Rattle.vhost_backend.specs.declared.ring.RingEvent.{RingEvent}
use Rattle.vhost_backend.specs.declared.ring.RingEvent.TheVariants.{Stop, Popped, Emptied}
use Rattle.vhost_backend.specs.declared.ring.actions.RingAction.{RingAction}
use Rattle.vhost_backend.specs.declared.rings.Actions.{Actions}
use Rattle.vhost_backend.specs.declared.rings.Event.{Event}
use Rattle.vhost_backend.specs.declared.rings.Event.TheVariants as event
use Rattle.vhost_backend.specs.declared.rings.Hold.{Hold}
use Rattle.vhost_backend.specs.declared.rings.Hold.TheVariants.{Free, Waiting, Held}
use Rattle.vhost_backend.specs.declared.rings.TheConstants.{TURN, TURN_BYTES}
use Rattle.vhost_backend.specs.declared.rings.Turn.{Turn}

pub record RingsState : Type 0 where
  pub rings : List RingState
  -- the rings that want a turn: the first one is next
  pub line : List ℕ
  pub turn : Option Turn
  pub hold : Hold

-- a number of stopped rings
abbrev pub new_rings : ℕ → ℕ → RingsState
new_rings count ids = record { rings = replicate count (new_ring ids); line = []; turn = None; hold = Free }

-- what becomes of them, and what is to be done
abbrev pub Happens : Type 0
Happens = RingsState × Actions

abbrev pub nothing : ℕ → Actions
nothing ring = record { ring = ring; actions = []; held = false }

-- ---- messages that hold all rings

abbrev pub all_idle : List RingState → Bool
all_idle rings = list_all is_idle rings

abbrev pub is_free : Hold → Bool
is_free Free = true
is_free _ = false

abbrev pub is_waiting : Hold → Bool
is_waiting Waiting = true
is_waiting _ = false

abbrev pub is_held : Hold → Bool
is_held Held = true
is_held _ = false

-- one that waits is done when nothing is under way
abbrev pub now_held : RingsState → Bool
now_held s = is_waiting s.hold && all_idle s.rings

abbrev pub held : RingsState → RingsState
held s = if now_held s then record s { hold = Held } else s

-- from now on no ring has a turn. A second one is ignored
abbrev pub holding : RingsState → RingsState
holding s = record s { turn = None; hold = Waiting }

abbrev pub after_hold : RingsState → Happens
after_hold s = if is_free s.hold
    then (held (holding s), record { ring = 0; actions = []; held = now_held (holding s) }) else (s, nothing 0)

abbrev pub released : RingsState → Hold → RingsState
released s Held = record s { hold = Free }
released s _ = s

abbrev pub after_release : RingsState → Happens
after_release s = (released s s.hold, nothing 0)

-- ---- what happens to a ring

-- how many chains may still be popped in a turn
abbrev pub left_of : Option Turn → ℕ
left_of None = 0
left_of (Some turn) = turn.left

-- whether a ring has the turn, and whether it may pop a chain in it
abbrev pub has_turn : Option Turn → ℕ → Bool
has_turn None ring = false
has_turn (Some turn) ring = turn.ring == ring

abbrev pub is_turn : Option Turn → ℕ → Bool
is_turn None ring = false
is_turn (Some turn) ring = turn.ring == ring && (nat_lt 0 turn.left && nat_lt 0 turn.bytes)

-- chains of a ring are popped in its turn alone
abbrev pub admits : Option Turn → ℕ → RingEvent → Bool
admits turn ring (Popped chain parts bytes) = is_turn turn ring
admits turn ring Emptied = is_turn turn ring
admits turn ring _ = true

-- what is left of a turn after a chain that asks for some bytes, if a ring is stopped, and after an event of a ring
abbrev pub less : Option Turn → ℕ → Option Turn
less None bytes = None
less (Some turn) bytes = Some (record turn { left = turn.left - 1; bytes = turn.bytes - bytes })

abbrev pub unless_of : Option Turn → ℕ → Option Turn
unless_of None ring = None
unless_of (Some turn) ring = if turn.ring == ring then None else Some turn

abbrev pub turn_used : Option Turn → ℕ → RingEvent → Option Turn
turn_used turn ring (Popped chain parts bytes) = less turn bytes
turn_used turn ring Emptied = None
turn_used turn ring Stop = unless_of turn ring
turn_used turn ring _ = turn

-- after a step a ring stands in the line while it wants a turn, and a message that waits may be done
abbrev pub settled_step : RingsState → ℕ → Bool → List RingAction → Happens
settled_step s i wants actions = let new = record s { line = settled s.line i wants } in
    (held new, record { ring = i; actions = actions; held = now_held new })

abbrev pub with_step : RingsState → ℕ → Step → Happens
with_step s i t = settled_step (record s { rings = slice_set s.rings i t.0 }) i (wants t.0) t.1

abbrev pub on_ring : RingsState → ℕ → Option RingState → RingEvent → Happens
on_ring s i None e = (s, nothing i)
on_ring s i (Some r) e = if admits s.turn i e
    then with_step (record s { turn = turn_used s.turn i e }) i (step r e) else (s, nothing i)

abbrev pub on : RingsState → ℕ → RingEvent → Happens
on s i e = on_ring s i (slice_get s.rings i) e

-- ---- turns

-- what a ring may pop in its turn
abbrev pub turn_of : ℕ → Bool → Option Turn
turn_of i pops = if pops then Some (record { ring = i; left = TURN; bytes = TURN_BYTES }) else None

abbrev pub turn_taken : RingsState → ℕ → Option RingState → Happens
turn_taken s i None = (record s { turn = None; line = without s.line i }, nothing i)
turn_taken s i (Some r) =
    with_step (record s { turn = turn_of i (pops r); line = without s.line i }) i (after_turn r)

-- the first ring in the line takes its turn, and stands last if it still wants one
abbrev pub next_turn : RingsState → Option ℕ → Happens
next_turn s None = (record s { turn = None }, nothing 0)
next_turn s (Some i) = turn_taken s i (slice_get s.rings i)

abbrev pub after_go_on : RingsState → Happens
after_go_on s = if is_free s.hold then next_turn s (slice_get s.line 0) else (s, nothing 0)

-- whether a ring gets a turn as soon as it is time for one
abbrev pub has_next : RingsState → Bool
has_next s = is_free s.hold && is_some (slice_get s.line 0)

-- whether a ring may pop a chain now
abbrev pub may_pop_by : RingsState → ℕ → Option RingState → Bool
may_pop_by s i None = false
may_pop_by s i (Some r) = is_turn s.turn i && may_run r

abbrev pub may_pop : RingsState → ℕ → Bool
may_pop s i = may_pop_by s i (slice_get s.rings i)

-- whether a ring is stopped, or there is none of this number
abbrev pub stopped_by : Option RingState → Bool
stopped_by None = true
stopped_by (Some r) = is_stopped r.phase

abbrev pub is_stopped_at : RingsState → ℕ → Bool
is_stopped_at s i = stopped_by (slice_get s.rings i)

-- whether no ring is started
abbrev pub all_stopped : RingsState → Bool
all_stopped s = list_all (λ r. is_stopped r.phase) s.rings

-- ---- all of it

abbrev pub happens : RingsState → Event → Happens
happens s (event.Ring i e) = on s i e
happens s event.GoOn = after_go_on s
happens s event.Hold = after_hold s
happens s event.Release = after_release s
