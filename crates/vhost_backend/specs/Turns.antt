-- The story of all rings: what becomes of them, what was to be done, and whose turn it was.
use Rattle.std.specs.Prelude.{◌≡◌, ℕ, ◌+◌, Bool, true, false, ◌&&◌, ◌==◌, if◌then◌else◌, List, [], ◌∷◌, ◌++◌, slice_get, Option, Some, None, is_some, count_by}
use Rattle.std.specs.List.{flat_map, list_any}
use Rattle.vhost_backend.specs.Line.{stands_in}
use Rattle.vhost_backend.specs.Rings.{RingsState, admits, happens, is_free, is_turn, is_waiting}
use Rattle.vhost_backend.specs.Story.{RingStep, On}
use Rattle.vhost_backend.specs.Story as story
use Rattle.vhost_backend.specs.declared.ring.RingEvent.TheVariants.{Start, Popped}
use Rattle.vhost_backend.specs.declared.ring.actions.RingAction.{RingAction}
use Rattle.vhost_backend.specs.declared.ring.actions.RingAction.TheVariants as action
use Rattle.vhost_backend.specs.declared.rings.Actions.{Actions}
use Rattle.vhost_backend.specs.declared.rings.Event.{Event}
use Rattle.vhost_backend.specs.declared.rings.Event.TheVariants as event

-- what becomes of rings
abbrev pub after_all : List Event → RingsState → RingsState
after_all [] s = s
after_all (e ∷ es) s = after_all es (happens s e).0

-- what was to be done after each event
abbrev pub all_done : List Event → RingsState → List Actions
all_done [] s = []
all_done (e ∷ es) s = (happens s e).1 ∷ all_done es (happens s e).0

-- ---- one of the rings

-- the ring whose turn is next
abbrev pub is_first : Option ℕ → ℕ → Bool
is_first None ring = false
is_first (Some first) ring = first == ring

abbrev pub takes_turn : RingsState → ℕ → Bool
takes_turn s ring = is_free s.hold && is_first (slice_get s.line 0) ring

-- the steps of a ring: its events that were admitted, and its turns
abbrev pub steps_of : ℕ → RingsState → Event → List RingStep
steps_of ring s (event.Ring i e) = if i == ring && admits s.turn i e then On e ∷ [] else []
steps_of ring s event.GoOn = if takes_turn s ring then story.Turn ∷ [] else []
steps_of ring s event.Hold = []
steps_of ring s event.Release = []

abbrev pub story_of : ℕ → List Event → RingsState → List RingStep
story_of ring [] s = []
story_of ring (e ∷ es) s = steps_of ring s e ++ story_of ring es (happens s e).0

-- what was to be done for it
abbrev pub own_actions : ℕ → Actions → List RingAction
own_actions ring done = if done.ring == ring then done.actions else []

abbrev pub actions_of : ℕ → List Actions → List RingAction
actions_of ring all = flat_map (own_actions ring) all

-- whether a message starts it
abbrev pub starts : ℕ → Event → Bool
starts ring (event.Ring i Start) = i == ring
starts ring _ = false

-- ---- turns

-- the ring that takes its turn, if one does
abbrev pub listed : Option ℕ → List ℕ
listed None = []
listed (Some ring) = ring ∷ []

abbrev pub turn_to : RingsState → Event → List ℕ
turn_to s event.GoOn = if is_free s.hold then listed (slice_get s.line 0) else []
turn_to s (event.Ring i e) = []
turn_to s event.Hold = []
turn_to s event.Release = []

-- whose turns there were, in order
abbrev pub turns : List Event → RingsState → List ℕ
turns [] s = []
turns (e ∷ es) s = turn_to s e ++ turns es (happens s e).0

-- a ring stands in the line after each event, and has no turn
abbrev pub Waits : ℕ → List Event → RingsState → Type 0
Waits ring [] s = Unit {0}
Waits ring (e ∷ es) s = (stands_in ring (happens s e).0.line ≡ true) × (stands_in ring (turn_to s e) ≡ false)
    × Waits ring es (happens s e).0

-- those that stand before it
abbrev pub before : ℕ → List ℕ → List ℕ
before ring [] = []
before ring (first ∷ rest) = if first == ring then [] else first ∷ before ring rest

-- ---- chains that are popped

-- how many bytes the chain asks for that is popped by an event, if one is
abbrev pub popped_by : RingsState → Event → List ℕ
popped_by s (event.Ring i (Popped chain parts bytes)) =
    if is_some (slice_get s.rings i) && is_turn s.turn i then bytes ∷ [] else []
popped_by s _ = []

-- how many bytes each chain asks for that is popped, in order
abbrev pub popped : List Event → RingsState → List ℕ
popped [] s = []
popped (e ∷ es) s = popped_by s e ++ popped es (happens s e).0

abbrev pub is_go_on : Event → Bool
is_go_on event.GoOn = true
is_go_on _ = false

-- ---- messages that hold all rings

abbrev pub is_hold : Event → Bool
is_hold event.Hold = true
is_hold _ = false

abbrev pub is_release : Event → Bool
is_release event.Release = true
is_release _ = false

-- whether an action has the memory of a guest read or written
abbrev pub touches : RingAction → Bool
touches action.Pop = true
touches (action.Serve id left) = true
touches (action.Return chain moved failed) = true
touches _ = false

abbrev pub any_touches : List Actions → Bool
any_touches all = list_any (λ done. list_any touches done.actions) all

-- how many messages hold the rings, except for those that come while one does
abbrev pub holds : List Event → RingsState → ℕ
holds [] s = 0
holds (e ∷ es) s = (if is_hold e && is_free s.hold then 1 else 0) + holds es (happens s e).0

-- how many of them are done
abbrev pub held_count : List Actions → ℕ
held_count all = count_by (λ done. done.held) all

-- one of them waits
abbrev pub waits_to_hold : RingsState → ℕ
waits_to_hold s = if is_waiting s.hold then 1 else 0
