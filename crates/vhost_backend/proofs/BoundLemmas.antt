-- Turns are bounded.
use Rattle.std.proofs.Common.{◌≡◌, ℕ, ◌+◌, ◌-◌, ◌<◌, ◌≤◌, ◌==◌, nat_lt, Bool, true, false, List, [], ◌∷◌, ◌++◌, length, set, sum, Option, Some, None, if◌then◌else◌, refl, arith, length-append}
use Rattle.std.specs.List.{list_any, slice_get}
use Rattle.std.proofs.lemmas.Bool.{and_parts, ltb-true, or_parts}
use Rattle.std.proofs.lemmas.List.Sums.{sum_by-cons}
use Rattle.vhost_backend.specs.Line.{settled, without}
use Rattle.vhost_backend.specs.Ring.{RingState, Step, after_turn, step, wants}
use Rattle.vhost_backend.specs.Ring as ring
use Rattle.vhost_backend.specs.Rings.{Happens, RingsState, happens, held, holding, is_free, is_turn, left_of, less, new_rings, next_turn, nothing, now_held, on_ring, released, turn_of, turn_taken, turn_used, unless_of, with_step}
use Rattle.vhost_backend.specs.Turns.{after_all, is_go_on, popped, popped_by}
use Rattle.vhost_backend.specs.declared.request.Chain.{Chain}
use Rattle.vhost_backend.specs.declared.ring.RingEvent.{RingEvent}
use Rattle.vhost_backend.specs.declared.ring.RingEvent.TheVariants.{Start, Stop, Enable, Break, Kick, Popped, Emptied, Ended}
use Rattle.vhost_backend.specs.declared.rings.Event.{Event}
use Rattle.vhost_backend.specs.declared.rings.Event.TheVariants as event
use Rattle.vhost_backend.specs.declared.rings.Hold.{Hold}
use Rattle.vhost_backend.specs.declared.rings.Hold.TheVariants.{Free, Waiting, Held}
use Rattle.vhost_backend.specs.declared.rings.TheConstants.{TURN, TURN_BYTES}
use Rattle.vhost_backend.specs.declared.rings.Turn.{Turn}

abbrev chosen : Bool → Happens → Happens → Happens
chosen b one other = if b then one else other

-- how many bytes a turn may still ask for
abbrev bytes_of : Option Turn → ℕ
bytes_of None = 0
bytes_of (Some turn) = turn.bytes

-- a turn after chains of so many bytes were popped
abbrev pub Leaves : Option Turn → List ℕ → Option Turn → Type 0
Leaves old [] new = (left_of new ≤ left_of old) × (bytes_of new ≤ bytes_of old)
Leaves old (n ∷ rest) new = (1 + left_of new ≤ left_of old) × (0 < bytes_of old) × (bytes_of new ≤ bytes_of old - n)
    × (rest ≡ [])

pub held_turn : (s : RingsState) → (held s).turn ≡ s.turn
held_turn s = go (now_held s)
  where
    go : (b : Bool) → (let new : RingsState = if b then record s { hold = Held } else s in new.turn ≡ s.turn)
    go true = refl
    go false = refl

pub released_turn : (s : RingsState) (h : Hold) → (released s h).turn ≡ s.turn
released_turn s Free = refl
released_turn s Waiting = refl
released_turn s Held = refl

pub step_turn : (s : RingsState) (i : ℕ) (t : Step) → (with_step s i t).0.turn ≡ s.turn
step_turn s i t = held_turn (record s { rings = set s.rings i t.0; line = settled s.line i (wants t.0) })

same_leaves : (old new : Option Turn) → new ≡ old → Leaves old [] new
same_leaves old new is = rw is (omega arith, omega arith)

-- one that is over, or goes on
over_leaves : (old : Option Turn) → Leaves old [] None
over_leaves old = (omega arith, omega arith)

unless_leaves : (t : Option Turn) (i : ℕ) → Leaves t [] (unless_of t i)
unless_leaves None i = over_leaves None
unless_leaves (Some t) i = go (t.ring == i)
  where
    go : (b : Bool) → Leaves (Some t) [] (if b then None else Some t)
    go true = over_leaves (Some t)
    go false = same_leaves (Some t) (Some t) refl

less_leaves : (t : Option Turn) (i bytes : ℕ) → is_turn t i ≡ true → Leaves t (bytes ∷ []) (less t bytes)
less_leaves None i bytes is = absurd (cc)
less_leaves (Some t) i bytes is =
    let (left, some) = and_parts (nat_lt 0 t.left) _ (and_parts (t.ring == i) _ is).1 in
    let more : 0 < t.left = ltb-true 0 t.left left in
    let there : 0 < t.bytes = ltb-true 0 t.bytes some in
    (omega arith, there, omega arith, refl)

module _ (s : RingsState) where
  quiet : (i : ℕ) (r : RingState) (e : RingEvent) → Leaves s.turn [] (turn_used s.turn i e)
      → Leaves s.turn [] (with_step (record s { turn = turn_used s.turn i e }) i (step r e)).0.turn
  quiet i r e leaves = rw (step_turn (record s { turn = turn_used s.turn i e }) i (step r e)) leaves

  same : Leaves s.turn [] s.turn
  same = same_leaves s.turn s.turn refl

  pop_leaves : (i : ℕ) (r : RingState) (chain : Chain) (parts bytes : ℕ) (b : Bool) → is_turn s.turn i ≡ b
      → Leaves s.turn (if b then bytes ∷ [] else [])
      (chosen b (with_step (record s { turn = less s.turn bytes }) i (step r (Popped chain parts bytes)))
      (s, nothing i)).0.turn
  pop_leaves i r chain parts bytes true is =
      rw (step_turn (record s { turn = less s.turn bytes }) i (step r (Popped chain parts bytes)))
      (less_leaves s.turn i bytes is)
  pop_leaves i r chain parts bytes false is = same

  empty_leaves : (i : ℕ) (r : RingState) (b : Bool) → Leaves s.turn []
      (chosen b (with_step (record s { turn = None }) i (step r Emptied)) (s, nothing i)).0.turn
  empty_leaves i r true = rw (step_turn (record s { turn = None }) i (step r Emptied)) (over_leaves s.turn)
  empty_leaves i r false = same

  ring_leaves : (i : ℕ) (e : RingEvent) (o : Option RingState) → slice_get s.rings i ≡ o
      → Leaves s.turn (popped_by s (event.Ring i e)) (on_ring s i o e).0.turn
  ring_leaves i (Popped chain parts bytes) None is = rw is same
  ring_leaves i (Popped chain parts bytes) (Some r) is =
      rw is (pop_leaves i r chain parts bytes (is_turn s.turn i) refl)
  ring_leaves i Emptied None is = same
  ring_leaves i Emptied (Some r) is = empty_leaves i r (is_turn s.turn i)
  ring_leaves i Start None is = same
  ring_leaves i Start (Some r) is = quiet i r Start same
  ring_leaves i Stop None is = same
  ring_leaves i Stop (Some r) is = quiet i r Stop (unless_leaves s.turn i)
  ring_leaves i (Enable on) None is = same
  ring_leaves i (Enable on) (Some r) is = quiet i r (Enable on) same
  ring_leaves i Break None is = same
  ring_leaves i Break (Some r) is = quiet i r Break same
  ring_leaves i Kick None is = same
  ring_leaves i Kick (Some r) is = quiet i r Kick same
  ring_leaves i (Ended id end) None is = same
  ring_leaves i (Ended id end) (Some r) is = quiet i r (Ended id end) same

  hold_leaves : (free : Bool) → Leaves s.turn [] (chosen free
      (held (holding s), record { ring = 0; actions = []; held = now_held (holding s) }) (s, nothing 0)).0.turn
  hold_leaves true = rw (held_turn (holding s)) (over_leaves s.turn)
  hold_leaves false = same

  pub event_leaves : (e : Event) → is_go_on e ≡ false → Leaves s.turn (popped_by s e) (happens s e).0.turn
  event_leaves (event.Ring i e) not = ring_leaves i e (slice_get s.rings i) refl
  event_leaves event.GoOn not = absurd (cc)
  event_leaves event.Hold not = hold_leaves (is_free s.hold)
  event_leaves event.Release not = same_leaves s.turn _ (released_turn s s.hold)

-- ---- what is popped in a turn

leaves_few : (old new : Option Turn) (xs : List ℕ) → Leaves old xs new → length xs + left_of new ≤ left_of old
leaves_few old new [] leaves = omega arith
leaves_few old new (n ∷ []) leaves = omega arith
leaves_few old new (n ∷ m ∷ rest) leaves = let bad : m ∷ rest ≡ [] = leaves.3 in absurd (cc)

few : (s : RingsState) (events : List Event) → list_any is_go_on events ≡ false
    → length (popped events s) ≤ left_of s.turn
few s [] none = omega arith
few s (e ∷ es) none =
    let (not, later) = or_parts (is_go_on e) (list_any is_go_on es) none in
    let new = (happens s e).0 in
    let here = leaves_few s.turn new.turn (popped_by s e) (event_leaves s e not) in
    let rest = few new es later in
    let both : length (popped_by s e ++ popped es new) ≡ length (popped_by s e) + length (popped es new) =
    length-append (popped_by s e) (popped es new) in
    omega arith

-- all but the last of these ask for less
abbrev Fits : List ℕ → ℕ → Type 0
Fits xs bytes = (front : List ℕ) (last : ℕ) → xs ≡ front ++ last ∷ [] → sum front < bytes

-- what fits into the bytes that are left, with one more before it
fits_more : (old new : Option Turn) (here rest : List ℕ) → Leaves old here new → Fits rest (bytes_of new)
    → Fits (here ++ rest) (bytes_of old)
fits_more old new [] rest leaves fits front last is = let some = fits front last is in omega arith
fits_more old new (n ∷ []) rest leaves fits [] last is = let some : 0 < bytes_of old = leaves.1 in some
fits_more old new (n ∷ []) rest leaves fits (x ∷ front) last is =
    let same : n ≡ x = cc in
    let more : rest ≡ front ++ last ∷ [] = cc in
    let some = fits front last more in
    let total : sum (x ∷ front) ≡ x + sum front = sum_by-cons _ x front in
    omega (arith, leaves.2)
fits_more old new (n ∷ m ∷ others) rest leaves fits front last is =
    let bad : m ∷ others ≡ [] = leaves.3 in absurd (cc)

fit : (s : RingsState) (events : List Event) → list_any is_go_on events ≡ false
    → Fits (popped events s) (bytes_of s.turn)
fit s [] none [] last is = absurd (cc)
fit s [] none (x ∷ front) last is = absurd (cc)
fit s (e ∷ es) none front last is =
    let (not, later) = or_parts (is_go_on e) (list_any is_go_on es) none in
    let new = (happens s e).0 in
    fits_more s.turn new.turn (popped_by s e) (popped es new) (event_leaves s e not) (fit new es later)
    front last is

-- ---- what a turn may have

abbrev Small : Option Turn → Type 0
Small t = (left_of t ≤ TURN) × (bytes_of t ≤ TURN_BYTES)

small_turn_of : (i : ℕ) (b : Bool) → Small (turn_of i b)
small_turn_of i true = (omega arith, omega arith)
small_turn_of i false = (omega arith, omega arith)

small_less : (old new : Option Turn) (xs : List ℕ) → Leaves old xs new → Small old → Small new
small_less old new [] leaves small = (omega arith, omega arith)
small_less old new (n ∷ rest) leaves small = (omega arith, omega (arith, leaves.2))

taken_small : (s : RingsState) (k : ℕ) (q : Option RingState) → Small (turn_taken s k q).0.turn
taken_small s k None = (omega arith, omega arith)
taken_small s k (Some q) =
    rw (step_turn (record s { turn = turn_of k (ring.pops q); line = without s.line k }) k (after_turn q))
    (small_turn_of k (ring.pops q))

go_small : (s : RingsState) (free : Bool) (o : Option ℕ) → Small s.turn
    → Small (chosen free (next_turn s o) (s, nothing 0)).0.turn
go_small s false o small = small
go_small s true None small = (omega arith, omega arith)
go_small s true (Some k) small = taken_small s k (slice_get s.rings k)

event_small : (s : RingsState) (e : Event) → Small s.turn → Small (happens s e).0.turn
event_small s (event.Ring i e) small =
    small_less s.turn (happens s (event.Ring i e)).0.turn (popped_by s (event.Ring i e))
    (event_leaves s (event.Ring i e) refl) small
event_small s event.GoOn small = go_small s (is_free s.hold) (slice_get s.line 0) small
event_small s event.Hold small =
    small_less s.turn (happens s event.Hold).0.turn [] (event_leaves s event.Hold refl) small
event_small s event.Release small =
    small_less s.turn (happens s event.Release).0.turn [] (event_leaves s event.Release refl) small

all_small : (s : RingsState) (events : List Event) → Small s.turn → Small (after_all events s).turn
all_small s [] small = small
all_small s (e ∷ es) small = all_small (happens s e).0 es (event_small s e small)

reached : (count ids : ℕ) (events : List Event) → Small (after_all events (new_rings count ids)).turn
reached count ids events = all_small (new_rings count ids) events (omega arith, omega arith)

pub chains : (count ids : ℕ) (events later : List Event) → list_any is_go_on later ≡ false
    → length (popped later (after_all events (new_rings count ids))) ≤ TURN
chains count ids events later none =
    let small = reached count ids events in
    let some = few (after_all events (new_rings count ids)) later none in
    omega arith

pub bytes : (count ids : ℕ) (events later : List Event) (front : List ℕ) (last : ℕ) → list_any is_go_on later ≡ false
    → popped later (after_all events (new_rings count ids)) ≡ front ++ last ∷ [] → sum front < TURN_BYTES
bytes count ids events later front last none is =
    let small = reached count ids events in
    let some = fit (after_all events (new_rings count ids)) later none front last is in
    omega arith
