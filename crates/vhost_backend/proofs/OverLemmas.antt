-- After the end of a connection.
use Rattle.std.proofs.Common.{◌≡◌, ◌∙◌, ℕ, Bool, true, false, List, [], ◌∷◌, ◌++◌, length, None, refl, ap, if◌then◌else◌}
use Rattle.std.specs.List.{list_any}
use Rattle.std.proofs.lemmas.Bool.{and_parts, or_parts}
use Rattle.vhost_message.specs.FrontendReq.{request_of}
use Rattle.vhost_message.specs.declared.header.Header.{Header}
use Rattle.vhost_user.specs.Connection.{Connection}
use Rattle.vhost_backend.proofs.AtRestLemmas.{held_rests}
use Rattle.vhost_backend.proofs.FitLemmas.{always_fits, never}
use Rattle.vhost_backend.proofs.HoldLemmas.{free_turns, none_popped, sleeps}
use Rattle.vhost_backend.proofs.MessageLemmas.{becomes, placed_connection, placed_taken}
use Rattle.vhost_backend.specs.Backend.{BackendState, decoded, finish_by, happened, happened_by, is_at_rest, is_free, is_outer, is_over, new_backend, placed, to_do, to_place, with_outcome}
use Rattle.vhost_backend.specs.Messages.{Happening, Came, Done, Told, HungUp, after, all_events, events_of, events_of_decoded, events_of_end, events_of_waiting, is_taken, stepped, taken_count}
use Rattle.vhost_backend.specs.Rings.{all_idle, happens, is_held, new_rings, nothing}
use Rattle.vhost_backend.specs.Rings.{is_free as is_free_hold}
use Rattle.vhost_backend.specs.Turns.{after_all, all_done, any_touches, is_release, popped}
use Rattle.vhost_backend.specs.declared.backend.Finish.{Finish}
use Rattle.vhost_backend.specs.declared.backend.Outcome.TheVariants.{Stays}
use Rattle.vhost_backend.specs.declared.backend.Taken.{Taken}
use Rattle.vhost_backend.specs.declared.backend.Taken.TheVariants as taken
use Rattle.vhost_backend.specs.declared.rings.Actions.{Actions}
use Rattle.vhost_backend.specs.declared.rings.Event.{Event}
use Rattle.vhost_backend.specs.declared.rings.Event.TheVariants as event
use Rattle.vhost_backend.specs.declared.rings.Hold.{Hold}
use Rattle.vhost_backend.specs.declared.rings.Hold.TheVariants.{Free, Waiting, Held}

-- a step from B, by these events, leaves it over, and takes nothing
abbrev StaysOver : BackendState → BackendState → List Event → Bool → Type 0
StaysOver b new events takes = (new.taken ≡ taken.Over) × (new.connection ≡ b.connection)
    × (list_any is_release events ≡ false) × (takes ≡ false)

outer_release : (e : Event) → is_outer e ≡ true → is_release e ≡ false
outer_release (event.Ring i e) outer = refl
outer_release event.GoOn outer = refl
outer_release event.Hold outer = refl
outer_release event.Release outer = absurd (cc)

nothing_happened : (old : BackendState) (done : Actions) (t : Taken) → t ≡ taken.Over
    → happened_by old done t ≡ (old, Stays)
nothing_happened old done taken.Over is = refl
nothing_happened old done taken.Nothing is = absurd (cc)
nothing_happened old done (taken.Waits h request until) is = absurd (cc)
nothing_happened old done (taken.Begun h request) is = absurd (cc)

module _ (b : BackendState) (is : b.taken ≡ taken.Over) where
  message_over : (h : Header) (payload : List ℕ) (n : ℕ) (used : Bool)
      → StaysOver b (stepped b (Came h payload n used)) (events_of b (Came h payload n used)) (is_taken b (Came h payload n used))
  message_over h payload n used = go (is_free b.taken) refl
    where
      go : (free : Bool) → is_free b.taken ≡ free → StaysOver b (if free then decoded b h payload n used (request_of h payload)
          else (b, to_do (nothing 0) None Stays)).0
          (if free then events_of_decoded b payload n used (request_of h payload) else []) free
      go true free = never (is_free b.taken) (ap is_free is) free
      go false free = (is, refl, refl, refl)

  end_over : (end : Finish) → StaysOver b (finish_by b end b.taken).0 (events_of_end b end b.taken) false
  end_over end = rw is (refl, refl, refl, refl)

  event_over : (e : Event) → StaysOver b (stepped b (Told e)) (events_of b (Told e)) false
  event_over e = go (is_outer e) refl
    where
      go : (o : Bool) → is_outer e ≡ o → (let u = happens b.rings e in
          let old : BackendState = record b { rings = u.0 } in
          let t = if o then with_outcome u.1 (to_place old u.1) (happened (placed old u.1) u.1)
          else (b, to_do (nothing 0) None Stays) in
          StaysOver b t.0 (if o then e ∷ events_of_waiting b e b.taken else []) false)
      go true outer =
          let u = happens b.rings e in
          let old : BackendState = record b { rings = u.0 } in
          let over : (placed old u.1).taken ≡ taken.Over = placed_taken old u.1 ∙ is in
          let same = nothing_happened (placed old u.1) u.1 (placed old u.1).taken over in (
            ap (λ t. t.0.taken) same ∙ over,
            ap (λ t. t.0.connection) same ∙ placed_connection old u.1,
            rw (is, outer_release e outer) refl,
            refl,
          )
      go false outer = (is, refl, refl, refl)

  step_over : (x : Happening) → StaysOver b (stepped b x) (events_of b x) (is_taken b x)
  step_over (Came h payload n used) = message_over h payload n used
  step_over (Done end) = end_over end
  step_over (Told e) = event_over e
  step_over HungUp = (refl, refl, refl, refl)

none_in : (xs ys : List Event) → list_any is_release xs ≡ false → list_any is_release ys ≡ false
    → list_any is_release (xs ++ ys) ≡ false
none_in [] ys none later = later
none_in (x ∷ xs) ys none later = let (not, rest) = or_parts (is_release x) (list_any is_release xs) none in
    rw not (none_in xs ys rest later)

pub all_over : (b : BackendState) (xs : List Happening) → b.taken ≡ taken.Over → ((after xs b).taken ≡ taken.Over)
    × ((after xs b).connection ≡ b.connection) × (list_any is_release (all_events xs b) ≡ false)
    × (taken_count xs b ≡ 0)
all_over b [] is = (is, refl, refl, refl)
all_over b (x ∷ xs) is =
    let (still, same, none, takes) = step_over b is x in
    let (over, kept, later, count) = all_over (stepped b x) xs still in
    (over, kept ∙ same, none_in (events_of b x) (all_events xs (stepped b x)) none later, rw (takes, count) refl)

by_hold : (h : Hold) → is_held h ≡ true → h ≡ Held
by_hold Held is = refl
by_hold Free is = absurd (cc)
by_hold Waiting is = absurd (cc)

module _ (c : Connection) (ids : ℕ) (xs later : List Happening) where
  abbrev b : BackendState
  b = after xs (new_backend c ids)

  abbrev events : List Event
  events = all_events xs (new_backend c ids)

  rings : b.rings ≡ after_all events (new_rings (length c.vrings) ids)
  rings = becomes (new_backend c ids) xs

  pub pops_nothing : b.taken ≡ taken.Over → popped (all_events later b) b.rings ≡ []
  pops_nothing is =
      let (still, same, none, count) = all_over b later is in
      let not : is_free_hold b.rings.hold ≡ false = rw is at (always_fits c ids xs) in
      let turn : b.rings.turn ≡ None = rw rings (free_turns (length c.vrings) ids events (rw rings at not)) in
      none_popped b.rings (all_events later b) not turn none

  pub rests : is_at_rest b ≡ true
      → (all_idle b.rings.rings ≡ true) × (any_touches (all_done (all_events later b) b.rings) ≡ false)
  rests is =
      let (over, held) = and_parts (is_over b.taken) (is_held b.rings.hold) is in
      let (still, same, none, count) = all_over b later (taken_over b.taken over) in
      let is_held : b.rings.hold ≡ Held = by_hold b.rings.hold held in
      let calm = rw (← rings) at (held_rests (length c.vrings) ids events (rw rings at is_held)) in
      (calm.1, sleeps b.rings (all_events later b) calm none)
    where
      taken_over : (t : Taken) → is_over t ≡ true → t ≡ taken.Over
      taken_over taken.Over is = refl
      taken_over taken.Nothing is = absurd (cc)
      taken_over (taken.Waits h request until) is = absurd (cc)
      taken_over (taken.Begun h request) is = absurd (cc)
