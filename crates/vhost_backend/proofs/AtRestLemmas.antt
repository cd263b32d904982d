-- What a message changes is at rest, and what it waits for is under way.
use Rattle.std.proofs.Common.{◌≡◌, ◌∙◌, ℕ, Bool, true, false, List, [], ◌∷◌, length, Some, refl, ap, subst, sym, arith, inl, inr}
use Rattle.std.specs.List.{slice_get}
use Rattle.std.proofs.lemmas.Option.{slice_get_cases, slice_get_within}
use Rattle.vhost_message.specs.declared.frontend_req.FrontendReq.{FrontendReq}
use Rattle.vhost_message.specs.declared.frontend_req.FrontendReq.TheVariants.{GetVringBase}
use Rattle.vhost_message.specs.declared.header.Header.{Header}
use Rattle.vhost_user.specs.Connection.{Connection}
use Rattle.vhost_backend.proofs.FitLemmas.{always_fits, event_count, held_by, held_from_free, ring_hold, turn_hold}
use Rattle.vhost_backend.proofs.HoldLemmas as hold
use Rattle.vhost_backend.proofs.MessageLemmas as message
use Rattle.vhost_backend.proofs.OwnWayLemmas as own
use Rattle.vhost_backend.proofs.StopLemmas as stop
use Rattle.vhost_backend.specs.Backend.{BackendState, new_backend}
use Rattle.vhost_backend.specs.Messages.{Happening, after, all_events, changes_all}
use Rattle.vhost_backend.specs.Ring.{RingState, is_idle, new_ring}
use Rattle.vhost_backend.specs.Rings.{RingsState, all_idle, happens, is_free, is_waiting, new_rings, released}
use Rattle.vhost_backend.specs.Story as story
use Rattle.vhost_backend.specs.Turns.{after_all, is_release, story_of}
use Rattle.vhost_backend.specs.declared.backend.Taken.TheVariants as taken
use Rattle.vhost_backend.specs.declared.backend.Until.TheVariants.{Ring, AllRings}
use Rattle.vhost_backend.specs.declared.ring.Phase.TheVariants.{Stopped}
use Rattle.vhost_backend.specs.declared.rings.Event.{Event}
use Rattle.vhost_backend.specs.declared.rings.Event.TheVariants as event
use Rattle.vhost_backend.specs.declared.rings.Hold.{Hold}
use Rattle.vhost_backend.specs.declared.rings.Hold.TheVariants.{Free, Waiting, Held}

-- ---- rings that are held rest

abbrev HoldsRest : RingsState → Type 0
HoldsRest s = s.hold ≡ Held → hold.Rests s

-- a hold begins with what says so
by_done : (b : Bool) (h : Hold) → h ≡ held_by b → h ≡ Held → b ≡ true
by_done true h by is = refl
by_done false h by is = let bad : Waiting ≡ Held = sym by ∙ is in absurd (cc)

not_free : {P : Type 0} (h : Hold) → h ≡ Free → h ≡ Held → P
not_free h one other = let bad : Free ≡ Held = sym one ∙ other in absurd (cc)

begins : (s : RingsState) (e : Event) (h : Hold) → s.hold ≡ h → (h ≡ Held → ⊥) → (happens s e).0.hold ≡ Held
    → (happens s e).1.held ≡ true
begins s e Held is not now = absurd (not refl)
begins s (event.Ring i e) Free is not now = not_free (happens s (event.Ring i e)).0.hold (ring_hold s Free is i e) now
begins s event.GoOn Free is not now = not_free (happens s event.GoOn).0.hold (turn_hold s Free is) now
begins s event.Hold Free is not now =
    by_done (happens s event.Hold).1.held (happens s event.Hold).0.hold (held_from_free s is) now
begins s event.Release Free is not now = not_free (happens s event.Release).0.hold (rw is refl) now
begins s (event.Ring i e) Waiting is not now = by_done
    (happens s (event.Ring i e)).1.held (happens s (event.Ring i e)).0.hold (ring_hold s Waiting is i e) now
begins s event.GoOn Waiting is not now =
    by_done (happens s event.GoOn).1.held (happens s event.GoOn).0.hold (turn_hold s Waiting is) now
begins s event.Hold Waiting is not now =
    let same : Waiting ≡ Held = sym is ∙ rw (ap is_free is) at now in absurd (cc)
begins s event.Release Waiting is not now =
    let still : (released s s.hold).hold ≡ Waiting = rw is refl in
    let same : Waiting ≡ Held = sym still ∙ now in absurd (cc)

released_from : (s : RingsState) (e : Event) → is_release e ≡ true → s.hold ≡ Held → (happens s e).0.hold ≡ Free
released_from s (event.Ring i e) same is = absurd (cc)
released_from s event.GoOn same is = absurd (cc)
released_from s event.Hold same is = absurd (cc)
released_from s event.Release same is = rw is refl

event_rests : (s : RingsState) (e : Event) → HoldsRest s → hold.HasNoTurn s → HoldsRest (happens s e).0
event_rests s e rests has now = go s.hold refl
  where
    fresh : (happens s e).1.held ≡ true → hold.Rests (happens s e).0
    fresh flag = let (all, held) = hold.idle s e flag in (held, all, hold.event_turns s e has (ap is_free held))

    still : s.hold ≡ Held → (r : Bool) → is_release e ≡ r → hold.Rests (happens s e).0
    still is false other = (hold.event_sleeps s (rests is) e other).1
    still is true same = not_free (happens s e).0.hold (released_from s e same is) now

    go : (h : Hold) → s.hold ≡ h → hold.Rests (happens s e).0
    go Held is = still is (is_release e) refl
    go Free is = fresh (begins s e Free is (λ bad. absurd (cc)) now)
    go Waiting is = fresh (begins s e Waiting is (λ bad. absurd (cc)) now)

all_rest : (s : RingsState) (events : List Event) → HoldsRest s → hold.HasNoTurn s → HoldsRest (after_all events s)
all_rest s [] rests has = rests
all_rest s (e ∷ es) rests has =
    all_rest (happens s e).0 es (event_rests s e rests has) (hold.event_turns s e has)

pub held_rests : (count ids : ℕ) (events : List Event) → HoldsRest (after_all events (new_rings count ids))
held_rests count ids events = all_rest (new_rings count ids) events (λ is. absurd (cc)) (λ not. absurd (cc))

-- ---- how many rings there are

pub all_count : (s : RingsState) (events : List Event) → length (after_all events s).rings ≡ length s.rings
all_count s [] = refl
all_count s (e ∷ es) = all_count (happens s e).0 es ∙ event_count s e

-- ---- messages

module _ (c : Connection) (ids : ℕ) (xs : List Happening) (h : Header) (request : FrontendReq) where
  abbrev b : BackendState
  b = after xs (new_backend c ids)

  abbrev events : List Event
  events = all_events xs (new_backend c ids)

  rings : b.rings ≡ after_all events (new_rings (length c.vrings) ids)
  rings = message.becomes (new_backend c ids) xs

  pub all_at_rest : b.taken ≡ taken.Begun h request → changes_all request ≡ true
      → (b.rings.hold ≡ Held) × (all_idle b.rings.rings ≡ true)
  all_at_rest is changes =
      let fits = rw is at (always_fits c ids xs) in
      let held : b.rings.hold ≡ Held = fits.1 changes in
      (held, rw rings (held_rests (length c.vrings) ids events (rw rings at held)).1)

  pub all_wait : b.taken ≡ taken.Waits h request AllRings → all_idle b.rings.rings ≡ false
  all_wait is =
      let fits = rw is at (always_fits c ids xs) in
      let waits : is_waiting b.rings.hold ≡ true = ap is_waiting fits.0 in
      rw rings (hold.waits (length c.vrings) ids events (rw rings at waits))

  pub one_waits : (i : ℕ) (ring : RingState) → b.taken ≡ taken.Waits h request (Ring i)
      → slice_get b.rings.rings i ≡ Some ring → is_idle ring ≡ false
  one_waits i ring is there =
      let fits = rw is at (always_fits c ids xs) in
      let (r, at, stopping) = fits.1 in
      let same : Some r ≡ Some ring = sym at ∙ there in
      let one : r ≡ ring = cc in
      let s0 : RingsState = new_rings (length c.vrings) ids in
      let count : length b.rings.rings ≡ length s0.rings = ap (λ s. length s.rings) rings ∙ all_count s0 events in
      elim (slice_get_cases s0.rings i).1 [
        | inl (q, inside, found, other) ↦
            let fresh : q ≡ new_ring ids = own.get-replicate (length c.vrings) i (new_ring ids) q found in
            let after = own.becomes s0 events i q found in
            let known : slice_get (after_all events s0).rings i ≡ Some ring =
            ap (λ s. slice_get s.rings i) (sym rings) ∙ there in
            let equal : Some (story.after (story_of i events s0) q) ≡ Some ring = sym after ∙ known in
            let ends : story.after (story_of i events s0) q ≡ ring = cc in
            let from : story.after (story_of i events s0) (new_ring ids) ≡ ring =
            ap (story.after (story_of i events s0)) (sym fresh) ∙ ends in
            subst stop.Waits from (stop.waits_for_some ids (story_of i events s0)) (rw (← one) stopping)
        | inr (past, none) ↦ absurd (omega (arith, slice_get_within b.rings.rings i ring there, past, count))
      ]

pub one_at_rest : (c : Connection) (ids : ℕ) (xs : List Happening) (h : Header) (i : ℕ) (ring : RingState)
    → (let b = after xs (new_backend c ids) in b.taken ≡ taken.Begun h (GetVringBase i)
    → slice_get b.rings.rings i ≡ Some ring → (ring.phase ≡ Stopped) × (is_idle ring ≡ true))
one_at_rest c ids xs h i ring is there =
    let b = after xs (new_backend c ids) in
    let fits = rw is at (always_fits c ids xs) in
    let (r, at, rests) = fits.2 i refl (slice_get_within b.rings.rings i ring there) in
    let same : Some r ≡ Some ring = sym at ∙ there in
    let one : r ≡ ring = cc in
    rw (← one) (rests.0, rests.1)
