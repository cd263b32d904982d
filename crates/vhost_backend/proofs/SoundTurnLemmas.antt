-- Looks and turns leave a back end sound, and a new one is.
use Rattle.std.proofs.Common.{◌≡◌, ◌∙◌, ℕ, zero, suc, ◌+◌, ◌<◌, ◌≤◌, Bool, true, false, List, [], ◌∷◌, ◌++◌, length, replicate, Option, Some, None, is_some, MatchBool, MatchOption, if◌then◌else◌, refl, ap, sym, subst, arith, inl, inr}
use Rattle.std.specs.List.{slice_get, slice_index_or, slice_set}
use Rattle.std.specs.declared.alloc.Global.{Global}
use Rattle.std.proofs.lemmas.Bool.{and_parts, cases_eq, eq-eqb, ne_eqb}
use Rattle.std.proofs.lemmas.List.{append-nil, length-replicate}
use Rattle.virtio_queue.specs.Packed as packed
use Rattle.virtio_queue.specs.declared.any.AnyQueue.TheVariants.{Packed}
use Rattle.vhost_user.specs.Connection.{Connection, connected}
use Rattle.vhost_user.specs.declared.backend_req_handler.Offer.{Offer}
use Rattle.vhost_backend.proofs.AgreeLemmas.{all_found, turn_grows}
use Rattle.vhost_backend.proofs.OwnWayLemmas.{get-set_other, get-set_same}
use Rattle.vhost_backend.proofs.PopLemmas.{next_kept}
use Rattle.vhost_backend.proofs.SoundLemmas.{SoundOf, asking_sound, at_goes, at_most_one, clear_pending, new_pending, same_has, set_sound, told_sound}
use Rattle.vhost_backend.proofs.UnderWayLemmas.{counts, goes, goes_to, same_ids, story, story_quiet, waiting_quiet}
use Rattle.vhost_backend.specs.Backend.{BackendState, after_event, is_outer}
use Rattle.vhost_backend.specs.Flight.{HappensIn}
use Rattle.vhost_backend.specs.BlockBackend.{Looks, TakesTurn, looked, new_block_backend, terms_of}
use Rattle.vhost_backend.specs.BlockQueue.{Agrees, BlockQueueState, asked_at, asked_count, given, new_queue}
use Rattle.vhost_backend.specs.BlockQueues.{Turns}
use Rattle.vhost_backend.specs.BlockTurn as turn
use Rattle.vhost_backend.specs.Messages.{Happening, Told, events_of_waiting, own_actions, ring_actions, to_do}
use Rattle.vhost_backend.specs.Ring.{RingState, may_run, new_ring}
use Rattle.vhost_backend.specs.RingMemory.{MemoryStep, Returned}
use Rattle.vhost_backend.specs.Rings.{RingsState, admits, happens, is_turn, may_pop, may_pop_by}
use Rattle.vhost_backend.specs.Sound.{HasAll, IsClear, Sound, SoundAt, ended_chain, pending}
use Rattle.vhost_backend.specs.Story.{RingStep, On, after, busy, of_id, popped, returned, taken}
use Rattle.vhost_backend.specs.Story as ring_story
use Rattle.vhost_backend.specs.Turns.{steps_of, story_of}
use Rattle.vhost_backend.specs.declared.backend.Todo.{Todo}
use Rattle.vhost_backend.specs.declared.block_backend.BlockBackend.{BlockBackend}
use Rattle.vhost_backend.specs.Sight.{Sight}
use Rattle.vhost_backend.specs.declared.deeds.Limits.{Limits}
use Rattle.vhost_backend.specs.declared.request.Chain.{Chain}
use Rattle.vhost_backend.specs.declared.ring.RingEvent.{RingEvent}
use Rattle.vhost_backend.specs.declared.ring.RingEvent.TheVariants.{Start, Stop, Enable, Break, Kick, Popped, Emptied, Ended}
use Rattle.vhost_backend.specs.declared.rings.Event.{Event}
use Rattle.vhost_backend.specs.declared.rings.Event.TheVariants as event
use Rattle.vhost_backend.specs.declared.rings.Turn.{Turn}

-- ---- what a ring pops by an event of its turn

admitted : (t : Option Turn) (ring : ℕ) (e : RingEvent) → is_turn t ring ≡ true → admits t ring e ≡ true
admitted t ring (Popped chain parts bytes) is = is
admitted t ring Emptied is = is
admitted t ring Start is = refl
admitted t ring Stop is = refl
admitted t ring (Enable on) is = refl
admitted t ring Break is = refl
admitted t ring Kick is = refl
admitted t ring (Ended id end) is = refl

module _ (b : BackendState) (ring : ℕ) (e : RingEvent) where
  own_popped : (r : RingState) → is_turn b.rings.turn ring ≡ true
      → popped (story b (Told (event.Ring ring e)) ring) r ≡ taken r (On e)
  own_popped r is = by e refl
    where
      here : Event
      here = event.Ring ring e

      later : List RingStep
      later = story_of ring (events_of_waiting b here b.taken) (happens b.rings here).0

      outer : popped (steps_of ring b.rings here ++ later) r ≡ taken r (On e)
      outer = rw (eq-eqb ring ring refl, admitted b.rings.turn ring e is) (
          ap (λ cs. taken r (On e) ++ cs) (story_quiet ring (events_of_waiting b here b.taken) (happens b.rings here).0
          (ring_story.stepped r (On e)).0 (waiting_quiet b here b.taken)) ∙ append-nil (taken r (On e)))

      go : (v : Bool) → (v ≡ false → taken r (On e) ≡ [])
          → popped (story_of ring (if v then here ∷ events_of_waiting b here b.taken else []) b.rings) r ≡ taken r (On e)
      go true none = outer
      go false none = sym (none refl)

      by : (f : RingEvent) → e ≡ f
          → popped (story_of ring (if is_outer here then here ∷ events_of_waiting b here b.taken else []) b.rings) r
          ≡ taken r (On e)
      by Start is = go (is_outer here) (λ inner. ap (λ x. taken r (On x)) is)
      by Stop is = go (is_outer here) (λ inner. ap (λ x. taken r (On x)) is)
      by (Enable on) is = go (is_outer here) (λ inner. ap (λ x. taken r (On x)) is)
      by Break is = go (is_outer here) (λ inner. ap (λ x. taken r (On x)) is)
      by Kick is = go (is_outer here) (λ inner. ap (λ x. taken r (On x)) is)
      by Emptied is = go (is_outer here) (λ inner. ap (λ x. taken r (On x)) is)
      by (Ended id end) is = go (is_outer here) (λ inner. ap (λ x. taken r (On x)) is)
      by (Popped chain parts bytes) is =
          go (is_outer here) (λ inner. let outer = ap (λ x. is_outer (event.Ring ring x)) is in
          let bad : true ≡ false = sym outer ∙ inner in absurd (cc))

  other_popped : (i : ℕ) (r : RingState) → (i ≡ ring → ⊥) → popped (story b (Told (event.Ring ring e)) i) r ≡ []
  other_popped i r differs = go (is_outer here)
    where
      here : Event
      here = event.Ring ring e

      go : (v : Bool) → popped (story_of i (if v then here ∷ events_of_waiting b here b.taken else []) b.rings) r ≡ []
      go true = rw (ne_eqb ring i (λ same. differs (sym same)))
          (story_quiet i (events_of_waiting b here b.taken) (happens b.rings here).0 r (waiting_quiet b here b.taken))
      go false = refl

-- a ring that may pop has its turn, and runs
turn_parts : (s : RingsState) (ring : ℕ) → may_pop s ring ≡ true
    → (is_turn s.turn ring ≡ true) × ((r : RingState) → slice_get s.rings ring ≡ Some r → may_run r ≡ true)
turn_parts s ring may = go (slice_get s.rings ring) refl may
  where
    go : (o : Option RingState) → slice_get s.rings ring ≡ o → may_pop_by s ring o ≡ true
        → (is_turn s.turn ring ≡ true) × ((r : RingState) → slice_get s.rings ring ≡ Some r → may_run r ≡ true)
    go None none may = absurd (cc)
    go (Some q) there may =
        let (turn, runs) = and_parts _ _ may in
        (turn, λ r is. let same : q ≡ r = some_is q r (sym there ∙ is) in ap may_run (sym same) ∙ runs)
      where
        some_is : (x y : RingState) → Some x ≡ Some y → x ≡ y
        some_is x y is = cc

-- ---- a step of a turn

module _ {H : Type 0} (step : H → (s : MemoryStep) → Returned s → H → Type 0) where
  -- something happens to the ring that has its turn
  event_sound : (way : Option Sight) (w : BlockBackend) (q : BlockQueueState) (old : H) (e : RingEvent) (q' : BlockQueueState) (new : H)
      → slice_get w.queues w.turn ≡ Some q → may_pop w.backend.rings w.turn ≡ true
      → HappensIn step (terms_of w) way q old (Some e) q' new → IsClear w → Sound w
      → (let t = after_event w.backend (event.Ring w.turn e) in
      Sound (record w { queues = slice_set w.queues w.turn q'; backend = t.0; todo = t.1 }))
  event_sound way w q old e q' new found may next clear sound i = elim (cases_eq i w.turn) [
    | inl same ↦ subst (λ k. SoundAt (slice_get (slice_set w.queues w.turn q') k) (slice_get b'.rings.rings k) (later k))
        (sym same) (subst (λ o. SoundAt o (slice_get b'.rings.rings w.turn) (later w.turn))
        (sym (get-set_same w.queues w.turn q' q found)) (own (slice_get b.rings.rings w.turn) refl
        (subst (λ o. SoundAt o (slice_get b.rings.rings w.turn) (pending w w.turn)) found (sound w.turn))))
    | inr differs ↦ subst (λ o. SoundAt o (slice_get b'.rings.rings i) (later i))
        (sym (get-set_other w.queues w.turn i q' differs))
        (at_goes (slice_get w.queues i) (slice_get b.rings.rings i) (slice_get b'.rings.rings i) (pending w i)
        (returned (ring_actions i (to_do b x))) (later i) (new_pending w todo clear i) (sound i)
        (goes b x i (λ r. other_popped b w.turn e i r differs)))
  ]
    where
      b : BackendState
      b = w.backend

      x : Happening
      x = Told (event.Ring w.turn e)

      b' : BackendState
      b' = (after_event w.backend (event.Ring w.turn e)).0

      todo : Todo
      todo = (after_event w.backend (event.Ring w.turn e)).1

      later : ℕ → List Chain
      later i = ended_chain i w.returning ++ returned (own_actions i todo)

      own : (o : Option RingState) → slice_get b.rings.rings w.turn ≡ o → SoundAt (Some q) o (pending w w.turn)
          → SoundAt (Some q') (slice_get b'.rings.rings w.turn) (later w.turn)
      own None there none = absurd none
      own (Some r) there (count, ids) = subst (λ o. SoundAt (Some q') o (later w.turn)) (sym (goes_to b x w.turn r there))
          (has, (next_kept step way (terms_of w) q old (Some e) q' new next).0 ∙ ids ∙ sym (same_ids b x w.turn r))
        where
          clean : (id : ℕ) → asked_count q id ≡ busy r id
          clean id =
              let none : length (of_id id (pending w w.turn)) ≡ 0 =
              ap (λ cs. length (of_id id cs)) (clear_pending w clear w.turn) in omega (arith, count id, none)

          has : (id : ℕ) → asked_count q' id
              ≡ length (of_id id (later w.turn)) + busy (after (story b x w.turn) r) id
          has id =
              let (turns, runs) = turn_parts b.rings w.turn may in
              let grows = turn_grows step way (terms_of w) q r clean ids (runs r there) old e q' new next id in
              let pops : length (of_id id (popped (story b x w.turn) r)) ≡ length (of_id id (taken r (On e))) =
              ap (λ cs. length (of_id id cs)) (own_popped b w.turn e r turns) in
              let gone : length (of_id id (later w.turn)) ≡ length (of_id id (returned (ring_actions w.turn (to_do b x)))) =
              ap (λ cs. length (of_id id cs)) (new_pending w todo clear w.turn
              ∙ ap (λ cs. cs ++ returned (ring_actions w.turn (to_do b x))) (clear_pending w clear w.turn)) in
              omega (arith, grows, pops, gone, counts b x w.turn r there id, clean id)

  turn_sound : (way : Option Sight) (w : BlockBackend) (old : H) (is : Bool) (w' : BlockBackend) (new : H)
      → TakesTurn step way w old is w' new → IsClear w → Sound w → Sound w'
  turn_sound way w old is w' new (r, b, qs, with, none, was, becomes) clear sound =
      subst Sound (sym becomes) (go (slice_get w.queues w.turn) refl with)
    where
      -- nothing happened to a ring
      still : r ≡ None → b ≡ w.backend → SoundOf qs w.backend.rings.rings (pending w)
          → Sound (looked (record w { queues = qs; backend = b }) r)
      still nil same sound =
          subst (λ o. Sound (looked (record w { queues = qs; backend = b }) o)) (sym nil)
          (subst (λ c. SoundOf qs c.rings.rings (pending w)) (sym same) sound)

      kept : (q q' : BlockQueueState) → slice_get w.queues w.turn ≡ Some q → q'.asked ≡ q.asked
          → SoundOf (slice_set w.queues w.turn q') w.backend.rings.rings (pending w)
      kept q q' found same =
          set_sound w.queues w.backend.rings.rings (pending w) (pending w) w.turn q q' found (λ i differs. refl)
          (λ s has. same_has q q' s (pending w w.turn) same has) sound

      told_something : (q q' : BlockQueueState) → slice_get w.queues w.turn ≡ Some q → qs ≡ slice_set w.queues w.turn q'
          → may_pop w.backend.rings w.turn ≡ true → (e : Option RingEvent)
          → HappensIn step (terms_of w) way q old e q' new → (b, r) ≡ turn.told w.backend w.turn e
          → Sound (looked (record w { queues = qs; backend = b }) r)
      told_something q q' found set may None next is = still (ap (λ t. t.1) is) (ap (λ t. t.0) is)
          (subst (λ l. SoundOf l w.backend.rings.rings (pending w)) (sym set)
          (kept q q' found ((next_kept step way (terms_of w) q old None q' new next).1 refl)))
      told_something q q' found set may (Some e) next is =
          let t = after_event w.backend (event.Ring w.turn e) in
          subst (λ t. Sound (looked (record w { queues = qs; backend = t.0 }) t.1)) (sym is)
          (asking_sound (record w { queues = qs; backend = t.0; todo = t.1 }) w.turn
          (subst (λ l. Sound (record w { queues = l; backend = t.0; todo = t.1 })) (sym set)
          (event_sound way w q old e q' new found may next clear sound)))

      runs : (q q' : BlockQueueState) → slice_get w.queues w.turn ≡ Some q → qs ≡ slice_set w.queues w.turn q'
          → (v : Bool) → may_pop w.backend.rings w.turn ≡ v → MatchBool v
          ((e : Option RingEvent) × HappensIn step (terms_of w) way q old e q' new × ((b, r) ≡ turn.told w.backend w.turn e))
          ((r ≡ None) × (b ≡ w.backend) × (q' ≡ q) × (new ≡ old))
          → Sound (looked (record w { queues = qs; backend = b }) r)
      runs q q' found set true may (e, next, is) = told_something q q' found set may e next is
      runs q q' found set false may (nil, same, kept_q, quiet) = still nil same
          (subst (λ l. SoundOf l w.backend.rings.rings (pending w)) (sym set)
          (kept q q' found (ap (λ n. n.asked) kept_q)))

      go : (o : Option BlockQueueState) → slice_get w.queues w.turn ≡ o
          → MatchOption o ((r ≡ None) × (qs ≡ w.queues) × (new ≡ old))
          (λ q. (q' : BlockQueueState) × Turns step way (terms_of w) w.turn w.backend b old new q r q'
          × (qs ≡ slice_set w.queues w.turn q')) → Sound (looked (record w { queues = qs; backend = b }) r)
      go None found (nil, same, quiet) = still nil (none found)
          (subst (λ l. SoundOf l w.backend.rings.rings (pending w)) (sym same) sound)
      go (Some q) found (q', turns, set) = runs q q' found set (may_pop w.backend.rings w.turn) refl turns

  pub looks_sound : (way : Option Sight) (w : BlockBackend) (old : H) (is : Bool) (w' : BlockBackend) (new : H)
      → Looks step way w old is w' new → IsClear w → Sound w → Sound w'
  looks_sound way w old is w' new (None, kicks, takes, turns) clear sound =
      turn_sound way (record w { kicks = kicks }) old is w' new turns clear sound
  looks_sound way w old is w' new (Some ring, kicks, takes, (was, becomes, same)) clear sound =
      subst Sound (sym becomes) (told_sound (record w { kicks = kicks }) (event.Ring ring Kick) refl clear sound)

-- ---- what that means

module _ (w : BlockBackend) (ring : ℕ) (q : BlockQueueState) (r : RingState) (sound : Sound w)
    (found : slice_get w.queues ring ≡ Some q) (there : slice_get w.backend.rings.rings ring ≡ Some r) where
  has_all : HasAll q r (pending w ring)
  has_all = subst (λ o. SoundAt (Some q) o (pending w ring)) there
      (subst (λ o. SoundAt o (slice_get w.backend.rings.rings ring) (pending w ring)) found (sound ring))

  pub each_found : Agrees (given q (pending w ring)) r
      × ((id : ℕ) → 0 < length (of_id id (pending w ring)) → is_some (asked_at q id) ≡ true)
  each_found = all_found q r (pending w ring) has_all.0

  pub each_once : (id : ℕ) → length (of_id id (pending w ring)) + busy r id ≤ 1
  each_once id = omega (arith, has_all.0 id, at_most_one (is_some (asked_at q id)))

-- ---- a new back end

none_under_way : {X : Type 0} (o : Option X) → is_some o ≡ false → (n i : ℕ)
    → is_some (slice_index_or (replicate n o) i o) ≡ false
none_under_way o none zero i = none
none_under_way o none (suc n) zero = none
none_under_way o none (suc n) (suc i) = none_under_way o none n i

pub new_sound : (alloc : Global) (offer : Offer) (count : ℕ) (config : List ℕ) (limits : Limits)
    → Sound (new_block_backend alloc offer count config limits)
new_sound alloc offer count config limits i =
    let ids = offer.max_queue_size in
    let q : BlockQueueState = new_queue (Packed (packed.new_queue ids)) ids in
    subst (SoundAt (slice_get (replicate count q) i) (slice_get (replicate (length c.vrings) (new_ring ids)) i))
    (sym (clear_pending w (refl, refl) i))
    (subst (λ n. SoundAt (slice_get (replicate count q) i) (slice_get (replicate n (new_ring ids)) i) [])
    (sym (length-replicate count _)) (go ids q refl count i))
  where
    w : BlockBackend
    w = new_block_backend alloc offer count config limits

    c : Connection
    c = connected offer count config

    go : (ids : ℕ) (q : BlockQueueState) → q.asked ≡ replicate ids None → (n i : ℕ)
        → SoundAt (slice_get (replicate n q) i) (slice_get (replicate n (new_ring ids)) i) []
    go ids q is zero i = refl
    go ids q is (suc n) zero = (
      λ id. ap (λ l. if is_some (slice_index_or l id None) then 1 else 0) is
          ∙ ap (λ b. if b then 1 else 0) (none_under_way None refl ids id)
          ∙ sym (ap (λ b. 0 + (if b then 1 else 0)) (none_under_way None refl ids id)),
      ap length is ∙ length-replicate ids None ∙ sym (length-replicate ids None),
    )
    go ids q is (suc n) (suc i) = go ids q is n i
