-- A step after which there is none leaves nothing to do.
use Rattle.std.proofs.Common.{◌≡◌, ◌∙◌, ℕ, ◌==◌, ◌&&◌, not, Bool, true, false, List, [], ◌∷◌, length, drop, Option, Some, None, is_none, is_some, Result, Ok, Err, if◌then◌else◌, refl, ap, sym, subst, arith}
use Rattle.std.specs.List.{slice_get}
use Rattle.std.proofs.lemmas.Bool.{and_parts, ne_eqb}
use Rattle.virtio_queue.specs.declared.error.QueueError.{QueueError}
use Rattle.vhost_backend.proofs.ChannelLemmas.{on_channel}
use Rattle.vhost_backend.specs.BlockBackend.{Acts, ActsFirst, Looks, Returns, Steps, StepsFrom, asked_by, asked_first_by, asked_more_by, broke_if, called_up, ended_by, hung_up, is_asked, is_done, is_quiet, looked, notified, part_deed, replied, said_last, stepped_on_by}
use Rattle.vhost_backend.specs.BlockQueues.{part_of}
use Rattle.vhost_backend.specs.RingMemory.{MemoryStep, Returned}
use Rattle.vhost_backend.specs.Sound.{IsClear}
use Rattle.vhost_backend.specs.Wanted.{wanted_at}
use Rattle.vhost_backend.specs.Backend.{is_over, mapping_at, over}
use Rattle.vhost_backend.specs.declared.backend.Outcome.{Outcome}
use Rattle.vhost_backend.specs.declared.backend.Outcome.TheVariants as outcome
use Rattle.vhost_backend.specs.declared.backend.Place.{Place}
use Rattle.vhost_backend.specs.declared.backend.Todo.{Todo}
use Rattle.vhost_backend.specs.declared.block.BlockStep.{BlockStep}
use Rattle.vhost_backend.specs.declared.block_backend.BlockBackend.{BlockBackend}
use Rattle.vhost_backend.specs.declared.block_backend.Returning.{Returning}
use Rattle.vhost_backend.specs.declared.deeds.Ask.{Ask}
use Rattle.vhost_backend.specs.declared.deeds.Ask.TheVariants as ask
use Rattle.vhost_backend.specs.Sight.{Sight}
use Rattle.vhost_backend.specs.declared.deeds.Made.{Made}
use Rattle.vhost_backend.specs.declared.deeds.Made.TheVariants as made
use Rattle.vhost_backend.specs.declared.deeds.Why.{Why}
use Rattle.vhost_backend.specs.declared.mapping.Mapping.{Mapping}
use Rattle.vhost_backend.specs.declared.mapping.Mapping.TheVariants.{Map, UnmapAll}
use Rattle.vhost_backend.specs.declared.ring.actions.RingAction.{RingAction}
use Rattle.vhost_backend.specs.declared.ring.actions.RingAction.TheVariants as action
use Rattle.vhost_backend.specs.declared.wanted.Wanted.{Wanted}
use Rattle.vhost_backend.specs.declared.wanted.Wanted.TheVariants as wanted

-- ---- a back end that is done has nothing to do for a ring

none_there : {X : Type 0} (o : Option X) → is_none o ≡ true → o ≡ None
none_there None is = refl
none_there (Some x) is = absurd (cc)

none_left : {X : Type 0} (xs : List X) → (length xs == 0) ≡ true → xs ≡ []
none_left [] is = refl
none_left (x ∷ xs) is =
    let some : (length (x ∷ xs) == 0) ≡ false = ne_eqb (length (x ∷ xs)) 0 (λ e. omega (arith, e)) in
    let bad : false ≡ true = sym some ∙ is in absurd (cc)

pub done_clear : (w : BlockBackend) → is_done w ≡ true → IsClear w
done_clear w is =
    let (all, asks) = and_parts _ _ is in
    let (a, end) = and_parts _ _ all in
    let (b, called) = and_parts _ _ a in
    let (c, reply) = and_parts _ _ b in
    let (d, asked) = and_parts _ _ c in
    let (e, broken) = and_parts _ _ d in
    let (f, returning) = and_parts _ _ e in
    let (g, message) = and_parts _ _ f in
    let (place, actions) = and_parts _ _ g in
    (none_left w.todo.actions actions, none_there w.returning returning)

-- ---- the last step

both : (a b : Bool) → a ≡ true → b ≡ true → (a && b) ≡ true
both true b one other = other
both false b one other = absurd (cc)

-- a step leads to an idle back end only if that was done
abbrev Rests : BlockBackend → BlockBackend × Made → Type 0
Rests w t = t.1 ≡ made.Idle → (t.0 ≡ w) × (is_done w ≡ true)

module _ (w : BlockBackend) (place : is_none w.todo.place ≡ true) (actions : (length w.todo.actions == 0) ≡ true)
    (returning : is_none w.returning ≡ true) where
  ended_rests : (o : Option Why) → w.end ≡ o → (is_quiet w.todo.message ≡ true) → not w.broken ≡ true
      → is_asked w.ask ≡ true → (length w.reply == 0) ≡ true → is_none w.called ≡ true → Rests w (ended_by w o)
  ended_rests (Some y) end message broken asked reply called = λ is. absurd (cc)
  ended_rests None end message broken asked reply called = on_channel w (Rests w)
      (λ may is. (
        refl,
        both _ _ (both _ _ (both _ _ (both _ _ (both _ _ (both _ _ (both _ _ (both _ _
            (both _ _ place actions) message) returning) broken) asked) reply) called) (ap is_none end)) (ap not may),
      ))
      (λ q d is. absurd (cc)) (λ q is. absurd (cc))

  called_rests : (o : Option ℕ) → w.called ≡ o → (is_quiet w.todo.message ≡ true) → not w.broken ≡ true
      → is_asked w.ask ≡ true → (length w.reply == 0) ≡ true → Rests w (called_up w o)
  called_rests (Some ring) called message broken asked reply is = absurd (cc)
  called_rests None called message broken asked reply is =
      ended_rests w.end refl message broken asked reply (ap is_none called) is

  last_rests : (is_quiet w.todo.message ≡ true) → not w.broken ≡ true → is_asked w.ask ≡ true → Rests w (said_last w)
  last_rests message broken asked = go (length w.reply == 0) refl
    where
      go : (v : Bool) → (length w.reply == 0) ≡ v → Rests w (if v then called_up w w.called else replied w)
      go true reply = called_rests w.called refl message broken asked reply
      go false reply = λ is. absurd (cc)

  first_rests : (x : Wanted) → Rests w (asked_first_by w x)
  first_rests wanted.Nothing is = absurd (cc)
  first_rests wanted.Memory is = absurd (cc)
  first_rests (wanted.Log size offset) is = absurd (cc)
  first_rests (wanted.File asked) is = absurd (cc)
  first_rests (wanted.Region size offset) is = absurd (cc)
  first_rests (wanted.Descriptor purpose there) is = absurd (cc)
  first_rests (wanted.Base ring) is = absurd (cc)
  first_rests wanted.Table is = absurd (cc)
  first_rests wanted.Finish is = absurd (cc)

  more_rests : (number : ℕ) (m : Option Mapping) → Rests w (asked_more_by w number m)
  more_rests number None is = absurd (cc)
  more_rests number (Some UnmapAll) is = absurd (cc)
  more_rests number (Some (Map region descriptor)) is = absurd (cc)

  asked_rests : (a : Ask) → w.ask ≡ a → (is_quiet w.todo.message ≡ true) → not w.broken ≡ true
      → Rests w (asked_by w a)
  asked_rests ask.First asked message broken = first_rests (wanted_at w.backend.taken)
  asked_rests (ask.Mapped number) asked message broken = more_rests number (mapping_at w.backend.taken number)
  asked_rests ask.Nothing asked message broken = last_rests message broken (ap is_asked asked)
  asked_rests (ask.Region number) asked message broken = last_rests message broken (ap is_asked asked)
  asked_rests ask.Answer asked message broken = last_rests message broken (ap is_asked asked)

  broke_rests : (v : Bool) → w.broken ≡ v → (is_quiet w.todo.message ≡ true) → Rests w (broke_if w v)
  broke_rests true broken message is = absurd (cc)
  broke_rests false broken message is = asked_rests w.ask refl message (ap not broken) is

  on_rests : (o : Outcome) → w.todo.message ≡ o → Rests w (stepped_on_by w o)
  on_rests outcome.Stays message = broke_rests w.broken refl (ap is_quiet message)
  on_rests outcome.Begins message = λ is. absurd (cc)
  on_rests (outcome.Refused e h) message = λ is. absurd (cc)

part_goes_on : (ring id left : ℕ) (o : Option BlockStep) → part_deed ring id left o ≡ made.Idle → ⊥
part_goes_on ring id left None is = absurd (cc)
part_goes_on ring id left (Some part) is = absurd (cc)

notified_goes_on : (ring : ℕ) (r : Result Bool QueueError) → notified ring r ≡ made.Idle → ⊥
notified_goes_on ring (Ok true) is = absurd (cc)
notified_goes_on ring (Ok false) is = absurd (cc)
notified_goes_on ring (Err e) is = absurd (cc)

module _ {H : Type 0} (step : H → (s : MemoryStep) → Returned s → H → Type 0) where
  act_goes_on : (w : BlockBackend) (ring : ℕ) (a : RingAction) (old : H) (w' : BlockBackend) (new : H)
      → Acts step w ring a old made.Idle w' new → ⊥
  act_goes_on w ring action.Pop old w' new (same, is, still) = absurd (cc)
  act_goes_on w ring (action.Serve id left) old w' new (same, is, still) =
      part_goes_on ring id left (part_of id left (slice_get w.queues ring)) (sym is)
  act_goes_on w ring (action.Return chain moved failed) old w' new (r, qs, finishes, becomes, is) = absurd (cc)
  act_goes_on w ring action.Notify old w' new (r, qs, asks, becomes, is) = notified_goes_on ring r (sym is)
  act_goes_on w ring action.Broke old w' new (same, is, still) = absurd (cc)
  act_goes_on w ring action.Stopped old w' new (same, is, still) = absurd (cc)

  pub idle_done : (w : BlockBackend) (old : H) (w' : BlockBackend) (new : H) → Steps step w old made.Idle w' new
      → is_done w' ≡ true
  idle_done w old w' new = from w.todo.place refl
    where
      first : (acts : List RingAction) → is_none w.todo.place ≡ true → is_none w.returning ≡ true
          → ActsFirst step (record w { todo = record w.todo { actions = drop 1 acts } }) (slice_get acts 0) old made.Idle
          w' new → is_done w' ≡ true
      first [] place returning (is, still) =
          let v : BlockBackend = record w { todo = record w.todo { actions = [] } } in
          let (same, done) = on_rests v place refl returning v.todo.message refl (sym (ap (λ t. t.1) is)) in
          ap (λ t. is_done t.0) is ∙ ap is_done same ∙ done
      first (a ∷ rest) place returning p =
          absurd (act_goes_on (record w { todo = record w.todo { actions = rest } }) w.todo.ring a old w' new p)

      returns : (o : Option Returning) → w.returning ≡ o → is_none w.todo.place ≡ true
          → Returns step w o old made.Idle w' new → is_done w' ≡ true
      returns None returning place p = first w.todo.actions place (ap is_none returning) p
      returns (Some t) returning place (gives, is) = absurd (cc)

      from : (o : Option Place) → w.todo.place ≡ o → StepsFrom step w o old made.Idle w' new → is_done w' ≡ true
      from None place p = returns w.returning refl (ap is_none place) p
      from (Some place) there (places, is, still) = absurd (cc)

  -- a look that finds nothing leaves what is to be done
  pub looked_clear : (way : Option Sight) (w : BlockBackend) (old : H) (w' : BlockBackend) (new : H)
      → Looks step way w old false w' new → IsClear w → IsClear w'
  looked_clear way w old w' new (Some ring, kicks, takes, (was, becomes, same)) clear = absurd (cc)
  looked_clear way w old w' new (None, kicks, takes, (r, b, qs, with, none, is, becomes)) clear = go r is becomes
    where
      go : (r : Option Todo) → false ≡ is_some r
          → w' ≡ looked (record w { kicks = kicks; queues = qs; backend = b }) r → IsClear w'
      go None is becomes = subst IsClear (sym becomes) clear
      go (Some todo) is becomes = absurd (cc)

-- the end of the connection brings nothing to do for a ring
pub hung_up_clear : (w : BlockBackend) (y : Why) → IsClear w → IsClear (hung_up w y)
hung_up_clear w y clear = go (is_over w.backend.taken)
  where
    go : (v : Bool) → IsClear (if v then record w { ask = ask.Nothing }
        else record w { ask = ask.Nothing; backend = over w.backend; end = Some y })
    go true = clear
    go false = clear
