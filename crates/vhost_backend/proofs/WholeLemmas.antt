-- Each call of a back end as a whole is something that happens to its connection, or nothing.
use Rattle.std.proofs.Common.{◌≡◌, ◌∙◌, ℕ, ◌+◌, nat_lt, ◌&&◌, ◌==◌, Bool, true, false, List, [], ◌∷◌, length, drop, Option, Some, None, Result, Ok, Err, MatchBool, MatchOption, if◌then◌else◌, refl, ap}
use Rattle.std.specs.List.{slice_get, slice_set}
use Rattle.vm_memory_base.specs.Table.{Table}
use Rattle.vhost_backend.proofs.ChannelLemmas.{on_channel}
use Rattle.vhost_backend.proofs.TableLemmas.{asking_kept, memory_kept, reply_kept, table_kept}
use Rattle.vm_memory_base.specs.declared.iotlb.Permissions.{Permissions}
use Rattle.vhost_backend.specs.SetUp.{part_for}
use Rattle.vhost_backend.specs.BlockTable.{ChangesTable, freed_by, memory_lost}
use Rattle.vhost_backend.specs.TableUse.{awaited}
use Rattle.vhost_backend.specs.Questions.{QuestionsState, after_reply}
use Rattle.vhost_backend.specs.declared.questions.SentMiss.{SentMiss}
use Rattle.vhost_message.specs.FrontendReq.{request_of}
use Rattle.vhost_message.specs.declared.backend_req.BackendReply.{BackendReply}
use Rattle.vhost_message.specs.declared.header.Header.{Header}
use Rattle.vhost_message.specs.declared.refusal.Refusal as reason
use Rattle.vhost_message.specs.declared.refusal.Refusal.TheVariants.{Direction}
use Rattle.vhost_user.specs.Reply.{refused}
use Rattle.vhost_user.specs.declared.vring.NotRunning.{NotRunning}
use Rattle.vhost_user.specs.declared.vring.RunningVring.{RunningVring}
use Rattle.vhost_backend.specs.Backend.{BackendState, is_free, is_over, mapping_at}
use Rattle.vhost_backend.specs.BlockBackend.{Acts, ActsFirst, GivesBackAt, Looks, Returns, Steps, StepsFrom, TakesTurn, after_reach, answered, answered_at, asked_by, asked_first_by, asked_more_by, broke_if, called_up, came, counted, ended_by, ended_with, finished_by, gone_on, hung_up, is_done, looked, mapped, mapped_at, messaged, placed_by, replied, said_last, stepped_on_by, terms_of, told, in_use, taken_by, with_change, reply_by, replied_to}
use Rattle.vhost_backend.specs.Flight.{HappensIn}
use Rattle.vhost_backend.specs.BlockQueue.{BlockQueueState}
use Rattle.vhost_backend.specs.BlockQueues.{Turns, based, set_up_at}
use Rattle.vhost_backend.specs.BlockTurn as turn
use Rattle.vhost_backend.specs.Messages.{Came, Done, Told, HungUp, stepped}
use Rattle.vhost_backend.specs.PageList.{capped}
use Rattle.vhost_backend.specs.RingMemory.{MemoryStep, Returned}
use Rattle.vhost_backend.specs.Rings.{may_pop}
use Rattle.vhost_backend.specs.Wanted.{wanted_at}
use Rattle.vhost_backend.specs.Whole.{Leads}
use Rattle.vhost_backend.specs.declared.backend.Finish.{Finish}
use Rattle.vhost_backend.specs.declared.backend.Finish.TheVariants as finish
use Rattle.vhost_backend.specs.declared.backend.Outcome.{Outcome}
use Rattle.vhost_backend.specs.declared.backend.Outcome.TheVariants as outcome
use Rattle.vhost_backend.specs.declared.backend.Place.{Place}
use Rattle.vhost_backend.specs.declared.backend.Todo.{Todo}
use Rattle.vhost_backend.specs.declared.deeds.Ask.{Ask}
use Rattle.vhost_backend.specs.declared.deeds.Ask.TheVariants as ask
use Rattle.vhost_backend.specs.declared.block_backend.BlockBackend.{BlockBackend}
use Rattle.vhost_backend.specs.declared.block_backend.Returning.{Returning}
use Rattle.vhost_backend.specs.Sight.{Sight}
use Rattle.vhost_backend.specs.declared.block_queue.Finished.{Finished}
use Rattle.vhost_backend.specs.declared.block_queue.Finished.TheVariants as finished
use Rattle.vhost_backend.specs.declared.request.Chain.{Chain}
use Rattle.vhost_backend.specs.declared.deeds.Made.{Made}
use Rattle.vhost_backend.specs.declared.deeds.Why.{Why}
use Rattle.vhost_backend.specs.declared.deeds.Why.TheVariants as why
use Rattle.vhost_backend.specs.declared.block_queues.Reached.{Reached}
use Rattle.vhost_backend.specs.declared.block_queues.Reached.TheVariants as reached
use Rattle.vhost_backend.specs.declared.mapping.Mapping.{Mapping}
use Rattle.vhost_backend.specs.declared.mapping.Mapping.TheVariants.{Map, UnmapAll}
use Rattle.vhost_backend.specs.declared.ring.RingEvent.{RingEvent}
use Rattle.vhost_backend.specs.declared.ring.RingEvent.TheVariants.{Break, Kick}
use Rattle.vhost_backend.specs.declared.ring.actions.RingAction.{RingAction}
use Rattle.vhost_backend.specs.declared.ring.actions.RingAction.TheVariants as action
use Rattle.vhost_backend.specs.declared.rings.Event.{Event}
use Rattle.vhost_backend.specs.declared.rings.Event.TheVariants as event
use Rattle.vhost_backend.specs.declared.wanted.Wanted.{Wanted}
use Rattle.vhost_backend.specs.declared.wanted.Wanted.TheVariants as wanted

-- ---- leads

pub stays : (b : BackendState) → Leads b b
stays b = ([], refl)

pub leads_by : {b c d : BackendState} → d ≡ c → Leads b c → Leads b d
leads_by same (xs, is) = (xs, same ∙ is)

-- ---- events

over_leads : (w : BlockBackend) (y : Why) (v : Bool) → Leads w.backend
    (if v then record w { ask = ask.Nothing }
    else record w { ask = ask.Nothing; backend = stepped w.backend HungUp; end = Some y }).backend
over_leads w y true = stays w.backend
over_leads w y false = (HungUp ∷ [], refl)

pub hung_up_leads : (w : BlockBackend) (y : Why) → Leads w.backend (hung_up w y).backend
hung_up_leads w y = over_leads w y (is_over w.backend.taken)

pub finished_leads : (w : BlockBackend) (e : Finish) → Leads w.backend (finished_by w e).backend
finished_leads w e = (Done e ∷ [], refl)

pub told_leads : (w : BlockBackend) (e : Event) → Leads w.backend (told w e).backend
told_leads w e = (Told e ∷ [], refl)

pub gone_on_leads : (w : BlockBackend) → Leads w.backend (gone_on w).backend
gone_on_leads w = (Told event.GoOn ∷ [], refl)

pub came_leads : (w : BlockBackend) (h : Header) (payload : List ℕ) (descriptors : ℕ)
    → Leads w.backend (came w h payload descriptors).0.backend
came_leads w h payload descriptors = go (is_done w && is_free w.backend.taken)
  where
    go : (v : Bool) → Leads w.backend (let r : BlockBackend × Bool = (if v
        then (let v = with_change w (request_of h payload) in (taken_by v h payload descriptors (in_use v), true))
        else (w, false)) in r.0.backend)
    go true = (Came h payload descriptors (in_use (with_change w (request_of h payload))) ∷ [], refl)
    go false = stays w.backend

pub mapped_leads : (w : BlockBackend) (is : Bool) → Leads w.backend (mapped w is).backend
mapped_leads w is = go w.ask is
  where
    go : (a : Ask) (is : Bool) → Leads w.backend (mapped_at w a is).backend
    go (ask.Region number) true = stays w.backend
    go (ask.Region number) false = finished_leads w finish.Failed
    go ask.Nothing is = stays w.backend
    go ask.First is = stays w.backend
    go (ask.Mapped number) is = stays w.backend
    go ask.Answer is = stays w.backend

pub answered_leads : (w : BlockBackend) (is : Bool) → Leads w.backend (answered w is).backend
answered_leads w is = go w.ask is
  where
    go : (a : Ask) (is : Bool) → Leads w.backend (answered_at w a is).backend
    go ask.Answer true = (Done finish.Done ∷ [], refl)
    go ask.Answer false = finished_leads w finish.Failed
    go ask.Nothing is = stays w.backend
    go ask.First is = stays w.backend
    go (ask.Mapped number) is = stays w.backend
    go (ask.Region number) is = stays w.backend

pub replied_leads : (w : BlockBackend) (r : Result BackendReply reason.Refusal) → Leads w.backend (replied_to w r).0.backend
replied_leads w (Err e) = hung_up_leads w (why.Refused e)
replied_leads w (Ok r) = go (r.request == 1)
  where
    by : (t : QuestionsState × Option SentMiss) → Leads w.backend (reply_by w r.value t).0.backend
    by (q, Some one) = reply_kept (λ v. Leads w.backend v.backend) (λ v q p. p) (λ v ks p. p) (λ v n q l found p. p)
        (record w { questions = q }) one r.value (stays w.backend)
    by (q, None) = hung_up_leads (record w { questions = q }) (why.Refused Direction)

    go : (v : Bool) → Leads w.backend (let t : BlockBackend × Bool = (if v
        then reply_by w r.value (after_reply w.questions) else (hung_up w (why.Refused Direction), false)) in t.0.backend)
    go true = by (after_reply w.questions)
    go false = hung_up_leads w (why.Refused Direction)

pub memory_leads : (w : BlockBackend) → Leads w.backend (memory_lost w).backend
memory_leads w = memory_kept (λ v. Leads w.backend v.backend) (λ v q p. p) (λ v ks p. p) (λ v n q l found p. p) w
    (stays w.backend)

-- ---- steps without memory

messaged_leads : (w : BlockBackend) (o : Outcome) → Leads w.backend (messaged w o).backend
messaged_leads w outcome.Stays = stays w.backend
messaged_leads w outcome.Begins = stays w.backend
messaged_leads w (outcome.Refused e h) =
    hung_up_leads (record w { reply = refused w.backend.connection h }) (why.Refused e)

first_leads : (w : BlockBackend) (x : Wanted) → Leads w.backend (asked_first_by w x).0.backend
first_leads w wanted.Nothing = stays w.backend
first_leads w wanted.Memory = stays w.backend
first_leads w (wanted.Log size offset) = stays w.backend
first_leads w (wanted.File asked) = stays w.backend
first_leads w (wanted.Region size offset) = stays w.backend
first_leads w (wanted.Descriptor purpose is) = stays w.backend
first_leads w (wanted.Base ring) = (Done (based w.queues ring (slice_get w.queues ring)).1 ∷ [], refl)
first_leads w wanted.Table = stays w.backend
first_leads w wanted.Finish = (Done finish.Done ∷ [], refl)

more_leads : (w : BlockBackend) (number : ℕ) (m : Option Mapping) → Leads w.backend (asked_more_by w number m).0.backend
more_leads w number None = stays w.backend
more_leads w number (Some UnmapAll) = stays w.backend
more_leads w number (Some (Map region descriptor)) = stays w.backend

counted_leads : (w : BlockBackend) (n : ℕ) → Leads w.backend (counted w n).backend
counted_leads w n = go (nat_lt w.limits.unread n)
  where
    go : (v : Bool) → Leads w.backend
        (if v then hung_up (record w { unread = n }) why.Unread else record w { unread = n }).backend
    go true = hung_up_leads (record w { unread = n }) why.Unread
    go false = stays w.backend

ended_leads : (w : BlockBackend) (o : Option Why) → Leads w.backend (ended_by w o).0.backend
ended_leads w None = on_channel w (λ t. Leads w.backend t.0.backend) (λ is. stays w.backend) (λ q d. stays w.backend)
    (λ q. stays w.backend)
ended_leads w (Some y) = stays w.backend

called_leads : (w : BlockBackend) (o : Option ℕ) → Leads w.backend (called_up w o).0.backend
called_leads w (Some ring) = stays w.backend
called_leads w None = ended_leads w w.end

last_leads : (w : BlockBackend) → Leads w.backend (said_last w).0.backend
last_leads w = go (length w.reply == 0)
  where
    go : (v : Bool) → Leads w.backend (if v then called_up w w.called else replied w).0.backend
    go true = called_leads w w.called
    go false = counted_leads w (capped (w.unread + length w.reply))

asked_leads : (w : BlockBackend) (a : Ask) → Leads w.backend (asked_by w a).0.backend
asked_leads w ask.First = first_leads w (wanted_at w.backend.taken)
asked_leads w (ask.Mapped number) = more_leads w number (mapping_at w.backend.taken number)
asked_leads w ask.Nothing = last_leads w
asked_leads w ask.Answer = last_leads w
asked_leads w (ask.Region number) = last_leads w

broke_leads : (w : BlockBackend) (v : Bool) → Leads w.backend (broke_if w v).0.backend
broke_leads w true = (Told (event.Ring w.todo.ring Break) ∷ [], refl)
broke_leads w false = asked_leads w w.ask

on_leads : (w : BlockBackend) (o : Outcome) → Leads w.backend (stepped_on_by w o).0.backend
on_leads w outcome.Stays = broke_leads w w.broken
on_leads w outcome.Begins = stays w.backend
on_leads w (outcome.Refused e h) = messaged_leads
    (record w { todo = record w.todo { message = outcome.Stays } }) (outcome.Refused e h)

reach_leads : (w : BlockBackend) (r : Reached) → Leads w.backend (after_reach w r).backend
reach_leads w reached.Fine = stays w.backend
reach_leads w reached.Broken = stays w.backend

ended_with_leads : (w : BlockBackend) (ring : ℕ) (chain : Chain) (r : Finished)
    → Leads w.backend (ended_with w ring chain r).backend
ended_with_leads w ring chain (finished.Done len) = stays w.backend
ended_with_leads w ring chain finished.Forgotten = hung_up_leads w why.Memory
ended_with_leads w ring chain finished.NotUnderWay = stays w.backend

places_lead : (w : BlockBackend) (v : Result RunningVring NotRunning) (fresh : Bool)
    → Leads w.backend (placed_by w v fresh).backend
places_lead w (Err e) fresh = stays w.backend
places_lead w (Ok vring) fresh =
    let s = w.backend.connection in
    let t = set_up_at w.queues w.todo.ring w.max_size vring s.features (part_for s.features w.todo.ring s.inflight) fresh
    (slice_get w.queues w.todo.ring) in reach_leads (record w { queues = t.0 }) t.1

freed_leads : (b : BackendState) (w : BlockBackend) (ring : ℕ) (before after : Option (ℕ × Permissions)) → Leads b w.backend
    → Leads b (freed_by w ring before after).backend
freed_leads b w ring None after leads = leads
freed_leads b w ring (Some t) None leads = leads
freed_leads b w ring (Some t) (Some u) leads = leads

-- ---- steps on memory

module _ {H : Type 0} (step : H → (s : MemoryStep) → Returned s → H → Type 0) where
  acts_leads : (w : BlockBackend) (ring : ℕ) (a : RingAction) (old : H) (m : Made) (w' : BlockBackend) (new : H)
      → Acts step w ring a old m w' new → Leads w.backend w'.backend
  acts_leads w ring action.Pop old m w' new p = leads_by (ap (λ v. v.backend) p.0) (stays w.backend)
  acts_leads w ring (action.Serve id left) old m w' new p = leads_by (ap (λ v. v.backend) p.0) (stays w.backend)
  acts_leads w ring (action.Return chain moved failed) old m w' new (r, qs, finishes, is, made) =
      leads_by (ap (λ v. v.backend) is) (ended_with_leads (record w { queues = qs }) ring chain r)
  acts_leads w ring action.Notify old m w' new (r, qs, asks, is, made) =
      leads_by (ap (λ v. v.backend) is) (stays w.backend)
  acts_leads w ring action.Broke old m w' new p = leads_by (ap (λ v. v.backend) p.0) (stays w.backend)
  acts_leads w ring action.Stopped old m w' new p = leads_by (ap (λ v. v.backend) p.0) (stays w.backend)

  first_act_leads : (w : BlockBackend) (o : Option RingAction) (old : H) (m : Made) (w' : BlockBackend) (new : H)
      → ActsFirst step w o old m w' new → Leads w.backend w'.backend
  first_act_leads w None old m w' new p = leads_by (ap (λ t. t.0.backend) p.0) (on_leads w w.todo.message)
  first_act_leads w (Some a) old m w' new p = acts_leads w w.todo.ring a old m w' new p

  gives_leads : (w : BlockBackend) (t : Returning) (old : H) (w' : BlockBackend) (new : H)
      → GivesBackAt step w t old w' new → Leads w.backend w'.backend
  gives_leads w t old w' new (r, qs, gives, is) =
      leads_by (ap (λ v. v.backend) is) (reach_leads (record w { queues = qs }) r)

  returns_leads : (w : BlockBackend) (o : Option Returning) (old : H) (m : Made) (w' : BlockBackend) (new : H)
      → Returns step w o old m w' new → Leads w.backend w'.backend
  returns_leads w None old m w' new p = first_act_leads
      (record w { todo = record w.todo { actions = drop 1 w.todo.actions } })
      (slice_get w.todo.actions 0) old m w' new p
  returns_leads w (Some t) old m w' new p = gives_leads (record w { returning = None }) t old w' new p.0

  pub steps_leads : (w : BlockBackend) (old : H) (m : Made) (w' : BlockBackend) (new : H)
      → Steps step w old m w' new → Leads w.backend w'.backend
  steps_leads w old m w' new = go w.todo.place
    where
      go : (o : Option Place) → StepsFrom step w o old m w' new → Leads w.backend w'.backend
      go None p = returns_leads w w.returning old m w' new p
      go (Some place) p = let v = record w { todo = record w.todo { place = None } } in
          let v' = placed_by v place.vring place.fresh in
          leads_by (ap (λ v. v.backend) p.0) (freed_leads v.backend v' v.todo.ring (awaited (slice_get v.queues v.todo.ring))
          (awaited (slice_get v'.queues v.todo.ring)) (places_lead v place.vring place.fresh))

  -- ---- turns

  turn_told : (b b' : BackendState) (ring : ℕ) (e : Option RingEvent) (r : Option Todo)
      → (b', r) ≡ turn.told b ring e → Leads b b'
  turn_told b b' ring None r is = leads_by (ap (λ t. t.0) is) (stays b)
  turn_told b b' ring (Some e) r is = leads_by (ap (λ t. t.0) is) (Told (event.Ring ring e) ∷ [], refl)

  turn_leads : (way : Option Sight) (w : BlockBackend) (old : H) (is : Bool) (w' : BlockBackend) (new : H)
      → TakesTurn step way w old is w' new → Leads w.backend w'.backend
  turn_leads way w old is w' new (r, b, qs, with, none, was, becomes) =
      leads_by (looks r becomes) (go (slice_get w.queues w.turn) with none)
    where
      looks : (r : Option Todo) → w' ≡ looked (record w { queues = qs; backend = b }) r → w'.backend ≡ b
      looks None becomes = ap (λ v. v.backend) becomes
      looks (Some todo) becomes = ap (λ v. v.backend) becomes
          ∙ asking_kept (λ v. v.backend ≡ b) (λ v q p. p) (λ v ks p. p) (λ v n q l found p. p)
          (record w { queues = qs; backend = b; todo = todo }) w.turn refl

      runs : (q q' : BlockQueueState) (v : Bool) → MatchBool v
          ((e : Option RingEvent) × HappensIn step (terms_of w) way q old e q' new × ((b, r) ≡ turn.told w.backend w.turn e))
          ((r ≡ None) × (b ≡ w.backend) × (q' ≡ q) × (new ≡ old)) → Leads w.backend b
      runs q q' true (e, next, is) = turn_told w.backend b w.turn e r is
      runs q q' false p = leads_by p.1 (stays w.backend)

      go : (o : Option BlockQueueState) → MatchOption o ((r ≡ None) × (qs ≡ w.queues) × (new ≡ old))
          (λ q. (q' : BlockQueueState) × Turns step way (terms_of w) w.turn w.backend b old new q r q'
          × (qs ≡ slice_set w.queues w.turn q'))
          → (o ≡ None → b ≡ w.backend) → Leads w.backend b
      go None p none = leads_by (none refl) (stays w.backend)
      go (Some q) (q', turns, is) none = runs q q' (may_pop w.backend.rings w.turn) turns

  -- ---- looks

  pub looks_leads : (way : Option Sight) (w : BlockBackend) (old : H) (is : Bool) (w' : BlockBackend) (new : H)
      → Looks step way w old is w' new → Leads w.backend w'.backend
  looks_leads way w old is w' new (None, kicks, takes, turns) =
      turn_leads way (record w { kicks = kicks }) old is w' new turns
  looks_leads way w old is w' new (Some ring, kicks, takes, (was, becomes, same)) =
      leads_by (ap (λ v. v.backend) becomes) (told_leads (record w { kicks = kicks }) (event.Ring ring Kick))

  -- one that finds nothing to do leaves no ring that was kicked
  pub none_kicked : (way : Option Sight) (w : BlockBackend) (old : H) (w' : BlockBackend) (new : H)
      → Looks step way w old false w' new
      → (k : ℕ) → slice_get w.kicks k ≡ Some true → ⊥
  none_kicked way w old w' new (None, kicks, takes, turns) k is = takes.0 k is
  none_kicked way w old w' new (Some ring, kicks, takes, (was, becomes, same)) k is = absurd (cc)

  -- ---- the table

  pub changes_lead : (w : BlockBackend) (t : Table) (old : H) (is : Bool) (w' : BlockBackend) (t' : Table) (new : H)
      → ChangesTable step w t old is w' t' new → Leads w.backend w'.backend
  changes_lead w t old is w' t' new changes = table_kept (λ v. Leads w.backend v.backend) (λ v q p. p) (λ v ks p. p)
      (λ v n q l found p. p) step w t old is w' t' new changes (stays w.backend)
