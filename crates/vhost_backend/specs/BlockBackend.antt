-- A block device's back end as a whole: what each event makes of it, and what is to be done, step by step.
use Rattle.std.specs.Prelude.{◌≡◌, ℕ, ◌+◌, ◌-◌, ◌^◌, ◌==◌, ◌&&◌, not, min, nat_lt, bit_and, Bool, true, false, if◌then◌else◌, List, [], length, drop, replicate, slice_get, slice_set, Option, Some, None, is_none, is_some, Result, Ok, Err}
use Rattle.std.specs.Int.{to_le_bytes, w64}
use Rattle.std.specs.declared.alloc.Global.{Global}
use Rattle.virtio_blk.specs.declared.request.DeviceLimits.{DeviceLimits}
use Rattle.virtio_queue.specs.declared.error.QueueError.{QueueError}
use Rattle.vhost_message.specs.FrontendReq.{request_of}
use Rattle.vhost_message.specs.declared.backend_req.BackendReply.{BackendReply}
use Rattle.vhost_message.specs.declared.frontend_req.FrontendReq.{FrontendReq}
use Rattle.vhost_message.specs.declared.header.Header.{Header}
use Rattle.vhost_message.specs.declared.refusal.Refusal.{Refusal}
use Rattle.vhost_message.specs.declared.refusal.Refusal.TheVariants.{Direction}
use Rattle.vhost_message.specs.declared.regions.MemoryRegion.{MemoryRegion}
use Rattle.vhost_user.specs.Connection.{connected}
use Rattle.vhost_user.specs.Reply.{inflight_for, refused}
use Rattle.vhost_user.specs.declared.backend_req_handler.Offer.{Offer}
use Rattle.vhost_user.specs.declared.vring.NotRunning.{NotRunning}
use Rattle.vhost_user.specs.declared.vring.RunningVring.{RunningVring}
use Rattle.vhost_backend.specs.Backend.{BackendState, after_event, after_finish, after_message, is_free, is_over, mapping_at, new_backend, over}
use Rattle.vhost_iotlb.specs.declared.kept.Change.{Change}
use Rattle.vhost_backend.specs.BlockQueue.{BlockQueueState}
use Rattle.vhost_backend.specs.BlockQueues.{Asks, FinishesAt, Gives, Turns, WithQueue, based, new_queues, part_of, set_up_at}
use Rattle.vhost_backend.specs.BlockTable.{asked_for, freed_by}
use Rattle.vhost_backend.specs.Config.{config_changed}
use Rattle.vhost_backend.specs.Kicks.{TakesKick}
use Rattle.vhost_backend.specs.PageList.{capped}
use Rattle.vhost_backend.specs.Questions.{QuestionsState, after_reply, has_next, lost, no_questions, stale, taken_due}
use Rattle.vhost_backend.specs.RingMemory.{MemoryStep, Returned}
use Rattle.vhost_backend.specs.SetUp.{part_for}
use Rattle.vhost_backend.specs.TableChange.{change_in}
use Rattle.vhost_backend.specs.Wanted.{wanted_at}
use Rattle.vhost_backend.specs.declared.backend.Finish.{Finish}
use Rattle.vhost_backend.specs.declared.backend.Finish.TheVariants as finish
use Rattle.vhost_backend.specs.declared.backend.Next.{Next}
use Rattle.vhost_backend.specs.declared.backend.Next.TheVariants as next
use Rattle.vhost_backend.specs.declared.backend.Outcome.{Outcome}
use Rattle.vhost_backend.specs.declared.backend.Outcome.TheVariants as outcome
use Rattle.vhost_backend.specs.declared.backend.Place.{Place}
use Rattle.vhost_backend.specs.declared.backend.Todo.{Todo}
use Rattle.vhost_backend.specs.TableUse as use_of
use Rattle.vhost_backend.specs.TableUse.{awaited, kicked_to, refused_at}
use Rattle.vhost_backend.specs.declared.block.BlockStep.{BlockStep}
use Rattle.vhost_backend.specs.declared.deeds.Ask.{Ask}
use Rattle.vhost_backend.specs.declared.deeds.Ask.TheVariants as ask
use Rattle.vhost_backend.specs.declared.block_backend.BlockBackend.{BlockBackend}
use Rattle.vhost_backend.specs.declared.block_backend.Returning.{Returning}
use Rattle.vhost_backend.specs.declared.block_queue.Finished.{Finished}
use Rattle.vhost_backend.specs.declared.block_queue.Finished.TheVariants as finished
use Rattle.vhost_backend.specs.Sight.{Sight}
use Rattle.vhost_backend.specs.declared.deeds.Deed.{Deed}
use Rattle.vhost_backend.specs.declared.deeds.Deed.TheVariants as deed
use Rattle.vhost_backend.specs.declared.deeds.Limits.{Limits}
use Rattle.vhost_backend.specs.declared.deeds.Made.{Made}
use Rattle.vhost_backend.specs.declared.deeds.Made.TheVariants as made
use Rattle.vhost_backend.specs.declared.deeds.Why.{Why}
use Rattle.vhost_backend.specs.declared.deeds.Why.TheVariants as why
use Rattle.vhost_backend.specs.declared.block_queues.Reached.{Reached}
use Rattle.vhost_backend.specs.declared.block_queues.Reached.TheVariants as reached
use Rattle.vhost_backend.specs.declared.mapping.Mapping.{Mapping}
use Rattle.vhost_backend.specs.declared.mapping.Mapping.TheVariants.{Map}
use Rattle.vhost_backend.specs.declared.questions.Miss.{Miss}
use Rattle.vhost_backend.specs.declared.questions.SentMiss.{SentMiss}
use Rattle.vhost_backend.specs.declared.request.Chain.{Chain}
use Rattle.vhost_backend.specs.declared.ring.RingEvent.TheVariants.{Break, Kick}
use Rattle.vhost_backend.specs.declared.ring.actions.RingAction.{RingAction}
use Rattle.vhost_backend.specs.declared.ring.actions.RingAction.TheVariants as action
use Rattle.vhost_backend.specs.declared.rings.Event.{Event}
use Rattle.vhost_backend.specs.declared.rings.Event.TheVariants as event
use Rattle.vhost_backend.specs.declared.wanted.Purpose.TheVariants.{Call, Channel}
use Rattle.vhost_backend.specs.declared.wanted.Wanted.{Wanted}
use Rattle.vhost_backend.specs.declared.wanted.Wanted.TheVariants as wanted

-- a new one, as a new connection, with nothing to do. No chain has an id above the greatest size of a ring
abbrev pub new_block_backend : Global → Offer → ℕ → List ℕ → Limits → BlockBackend
new_block_backend alloc offer count config limits = record {
  alloc = alloc;
  backend = new_backend (connected offer count config) offer.max_queue_size;
  queues = new_queues count offer.max_queue_size;
  max_size = offer.max_queue_size;
  limits = limits;
  todo = record { ring = 0; place = None; actions = []; message = outcome.Stays };
  returning = None;
  broken = false;
  ask = ask.Nothing;
  reply = [];
  called = None;
  end = None;
  kicks = replicate count false;
  turn = 0;
  unread = 0;
  finished = false;
  change = None;
  channel = false;
  questions = no_questions count;
}

-- ---- what requests are held against

abbrev pub limit_if : Bool → ℕ → Option ℕ
limit_if true limit = Some limit
limit_if false limit = None

abbrev pub terms_by : Limits → ℕ → DeviceLimits
terms_by limits acked = record {
  sectors = min limits.sectors (2 ^ 55 - 1);
  read_only = limits.read_only;
  acked = acked;
  seg_max = limit_if (not (bit_and acked 4 == 0)) limits.seg_max;
  size_max = limit_if (not (bit_and acked 2 == 0)) limits.size_max;
}

abbrev pub terms_of : BlockBackend → DeviceLimits
terms_of w = terms_by w.limits w.backend.connection.features

-- ---- whether something is left to be done

abbrev pub is_quiet : Outcome → Bool
is_quiet outcome.Stays = true
is_quiet _ = false

-- nothing is to be asked for: there is nothing, or it is to be told how that went
abbrev pub is_asked : Ask → Bool
is_asked ask.First = false
is_asked (ask.Mapped count) = false
is_asked _ = true

-- the front end is asked or told something on the channel, but not between a message and its reply
abbrev pub may_ask : BlockBackend → Bool
may_ask w = is_free w.backend.taken && has_next w.questions

abbrev pub is_done : BlockBackend → Bool
is_done w = is_none w.todo.place && (length w.todo.actions == 0) && is_quiet w.todo.message && is_none w.returning
    && not w.broken && is_asked w.ask && (length w.reply == 0) && is_none w.called && is_none w.end && not (may_ask w)

-- ---- events

-- it is told something, and has that to do
abbrev pub told : BlockBackend → Event → BlockBackend
told w e = let t = after_event w.backend e in record w { backend = t.0; todo = t.1 }

abbrev pub in_use_by : List BlockQueueState → Option Change → Bool
in_use_by qs None = false
in_use_by qs (Some c) = use_of.in_use c qs

-- whether the message on the table changes mappings that are in use
abbrev pub in_use : BlockBackend → Bool
in_use w = in_use_by w.queues w.change

-- what it changes is known when it comes
abbrev pub with_change : BlockBackend → Result FrontendReq Refusal → BlockBackend
with_change w asked = record w { change = change_in w.backend.connection.memory asked }

abbrev pub taken_by : BlockBackend → Header → List ℕ → ℕ → Bool → BlockBackend
taken_by w h payload descriptors used =
    let t = after_message w.backend h payload descriptors used in record w { backend = t.0; todo = t.1 }

-- a message is taken if nothing is left to be done, and the one before it is over
abbrev pub came : BlockBackend → Header → List ℕ → ℕ → BlockBackend × Bool
came w h payload descriptors = if is_done w && is_free w.backend.taken
    then (let v = with_change w (request_of h payload) in (taken_by v h payload descriptors (in_use v), true))
    else (w, false)

-- the first ring in the line has its turn
abbrev pub gone_on : BlockBackend → BlockBackend
gone_on w = let t = after_event w.backend event.GoOn in record w { backend = t.0; todo = t.1; turn = t.1.ring }

-- the connection is over
abbrev pub hung_up : BlockBackend → Why → BlockBackend
hung_up w y = if is_over w.backend.taken then record w { ask = ask.Nothing }
    else record w { ask = ask.Nothing; backend = over w.backend; end = Some y }

-- the message that took effect is over
abbrev pub end_after : Option Why → Next → Option Why
end_after e next.Messages = e
end_after e next.End = Some why.Failed

abbrev pub finished_by : BlockBackend → Finish → BlockBackend
finished_by w e = let t = after_finish w.backend e in record w {
  ask = ask.Nothing;
  finished = true;
  backend = t.0;
  reply = t.1.0;
  end = end_after w.end t.1.1;
}

-- the region that is to be mapped
abbrev pub region_in : Option Mapping → Option MemoryRegion
region_in (Some (Map region descriptor)) = Some region
region_in _ = None

abbrev pub region_at : BlockBackend → Ask → Option MemoryRegion
region_at w (ask.Region number) = region_in (mapping_at w.backend.taken number)
region_at w _ = None

-- it was, or could not be
abbrev pub mapped_at : BlockBackend → Ask → Bool → BlockBackend
mapped_at w (ask.Region number) true = record w { ask = ask.Mapped (capped (number + 1)) }
mapped_at w (ask.Region number) false = finished_by w finish.Failed
mapped_at w _ is = w

abbrev pub mapped : BlockBackend → Bool → BlockBackend
mapped w is = mapped_at w w.ask is

-- what was asked for was done, or could not be. A ring with a new call descriptor is interrupted once
abbrev pub called_by : Option ℕ → Wanted → Option ℕ
called_by before (wanted.Descriptor (Call ring) is) = Some ring
called_by before _ = before

-- nothing is without a reply on a new channel
abbrev pub channel_by : Bool → Wanted → Bool
channel_by before (wanted.Descriptor Channel is) = is
channel_by before _ = before

abbrev pub questions_by : QuestionsState → Wanted → QuestionsState
questions_by before (wanted.Descriptor Channel is) = lost before
questions_by before _ = before

-- a ring that waits for a mapping asks for it there, or gives up
abbrev pub kicks_by : List BlockQueueState → List Bool → Wanted → List Bool
kicks_by qs before (wanted.Descriptor Channel is) = kicked_to (length qs) qs before
kicks_by qs before _ = before

abbrev pub with_channel : BlockBackend → Wanted → BlockBackend
with_channel w x = record w {
  channel = channel_by w.channel x;
  questions = questions_by w.questions x;
  kicks = kicks_by w.queues w.kicks x;
}

abbrev pub answered_at : BlockBackend → Ask → Bool → BlockBackend
answered_at w ask.Answer true = let x = wanted_at w.backend.taken in
    finished_by (with_channel (record w { called = called_by w.called x }) x) finish.Done
answered_at w ask.Answer false = finished_by w finish.Failed
answered_at w _ is = w

abbrev pub answered : BlockBackend → Bool → BlockBackend
answered w is = answered_at w w.ask is

-- no reply comes any more, and what waits for a mapping gives up
abbrev pub channel_lost : BlockBackend → BlockBackend
channel_lost w = record w {
  channel = false;
  questions = lost w.questions;
  kicks = kicked_to (length w.queues) w.queues w.kicks;
}

-- a ring that waits for a mapping which the front end does not have gives up
abbrev pub refused_one : BlockBackend → SentMiss → ℕ → BlockBackend
refused_one w one value = if one.is_awaited && not (value == 0)
    then record w { queues = refused_at w.queues one.ring (slice_get w.queues one.ring) } else w

-- and it is looked at: if it still waits, it asks again
abbrev pub reply_for : BlockBackend → SentMiss → ℕ → BlockBackend
reply_for w one value = let w' = refused_one w one value in record w' { kicks = slice_set w'.kicks one.ring true }

-- a reply that nobody asked for ends the connection
abbrev pub reply_by : BlockBackend → ℕ → QuestionsState × Option SentMiss → BlockBackend × Bool
reply_by w value (questions, Some one) = (reply_for (record w { questions = questions }) one value, true)
reply_by w value (questions, None) = (hung_up (record w { questions = questions }) (why.Refused Direction), false)

abbrev pub reply_taken : BlockBackend → BackendReply → BlockBackend × Bool
reply_taken w r = if r.request == 1 then reply_by w r.value (after_reply w.questions)
    else (hung_up w (why.Refused Direction), false)

abbrev pub replied_to : BlockBackend → Result BackendReply Refusal → BlockBackend × Bool
replied_to w (Ok r) = reply_taken w r
replied_to w (Err e) = (hung_up w (why.Refused e), false)

-- the disk has so many sectors, and the configuration begins with them
abbrev pub resized : BlockBackend → ℕ → BlockBackend
resized w sectors = record w {
  limits = record w.limits { sectors = sectors };
  backend = config_changed w.backend 0 (to_le_bytes w64 sectors);
}

-- ---- what is to be done without memory

abbrev pub messaged : BlockBackend → Outcome → BlockBackend
messaged w outcome.Stays = w
messaged w outcome.Begins = record w { ask = ask.First }
messaged w (outcome.Refused e h) =
    hung_up (record w { reply = refused w.backend.connection h }) (why.Refused e)

-- the last thing that a message asks for
abbrev pub asked_last : BlockBackend → Deed → BlockBackend × Made
asked_last w d = (record w { ask = ask.Answer }, made.Deed d)

-- what a message that took effect asks for first
abbrev pub asked_first_by : BlockBackend → Wanted → BlockBackend × Made
asked_first_by w wanted.Nothing = (record w { ask = ask.Nothing }, made.Again)
asked_first_by w wanted.Memory = (record w { ask = ask.Mapped 1 }, made.Deed deed.UnmapAll)
asked_first_by w (wanted.Log size offset) = asked_last w (deed.Log size offset)
asked_first_by w (wanted.File asked) = asked_last w (deed.File (inflight_for w.backend.connection asked).mmap_size)
asked_first_by w (wanted.Region size offset) = asked_last w (deed.Region size offset)
asked_first_by w (wanted.Descriptor purpose is) = asked_last w (deed.Keep purpose is)
asked_first_by w (wanted.Base ring) = let t = based w.queues ring (slice_get w.queues ring) in
    (finished_by (record w { queues = t.0; questions = stale w.questions ring }) t.1, made.Again)
asked_first_by w wanted.Table = asked_last w deed.Table
asked_first_by w wanted.Finish = (finished_by w finish.Done, made.Again)

abbrev pub asked_first : BlockBackend → BlockBackend × Made
asked_first w = asked_first_by w (wanted_at w.backend.taken)

-- the regions are mapped one after another, and then they become guest memory
abbrev pub asked_more_by : BlockBackend → ℕ → Option Mapping → BlockBackend × Made
asked_more_by w number (Some (Map region descriptor)) =
    (record w { ask = ask.Region number }, made.Deed (deed.Map region descriptor))
asked_more_by w number _ = (record w { ask = ask.Answer }, made.Deed deed.Join)

abbrev pub asked_more : BlockBackend → ℕ → BlockBackend × Made
asked_more w number = asked_more_by w number (mapping_at w.backend.taken number)

-- the reply is sent. If too many bytes wait by then, the connection is over
abbrev pub counted : BlockBackend → ℕ → BlockBackend
counted w unread = if nat_lt w.limits.unread unread then hung_up (record w { unread = unread }) why.Unread
    else record w { unread = unread }

abbrev pub replied : BlockBackend → BlockBackend × Made
replied w = (counted w (capped (w.unread + length w.reply)), made.Deed deed.Send)

-- the front end is asked for a mapping
abbrev pub asked_due : BlockBackend → QuestionsState × Option Miss → BlockBackend × Made
asked_due w (questions, Some miss) = (record w { questions = questions }, made.Deed (deed.Ask miss))
asked_due w (questions, None) = (record w { questions = questions }, made.Again)

abbrev pub asked_next : BlockBackend → BlockBackend × Made
asked_next w = asked_due w (taken_due w.questions)

abbrev pub said_on_channel : BlockBackend → BlockBackend × Made
said_on_channel w = if may_ask w then asked_next w else (w, made.Idle)

abbrev pub ended_by : BlockBackend → Option Why → BlockBackend × Made
ended_by w (Some y) = (record w { end = None }, made.Deed (deed.End y))
ended_by w None = said_on_channel w

abbrev pub called_up : BlockBackend → Option ℕ → BlockBackend × Made
called_up w (Some ring) = (record w { called = None }, made.Deed (deed.Interrupt ring))
called_up w None = ended_by w w.end

abbrev pub said_last : BlockBackend → BlockBackend × Made
said_last w = if length w.reply == 0 then called_up w w.called else replied w

abbrev pub asked_by : BlockBackend → Ask → BlockBackend × Made
asked_by w ask.First = asked_first w
asked_by w (ask.Mapped number) = asked_more w number
asked_by w _ = said_last w

-- a ring that cannot be reached breaks
abbrev pub broke_if : BlockBackend → Bool → BlockBackend × Made
broke_if w true = (told (record w { broken = false }) (event.Ring w.todo.ring Break), made.Again)
broke_if w false = asked_by w w.ask

abbrev pub stepped_on_by : BlockBackend → Outcome → BlockBackend × Made
stepped_on_by w outcome.Stays = broke_if w w.broken
stepped_on_by w o = (messaged (record w { todo = record w.todo { message = outcome.Stays } }) o, made.Again)

abbrev pub stepped_on : BlockBackend → BlockBackend × Made
stepped_on w = stepped_on_by w w.todo.message

-- ---- what is to be done on memory

abbrev pub after_reach : BlockBackend → Reached → BlockBackend
after_reach w reached.Fine = w
after_reach w reached.Broken = record w { broken = true }

abbrev pub set_up_by : BlockBackend → RunningVring → Bool → BlockBackend
set_up_by w vring fresh =
    let s = w.backend.connection in
    let t = set_up_at w.queues w.todo.ring w.max_size vring s.features (part_for s.features w.todo.ring s.inflight) fresh
    (slice_get w.queues w.todo.ring) in after_reach (record w { queues = t.0 }) t.1

-- a queue is told where its ring lies, if that runs
abbrev pub placed_by : BlockBackend → Result RunningVring NotRunning → Bool → BlockBackend
placed_by w (Ok vring) fresh = set_up_by w vring fresh
placed_by w (Err e) fresh = w

abbrev pub placed : BlockBackend → Place → BlockBackend
placed w place = let w' = placed_by w place.vring place.fresh in
    freed_by w' w.todo.ring (awaited (slice_get w.queues w.todo.ring)) (awaited (slice_get w'.queues w.todo.ring))

-- a part is served, after which its request has one less
abbrev pub part_deed : ℕ → ℕ → ℕ → Option BlockStep → Made
part_deed ring id left None = made.Again
part_deed ring id left (Some part) = made.Deed (deed.Part ring id part (left - 1))

-- the chain of a request that is over is to be returned
abbrev pub ended_with : BlockBackend → ℕ → Chain → Finished → BlockBackend
ended_with w ring chain (finished.Done len) =
    record w { returning = Some (record { ring = ring; chain = chain; len = len }) }
ended_with w ring chain finished.Forgotten = hung_up w why.Memory
ended_with w ring chain finished.NotUnderWay = w

-- a driver is interrupted unless it asks not to be: also if that cannot be read
abbrev pub notified : ℕ → Result Bool QueueError → Made
notified ring (Ok false) = made.Again
notified ring (Ok true) = made.Deed (deed.Interrupt ring)
notified ring (Err e) = made.Deed (deed.Interrupt ring)

-- a step of a turn that was taken. If the ring waits for a mapping then, it asks for that
abbrev pub looked : BlockBackend → Option Todo → BlockBackend
looked w None = w
looked w (Some todo) = asked_for (record w { todo = todo }) w.turn

module _ {H : Type 0} (step : H → (s : MemoryStep) → Returned s → H → Type 0) where
  -- what is to be done for a ring is done, or is to be done by the program
  abbrev pub Acts : BlockBackend → ℕ → RingAction → H → Made → BlockBackend → H → Type 0
  Acts w ring action.Pop old m w' new = (w' ≡ w) × (m ≡ made.Again) × (new ≡ old)
  Acts w ring (action.Serve id left) old m w' new =
      (w' ≡ w) × (m ≡ part_deed ring id left (part_of id left (slice_get w.queues ring))) × (new ≡ old)
  Acts w ring (action.Return chain moved failed) old m w' new =
      (r : Finished) × (qs : List BlockQueueState) × FinishesAt step w.queues ring chain moved failed old r qs new
      × (w' ≡ ended_with (record w { queues = qs }) ring chain r) × (m ≡ made.Again)
  Acts w ring action.Notify old m w' new = (r : Result Bool QueueError) × (qs : List BlockQueueState)
      × WithQueue w.queues ring (Ok false) old r qs new (Asks step old new)
      × (w' ≡ record w { queues = qs }) × (m ≡ notified ring r)
  Acts w ring action.Broke old m w' new = (w' ≡ w) × (m ≡ made.Deed (deed.Tell ring)) × (new ≡ old)
  Acts w ring action.Stopped old m w' new = (w' ≡ w) × (m ≡ made.Deed (deed.Stopped ring)) × (new ≡ old)

  -- a step of what follows from an event: a place, a return, an action for a ring, and then what comes after these
  abbrev pub ActsFirst : BlockBackend → Option RingAction → H → Made → BlockBackend → H → Type 0
  ActsFirst w None old m w' new = ((w', m) ≡ stepped_on w) × (new ≡ old)
  ActsFirst w (Some a) old m w' new = Acts w w.todo.ring a old m w' new

  -- a chain is returned
  abbrev pub GivesBackAt : BlockBackend → Returning → H → BlockBackend → H → Type 0
  GivesBackAt w t old w' new = (r : Reached) × (qs : List BlockQueueState)
      × WithQueue w.queues t.ring reached.Fine old r qs new (Gives step t.chain t.len old new)
      × (w' ≡ after_reach (record w { queues = qs }) r)

  -- the chain of a request that is over is returned before anything else is done
  abbrev pub Returns : BlockBackend → Option Returning → H → Made → BlockBackend → H → Type 0
  Returns w None old m w' new = ActsFirst
      (record w { todo = record w.todo { actions = drop 1 w.todo.actions } }) (slice_get w.todo.actions 0) old m w' new
  Returns w (Some t) old m w' new = GivesBackAt (record w { returning = None }) t old w' new × (m ≡ made.Again)

  abbrev pub StepsFrom : BlockBackend → Option Place → H → Made → BlockBackend → H → Type 0
  StepsFrom w None old m w' new = Returns w w.returning old m w' new
  StepsFrom w (Some place) old m w' new =
      (w' ≡ placed (record w { todo = record w.todo { place = None } }) place) × (m ≡ made.Again) × (new ≡ old)

  abbrev pub Steps : BlockBackend → H → Made → BlockBackend → H → Type 0
  Steps w = StepsFrom w w.todo.place

  -- a ring that was kicked is looked at, or else the one that has its turn takes a step of it
  abbrev pub TakesTurn : Option Sight → BlockBackend → H → Bool → BlockBackend → H → Type 0
  TakesTurn way w old is w' new = (r : Option Todo) × (b : BackendState) × (qs : List BlockQueueState)
      × WithQueue w.queues w.turn None old r qs new (Turns step way (terms_of w) w.turn w.backend b old new)
      × (slice_get w.queues w.turn ≡ None → b ≡ w.backend) × (is ≡ is_some r)
      × (w' ≡ looked (record w { queues = qs; backend = b }) r)

  abbrev pub LooksAt : Option Sight → BlockBackend → Option ℕ → H → Bool → BlockBackend → H → Type 0
  LooksAt way w (Some ring) old is w' new = (is ≡ true) × (w' ≡ told w (event.Ring ring Kick)) × (new ≡ old)
  LooksAt way w None old is w' new = TakesTurn way w old is w' new

  abbrev pub Looks : Option Sight → BlockBackend → H → Bool → BlockBackend → H → Type 0
  Looks way w old is w' new = (ring : Option ℕ) × (kicks : List Bool) × TakesKick w.kicks ring kicks
      × LooksAt way (record w { kicks = kicks }) ring old is w' new
