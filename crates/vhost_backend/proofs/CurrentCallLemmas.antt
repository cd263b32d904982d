-- What a program calls beside runs leaves nothing that leads elsewhere than the front end's messages say.
use Rattle.std.proofs.Common.{◌≡◌, ◌∙◌, ℕ, ◌==◌, ◌||◌, ◌&&◌, not, nat_lt, Bool, true, false, List, length, drop, replicate, Option, Some, None, is_some, option_map, Result, Ok, Err, MatchOption, if◌then◌else◌, refl, ap, sym, subst, inl}
use Rattle.std.specs.List.{slice_get}
use Rattle.std.specs.declared.alloc.Global.{Global}
use Rattle.std.proofs.lemmas.List.Elements.{All-nil}
use Rattle.virtio_queue.specs.Packed as packed
use Rattle.virtio_queue.specs.declared.any.AnyQueue.TheVariants.{Packed}
use Rattle.vm_memory_base.specs.Table.{Says, says_nothing}
use Rattle.vhost_message.specs.FrontendReq.{request_of}
use Rattle.vhost_message.specs.Header.{header_in}
use Rattle.vhost_message.specs.declared.backend_req.BackendReply.{BackendReply}
use Rattle.vhost_message.specs.declared.header.Header.{Header}
use Rattle.vhost_message.specs.declared.refusal.Refusal.{Refusal}
use Rattle.vhost_message.specs.declared.refusal.Refusal.TheVariants.{Direction}
use Rattle.vhost_message.specs.declared.regions.MemoryRegion.{MemoryRegion}
use Rattle.vhost_user.specs.declared.backend_req_handler.Offer.{Offer}
use Rattle.vhost_backend.proofs.CurrentMemoryLemmas.{rings_more}
use Rattle.vhost_backend.proofs.CurrentRunLemmas.{after_now, answered_queues, now_as, same_now}
use Rattle.vhost_backend.proofs.CurrentStepLemmas.{hung_up_queues}
use Rattle.vhost_backend.proofs.OwnWayLemmas.{get-replicate}
use Rattle.vhost_backend.proofs.StandLemmas.{AllLess, FetchLess, all_itself, all_same, all_stand, kept_still, set_less, unasked}
use Rattle.vhost_backend.specs.Backend.{is_free}
use Rattle.vhost_backend.specs.Behind.{with_reach}
use Rattle.vhost_backend.specs.BlockBackend.{answered, came, channel_lost, hung_up, in_use, is_done, mapped, mapped_at, region_at, replied_to, reply_by, reply_for, resized, taken_by, with_change}
use Rattle.vhost_backend.specs.BlockConnection.{Connects, Maps, done, ended, failed, kicked, offered, reply_came, reply_in, sent, taken, taken_whole, tracking, with_backend}
use Rattle.vhost_backend.specs.BlockQueue.{BlockQueueState, new_queue}
use Rattle.vhost_backend.specs.ConnectionMemory as memory
use Rattle.vhost_backend.specs.ConnectionMemory.{MemoryState}
use Rattle.vhost_backend.specs.Current.{Current, IsKeptFor, QueueStands, Stands}
use Rattle.vhost_backend.specs.Fetch.{FetchState, stopped, waits}
use Rattle.vhost_backend.specs.Questions.{QuestionsState, after_reply}
use Rattle.vhost_backend.specs.Reach.{refused}
use Rattle.vhost_backend.specs.TableUse.{refused_at}
use Rattle.vhost_backend.specs.declared.block_backend.BlockBackend.{BlockBackend}
use Rattle.vhost_backend.specs.declared.block_connection.BlockConnection.{BlockConnection}
use Rattle.vhost_backend.specs.declared.block_queue.Asked.{Asked}
use Rattle.vhost_backend.specs.declared.deeds.Ask.{Ask}
use Rattle.vhost_backend.specs.declared.deeds.Ask.TheVariants as ask
use Rattle.vhost_backend.specs.declared.deeds.Limits.{Limits}
use Rattle.vhost_backend.specs.declared.deeds.Why.TheVariants as why
use Rattle.vhost_backend.specs.declared.fetch.State.TheVariants.{Stops}
use Rattle.vhost_backend.specs.declared.questions.SentMiss.{SentMiss}

-- ---- queues

came_queues : (w : BlockBackend) (h : Header) (payload : List ℕ) (descriptors : ℕ)
    → (came w h payload descriptors).0.queues ≡ w.queues
came_queues w h payload descriptors = go (is_done w && is_free w.backend.taken)
  where
    go : (v : Bool) → (let r : BlockBackend × Bool = (if v
        then (let v = with_change w (request_of h payload) in (taken_by v h payload descriptors (in_use v), true))
        else (w, false)) in r.0.queues ≡ w.queues)
    go true = refl
    go false = refl

mapped_queues : (w : BlockBackend) (is : Bool) → (mapped w is).queues ≡ w.queues
mapped_queues w is = go w.ask is
  where
    go : (a : Ask) (is : Bool) → (mapped_at w a is).queues ≡ w.queues
    go (ask.Region number) true = refl
    go (ask.Region number) false = refl
    go ask.Nothing is = refl
    go ask.First is = refl
    go (ask.Mapped number) is = refl
    go ask.Answer is = refl

-- a mapping that is waited for does not come
stopped_less : (o : Option FetchState) → FetchLess o (option_map stopped o)
stopped_less None = tt
stopped_less (Some g) = go (waits g.state)
  where
    go : (v : Bool) → FetchLess (Some g) (Some (if v then record g { state = Stops } else g))
    go true = (g, refl, refl, refl)
    go false = (g, refl, refl, refl)

refused_less : (qs : List BlockQueueState) (ring : ℕ) → AllLess qs (refused_at qs ring (slice_get qs ring))
refused_less qs ring = go (slice_get qs ring) refl
  where
    go : (o : Option BlockQueueState) → slice_get qs ring ≡ o → AllLess qs (refused_at qs ring o)
    go None found = all_itself qs
    go (Some q) found = set_less qs ring q (with_reach q (refused q.reach)) found (record {
      pages = refl;
      rows = refl;
      fetch = stopped_less q.reach.fetch;
      asked = unasked q.asked;
    })

reply_less : (w : BlockBackend) (one : SentMiss) (value : ℕ) → AllLess w.queues (reply_for w one value).queues
reply_less w one value = go (one.is_awaited && not (value == 0))
  where
    go : (v : Bool) → AllLess w.queues (if v
        then record w { queues = refused_at w.queues one.ring (slice_get w.queues one.ring) } else w).queues
    go true = refused_less w.queues one.ring
    go false = all_itself w.queues

replied_less : (w : BlockBackend) (r : Result BackendReply Refusal) → AllLess w.queues (replied_to w r).0.queues
replied_less w (Err e) = all_same w.queues _ (hung_up_queues w (why.Refused e))
replied_less w (Ok r) = go (r.request == 1)
  where
    by : (t : QuestionsState × Option SentMiss) → AllLess w.queues (reply_by w r.value t).0.queues
    by (q, Some one) = reply_less (record w { questions = q }) one r.value
    by (q, None) = all_same w.queues _ (hung_up_queues (record w { questions = q }) (why.Refused Direction))

    go : (v : Bool) → AllLess w.queues (let t : BlockBackend × Bool = (if v
        then reply_by w r.value (after_reply w.questions) else (hung_up w (why.Refused Direction), false)) in t.0.queues)
    go true = by (after_reply w.questions)
    go false = all_same w.queues _ (hung_up_queues w (why.Refused Direction))

-- ---- calls

module _ (f : Says) where
  less_now : (c : BlockConnection) (w : BlockBackend) → AllLess c.backend.queues w.queues → Current f c
      → Current f (with_backend c w)
  less_now c w less now = record {
    table = now.table;
    rings = rings_more c.memory.logged (IsKeptFor c.backend.queues) (IsKeptFor w.queues)
        (kept_still c.backend.queues w.queues less) now.rings;
    queues = all_stand f c.backend.queues w.queues less now.queues;
    unjoined = now.unjoined;
  }

  keeps_queues : (c : BlockConnection) (w : BlockBackend) → w.queues ≡ c.backend.queues → Current f c
      → Current f (with_backend c w)
  keeps_queues c w same now = same_now f c (with_backend c w) refl refl refl same now

  pub taken_now : (c : BlockConnection) (message : List ℕ) (descriptors : ℕ) → Current f c
      → Current f (taken c message descriptors).0
  taken_now c message descriptors now = go (nat_lt (length message) 12)
    where
      whole : Current f (taken_whole c message descriptors).0
      whole = keeps_queues c (came c.backend (header_in message) (drop 12 message) descriptors).0
          (came_queues c.backend (header_in message) (drop 12 message) descriptors) now

      on : (v : Bool) → Current f (let t : BlockConnection × Bool = if v then (c, false)
          else taken_whole c message descriptors in t.0)
      on true = now
      on false = whole

      go : (v : Bool) → Current f (let t : BlockConnection × Bool = if v then (c, false)
          else if is_some c.part || is_some c.lost then (c, false) else taken_whole c message descriptors in t.0)
      go true = now
      go false = on (is_some c.part || is_some c.lost)

  pub reply_now : (c : BlockConnection) (message : List ℕ) → Current f c → Current f (reply_came c message).0
  reply_now c message now =
      less_now c (replied_to c.backend (reply_in message)).0 (replied_less c.backend (reply_in message)) now

  pub kicked_now : (c : BlockConnection) (ring : ℕ) → Current f c → Current f (kicked c ring)
  kicked_now c ring now = same_now f c (kicked c ring) refl refl refl refl now

  pub sent_now : (c : BlockConnection) (count : ℕ) → Current f c → Current f (sent c count)
  sent_now c count now = same_now f c (sent c count) refl refl refl refl now

  pub tracking_now : (c : BlockConnection) (bytes : List ℕ) → Current f c → Current f (tracking c bytes)
  tracking_now c bytes now = same_now f c (tracking c bytes) refl refl refl refl now

  pub resized_now : (c : BlockConnection) (sectors : ℕ) → Current f c
      → Current f (with_backend c (resized c.backend sectors))
  resized_now c sectors now = keeps_queues c (resized c.backend sectors) refl now

  pub lost_now : (c : BlockConnection) → Current f c → Current f (with_backend c (channel_lost c.backend))
  lost_now c now = keeps_queues c (channel_lost c.backend) refl now

  pub ended_now : (c : BlockConnection) → Current f c → Current f (ended c)
  ended_now c now = keeps_queues c (hung_up c.backend why.HungUp) (hung_up_queues c.backend why.HungUp) now

  pub done_now : (c : BlockConnection) → Current f c → Current f (done c)
  done_now c now = let d = with_backend c (answered c.backend true) in
      after_now f d (keeps_queues c (answered c.backend true) (answered_queues c.backend true) now)

  pub failed_now : (c : BlockConnection) → Current f c → Current f (failed c)
  failed_now c now = let w = mapped c.backend false in
      keeps_queues c (answered w false) (answered_queues w false ∙ mapped_queues c.backend false) now

  pub mapped_now : (c : BlockConnection) (is : Bool) (c' : BlockConnection) → Maps c is c' → Current f c → Current f c'
  mapped_now c is c' p now = go (region_at c.backend c.backend.ask) p
    where
      mapped_same : (is : Bool) (bytes : List ℕ) (m : MemoryState) → memory.Maps c.memory bytes is m
          → (m.table ≡ c.memory.table) × (m.logged.host.tables ≡ c.memory.logged.host.tables)
          × (m.is_joined ≡ c.memory.is_joined)
      mapped_same true bytes m is = (
        ap (λ (x : MemoryState). x.table) is,
        ap (λ (x : MemoryState). x.logged.host.tables) is,
        ap (λ (x : MemoryState). x.is_joined) is,
      )
      mapped_same false bytes m is = (
        ap (λ (x : MemoryState). x.table) is,
        ap (λ (x : MemoryState). x.logged.host.tables) is,
        ap (λ (x : MemoryState). x.is_joined) is,
      )

      go : (o : Option MemoryRegion) → MatchOption o ((is ≡ false) × (c' ≡ c))
          (λ region. (bytes : List ℕ) × (m : MemoryState) × memory.Maps c.memory bytes is m
          × (c' ≡ record c { memory = m; backend = mapped c.backend is })) → Current f c'
      go None (isnt, same) = now_as f c c' same now
      go (Some region) (bytes, m, maps, becomes) = let same = mapped_same is bytes m maps in
          now_as f _ c' becomes (same_now f c (record c { memory = m; backend = mapped c.backend is }) same.0 same.1 same.2
          (mapped_queues c.backend is) now)

-- ---- a new one

none_asked : (n i : ℕ) (a : Asked) → slice_get (replicate n None) i ≡ Some (Some a) → ⊥
none_asked n i a there = let none : Some a ≡ None = get-replicate n i None (Some a) there in cc

pub new_now : (alloc : Global) (offer : Offer) (count : ℕ) (config : List ℕ) (limits : Limits) (c : BlockConnection)
    → Connects alloc offer count config limits (Ok c) → Current says_nothing c
new_now alloc offer count config limits c (can, is) = now_as says_nothing _ c is (record {
  table = λ x below. inl refl;
  rings = λ t at. absurd (cc);
  queues = λ ring q there.
      let same : q ≡ fresh = get-replicate count ring fresh q there in
      subst (QueueStands says_nothing) (sym same) stands;
  unjoined = λ none. refl;
})
  where
    all : Offer
    all = offered offer limits.table_limit

    fresh : BlockQueueState
    fresh = new_queue (Packed (packed.new_queue all.max_queue_size)) all.max_queue_size

    stands : QueueStands says_nothing fresh
    stands = record {
      pages = All-nil (Stands says_nothing);
      rows = All-nil (Stands says_nothing);
      fetch = tt;
      asked = λ id a there. absurd (none_asked all.max_queue_size id a there);
    }
