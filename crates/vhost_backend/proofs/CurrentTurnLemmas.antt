-- A step of a ring's turn leaves all that is kept, fetched and under way where the messages say.
use Rattle.std.proofs.Common.{◌≡◌, ◌⊎◌, ℕ, Bool, true, false, List, Contains, Option, Some, None, Result, Ok, Err, MatchBool, MatchOption, refl, ap, sym, subst}
use Rattle.std.specs.List.{slice_get, slice_set}
use Rattle.std.specs.declared.alloc.AllocError.{AllocError}
use Rattle.vm_memory_base.specs.Table.{Says, says}
use Rattle.vm_memory_base.specs.declared.iotlb.Permissions.{Permissions}
use Rattle.vm_memory_guest.specs.declared.region.error.GuestMemoryError.{GuestMemoryError}
use Rattle.virtio_queue.specs.Any.{at_next, next_avail_of, past}
use Rattle.virtio_queue.specs.declared.any.AnyQueue.{AnyQueue}
use Rattle.virtio_queue.specs.declared.any.AnyQueue.TheVariants.{Split, Packed}
use Rattle.virtio_queue.specs.declared.error.QueueError.{QueueError}
use Rattle.virtio_blk.specs.declared.request.DeviceLimits.{DeviceLimits}
use Rattle.virtio_blk.specs.declared.request.Request.{Request}
use Rattle.virtio_blk.specs.declared.request.Request.TheVariants.{Refused}
use Rattle.vhost_iotlb.specs.declared.kept.Kept.{Kept}
use Rattle.vhost_backend.proofs.CurrentStageLemmas.{LeadsLaw, after_look, behind_holds}
use Rattle.vhost_backend.proofs.FlightLemmas.{flies_else, resumes_is}
use Rattle.vhost_backend.proofs.KeepLemmas.{IsPlain, asks_keep, flies_keep, known_here_keeps, next_keeps, resumes_keep}
use Rattle.vhost_backend.proofs.StandLemmas.{AskedLess, HoldsAll, HoldsOne, QueueLess, alike, began_asked, less_as, less_stands, one_holds, queue_itself, queue_then, unasked}
use Rattle.vhost_backend.specs.Behind.{HappensBy}
use Rattle.vhost_backend.specs.BlockBackend.{Looks, TakesTurn, looked, terms_of, told}
use Rattle.vhost_backend.specs.BlockQueue.{AfterAsk, AfterPop, AfterRead, Asks, BlockQueueState, HappensNext, Pops, ReadsBy, begun, has_place, popped, read_by, with_queue}
use Rattle.vhost_backend.specs.BlockQueues.{Turns}
use Rattle.vhost_backend.specs.BlockTable.{asked_by, asked_for}
use Rattle.vhost_backend.specs.BlockTurn as turn
use Rattle.vhost_backend.specs.Current.{IsKeptBy}
use Rattle.vhost_backend.specs.Flight.{AfterAskCopies, AfterCopies, AfterFirst, AfterKnown, FindsCopies, Flies, HappensFirst, HappensIn, HappensNew, PopsAgain, PopsCopies, Resumes, found_as, gone_to, is_due, is_open, next_again}
use Rattle.vhost_backend.specs.PackedFlight.{PackedFlightState, buffer_of}
use Rattle.vhost_backend.specs.declared.fetch.Found.{Found}
use Rattle.virtio_queue.specs.Packed.{PackedVirtqueue}
use Rattle.virtio_queue.specs.declared.packed.descriptor.PackedDescriptor.{PackedDescriptor}
use Rattle.virtio_queue.specs.declared.packed.state.PackedBuffer.{PackedBuffer}
use Rattle.vhost_backend.specs.RingMemory.{MemoryStep, Returned, begins, finds_copies, forgets, keeps, pops_again}
use Rattle.vhost_backend.specs.Rings.{may_pop}
use Rattle.vhost_backend.specs.Sight.{Sight}
use Rattle.vhost_backend.specs.TableUse.{awaited}
use Rattle.vhost_backend.specs.declared.backend.Todo.{Todo}
use Rattle.vhost_backend.specs.declared.block_backend.BlockBackend.{BlockBackend}
use Rattle.vhost_backend.specs.declared.block_queue.Pop.{Pop}
use Rattle.vhost_backend.specs.declared.block_queue.Pop.TheVariants as pop
use Rattle.vhost_backend.specs.declared.ring.RingEvent.{RingEvent}

-- ---- a ring whose addresses go through no table

module _ {H : Type 0} (step : H → (s : MemoryStep) → Returned s → H → Type 0) (terms : DeviceLimits) where
  same : (q q' : BlockQueueState) → q' ≡ q → QueueLess q q'
  same q q' is = less_as q q q' is (queue_itself q)

  pops_less : (q : BlockQueueState) (old : H) (found : Pop) (q' : BlockQueueState) (new : H)
      → Pops step terms q old found q' new → QueueLess q q'
  pops_less q old found q' new (Ok None, mid, stepped, (is, kept, still)) = same q q' kept
  pops_less q old found q' new (Err error, mid, stepped, (is, kept, still)) = same q q' kept
  pops_less q old found q' new (Ok (Some p), mid, stepped, rest) = go (has_place q p.0.id) rest
    where
      next : BlockQueueState
      next = with_queue q (past q.queue p.0)

      read : (request : Result Request GuestMemoryError) → (found, q') ≡ begun q.queue next p.0 p.1 request
          → QueueLess q q'
      read (Ok request) is = less_as q _ q' (ap (λ t. t.1) is)
          (alike q _ refl (began_asked q.asked p.0.id _ refl))
      read (Err error) is = less_as q _ q' (ap (λ t. t.1) is) (alike q _ refl (unasked q.asked))

      go : (place : Bool) → MatchBool place
          ((request : Result Request GuestMemoryError) × step mid (begins terms p.1) request new
          × ((found, q') ≡ begun q.queue next p.0 p.1 request))
          ((found ≡ popped p.0 (Refused 1)) × (q' ≡ next) × (new ≡ mid)) → QueueLess q q'
      go true (request, took, is) = read request is
      go false (is, kept, still) = less_as q next q' kept (alike q next refl (unasked q.asked))

  asks_less : (q : BlockQueueState) (answer : Result Bool QueueError) (asked : H) (e : Option RingEvent)
      (q' : BlockQueueState) (new : H) → AfterAsk step terms q answer asked e q' new → QueueLess q q'
  asks_less q (Ok true) asked e q' new (found, pops, is) = pops_less q asked found q' new pops
  asks_less q (Ok false) asked e q' new (is, kept, still) = same q q' kept
  asks_less q (Err error) asked e q' new (is, kept, still) = same q q' kept

  after_less : (q : BlockQueueState) (found : Pop) (mid : H) (e : Option RingEvent) (q' : BlockQueueState) (new : H)
      → AfterPop step terms found q mid e q' new → QueueLess q q'
  after_less q pop.None mid e q' new (answer, asked, asks, after) = asks_less q answer asked e q' new after
  after_less q (pop.Chain chain parts bytes) mid e q' new (is, kept, still) = same q q' kept
  after_less q (pop.Broken error) mid e q' new (is, kept, still) = same q q' kept
  after_less q pop.Later mid e q' new (is, kept, still) = same q q' kept

  reads_less : (q : BlockQueueState) (v : Bool) (u : AnyQueue) (old : H) (r : Result (Unit {0}) QueueError)
      (q' : BlockQueueState) (new : H) → ReadsBy step q v u old r q' new → QueueLess q q'
  reads_less q true (Split u) old r q' new (next, took, is) = go next is
    where
      go : (next : Result ℕ QueueError) → (q', r) ≡ read_by q u next → QueueLess q q'
      go (Ok next) is = less_as q _ q' (ap (λ t. t.0) is) (alike q _ refl (unasked q.asked))
      go (Err e) is = same q q' (ap (λ t. t.0) is)
  reads_less q true (Packed u) old r q' new (done, is, still) =
      less_as q _ q' is (alike q _ refl (unasked q.asked))
  reads_less q false u old r q' new (done, is, still) = same q q' is

  next_less : (q : BlockQueueState) (old : H) (e : Option RingEvent) (q' : BlockQueueState) (new : H)
      → HappensNext step terms q old e q' new → QueueLess q q'
  next_less q old e q' new (read, mid_q, mid, reads, after) =
      queue_then q mid_q q' (reads_less q q.is_unread q.queue old read mid_q mid reads) (go read after)
    where
      go : (r : Result (Unit {0}) QueueError) → AfterRead step terms r mid_q mid e q' new → QueueLess mid_q q'
      go (Ok done) (found, next_q, next, pops, after) = queue_then mid_q next_q q'
          (pops_less mid_q mid found next_q next pops) (after_less next_q found next e q' new after)
      go (Err error) (is, kept, still) = same mid_q q' kept

  -- ---- what was in flight

  known_here_less : (q : BlockQueueState) (r : Result (Option Found) QueueError) (old : H) (e : Option RingEvent)
      (q' : BlockQueueState) (new : H) → AfterKnown step terms None q r old e q' new → QueueLess q q'
  known_here_less q (Err error) old e q' new (is, kept, still) = same q q' kept
  known_here_less q (Ok None) old e q' new (is, kept, still) = same q q' kept
  known_here_less q (Ok (Some f)) old e q' new (found, rest, is) = go (has_place q f.buffer.id) rest
    where
      back : AnyQueue
      back = at_next (at_next q.queue f.after) (next_avail_of q.queue)

      read : (request : Result Request GuestMemoryError)
          → (found, q') ≡ begun back (gone_to q f.after) f.buffer f.chain request → QueueLess q q'
      read (Ok request) is =
          less_as q _ q' (ap (λ t. t.1) is) (alike q _ refl (began_asked q.asked f.buffer.id _ refl))
      read (Err error) is = less_as q _ q' (ap (λ t. t.1) is) (alike q _ refl (unasked q.asked))

      go : (place : Bool) → MatchBool place
          ((request : Result Request GuestMemoryError) × step old (begins terms f.chain) request new
          × ((found, q') ≡ begun back (gone_to q f.after) f.buffer f.chain request))
          ((found ≡ popped f.buffer (Refused 1)) × (q' ≡ gone_to q f.after) × (new ≡ old)) → QueueLess q q'
      go true (request, took, is) = read request is
      go false (is, kept, still) = less_as q _ q' kept (alike q _ refl (unasked q.asked))

-- a queue of which what is kept and fetched and under way is the same
same_less : (q q' : BlockQueueState) → q'.reach ≡ q.reach → q'.asked ≡ q.asked → QueueLess q q'
same_less q q' reach asked = alike q q' reach (subst (AskedLess q.asked) (sym asked) (unasked q.asked))

-- ---- all rings

-- what is asked for changes no queue
pub asked_queues : (w : BlockBackend) (ring : ℕ) → (asked_for w ring).queues ≡ w.queues
asked_queues w ring = go (awaited (slice_get w.queues ring))
  where
    go : (o : Option (ℕ × Permissions)) → (asked_by w ring o).queues ≡ w.queues
    go None = refl
    go (Some t) = refl

module _ {H : Type 0} (step : H → (s : MemoryStep) → Returned s → H → Type 0) (T : H → (Kept → Type 0) → Type 0)
    (more : (h : H) (S S' : Kept → Type 0) → ((k : Kept) → S k → S' k) → T h S → T h S')
    (plain : (old : H) (s : MemoryStep) (r : Returned s) (new : H) (S : Kept → Type 0) → IsPlain s → step old s r new
    → T old S → T new S) (f : Says) where
  -- no more is kept, and what is known of the table stays
  less_holds : (q : BlockQueueState) (old : H) (q' : BlockQueueState) (new : H) → QueueLess q q'
      → ((P : Kept → Type 0) → T old P → T new P) → (S : Kept → Type 0) → HoldsOne T f S old q → HoldsOne T f S new q'
  less_holds q old q' new less goes S (t, stands) =
      let P : Kept → Type 0 = λ k. S k ⊎ IsKeptBy q.reach k in (
        subst (λ (rows : List Kept). T new (λ k. S k ⊎ (Contains q'.reach.pages k ⊎ Contains rows k))) (sym less.rows)
            (subst (λ (pages : List Kept). T new (λ k. S k ⊎ (Contains pages k ⊎ Contains q.reach.rows k))) (sym less.pages)
            (goes P t)),
        less_stands f q q' less stands,
      )

  none_holds : (terms : DeviceLimits) (q : BlockQueueState) (old : H) (e : Option RingEvent) (q' : BlockQueueState)
      (new : H) → HappensNext step terms q old e q' new → (S : Kept → Type 0) → HoldsOne T f S old q
      → HoldsOne T f S new q'
  none_holds terms q old e q' new next = less_holds q old q' new (next_less step terms q old e q' new next)
      (λ P t. next_keeps step (λ a b. T a P → T b P) (λ h t. t) (λ a b c first second t. second (first t))
      (λ old s r new is step t. plain old s r new P is step t) terms q old e q' new next t)

  -- what holds of what happens to a ring without a region, and of chains that were in flight, holds of its turn
  module _ (way : Option Sight) (terms : DeviceLimits)
      (by : (q : BlockQueueState) (old : H) (e : Option RingEvent) (q' : BlockQueueState) (new : H)
      → HappensBy step way terms q old e q' new → (S : Kept → Type 0) → HoldsOne T f S old q → HoldsOne T f S new q')
      (known : (q : BlockQueueState) (r : Result (Option Found) QueueError) (old : H) (e : Option RingEvent)
      (q' : BlockQueueState) (new : H) → AfterKnown step terms way q r old e q' new → (S : Kept → Type 0)
      → HoldsOne T f S old q → HoldsOne T f S new q') where
    -- a step that changes no table
    steps_hold : (q : BlockQueueState) (s : MemoryStep) (old : H) (r : Returned s) (new : H) → IsPlain s
        → step old s r new → (S : Kept → Type 0) → HoldsOne T f S old q → HoldsOne T f S new q
    steps_hold q s old r new is first S (t, stands) =
        (plain old s r new (λ k. S k ⊎ IsKeptBy q.reach k) is first t, stands)

    again_holds : (q : BlockQueueState) (buffer : PackedBuffer) (after : ℕ) (ds : List PackedDescriptor) (old : H)
        (e : Option RingEvent) (q' : BlockQueueState) (new : H)
        → PopsAgain step terms way q buffer after ds old e q' new → (S : Kept → Type 0) → HoldsOne T f S old q
        → HoldsOne T f S new q'
    again_holds q buffer after ds old e q' new (r, mid, first, rest) S one =
        known q (found_as buffer after r) mid e q' new rest S
        (steps_hold q (pops_again q.queue buffer.id ds) old r mid tt first S one)

    -- ---- chains of a packed ring that keeps what is in flight

    asks_hold : (q : BlockQueueState) (old : H) (r : Result Bool QueueError) (new : H) → Asks step q old r new
        → (S : Kept → Type 0) → HoldsOne T f S old q → HoldsOne T f S new q
    asks_hold q old r new asks S one = less_holds q old q new (same_less q q refl refl)
        (λ P t. asks_keep step (λ a b. T a P → T b P) (λ h t. t) (λ a b c first second t. second (first t))
        (λ old s r new is step t. plain old s r new P is step t) q old r new asks t) S one

    finds_hold : (u : PackedVirtqueue) (k : PackedFlightState) (q : BlockQueueState) (old : H)
        (r : Result (Option (List PackedDescriptor)) QueueError) (q' : BlockQueueState) (new : H)
        → FindsCopies step u k q old r q' new → (S : Kept → Type 0) → HoldsOne T f S old q → HoldsOne T f S new q'
    finds_hold u k q old r q' new ((first, set), else) S one = less_holds q new q' new
        (same_less q q' (ap (λ (v : BlockQueueState). v.reach) else) (ap (λ (v : BlockQueueState). v.asked) else))
        (λ P t. t) S (steps_hold q (finds_copies u) old r new tt first S one)

    after_copies_hold : (r : Result (Option (List PackedDescriptor)) QueueError) (q : BlockQueueState) (old : H)
        (e : Option RingEvent) (q' : BlockQueueState) (new : H) → AfterCopies step terms way r q old e q' new
        → (S : Kept → Type 0) → HoldsOne T f S old q → HoldsOne T f S new q'
    after_copies_hold (Ok (Some ds)) q old e q' new p =
        again_holds q (buffer_of ds) (next_avail_of (past q.queue (buffer_of ds))) ds old e q' new p
    after_copies_hold (Ok None) q old e q' new p = known q (Ok None) old e q' new p
    after_copies_hold (Err error) q old e q' new p = known q (Err error) old e q' new p

    stays : (q : BlockQueueState) (old : H) (q' : BlockQueueState) (new : H) → q' ≡ q → new ≡ old
        → (S : Kept → Type 0) → HoldsOne T f S old q → HoldsOne T f S new q'
    stays q old q' new becomes still S one =
        subst (λ h. HoldsOne T f S h q') (sym still) (subst (HoldsOne T f S old) (sym becomes) one)

    ask_copies_hold : (u : PackedVirtqueue) (k : PackedFlightState) (r : Result Bool QueueError) (q : BlockQueueState)
        (old : H) (e : Option RingEvent) (q' : BlockQueueState) (new : H)
        → AfterAskCopies step terms way u k r q old e q' new → (S : Kept → Type 0) → HoldsOne T f S old q
        → HoldsOne T f S new q'
    ask_copies_hold u k (Ok true) q old e q' new (r, m, mid, finds, after) S one =
        after_copies_hold r m mid e q' new after S (finds_hold u k q old r m mid finds S one)
    ask_copies_hold u k (Ok false) q old e q' new (is, becomes, still) S one = stays q old q' new becomes still S one
    ask_copies_hold u k (Err error) q old e q' new (is, becomes, still) S one = stays q old q' new becomes still S one

    first_copies_hold : (u : PackedVirtqueue) (k : PackedFlightState)
        (r : Result (Option (List PackedDescriptor)) QueueError) (q : BlockQueueState) (old : H) (e : Option RingEvent)
        (q' : BlockQueueState) (new : H) → AfterFirst step terms way u k r q old e q' new → (S : Kept → Type 0)
        → HoldsOne T f S old q → HoldsOne T f S new q'
    first_copies_hold u k (Ok None) q old e q' new (r, mid, asks, after) S one =
        ask_copies_hold u k r q mid e q' new after S (asks_hold q old r mid asks S one)
    first_copies_hold u k (Ok (Some ds)) q old e q' new p S one =
        after_copies_hold (Ok (Some ds)) q old e q' new p S one
    first_copies_hold u k (Err error) q old e q' new p S one =
        after_copies_hold (Err error) q old e q' new p S one

    copies_hold : (u : PackedVirtqueue) (k : PackedFlightState) (q : BlockQueueState) (old : H) (e : Option RingEvent)
        (q' : BlockQueueState) (new : H) → PopsCopies step terms way u k q old e q' new → (S : Kept → Type 0)
        → HoldsOne T f S old q → HoldsOne T f S new q'
    copies_hold u k q old e q' new (r, m, mid, finds, after) S one =
        first_copies_hold u k r m mid e q' new after S (finds_hold u k q old r m mid finds S one)

    new_holds : (v : AnyQueue) (o : Option PackedFlightState) (q : BlockQueueState) (old : H) (e : Option RingEvent)
        (q' : BlockQueueState) (new : H) → HappensNew step terms way v o q old e q' new → (S : Kept → Type 0)
        → HoldsOne T f S old q → HoldsOne T f S new q'
    new_holds (Packed u) (Some k) q old e q' new p = go (is_open way q) p
      where
        go : (v : Bool) → MatchBool v (PopsCopies step terms way u k q old e q' new)
            (HappensBy step way terms q old e q' new) → (S : Kept → Type 0) → HoldsOne T f S old q
            → HoldsOne T f S new q'
        go true p = copies_hold u k q old e q' new p
        go false p = by q old e q' new p
    new_holds (Packed u) None q old e q' new p = by q old e q' new p
    new_holds (Split u) o q old e q' new p = by q old e q' new p

    first_holds : (q : BlockQueueState) (o : Option (PackedBuffer × List PackedDescriptor)) (old : H)
        (e : Option RingEvent) (q' : BlockQueueState) (new : H) → HappensFirst step terms way q o old e q' new
        → (S : Kept → Type 0) → HoldsOne T f S old q → HoldsOne T f S new q'
    first_holds q None old e q' new p = new_holds q.queue q.flight.packed q old e q' new p
    first_holds q (Some t) old e q' new p = go (is_open way q) p
      where
        go : (v : Bool) → MatchBool v (PopsAgain step terms way q t.0 (next_avail_of q.queue) t.1 old e q' new)
            (HappensBy step way terms q old e q' new) → (S : Kept → Type 0) → HoldsOne T f S old q
            → HoldsOne T f S new q'
        go true p = again_holds q t.0 (next_avail_of q.queue) t.1 old e q' new p
        go false p = by q old e q' new p

    in_holds : (q : BlockQueueState) (old : H) (e : Option RingEvent) (q' : BlockQueueState) (new : H)
        → HappensIn step terms way q old e q' new → (S : Kept → Type 0) → HoldsOne T f S old q → HoldsOne T f S new q'
    in_holds q old e q' new p S one = go (is_due way q) p
      where
        go : (v : Bool) → MatchBool v (Resumes step q old e q' new) (Flies step terms way q old e q' new)
            → HoldsOne T f S new q'
        go true p = let (quiet, asked, reach) = resumes_is step q old e q' new p in
            less_holds q old q' new (same_less q q' reach asked)
            (λ P t. resumes_keep step (λ a b. T a P → T b P) (λ h t. t) (λ a b c first second t. second (first t))
            (λ old s r new is step t. plain old s r new P is step t) q old e q' new p t) S one
        go false (mid_q, mid, first, flies) =
            let is = flies_else step terms e mid_q mid q' new flies in
            less_holds mid_q mid q' new (same_less mid_q q' (ap (λ (v : BlockQueueState). v.reach) is)
            (ap (λ (v : BlockQueueState). v.asked) is))
            (λ P t. flies_keep step (λ a b. T a P → T b P) (λ h t. t) (λ a b c first second t. second (first t))
            (λ old s r new is step t. plain old s r new P is step t) terms e mid_q mid q' new flies t) S
            (first_holds q (next_again q.flight) old e mid_q mid first S one)

  -- a turn, by what is known of a step of one ring
  turn_holds : (way : Option Sight) (w : BlockBackend) (old : H) (is : Bool) (w' : BlockBackend) (new : H)
      → ((q : BlockQueueState) (e : Option RingEvent) (q' : BlockQueueState)
      → HappensIn step (terms_of w) way q old e q' new → (S : Kept → Type 0) → HoldsOne T f S old q
      → HoldsOne T f S new q')
      → TakesTurn step way w old is w' new → HoldsAll T f old w.queues → HoldsAll T f new w'.queues
  turn_holds way w old is w' new each (r, b, qs, with, none, was, becomes) holds =
      subst (λ (v : BlockBackend). HoldsAll T f new v.queues) (sym becomes)
      (subst (HoldsAll T f new) (sym (looked_queues r)) (go (slice_get w.queues w.turn) refl with))
    where
      looked_queues : (o : Option Todo) → (looked (record w { queues = qs; backend = b }) o).queues ≡ qs
      looked_queues None = refl
      looked_queues (Some todo) = asked_queues (record w { queues = qs; backend = b; todo = todo }) w.turn

      runs : (q q' : BlockQueueState) → slice_get w.queues w.turn ≡ Some q → qs ≡ slice_set w.queues w.turn q'
          → (v : Bool) → MatchBool v
          ((e : Option RingEvent) × HappensIn step (terms_of w) way q old e q' new × ((b, r) ≡ turn.told w.backend w.turn e))
          ((r ≡ None) × (b ≡ w.backend) × (q' ≡ q) × (new ≡ old)) → HoldsAll T f new qs
      runs q q' found set true (e, next, told) = subst (HoldsAll T f new) (sym set)
          (one_holds T more f w.queues w.turn q q' old new found (each q e q' next) holds)
      runs q q' found set false (nil, same, kept, quiet) = subst (HoldsAll T f new) (sym set)
          (one_holds T more f w.queues w.turn q q' old new found (λ S one. subst (λ h. HoldsOne T f S h q') (sym quiet)
          (subst (HoldsOne T f S old) (sym kept) one)) holds)

      go : (o : Option BlockQueueState) → slice_get w.queues w.turn ≡ o
          → MatchOption o ((r ≡ None) × (qs ≡ w.queues) × (new ≡ old))
          (λ q. (q' : BlockQueueState) × Turns step way (terms_of w) w.turn w.backend b old new q r q'
          × (qs ≡ slice_set w.queues w.turn q')) → HoldsAll T f new qs
      go None found (nil, same, quiet) =
          subst (λ h. HoldsAll T f h qs) (sym quiet) (subst (HoldsAll T f old) (sym same) holds)
      go (Some q) found (q', turns, set) = runs q q' found set (may_pop w.backend.rings w.turn) turns

  looks_by : (way : Option Sight) (w : BlockBackend) (old : H) (is : Bool) (w' : BlockBackend) (new : H)
      → ((q : BlockQueueState) (e : Option RingEvent) (q' : BlockQueueState)
      → HappensIn step (terms_of w) way q old e q' new → (S : Kept → Type 0) → HoldsOne T f S old q
      → HoldsOne T f S new q')
      → Looks step way w old is w' new → HoldsAll T f old w.queues → HoldsAll T f new w'.queues
  looks_by way w old is w' new each (None, kicks, takes, turns) holds =
      turn_holds way (record w { kicks = kicks }) old is w' new each turns holds
  looks_by way w old is w' new each (Some ring, kicks, takes, (was, becomes, same)) holds =
      subst (λ (v : BlockBackend). HoldsAll T f new v.queues) (sym becomes)
      (subst (λ h. HoldsAll T f h w.queues) (sym same) holds)

  -- rings that lie behind no table
  pub looks_plainly : (w : BlockBackend) (old : H) (is : Bool) (w' : BlockBackend) (new : H)
      → Looks step None w old is w' new → HoldsAll T f old w.queues → HoldsAll T f new w'.queues
  looks_plainly w old is w' new looks holds = looks_by None w old is w' new
      (λ q e q' next. in_holds None (terms_of w) (none_holds (terms_of w)) known q old e q' new next) looks holds
    where
      known : (q : BlockQueueState) (r : Result (Option Found) QueueError) (old : H) (e : Option RingEvent)
          (q' : BlockQueueState) (new : H) → AfterKnown step (terms_of w) None q r old e q' new → (S : Kept → Type 0)
          → HoldsOne T f S old q → HoldsOne T f S new q'
      known q r old e q' new p = less_holds q old q' new (known_here_less step (terms_of w) q r old e q' new p)
          (λ P t. known_here_keeps step (λ a b. T a P → T b P) (λ h t. t) (λ a b c first second t. second (first t))
          (λ old s r new is step t. plain old s r new P is step t) (terms_of w) q r old e q' new p t)

  module _ (kept : (old : H) (k : Kept) (r : Result (Unit {0}) AllocError) (new : H) (S : Kept → Type 0)
      → step old (keeps k) r new → T old S → T new (λ j. S j ⊎ (j ≡ k)))
      (forgot : (old : H) (k : Kept) (done : Unit {0}) (new : H) (S : Kept → Type 0) → step old (forgets k) (Ok done) new
      → T old S → T new (λ j. S j × (j ≡ k → ⊥)))
      (failed : (old : H) (k : Kept) (e : AllocError) (new : H) (S : Kept → Type 0) → step old (forgets k) (Err e) new
      → T old S → T new S) where
    -- rings behind a table that says nothing but what messages say
    pub looks_behind : (way : Sight) (w : BlockBackend) (old : H) (is : Bool) (w' : BlockBackend) (new : H)
        → LeadsLaw (says way.table) f → Looks step (Some way) w old is w' new → HoldsAll T f old w.queues
        → HoldsAll T f new w'.queues
    looks_behind way w old is w' new leads looks holds = looks_by (Some way) w old is w' new
        (λ q e q' next. in_holds (Some way) (terms_of w) by known q old e q' new next) looks holds
      where
        by : (q : BlockQueueState) (old : H) (e : Option RingEvent) (q' : BlockQueueState) (new : H)
            → HappensBy step (Some way) (terms_of w) q old e q' new → (S : Kept → Type 0) → HoldsOne T f S old q
            → HoldsOne T f S new q'
        by q old e q' new next S one = behind_holds step T more plain kept forgot failed f S (says way.table) leads
            way.can_ask (terms_of w) q old e q' new next one

        known : (q : BlockQueueState) (r : Result (Option Found) QueueError) (old : H) (e : Option RingEvent)
            (q' : BlockQueueState) (new : H) → AfterKnown step (terms_of w) (Some way) q r old e q' new
            → (S : Kept → Type 0) → HoldsOne T f S old q → HoldsOne T f S new q'
        known q r old e q' new p S one = after_look step T more plain kept forgot failed f S (says way.table) leads
            way.can_ask (terms_of w) q r old e q' new p one
