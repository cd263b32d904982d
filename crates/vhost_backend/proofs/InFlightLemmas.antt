-- What a ring has of a region of requests in flight is left by what happens to it otherwise.
use Rattle.std.proofs.Common.{◌≡◌, ◌∙◌, ℕ, Bool, true, false, List, [], Option, Some, None, Result, Ok, Err, MatchBool, MatchOption, MatchResult, refl, ap, subst}
use Rattle.std.specs.declared.alloc.AllocError.{AllocError}
use Rattle.vm_memory_base.specs.Table.{Says, says}
use Rattle.vm_memory_guest.specs.declared.region.error.GuestMemoryError.{GuestMemoryError}
use Rattle.vm_memory_device.specs.declared.chain.Segment.{Segment}
use Rattle.virtio_blk.specs.declared.request.DeviceLimits.{DeviceLimits}
use Rattle.virtio_blk.specs.declared.request.Request.{Request}
use Rattle.virtio_queue.specs.Any.{at_next, next_avail_of, past}
use Rattle.virtio_queue.specs.declared.packed.descriptor.PackedDescriptor.{PackedDescriptor}
use Rattle.virtio_queue.specs.declared.any.AnyQueue.{AnyQueue}
use Rattle.virtio_queue.specs.declared.any.AnyQueue.TheVariants.{Split, Packed}
use Rattle.virtio_queue.specs.declared.error.QueueError.{QueueError}
use Rattle.virtio_queue.specs.declared.packed.state.PackedBuffer.{PackedBuffer}
use Rattle.vhost_iotlb.specs.declared.kept.Kept.{Kept}
use Rattle.vhost_backend.specs.Behind.{AfterAskBehind, AfterFind, AfterLook, AfterLookUp, BeginsFetched, FetchesChain, FetchesNext, FetchesRow, GivesUp, HappensBehind, HappensBy, ReachesRing, TakesFetched, Uses, begun_behind, fetching, missed_by, or_empty, origin_of, past_found, with_fetch, with_reach}
use Rattle.vhost_backend.specs.BlockQueue.{AfterAsk, AfterPop, AfterRead, Begins, BlockQueueState, HappensNext, Pops, PopsBy, ReadsBy, begun, has_place, read_by, with_queue}
use Rattle.vhost_backend.specs.Fetch.{FetchState, guest_chain, has_gap}
use Rattle.vhost_backend.specs.Flight.{AfterKnown, HappensFirst, HappensNew, PopsAgain, found_as, gone_to, is_open}
use Rattle.vhost_backend.specs.PackedFlight.{PackedFlightState}
use Rattle.vhost_backend.specs.Reach.{forgotten, rows_forgotten}
use Rattle.vhost_backend.specs.RingMemory.{MemoryStep, Returned}
use Rattle.vhost_backend.specs.Sight.{Sight}
use Rattle.vhost_backend.specs.declared.block_queue.Pop.{Pop}
use Rattle.vhost_backend.specs.declared.block_queue.Pop.TheVariants as pop
use Rattle.vhost_backend.specs.declared.block_queue.behind.Origin.{Origin}
use Rattle.vhost_backend.specs.declared.fetch.Found.{Found}
use Rattle.vhost_backend.specs.declared.fetch.Goal.{Goal}
use Rattle.vhost_backend.specs.declared.fetch.Goal.TheVariants as goal
use Rattle.vhost_backend.specs.declared.fetch.State.{State}
use Rattle.vhost_backend.specs.declared.fetch.State.TheVariants as state
use Rattle.vhost_backend.specs.declared.ring.RingEvent.{RingEvent}

-- ---- cases

by_option : {X R P : Type 0} {Q : X → Type 0} (o : Option X) → MatchOption o P Q → (P → R) → ((x : X) → Q x → R) → R
by_option None p none some = none p
by_option (Some x) p none some = some x p

by_bool : {R P Q : Type 0} (v : Bool) → MatchBool v P Q → (P → R) → (Q → R) → R
by_bool true p one two = one p
by_bool false p one two = two p

by_result : {X E R : Type 0} {P : X → Type 0} {Q : E → Type 0} (r : Result X E) → MatchResult r P Q
    → ((x : X) → P x → R) → ((e : E) → Q e → R) → R
by_result (Ok x) p well bad = well x p
by_result (Err e) p well bad = bad e p

-- ---- what leaves it

-- what it has of the region
abbrev pub Same : BlockQueueState → BlockQueueState → Type 0
Same q q' = q'.flight ≡ q.flight

same_by : (q q' v : BlockQueueState) → q' ≡ v → Same q v → Same q q'
same_by q q' v is same = ap (λ (x : BlockQueueState). x.flight) is ∙ same

same_second : {A : Type 0} (q q' : BlockQueueState) (a : A) (t : A × BlockQueueState) → (a, q') ≡ t → Same q t.1
    → Same q q'
same_second {A} q q' a t is same = ap (λ (x : A × BlockQueueState). x.1.flight) is ∙ same

fetching_same : (q : BlockQueueState) (r : Result (Option FetchState) AllocError) → Same q (fetching q r).1
fetching_same q (Ok (Some f)) = refl
fetching_same q (Ok None) = refl
fetching_same q (Err e) = refl

begun_same : (back : AnyQueue) (q : BlockQueueState) (buffer : PackedBuffer) (chain : List Segment)
    (r : Result Request GuestMemoryError) → Same q (begun back q buffer chain r).1
begun_same back q buffer chain (Ok request) = refl
begun_same back q buffer chain (Err e) = refl

behind_same : (q : BlockQueueState) (o : Origin) (chain : List Segment) (kept : List Kept)
    (r : Result Request GuestMemoryError) → Same q (begun_behind q o chain kept r).1
behind_same q o chain kept (Ok request) = refl
behind_same q o chain kept (Err e) = refl

module _ {H : Type 0} (step : H → (s : MemoryStep) → Returned s → H → Type 0) where
  -- ---- where chains are returned

  pub reads_same : (q : BlockQueueState) (unread : Bool) (u : AnyQueue) (old : H) (r : Result (Unit {0}) QueueError)
      (q' : BlockQueueState) (new : H) → ReadsBy step q unread u old r q' new → Same q q'
  reads_same q true (Split u) old r q' new (next, reads, is) = by next is
    where
      by : (n : Result ℕ QueueError) → (q', r) ≡ read_by q u n → Same q q'
      by (Ok n) is = ap (λ (t : BlockQueueState × Result (Unit {0}) QueueError). t.0.flight) is
      by (Err e) is = ap (λ (t : BlockQueueState × Result (Unit {0}) QueueError). t.0.flight) is
  reads_same q true (Packed u) old r q' new (done, is, still) = ap (λ (v : BlockQueueState). v.flight) is
  reads_same q false u old r q' new (done, is, still) = ap (λ (v : BlockQueueState). v.flight) is

  -- ---- without a table

  begins_same : (terms : DeviceLimits) (back : AnyQueue) (q : BlockQueueState) (buffer : PackedBuffer)
      (chain : List Segment) (old : H) (a : Pop) (q' : BlockQueueState) (new : H)
      → Begins step terms back q buffer chain old a q' new → Same q q'
  begins_same terms back q buffer chain old a q' new p = by_bool (has_place q buffer.id) p
      (λ (r, first, is). same_second q q' a (begun back q buffer chain r) is (begun_same back q buffer chain r))
      (λ (is, becomes, still). same_by q q' q becomes refl)

  module _ (terms : DeviceLimits) where
    pops_by_same : (q : BlockQueueState) (r : Result (Option (PackedBuffer × List Segment)) QueueError) (old : H)
        (a : Pop) (q' : BlockQueueState) (new : H) → PopsBy step terms q r old a q' new → Same q q'
    pops_by_same q (Ok (Some p)) old a q' new after =
        begins_same terms q.queue (with_queue q (past q.queue p.0)) p.0 p.1 old a q' new after
    pops_by_same q (Ok None) old a q' new (is, becomes, still) = same_by q q' q becomes refl
    pops_by_same q (Err e) old a q' new (is, becomes, still) = same_by q q' q becomes refl

    pops_same : (q : BlockQueueState) (old : H) (a : Pop) (q' : BlockQueueState) (new : H)
        → Pops step terms q old a q' new → Same q q'
    pops_same q old a q' new (r, mid, first, p) = pops_by_same q r mid a q' new p

    ask_same : (q : BlockQueueState) (r : Result Bool QueueError) (old : H) (a : Option RingEvent)
        (q' : BlockQueueState) (new : H) → AfterAsk step terms q r old a q' new → Same q q'
    ask_same q (Ok true) old a q' new (found, p, is) = pops_same q old found q' new p
    ask_same q (Ok false) old a q' new (is, becomes, still) = same_by q q' q becomes refl
    ask_same q (Err e) old a q' new (is, becomes, still) = same_by q q' q becomes refl

    after_pop_same : (found : Pop) (q : BlockQueueState) (old : H) (a : Option RingEvent) (q' : BlockQueueState)
        (new : H) → AfterPop step terms found q old a q' new → Same q q'
    after_pop_same pop.None q old a q' new (r, mid, asks, p) = ask_same q r mid a q' new p
    after_pop_same (pop.Chain chain parts bytes) q old a q' new (is, becomes, still) = same_by q q' q becomes refl
    after_pop_same (pop.Broken e) q old a q' new (is, becomes, still) = same_by q q' q becomes refl
    after_pop_same pop.Later q old a q' new (is, becomes, still) = same_by q q' q becomes refl

    read_same : (r : Result (Unit {0}) QueueError) (q : BlockQueueState) (old : H) (a : Option RingEvent)
        (q' : BlockQueueState) (new : H) → AfterRead step terms r q old a q' new → Same q q'
    read_same (Ok done) q old a q' new (found, mid_q, mid, p, after) =
        after_pop_same found mid_q mid a q' new after ∙ pops_same q old found mid_q mid p
    read_same (Err e) q old a q' new (is, becomes, still) = same_by q q' q becomes refl

    next_same : (q : BlockQueueState) (old : H) (a : Option RingEvent) (q' : BlockQueueState) (new : H)
        → HappensNext step terms q old a q' new → Same q q'
    next_same q old a q' new (read, mid_q, mid, reads, p) =
        read_same read mid_q mid a q' new p ∙ reads_same q q.is_unread q.queue old read mid_q mid reads

    -- ---- behind a table

    row_same : (q : BlockQueueState) (e : QueueError) (a : Option RingEvent) (q' : BlockQueueState)
        → FetchesRow q e a q' → Same q q'
    row_same q e a q' p = by_option (missed_by e) p (λ (is, becomes). same_by q q' q becomes refl)
        (λ range. λ (r, made, is). same_second q q' a (fetching q r) is (fetching_same q r))

    fetched_same : (q : BlockQueueState) (o : Origin) (chain : List Segment) (kept : List Kept) (old : H)
        (a : Option RingEvent) (q' : BlockQueueState) (new : H)
        → BeginsFetched step terms q o chain kept old a q' new → Same q q'
    fetched_same q o chain kept old a q' new p = by_bool (has_place q o.buffer.id) p
        (λ (r, first, is). same_second q q' a (begun_behind q o chain kept r) is (behind_same q o chain kept r))
        (λ (is, becomes, still). same_by q q' (past_found q o) becomes refl)

    takes_same : (q : BlockQueueState) (o : Origin) (kept : List Kept) (old : H) (a : Option RingEvent)
        (q' : BlockQueueState) (new : H) → TakesFetched step terms q o kept old a q' new → Same q q'
    takes_same q o kept old a q' new (made, p) = by_result made p
        (λ done. λ after. fetched_same q o (or_empty (guest_chain kept)) kept old a q' new after)
        (λ e. λ (is, becomes, still). same_by q q' q becomes refl)

    uses_same : (q : BlockQueueState) (g : Goal) (kept : List Kept) (old : H) (a : Option RingEvent)
        (q' : BlockQueueState) (new : H) → Uses step terms q g kept old a q' new → Same q q'
    uses_same q goal.Ring kept old a q' new (r, all, is, becomes) = same_by q q' _ becomes refl
    uses_same q goal.Rows kept old a q' new (one, becomes, p) = same_by q q' _ becomes refl
    uses_same q (goal.Chain found) kept old a q' new p = takes_same q (origin_of found false) kept old a q' new p
    uses_same q (goal.Status found) kept old a q' new p =
        takes_same q (origin_of found (has_gap found.chain)) kept old a q' new p

    gives_up_same : (q : BlockQueueState) (g : Goal) (old : H) (a : Option RingEvent) (q' : BlockQueueState) (new : H)
        → GivesUp step terms q g old a q' new → Same q q'
    gives_up_same q goal.Ring old a q' new (is, becomes, still) = same_by q q' q becomes refl
    gives_up_same q goal.Rows old a q' new (is, becomes, still) = same_by q q' q becomes refl
    gives_up_same q (goal.Chain found) old a q' new (r, made, is, still) =
        same_second q q' a (fetching q r) is (fetching_same q r)
    gives_up_same q (goal.Status found) old a q' new p = takes_same q (origin_of found false) [] old a q' new p

    looked_same : (can_ask : Bool) (q : BlockQueueState) (g : FetchState) (s : State) (old : H) (a : Option RingEvent)
        (q' : BlockQueueState) (new : H) → AfterLookUp step can_ask terms q g s old a q' new → Same q q'
    looked_same can_ask q g state.Begun old a q' new (is, becomes, still) = same_by q q' _ becomes refl
    looked_same can_ask q g (state.Waits iova access) old a q' new p = by_bool can_ask p
        (λ (is, becomes, still). same_by q q' _ becomes refl) (gives_up_same q g.goal old a q' new)
    looked_same can_ask q g state.Stops old a q' new p = gives_up_same q g.goal old a q' new p
    looked_same can_ask q g state.Whole old a q' new p = uses_same q g.goal g.kept old a q' new p

    reaches_same : (q : BlockQueueState) (old : H) (a : Option RingEvent) (q' : BlockQueueState) (new : H)
        → ReachesRing step q old a q' new → Same q q'
    reaches_same q old a q' new (one, both, p) = by_result one p
        (λ done. λ (r, made, is). let v : BlockQueueState = with_reach q (forgotten q.reach one) in
        same_second q q' a (fetching v r) is (fetching_same v r))
        (λ e. λ (is, becomes). same_by q q' _ becomes refl)

    chain_same : (q : BlockQueueState) (found : Found) (old : H) (a : Option RingEvent) (q' : BlockQueueState) (new : H)
        → FetchesChain step terms q found old a q' new → Same q q'
    chain_same q found old a q' new (one, all, p) = by_result one p
        (λ done. λ (r, made, is). let v : BlockQueueState = with_reach q (rows_forgotten q.reach one) in
        same_second q q' a (fetching v r) is (fetching_same v r))
        (λ e. λ (is, becomes). same_by q q' _ becomes refl)

    look_same : (q : BlockQueueState) (r : Result (Option Found) QueueError) (old : H) (a : Option RingEvent)
        (q' : BlockQueueState) (new : H) → AfterLook step terms q r old a q' new → Same q q'
    look_same q (Ok (Some found)) old a q' new p = chain_same q found old a q' new p
    look_same q (Ok None) old a q' new (is, becomes, still) = same_by q q' q becomes refl
    look_same q (Err e) old a q' new (p, still) = row_same q e a q' p

    ask_behind_same : (q : BlockQueueState) (r : Result Bool QueueError) (old : H) (a : Option RingEvent)
        (q' : BlockQueueState) (new : H) → AfterAskBehind step terms q r old a q' new → Same q q'
    ask_behind_same q (Ok true) old a q' new (r, mid, finds, p) = look_same q r mid a q' new p
    ask_behind_same q (Ok false) old a q' new (is, becomes, still) = same_by q q' q becomes refl
    ask_behind_same q (Err e) old a q' new (is, becomes, still) = same_by q q' q becomes refl

    find_same : (q : BlockQueueState) (r : Result (Option Found) QueueError) (old : H) (a : Option RingEvent)
        (q' : BlockQueueState) (new : H) → AfterFind step terms q r old a q' new → Same q q'
    find_same q (Ok (Some found)) old a q' new p = chain_same q found old a q' new p
    find_same q (Ok None) old a q' new (r, mid, asks, p) = ask_behind_same q r mid a q' new p
    find_same q (Err e) old a q' new (p, still) = row_same q e a q' p

    fetches_next_same : (q : BlockQueueState) (old : H) (a : Option RingEvent) (q' : BlockQueueState) (new : H)
        → FetchesNext step terms q old a q' new → Same q q'
    fetches_next_same q old a q' new p = by_bool q.reach.is_reached p
        (λ on. by_bool q.is_unread on
        (λ (r, reads, is). reads_same q q.is_unread q.queue old r q' new reads)
        (λ (r, mid, finds, after). find_same q r mid a q' new after))
        (reaches_same q old a q' new)

    behind_all_same : (f : Says) (can_ask : Bool) (q : BlockQueueState) (old : H) (a : Option RingEvent)
        (q' : BlockQueueState) (new : H) → HappensBehind step f can_ask terms q old a q' new → Same q q'
    behind_all_same f can_ask q old a q' new p = by_option q.reach.fetch p (fetches_next_same q old a q' new)
        (λ g. λ (next, up, after). looked_same can_ask (with_fetch q None) next next.state old a q' new after)

    pub happens_same : (way : Option Sight) (q : BlockQueueState) (old : H) (a : Option RingEvent)
        (q' : BlockQueueState) (new : H) → HappensBy step way terms q old a q' new → Same q q'
    happens_same None q old a q' new p = next_same q old a q' new p
    happens_same (Some way) q old a q' new p = behind_all_same (says way.table) way.can_ask q old a q' new p

    -- ---- chains whose descriptors are known

    pub known_same : (way : Option Sight) (q : BlockQueueState) (r : Result (Option Found) QueueError) (old : H)
        (a : Option RingEvent) (q' : BlockQueueState) (new : H) → AfterKnown step terms way q r old a q' new → Same q q'
    known_same None q (Ok (Some f)) old a q' new (found, began, is) =
        begins_same terms (at_next (at_next q.queue f.after) (next_avail_of q.queue)) (gone_to q f.after) f.buffer
        f.chain old found q' new began
    known_same None q (Ok None) old a q' new (is, becomes, still) = same_by q q' q becomes refl
    known_same None q (Err e) old a q' new (is, becomes, still) = same_by q q' q becomes refl
    known_same (Some way) q r old a q' new p = look_same q r old a q' new p

    pub again_same : (way : Option Sight) (q : BlockQueueState) (buffer : PackedBuffer) (after : ℕ)
        (ds : List PackedDescriptor) (old : H) (a : Option RingEvent) (q' : BlockQueueState) (new : H)
        → PopsAgain step terms way q buffer after ds old a q' new → Same q q'
    again_same way q buffer after ds old a q' new (r, mid, first, rest) =
        known_same way q (found_as buffer after r) mid a q' new rest

    new_same : (way : Option Sight) (v : AnyQueue) (q : BlockQueueState) (old : H) (a : Option RingEvent)
        (q' : BlockQueueState) (new : H) → HappensNew step terms way v None q old a q' new → Same q q'
    new_same way (Split u) q old a q' new p = happens_same way q old a q' new p
    new_same way (Packed u) q old a q' new p = happens_same way q old a q' new p

    -- a packed ring that keeps what is in flight has found other descriptors then
    pub first_same : (way : Option Sight) (q : BlockQueueState) (o : Option (PackedBuffer × List PackedDescriptor))
        (old : H) (a : Option RingEvent) (q' : BlockQueueState) (new : H) → q.flight.packed ≡ None
        → HappensFirst step terms way q o old a q' new → Same q q'
    first_same way q None old a q' new none p = new_same way q.queue q old a q' new
        (subst (λ (k : Option PackedFlightState). HappensNew step terms way q.queue k q old a q' new) none p)
    first_same way q (Some t) old a q' new none p = by_bool (is_open way q) p
        (again_same way q t.0 (next_avail_of q.queue) t.1 old a q' new) (happens_same way q old a q' new)
