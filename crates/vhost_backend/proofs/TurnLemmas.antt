-- A turn that ends for want of chains.
use Rattle.std.proofs.Common.{◌≡◌, ◌⊎◌, ◌∙◌, Bool, true, false, List, Some, None, Result, Ok, Err, MatchBool, refl, ap, sym, subst, inl, inr}
use Rattle.vm_memory_guest.specs.declared.region.error.GuestMemoryError.{GuestMemoryError}
use Rattle.vm_memory_device.specs.declared.chain.Segment.{Segment}
use Rattle.virtio_queue.specs.Any.{past}
use Rattle.virtio_queue.specs.declared.any.AnyQueue.{AnyQueue}
use Rattle.virtio_queue.specs.declared.any.AnyQueue.TheVariants.{Split, Packed}
use Rattle.virtio_queue.specs.declared.error.QueueError.{QueueError}
use Rattle.virtio_queue.specs.declared.error.QueueError.TheVariants as errors
use Rattle.virtio_queue.specs.declared.packed.state.PackedBuffer.{PackedBuffer}
use Rattle.virtio_blk.specs.declared.request.Request.{Request}
use Rattle.virtio_blk.specs.declared.request.Request.TheVariants.{Refused}
use Rattle.virtio_blk.specs.declared.request.DeviceLimits.{DeviceLimits}
use Rattle.vhost_backend.specs.BlockQueue.{AfterAsk, AfterPop, Asks, BlockQueueState, FoundNone, HappensNext, Pops, ReadsBy, Waits, begun, event_of, has_place, popped, refused, with_queue}
use Rattle.vhost_backend.specs.RingMemory.{MemoryStep, Returned, pops}
use Rattle.vhost_backend.specs.RingMemory as memory
use Rattle.vhost_backend.specs.declared.block_queue.Pop.{Pop}
use Rattle.vhost_backend.specs.declared.block_queue.Pop.TheVariants as pop
use Rattle.vhost_backend.specs.declared.ring.RingEvent.TheVariants.{Emptied}

-- only a pop of nothing is that
none_of : (found : Pop) → Some Emptied ≡ event_of found → found ≡ pop.None
none_of pop.None is = refl
none_of (pop.Chain chain parts bytes) is = absurd (cc)
none_of (pop.Broken e) is = absurd (cc)
none_of pop.Later is = absurd (cc)

pub refused_is : (e : QueueError) → (refused e ≡ pop.Later) ⊎ (refused e ≡ pop.Broken e)
refused_is errors.InvalidMaxSize = inr refl
refused_is errors.InvalidSize = inr refl
refused_is errors.InvalidDescTableAlign = inr refl
refused_is errors.InvalidAvailRingAlign = inr refl
refused_is errors.InvalidUsedRingAlign = inr refl
refused_is errors.QueueNotReady = inr refl
refused_is errors.AddressOverflow = inr refl
refused_is (errors.GuestMemory e) = inr refl
refused_is errors.InvalidAvailRingIndex = inr refl
refused_is errors.InvalidDescriptorIndex = inr refl
refused_is errors.DescriptorLoop = inr refl
refused_is errors.IndirectWithNext = inr refl
refused_is errors.InvalidIndirectTable = inr refl
refused_is errors.NestedIndirect = inr refl
refused_is (errors.InvalidChain fault) = inr refl
refused_is errors.InvalidUsedEntry = inr refl
refused_is errors.Memory = inl refl

refused_some : (e : QueueError) → refused e ≡ pop.None → ⊥
refused_some e is = elim (refused_is e) [
  | inl later ↦ let bad = sym later ∙ is in absurd (cc)
  | inr broken ↦ let bad = sym broken ∙ is in absurd (cc)
]

begun_some : (back : AnyQueue) (q : BlockQueueState) (buffer : PackedBuffer) (chain : List Segment)
    (r : Result Request GuestMemoryError) → (begun back q buffer chain r).0 ≡ pop.None → ⊥
begun_some back q buffer chain (Ok request) is = absurd (cc)
begun_some back q buffer chain (Err e) is = absurd (cc)

module _ {H : Type 0} (step : H → (s : MemoryStep) → Returned s → H → Type 0) (terms : DeviceLimits) where
  -- a pop found nothing: the queue is as it was
  pub nothing_popped : (q q' : BlockQueueState) (old new : H) → Pops step terms q old pop.None q' new
      → (q' ≡ q) × step old (pops q.queue) (Ok None) new
  nothing_popped q q' old new (Ok None, mid, stepped, (is, same, still)) =
      (same, subst (λ h. step old (pops q.queue) (Ok None) h) (sym still) stepped)
  nothing_popped q q' old new (Err e, mid, stepped, (is, same, still)) = absurd (refused_some e (sym is))
  nothing_popped q q' old new (Ok (Some p), mid, stepped, begins) =
      absurd (go (has_place (with_queue q (past q.queue p.0)) p.0.id) begins)
    where
      next : BlockQueueState
      next = with_queue q (past q.queue p.0)

      go : (place : Bool) → MatchBool place
          ((r : Result Request GuestMemoryError) × step mid (memory.begins terms p.1) r new
          × ((pop.None, q') ≡ begun q.queue next p.0 p.1 r))
          ((pop.None ≡ popped p.0 (Refused 1)) × (q' ≡ next) × (new ≡ mid)) → ⊥
      go true (r, read, is) = begun_some q.queue next p.0 p.1 r (ap (λ t. t.0) (sym is))
      go false (is, same, still) = absurd (cc)

  module _ (q q' : BlockQueueState) (new : H) where
    -- the driver of a queue was asked, and a look found none. The queue is as it was
    abbrev Ends : Type 0
    Ends = FoundNone step q new × (q' ≡ q)

    after_ask : (before : H) (r : Result Bool QueueError) (asked : H) → Asks step q before r asked
        → AfterAsk step terms q r asked (Some Emptied) q' new → Ends
    after_ask before (Ok false) asked asks (is, same, still) = ((before, Ok false, asked, asks, inl (refl, still)), same)
    after_ask before (Ok true) asked asks (found, popped, is) =
        let none : found ≡ pop.None = none_of found is in
        let (same, stepped) = nothing_popped q q' asked new (subst (λ f. Pops step terms q asked f q' new) none popped) in
        ((before, Ok true, asked, asks, inr (refl, inl stepped)), same)
    after_ask before (Err e) asked asks (is, same, still) = absurd (refused_some e (none_of (refused e) is))

    waits : (before : H) → Waits step terms q before (Some Emptied) q' new → Ends
    waits before (r, asked, asks, after) = after_ask before r asked asks after

    after_pop : (old : H) (found : Pop) (mid_q : BlockQueueState) (mid : H) → Pops step terms q old found mid_q mid
        → AfterPop step terms found mid_q mid (Some Emptied) q' new → Ends
    after_pop old pop.None mid_q mid popped after =
        let (same, stepped) = nothing_popped q mid_q old mid popped in
        waits mid (subst (λ m. Waits step terms m mid (Some Emptied) q' new) same after)
    after_pop old (pop.Chain chain parts bytes) mid_q mid popped (is, same, still) = absurd (cc)
    after_pop old (pop.Broken e) mid_q mid popped (is, same, still) = absurd (cc)
    after_pop old pop.Later mid_q mid popped (is, same, still) = absurd (cc)

  -- a read leaves the requests, and the queue if it was read before
  pub read_asked : (q : BlockQueueState) (v : Bool) (u : AnyQueue) (old : H) (r : Result (Unit {0}) QueueError)
      (q' : BlockQueueState) (new : H) → ReadsBy step q v u old r q' new → q'.asked ≡ q.asked
  read_asked q true (Split u) old r q' new (Ok next, read, is) = ap (λ t. t.0.asked) is
  read_asked q true (Split u) old r q' new (Err e, read, is) = ap (λ t. t.0.asked) is
  read_asked q true (Packed u) old r q' new p = ap (λ n. n.asked) p.1
  read_asked q false u old r q' new p = ap (λ n. n.asked) p.1

  was_read : (q : BlockQueueState) (v : Bool) (u : AnyQueue) (old : H) (r : Result (Unit {0}) QueueError)
      (q' : BlockQueueState) (new : H) → ReadsBy step q v u old r q' new → v ≡ false → q' ≡ q
  was_read q true u old r q' new p is = absurd (cc)
  was_read q false u old r q' new p is = p.1

  pub found_none : (q : BlockQueueState) (old : H) (q' : BlockQueueState) (new : H)
      → HappensNext step terms q old (Some Emptied) q' new → FoundNone step q' new
  found_none q old q' new (Err e, mid_q, mid, read, (is, same, still)) = absurd (refused_some e (none_of (refused e) is))
  found_none q old q' new (Ok done, mid_q, mid, read, (found, next_q, next, popped, after)) =
      let (none, same) = after_pop mid_q q' new mid found next_q next popped after in
      subst (λ n. FoundNone step n new) (sym same) none

  pub emptied_stays : (q : BlockQueueState) (old : H) (q' : BlockQueueState) (new : H)
      → HappensNext step terms q old (Some Emptied) q' new → q.is_unread ≡ false → q' ≡ q
  emptied_stays q old q' new (Err e, mid_q, mid, read, (is, same, still)) was =
      absurd (refused_some e (none_of (refused e) is))
  emptied_stays q old q' new (Ok done, mid_q, mid, read, (found, next_q, next, popped, after)) was =
      (after_pop mid_q q' new mid found next_q next popped after).1
      ∙ was_read q q.is_unread q.queue old (Ok done) mid_q mid read was
