-- What a step of a turn leaves of a queue's requests: their ids, and all of them if nothing happens to the ring.
use Rattle.std.proofs.Common.{◌≡◌, ◌∙◌, Bool, true, false, List, length, Option, Some, None, Result, Ok, Err, MatchBool, ap, sym, subst, inl, inr}
use Rattle.std.proofs.Math.ListN.{length-set}
use Rattle.vm_memory_base.specs.Table.{says}
use Rattle.vm_memory_guest.specs.declared.region.error.GuestMemoryError.{GuestMemoryError}
use Rattle.virtio_queue.specs.Any.{past}
use Rattle.virtio_queue.specs.declared.error.QueueError.{QueueError}
use Rattle.virtio_blk.specs.declared.request.Request.{Request}
use Rattle.virtio_blk.specs.declared.request.Request.TheVariants.{Refused}
use Rattle.virtio_blk.specs.declared.request.DeviceLimits.{DeviceLimits}
use Rattle.vhost_backend.proofs.FlightLemmas.{Goes, in_goes}
use Rattle.vhost_backend.proofs.StageLemmas.{Stage, behind_stage}
use Rattle.vhost_backend.proofs.TurnLemmas.{nothing_popped, read_asked}
use Rattle.vhost_backend.specs.Behind.{HappensBy}
use Rattle.vhost_backend.specs.BlockQueue.{AfterAsk, AfterPop, AfterRead, BlockQueueState, HappensNext, Pops, begun, event_of, has_place, popped, with_queue}
use Rattle.vhost_backend.specs.Flight.{HappensIn}
use Rattle.vhost_backend.specs.RingMemory.{MemoryStep, Returned}
use Rattle.vhost_backend.specs.RingMemory as memory
use Rattle.vhost_backend.specs.declared.block_queue.Asked.{Asked}
use Rattle.vhost_backend.specs.declared.block_queue.Pop.{Pop}
use Rattle.vhost_backend.specs.declared.block_queue.Pop.TheVariants as pop
use Rattle.vhost_backend.specs.Sight.{Sight}
use Rattle.vhost_backend.specs.declared.ring.RingEvent.{RingEvent}

abbrev pub Kept : Option RingEvent → BlockQueueState → BlockQueueState → Type 0
Kept e q q' = (length q'.asked ≡ length q.asked) × (e ≡ None → q'.asked ≡ q.asked)

same : (e : Option RingEvent) (q q' : BlockQueueState) → q'.asked ≡ q.asked → Kept e q q'
same e q q' is = (ap length is, λ none. is)

module _ {H : Type 0} (step : H → (s : MemoryStep) → Returned s → H → Type 0) (terms : DeviceLimits) where
  pops_kept : (q : BlockQueueState) (old : H) (found : Pop) (q' : BlockQueueState) (new : H)
      → Pops step terms q old found q' new → Kept (event_of found) q q'
  pops_kept q old found q' new (Ok None, mid, stepped, (is, kept, still)) =
      same (event_of found) q q' (ap (λ n. n.asked) kept)
  pops_kept q old found q' new (Err error, mid, stepped, (is, kept, still)) =
      same (event_of found) q q' (ap (λ n. n.asked) kept)
  pops_kept q old found q' new (Ok (Some p), mid, stepped, begins) = go (has_place q p.0.id) begins
    where
      next : BlockQueueState
      next = with_queue q (past q.queue p.0)

      read : (request : Result Request GuestMemoryError) → (found, q') ≡ begun q.queue next p.0 p.1 request
          → Kept (event_of found) q q'
      read (Ok request) is = (
        ap (λ t. length t.1.asked) is ∙ length-set q.asked p.0.id _,
        λ none. let some = ap (λ t. event_of t.0) is in let bad = sym some ∙ none in absurd (cc),
      )
      read (Err error) is = same (event_of found) q q' (ap (λ t. t.1.asked) is)

      go : (place : Bool) → MatchBool place
          ((request : Result Request GuestMemoryError) × step mid (memory.begins terms p.1) request new
          × ((found, q') ≡ begun q.queue next p.0 p.1 request))
          ((found ≡ popped p.0 (Refused 1)) × (q' ≡ next) × (new ≡ mid)) → Kept (event_of found) q q'
      go true (request, looked, is) = read request is
      go false (is, kept, still) = same (event_of found) q q' (ap (λ n. n.asked) kept)

  ask_kept : (q : BlockQueueState) (answer : Result Bool QueueError) (asked : H) (e : Option RingEvent)
      (q' : BlockQueueState) (new : H) → AfterAsk step terms q answer asked e q' new → Kept e q q'
  ask_kept q (Ok true) asked e q' new (found, pops, is) =
      subst (λ x. Kept x q q') (sym is) (pops_kept q asked found q' new pops)
  ask_kept q (Ok false) asked e q' new (is, kept, still) = same e q q' (ap (λ n. n.asked) kept)
  ask_kept q (Err error) asked e q' new (is, kept, still) = same e q q' (ap (λ n. n.asked) kept)

  after_kept : (q : BlockQueueState) (old : H) (found : Pop) (mid_q : BlockQueueState) (mid : H)
      → Pops step terms q old found mid_q mid → (e : Option RingEvent) (q' : BlockQueueState) (new : H)
      → AfterPop step terms found mid_q mid e q' new → Kept e q q'
  after_kept q old pop.None mid_q mid pops e q' new (answer, asked, asks, after) =
      let (kept, stepped) = nothing_popped step terms q mid_q old mid pops in
      subst (λ x. Kept e x q') kept (ask_kept mid_q answer asked e q' new after)
  after_kept q old (pop.Chain chain parts bytes) mid_q mid pops e q' new (is, kept, still) =
      subst (λ x. Kept e q x) (sym kept)
      (subst (λ x. Kept x q mid_q) (sym is) (pops_kept q old (pop.Chain chain parts bytes) mid_q mid pops))
  after_kept q old (pop.Broken error) mid_q mid pops e q' new (is, kept, still) =
      subst (λ x. Kept e q x) (sym kept)
      (subst (λ x. Kept x q mid_q) (sym is) (pops_kept q old (pop.Broken error) mid_q mid pops))
  after_kept q old pop.Later mid_q mid pops e q' new (is, kept, still) =
      subst (λ x. Kept e q x) (sym kept)
      (subst (λ x. Kept x q mid_q) (sym is) (pops_kept q old pop.Later mid_q mid pops))

  in_place_kept : (q : BlockQueueState) (old : H) (e : Option RingEvent) (q' : BlockQueueState) (new : H)
      → HappensNext step terms q old e q' new → Kept e q q'
  in_place_kept q old e q' new (read, mid_q, mid, reads, after) =
      subst (λ (l : List (Option Asked)). (length q'.asked ≡ length l) × (e ≡ None → q'.asked ≡ l))
      (read_asked step terms q q.is_unread q.queue old read mid_q mid reads) (go read after)
    where
      go : (r : Result (Unit {0}) QueueError) → AfterRead step terms r mid_q mid e q' new → Kept e mid_q q'
      go (Ok done) (found, next_q, next, pops, after) = after_kept mid_q mid found next_q next pops e q' new after
      go (Err error) (is, kept, still) = same e mid_q q' (ap (λ n. n.asked) kept)

  behind_kept : (q : BlockQueueState) (e : Option RingEvent) (q' : BlockQueueState) (new : H) → Stage step q e q' new
      → Kept e q q'
  behind_kept q e q' new (inl (quiet, kept)) = same e q q' kept
  behind_kept q e q' new (inr (inl (is, kept, stays, ends))) = same e q q' kept
  behind_kept q e q' new (inr (inr (inl (buffer, request, a, place, set, is)))) =
      (ap length set ∙ length-set q.asked buffer.id _, λ none. let bad = sym is ∙ none in absurd (cc))
  behind_kept q e q' new (inr (inr (inr (buffer, place, kept, is)))) = same e q q' kept

module _ {H : Type 0} (step : H → (s : MemoryStep) → Returned s → H → Type 0) where
  by_kept : (way : Option Sight) (terms : DeviceLimits) (q : BlockQueueState) (old : H) (e : Option RingEvent)
      (q' : BlockQueueState) (new : H) → HappensBy step way terms q old e q' new → Kept e q q'
  by_kept None terms q old e q' new p = in_place_kept step terms q old e q' new p
  by_kept (Some way) terms q old e q' new p = behind_kept step terms q e q' new
      (behind_stage step (says way.table) way.can_ask terms q old e q' new p)

  pub next_kept : (way : Option Sight) (terms : DeviceLimits) (q : BlockQueueState) (old : H) (e : Option RingEvent)
      (q' : BlockQueueState) (new : H) → HappensIn step terms way q old e q' new → Kept e q q'
  next_kept way terms q old e q' new p =
      let (mid_q, mid, goes, is, ends) = in_goes step terms way q old e q' new p in
      subst (λ (l : List (Option Asked)). (length l ≡ length q.asked) × (e ≡ None → l ≡ q.asked))
      (sym (ap (λ (v : BlockQueueState). v.asked) is)) (go mid_q mid goes)
    where
      go : (mid_q : BlockQueueState) (mid : H) → Goes step terms way q old e mid_q mid → Kept e q mid_q
      go mid_q mid (inl p) = by_kept way terms q old e mid_q mid p
      go mid_q mid (inr p) = behind_kept step terms q e mid_q mid p
