-- Each ring that waits is asked for or looked at after a look, and none waits at the beginning.
use Rattle.std.proofs.Common.{◌≡◌, ◌∙◌, ℕ, ◌<◌, ◌≤◌, not, Bool, true, false, List, [], length, replicate, Option, Some, None, is_some, Result, Ok, Err, IsSomeAnd, MatchBool, MatchOption, refl, ap, sym, subst, inl, inr, arith, ◌∷◌, ◌++◌}
use Rattle.std.specs.List.{slice_get, slice_set}
use Rattle.std.specs.declared.alloc.Global.{Global}
use Rattle.std.proofs.Math.ListN.{length-set}
use Rattle.std.proofs.lemmas.Bool.{cases_eq, ne_eqb}
use Rattle.std.proofs.lemmas.List.{length-replicate}
use Rattle.std.proofs.lemmas.Option.{slice_get_cases, slice_get_within, same_Some}
use Rattle.vm_memory_base.specs.Table.{says}
use Rattle.vm_memory_base.specs.declared.iotlb.Permissions.{Permissions}
use Rattle.vm_memory_guest.specs.declared.region.error.GuestMemoryError.{GuestMemoryError}
use Rattle.virtio_queue.specs.Any.{next_avail_of, past}
use Rattle.virtio_queue.specs.declared.any.AnyQueue.{AnyQueue}
use Rattle.virtio_queue.specs.declared.packed.state.PackedBuffer.{PackedBuffer}
use Rattle.virtio_queue.specs.Packed as packed
use Rattle.virtio_queue.specs.declared.any.AnyQueue.TheVariants.{Packed, Split}
use Rattle.virtio_queue.specs.declared.error.QueueError.{QueueError}
use Rattle.virtio_blk.specs.declared.request.DeviceLimits.{DeviceLimits}
use Rattle.virtio_blk.specs.declared.request.Request.{Request}
use Rattle.virtio_blk.specs.declared.request.Request.TheVariants.{Refused}
use Rattle.vhost_user.specs.Connection.{Connection, connected}
use Rattle.vhost_user.specs.declared.backend_req_handler.Offer.{Offer}
use Rattle.vhost_backend.proofs.FlightLemmas.{IsNoWait, again_waits, copies_waits, resumes_is}
use Rattle.vhost_backend.proofs.MissLemmas.{WaitsOnlyThen, behind_waits, read_waits}
use Rattle.vhost_backend.proofs.OwnWayLemmas.{get-replicate, get-set_other}
use Rattle.vhost_backend.proofs.TendAskLemmas.{wanted_has, wanted_rings, wanted_still, first_sent, wanted_due}
use Rattle.vhost_backend.proofs.TendLemmas.{keeps, kick_looks, reached_more, same_count, still_looked, told_keep}
use Rattle.vhost_backend.proofs.TendTableLemmas.{Waits, queue_set}
use Rattle.vhost_backend.specs.Backend.{BackendState, after_event}
use Rattle.vhost_backend.specs.Behind.{HappensBy}
use Rattle.vhost_backend.specs.BlockBackend.{Looks, TakesTurn, looked, new_block_backend, terms_of, told, asked_due, asked_next}
use Rattle.vhost_backend.specs.BlockQueue.{AfterAsk, AfterPop, AfterRead, BlockQueueState, HappensNext, Pops, begun, has_place, new_queue, popped, with_queue}
use Rattle.vhost_backend.specs.BlockQueues.{Turns}
use Rattle.vhost_backend.specs.BlockTable.{asked_by, asked_for}
use Rattle.vhost_backend.specs.BlockTurn as turn
use Rattle.vhost_backend.specs.Flight.{Flies, HappensFirst, HappensIn, HappensNew, PopsAgain, PopsCopies, Resumes, is_due, is_open, next_again}
use Rattle.vhost_backend.specs.PackedFlight.{PackedFlightState}
use Rattle.virtio_queue.specs.declared.packed.descriptor.PackedDescriptor.{PackedDescriptor}
use Rattle.vhost_backend.specs.GoesOn.{AreTended, IsTended, Tends, happens, is_looked_at}
use Rattle.vhost_backend.specs.Messages.{Happening, Told, stepped}
use Rattle.vhost_backend.specs.Questions.{has_miss, wanted, QuestionsState, taken_due}
use Rattle.vhost_backend.specs.Reach.{waited_for}
use Rattle.vhost_backend.specs.Ring.{new_ring}
use Rattle.vhost_backend.specs.RingMemory.{MemoryStep, Returned}
use Rattle.vhost_backend.specs.RingMemory as memory
use Rattle.vhost_backend.specs.Rings.{may_pop}
use Rattle.vhost_backend.specs.Sight.{Sight}
use Rattle.vhost_backend.specs.TableUse.{awaited}
use Rattle.vhost_backend.specs.declared.backend.Todo.{Todo}
use Rattle.vhost_backend.specs.declared.block_backend.BlockBackend.{BlockBackend}
use Rattle.vhost_backend.specs.declared.block_queue.Pop.{Pop}
use Rattle.vhost_backend.specs.declared.block_queue.Pop.TheVariants as pop
use Rattle.vhost_backend.specs.declared.deeds.Deed.TheVariants as deed
use Rattle.vhost_backend.specs.declared.deeds.Limits.{Limits}
use Rattle.vhost_backend.specs.declared.deeds.Made.TheVariants as made
use Rattle.vhost_backend.specs.declared.questions.Miss.{Miss}
use Rattle.vhost_backend.specs.declared.ring.RingEvent.{RingEvent}
use Rattle.vhost_backend.specs.declared.ring.RingEvent.TheVariants.{Start, Stop, Enable, Break, Kick, Popped, Emptied, Ended}
use Rattle.vhost_backend.specs.declared.rings.Event.TheVariants as event

-- ---- a turn of a ring whose addresses no table translates

module _ {H : Type 0} (step : H → (s : MemoryStep) → Returned s → H → Type 0) (terms : DeviceLimits) where
  pops_reach : (q : BlockQueueState) (old : H) (found : Pop) (q' : BlockQueueState) (new : H)
      → Pops step terms q old found q' new → q'.reach ≡ q.reach
  pops_reach q old found q' new (Ok None, mid, stepped, (is, kept, still)) = ap (λ (v : BlockQueueState). v.reach) kept
  pops_reach q old found q' new (Err error, mid, stepped, (is, kept, still)) =
      ap (λ (v : BlockQueueState). v.reach) kept
  pops_reach q old found q' new (Ok (Some p), mid, stepped, begins) = go (has_place q p.0.id) begins
    where
      next : BlockQueueState
      next = with_queue q (past q.queue p.0)

      read : (request : Result Request GuestMemoryError)
          → (found, q') ≡ begun q.queue (with_queue q (past q.queue p.0)) p.0 p.1 request → q'.reach ≡ q.reach
      read (Ok request) is = ap (λ (t : Pop × BlockQueueState). t.1.reach) is
      read (Err error) is = ap (λ (t : Pop × BlockQueueState). t.1.reach) is

      go : (place : Bool) → MatchBool place
          ((request : Result Request GuestMemoryError) × step mid (memory.begins terms p.1) request new
          × ((found, q') ≡ begun q.queue (with_queue q (past q.queue p.0)) p.0 p.1 request))
          ((found ≡ popped p.0 (Refused 1)) × (q' ≡ with_queue q (past q.queue p.0)) × (new ≡ mid))
          → q'.reach ≡ q.reach
      go true (request, looked, is) = read request is
      go false (is, kept, still) = ap (λ (v : BlockQueueState). v.reach) kept

  ask_reach : (q : BlockQueueState) (answer : Result Bool QueueError) (asked : H) (e : Option RingEvent)
      (q' : BlockQueueState) (new : H) → AfterAsk step terms q answer asked e q' new → q'.reach ≡ q.reach
  ask_reach q (Ok true) asked e q' new (found, pops, is) = pops_reach q asked found q' new pops
  ask_reach q (Ok false) asked e q' new (is, kept, still) = ap (λ (v : BlockQueueState). v.reach) kept
  ask_reach q (Err error) asked e q' new (is, kept, still) = ap (λ (v : BlockQueueState). v.reach) kept

  after_reach : (q : BlockQueueState) (old : H) (found : Pop) (e : Option RingEvent) (q' : BlockQueueState) (new : H)
      → AfterPop step terms found q old e q' new → q'.reach ≡ q.reach
  after_reach q old pop.None e q' new (answer, asked, asks, after) = ask_reach q answer asked e q' new after
  after_reach q old (pop.Chain chain parts bytes) e q' new (is, kept, still) = ap (λ (v : BlockQueueState). v.reach) kept
  after_reach q old (pop.Broken error) e q' new (is, kept, still) = ap (λ (v : BlockQueueState). v.reach) kept
  after_reach q old pop.Later e q' new (is, kept, still) = ap (λ (v : BlockQueueState). v.reach) kept

  in_place_reach : (q : BlockQueueState) (old : H) (e : Option RingEvent) (q' : BlockQueueState) (new : H)
      → HappensNext step terms q old e q' new → q'.reach ≡ q.reach
  in_place_reach q old e q' new (read, mid_q, mid, reads, after) =
      go read after ∙ read_waits step q q.is_unread q.queue old read mid_q mid reads
    where
      go : (r : Result (Unit {0}) QueueError) → AfterRead step terms r mid_q mid e q' new → q'.reach ≡ mid_q.reach
      go (Ok done) (found, next_q, next, pops, after) =
          after_reach next_q next found e q' new after ∙ pops_reach mid_q mid found next_q next pops
      go (Err error) (is, kept, still) = ap (λ (v : BlockQueueState). v.reach) kept

  -- nothing happened to the ring, and it waits only if it did
  by_waits : (way : Option Sight) (q : BlockQueueState) (old : H) (q' : BlockQueueState) (new : H)
      → HappensBy step way terms q old None q' new → is_some (waited_for q'.reach.fetch) ≡ true
      → is_some (waited_for q.reach.fetch) ≡ true
  by_waits None q old q' new next waits =
      sym (ap (λ r. is_some (waited_for r.fetch)) (in_place_reach q old None q' new next)) ∙ waits
  by_waits (Some way) q old q' new next waits =
      go (behind_waits step terms (says way.table) way.can_ask q old None q' new next)
    where
      go : WaitsOnlyThen way.can_ask None q' → is_some (waited_for q.reach.fetch) ≡ true
      go (inl none) = let bad : false ≡ true = sym (ap (λ t. is_some t) none) ∙ waits in absurd (cc)
      go (inr (is, may)) = absurd (cc)

  as_waited : (q q' : BlockQueueState) → q'.reach ≡ q.reach → is_some (waited_for q'.reach.fetch) ≡ true
      → is_some (waited_for q.reach.fetch) ≡ true
  as_waited q q' is waits = sym (ap (λ r. is_some (waited_for r.fetch)) is) ∙ waits

  still_waits : (q q' : BlockQueueState) → IsNoWait step terms q q' → is_some (waited_for q'.reach.fetch) ≡ true
      → is_some (waited_for q.reach.fetch) ≡ true
  still_waits q q' (inl is) waits = as_waited q q' is waits
  still_waits q q' (inr none) waits = let bad : false ≡ true = sym (ap (λ t. is_some t) none) ∙ waits in absurd (cc)

  new_waits : (way : Option Sight) (v : AnyQueue) (o : Option PackedFlightState) (q : BlockQueueState) (old : H)
      (q' : BlockQueueState) (new : H) → HappensNew step terms way v o q old None q' new
      → is_some (waited_for q'.reach.fetch) ≡ true → is_some (waited_for q.reach.fetch) ≡ true
  new_waits way (Packed u) (Some k) q old q' new p waits = go (is_open way q) refl p
    where
      go : (v : Bool) → is_open way q ≡ v → MatchBool v (PopsCopies step terms way u k q old None q' new)
          (HappensBy step way terms q old None q' new) → is_some (waited_for q.reach.fetch) ≡ true
      go true opened p = still_waits q q' (copies_waits step terms way u k q old None q' new opened p) waits
      go false opened p = by_waits way q old q' new p waits
  new_waits way (Packed u) None q old q' new p waits = by_waits way q old q' new p waits
  new_waits way (Split u) o q old q' new p waits = by_waits way q old q' new p waits

  first_waits : (way : Option Sight) (q : BlockQueueState) (o : Option (PackedBuffer × List PackedDescriptor)) (old : H)
      (q' : BlockQueueState) (new : H) → HappensFirst step terms way q o old None q' new
      → is_some (waited_for q'.reach.fetch) ≡ true → is_some (waited_for q.reach.fetch) ≡ true
  first_waits way q None old q' new p waits = new_waits way q.queue q.flight.packed q old q' new p waits
  first_waits way q (Some t) old q' new p waits = go (is_open way q) refl p
    where
      go : (v : Bool) → is_open way q ≡ v
          → MatchBool v (PopsAgain step terms way q t.0 (next_avail_of q.queue) t.1 old None q' new)
          (HappensBy step way terms q old None q' new) → is_some (waited_for q.reach.fetch) ≡ true
      go true opened p = still_waits q q'
          (again_waits step terms way q t.0 (next_avail_of q.queue) t.1 old None q' new opened p) waits
      go false opened p = by_waits way q old q' new p waits

  nothing_waits : (way : Option Sight) (q : BlockQueueState) (old : H) (q' : BlockQueueState) (new : H)
      → HappensIn step terms way q old None q' new → is_some (waited_for q'.reach.fetch) ≡ true
      → is_some (waited_for q.reach.fetch) ≡ true
  nothing_waits way q old q' new p waits = go (is_due way q) p
    where
      go : (v : Bool) → MatchBool v (Resumes step q old None q' new) (Flies step terms way q old None q' new)
          → is_some (waited_for q.reach.fetch) ≡ true
      go true p = as_waited q q' (resumes_is step q old None q' new p).2 waits
      go false (mid_q, mid, first, (becomes, still)) =
          first_waits way q (next_again q.flight) old mid_q mid first
          (as_waited mid_q q' (ap (λ (v : BlockQueueState). v.reach) becomes) waits)

-- ---- an event of a turn

-- it concerns the ring that has the turn alone
other_keeps : (n i : ℕ) (e : RingEvent) → (i ≡ n → ⊥) → keeps i (event.Ring n e) ≡ true
other_keeps n i Emptied differs = ap not (ne_eqb n i (λ same. differs (sym same)))
other_keeps n i Start differs = refl
other_keeps n i Stop differs = refl
other_keeps n i (Enable on) differs = refl
other_keeps n i Break differs = refl
other_keeps n i Kick differs = refl
other_keeps n i (Popped chain parts bytes) differs = refl
other_keeps n i (Ended id end) differs = refl

module _ (w : BlockBackend) (q q' : BlockQueueState) (found : slice_get w.queues w.turn ≡ Some q) (e : RingEvent)
    (todo : Todo) (tend : Tends w) where
  abbrev qs : List BlockQueueState
  qs = slice_set w.queues w.turn q'

  abbrev b : BackendState
  b = stepped w.backend (Told (event.Ring w.turn e))

  count : length b.rings.rings ≡ length qs
  count = same_count w.backend (happens (Told (event.Ring w.turn e))) ∙ tend.rings ∙ sym (length-set w.queues w.turn q')

  -- other rings are tended as before
  others : (i : ℕ) → (i ≡ w.turn → ⊥) → Waits qs i → IsTended w.questions w.kicks (slice_get b.rings.rings i) i
  others i differs waits = on (tend.each i
      (sym (ap (λ (o : Option BlockQueueState). is_some (awaited o)) (get-set_other w.queues w.turn i q' differs)) ∙ waits))
    where
      on : IsTended w.questions w.kicks (slice_get w.backend.rings.rings i) i
          → IsTended w.questions w.kicks (slice_get b.rings.rings i) i
      on (inl has) = inl has
      on (inr (inl kicked)) = inr (inl kicked)
      on (inr (inr looked)) = inr (inr (still_looked i w.backend (Told (event.Ring w.turn e))
          (told_keep i w.backend (event.Ring w.turn e) (other_keeps w.turn i e differs)) looked))

  -- and this one asks for what it waits for
  turn_event : Tends (asked_for (record w { queues = qs; backend = b; todo = todo }) w.turn)
  turn_event = go (awaited (slice_get qs w.turn)) refl
    where
      none : awaited (slice_get qs w.turn) ≡ None → AreTended qs w.kicks w.questions b
      none is = record {
        reached = reached_more w.backend (happens (Told (event.Ring w.turn e))) tend.reached;
        rings = count;
        kicks = tend.kicks ∙ sym (length-set w.queues w.turn q');
        asks = tend.asks ∙ sym (length-set w.queues w.turn q');
        each = λ i waits. elim (cases_eq i w.turn) [
          | inl same ↦
              let bad : false ≡ true = sym (ap (λ (t : Option (ℕ × Permissions)). is_some t) is)
              ∙ sym (ap (λ (k : ℕ). is_some (awaited (slice_get qs k))) same) ∙ waits in absurd (cc)
          | inr differs ↦ others i differs waits
        ];
      }

      some : (m : Miss) → m.ring ≡ w.turn → AreTended qs w.kicks (wanted w.questions m) b
      some m own = record {
        reached = reached_more w.backend (happens (Told (event.Ring w.turn e))) tend.reached;
        rings = count;
        kicks = tend.kicks ∙ sym (length-set w.queues w.turn q');
        asks = wanted_rings w.questions m ∙ tend.asks ∙ sym (length-set w.queues w.turn q');
        each = λ i waits. elim (cases_eq i w.turn) [
          | inl same ↦ inl (subst (λ (k : ℕ). has_miss (wanted w.questions m).sent (wanted w.questions m).due k ≡ true)
              (own ∙ sym same)
              (wanted_has w.questions m (omega (arith, own, tend.asks, slice_get_within w.queues w.turn q found))))
          | inr differs ↦ wider i (others i differs waits)
        ];
      }
        where
          wider : (i : ℕ) → IsTended w.questions w.kicks (slice_get b.rings.rings i) i
              → IsTended (wanted w.questions m) w.kicks (slice_get b.rings.rings i) i
          wider i (inl has) = inl (wanted_still w.questions m i has)
          wider i (inr kicked) = inr kicked

      go : (o : Option (ℕ × Permissions)) → awaited (slice_get qs w.turn) ≡ o
          → Tends (asked_by (record w { queues = qs; backend = b; todo = todo }) w.turn o)
      go None is = none is
      go (Some t) is = some (record { ring = w.turn; iova = t.0; access = t.1 }) refl

-- ---- looks

module _ {H : Type 0} (step : H → (s : MemoryStep) → Returned s → H → Type 0) where
  turn_tends : (way : Option Sight) (w : BlockBackend) (old : H) (is : Bool) (w' : BlockBackend) (new : H)
      → TakesTurn step way w old is w' new → Tends w → Tends w'
  turn_tends way w old is w' new (r, b, qs, with, none, was, becomes) tend =
      subst Tends (sym becomes) (go (slice_get w.queues w.turn) refl with)
    where
      still : r ≡ None → b ≡ w.backend → AreTended qs w.kicks w.questions w.backend
          → Tends (looked (record w { queues = qs; backend = b }) r)
      still nil same tend = subst (λ (o : Option Todo). Tends (looked (record w { queues = qs; backend = b }) o)) (sym nil)
          (subst (λ (c : BackendState). AreTended qs w.kicks w.questions c) (sym same) tend)

      kept : (q q' : BlockQueueState) → slice_get w.queues w.turn ≡ Some q → qs ≡ slice_set w.queues w.turn q'
          → (is_some (waited_for q'.reach.fetch) ≡ true → is_some (waited_for q.reach.fetch) ≡ true)
          → AreTended qs w.kicks w.questions w.backend
      kept q q' found set only =
          subst (λ (l : List BlockQueueState). AreTended l w.kicks w.questions w.backend) (sym set)
          (queue_set w.queues w.kicks w.questions w.backend w.turn q q' found only tend)

      told_something : (q q' : BlockQueueState) → slice_get w.queues w.turn ≡ Some q → qs ≡ slice_set w.queues w.turn q'
          → (e : Option RingEvent) → HappensIn step (terms_of w) way q old e q' new
          → (b, r) ≡ turn.told w.backend w.turn e → Tends (looked (record w { queues = qs; backend = b }) r)
      told_something q q' found set None next is = still (ap (λ (t : BackendState × Option Todo). t.1) is)
          (ap (λ (t : BackendState × Option Todo). t.0) is)
          (kept q q' found set (nothing_waits step (terms_of w) way q old q' new next))
      told_something q q' found set (Some e) next is =
          let t = after_event w.backend (event.Ring w.turn e) in
          subst (λ (t : BackendState × Option Todo). Tends (looked (record w { queues = qs; backend = t.0 }) t.1)) (sym is)
          (subst (λ (l : List BlockQueueState). Tends (asked_for (record w { queues = l; backend = t.0; todo = t.1 }) w.turn))
          (sym set) (turn_event w q q' found e t.1 tend))

      runs : (q q' : BlockQueueState) → slice_get w.queues w.turn ≡ Some q → qs ≡ slice_set w.queues w.turn q'
          → (v : Bool) → MatchBool v
          ((e : Option RingEvent) × HappensIn step (terms_of w) way q old e q' new × ((b, r) ≡ turn.told w.backend w.turn e))
          ((r ≡ None) × (b ≡ w.backend) × (q' ≡ q) × (new ≡ old))
          → Tends (looked (record w { queues = qs; backend = b }) r)
      runs q q' found set true (e, next, is) = told_something q q' found set e next is
      runs q q' found set false (nil, same, kept_q, quiet) = still nil same (kept q q' found set
          (λ waits. sym (ap (λ (v : BlockQueueState). is_some (waited_for v.reach.fetch)) kept_q) ∙ waits))

      go : (o : Option BlockQueueState) → slice_get w.queues w.turn ≡ o
          → MatchOption o ((r ≡ None) × (qs ≡ w.queues) × (new ≡ old))
          (λ q. (q' : BlockQueueState) × Turns step way (terms_of w) w.turn w.backend b old new q r q'
          × (qs ≡ slice_set w.queues w.turn q')) → Tends (looked (record w { queues = qs; backend = b }) r)
      go None found (nil, same, quiet) = still nil (none found)
          (subst (λ (l : List BlockQueueState). AreTended l w.kicks w.questions w.backend) (sym same) tend)
      go (Some q) found (q', turns, set) = runs q q' found set (may_pop w.backend.rings w.turn) turns

  -- a ring that was kicked is looked at
  kick_tends : (w : BlockBackend) (n : ℕ) (kicks : List Bool) → kicks ≡ slice_set w.kicks n false → Tends w
      → Tends (told (record w { kicks = kicks }) (event.Ring n Kick))
  kick_tends w n kicks is tend = record {
    reached = reached_more w.backend (happens x) tend.reached;
    rings = same_count w.backend (happens x) ∙ tend.rings;
    kicks = ap length is ∙ length-set w.kicks n false ∙ tend.kicks;
    asks = tend.asks;
    each = λ i waits. elim (cases_eq i n) [
      | inl same ↦ inr (inr (here i same waits))
      | inr differs ↦ there i differs (tend.each i waits)
    ];
  }
    where
      x : Happening
      x = Told (event.Ring n Kick)

      here : (i : ℕ) → i ≡ n → Waits w.queues i
          → IsSomeAnd (slice_get (stepped w.backend (Told (event.Ring n Kick))).rings.rings i) (λ r. is_looked_at r ≡ true)
      here i same waits = elim (slice_get_cases w.backend.rings.rings i).1 [
        | inl (r, inside, found, other) ↦
            subst (λ (k : ℕ). IsSomeAnd (slice_get (stepped w.backend (Told (event.Ring k Kick))).rings.rings i)
            (λ r. is_looked_at r ≡ true)) same (kick_looks w.backend i r found)
        | inr (past, nobody) ↦ absurd (gone i past waits)
      ]
        where
          gone : (i : ℕ) → length w.backend.rings.rings ≤ i → Waits w.queues i → ⊥
          gone i past waits = elim (slice_get_cases w.queues i).1 [
            | inl (p, within, found, other) ↦ omega (arith, within, past, tend.rings)
            | inr (beyond, nothing) ↦
                let bad : false ≡ true =
                sym (ap (λ (o : Option BlockQueueState). is_some (awaited o)) nothing) ∙ waits in cc
          ]

      there : (i : ℕ) → (i ≡ n → ⊥) → IsTended w.questions w.kicks (slice_get w.backend.rings.rings i) i
          → IsTended w.questions kicks
          (slice_get (stepped w.backend (Told (event.Ring n Kick))).rings.rings i) i
      there i differs (inl has) = inl has
      there i differs (inr (inl kicked)) = inr (inl (ap (λ (l : List Bool). slice_get l i) is
          ∙ get-set_other w.kicks n i false differs ∙ kicked))
      there i differs (inr (inr looked)) = inr (inr (still_looked i w.backend (Told (event.Ring n Kick))
          (told_keep i w.backend (event.Ring n Kick) refl) looked))

  pub looks_tend : (way : Option Sight) (w : BlockBackend) (old : H) (is : Bool) (w' : BlockBackend) (new : H)
      → Looks step way w old is w' new → Tends w → Tends w'
  looks_tend way w old is w' new (None, kicks, (nobody, same), turns) tend =
      turn_tends way (record w { kicks = kicks }) old is w' new turns
      (subst (λ (l : List Bool). AreTended w.queues l w.questions w.backend) (sym same) tend)
  looks_tend way w old is w' new (Some n, kicks, (kicked, set), (was, becomes, same)) tend =
      subst Tends (sym becomes) (kick_tends w n kicks set tend)

-- ---- the beginning

pub new_tends : (alloc : Global) (offer : Offer) (count : ℕ) (config : List ℕ) (limits : Limits)
    → Tends (new_block_backend alloc offer count config limits)
new_tends alloc offer count config limits =
    let ids = offer.max_queue_size in
    let q : BlockQueueState = new_queue (Packed (packed.new_queue ids)) ids in
    let c : Connection = connected offer count config in
    let long : length (replicate count q) ≡ count = length-replicate count q in record {
      reached = (c, ids, [], refl);
      rings = length-replicate (length c.vrings) (new_ring ids) ∙ length-replicate count _ ∙ sym long;
      kicks = length-replicate count false ∙ sym long;
      asks = sym long;
      each = λ i waits. absurd (none q refl i (slice_get (replicate count q) i) refl waits);
    }
  where
    none : (q : BlockQueueState) → waited_for q.reach.fetch ≡ None → (i : ℕ) (o : Option BlockQueueState)
        → slice_get (replicate count q) i ≡ o → is_some (awaited o) ≡ true → ⊥
    none q nothing i None found waits = cc
    none q nothing i (Some p) found waits =
        let same : p ≡ q = get-replicate count i q p found in
        let bad : false ≡ true = sym (ap (λ t. is_some t) nothing)
        ∙ sym (ap (λ (v : BlockQueueState). is_some (waited_for v.reach.fetch)) same) ∙ waits in cc

-- ---- what a turn asks for

module _ (iova : ℕ) (access : Permissions) where
  exactly : (v : BlockBackend) (i : ℕ) (o : Option (ℕ × Permissions)) → awaited (slice_get v.queues i) ≡ o
      → awaited (slice_get (asked_by v i o).queues i) ≡ Some (iova, access) → i < v.questions.rings
      → has_miss v.questions.sent v.questions.due i ≡ false
      → (asked_by v i o).questions.due ≡ v.questions.due ++ record { ring = i; iova = iova; access = access } ∷ []
  exactly v i None is waits below none =
      let bad : false ≡ true = ap (λ (t : Option (ℕ × Permissions)). is_some t) (sym is ∙ waits) in absurd (cc)
  exactly v i (Some t) is waits below none =
      let same : t ≡ (iova, access) = same_Some t (iova, access) (sym is ∙ waits) in
      wanted_due v.questions (record { ring = i; iova = t.0; access = t.1 }) below none
      ∙ ap (λ (u : ℕ × Permissions). v.questions.due ++ record { ring = i; iova = u.0; access = u.1 } ∷ []) same

  -- a ring that waits after its turn asks for what it waits for, if it has no MISS
  pub turn_asks : {H : Type 0} (step : H → (s : MemoryStep) → Returned s → H → Type 0) (way : Option Sight)
      (w : BlockBackend) (old : H) (w' : BlockBackend) (new : H) → TakesTurn step way w old true w' new
      → awaited (slice_get w'.queues w.turn) ≡ Some (iova, access) → w.turn < w.questions.rings
      → has_miss w.questions.sent w.questions.due w.turn ≡ false
      → w'.questions.due ≡ w.questions.due ++ record { ring = w.turn; iova = iova; access = access } ∷ []
  turn_asks step way w old w' new (None, b, qs, with, nobody, was, becomes) waits below none = absurd (cc)
  turn_asks step way w old w' new (Some todo, b, qs, with, nobody, was, becomes) waits below none =
      let v : BlockBackend = record w { queues = qs; backend = b; todo = todo } in
      ap (λ (u : BlockBackend). u.questions.due) becomes
      ∙ exactly v w.turn (awaited (slice_get v.queues w.turn)) refl
      (sym (ap (λ (u : BlockBackend). awaited (slice_get u.queues w.turn)) becomes) ∙ waits) below none

pub first_asked : (w : BlockBackend) (m : Miss) (rest : List Miss) → w.questions.due ≡ m ∷ rest
    → length w.questions.sent < 64 → (asked_next w).1 ≡ made.Deed (deed.Ask m)
first_asked w m rest is few = go (taken_due w.questions) (first_sent w.questions m rest is few)
  where
    go : (t : QuestionsState × Option Miss) → t.1 ≡ Some m → (asked_due w t).1 ≡ made.Deed (deed.Ask m)
    go (q, None) is = absurd (cc)
    go (q, Some x) is = ap (λ (n : Miss). made.Deed (deed.Ask n)) (same_Some x m is)
