-- The queues of a block device's rings: what is done for one of them, step by step, and what it leaves.
use Rattle.std.specs.Prelude.{◌≡◌, ℕ, not, ◌&&◌, ◌||◌, nat_le, nat_lt, Bool, true, false, if◌then◌else◌, List, replicate, slice_get, slice_set, Option, Some, None, Result, Ok, Err, MatchOption, option_map}
use Rattle.vm_memory_device.specs.declared.chain.Segment.{Segment}
use Rattle.virtio_blk.specs.declared.request.Request.{Request}
use Rattle.virtio_blk.specs.declared.request.DeviceLimits.{DeviceLimits}
use Rattle.virtio_queue.specs.Any.{after_asked}
use Rattle.virtio_queue.specs.Packed as packed
use Rattle.virtio_queue.specs.declared.any.AnyQueue.{AnyQueue}
use Rattle.virtio_queue.specs.declared.any.AnyQueue.TheVariants.{Packed}
use Rattle.virtio_queue.specs.declared.error.QueueError.{QueueError}
use Rattle.vhost_user.specs.declared.vring.RunningVring.{RunningVring}
use Rattle.vhost_backend.specs.Backend.{BackendState}
use Rattle.vhost_backend.specs.Block.{block_parts, block_step}
use Rattle.vhost_backend.specs.BlockQueue.{BlockQueueState, FinishesRequest, asked_at, moved, new_queue, started, unset, with_queue}
use Rattle.vhost_backend.specs.BlockTurn.{TakesStep}
use Rattle.vhost_backend.specs.Flight.{GivesIn}
use Rattle.vhost_backend.specs.RingMemory.{MemoryStep, Returned, needs}
use Rattle.vhost_backend.specs.Reach.{same_log}
use Rattle.vhost_backend.specs.SetUp.{base_of, fresh_queue, is_set_up, lies_at, log_of, moved_queue}
use Rattle.vhost_backend.specs.declared.backend.Finish.{Finish}
use Rattle.vhost_backend.specs.declared.backend.Finish.TheVariants.{Done, At}
use Rattle.vhost_backend.specs.declared.backend.Todo.{Todo}
use Rattle.vhost_backend.specs.declared.block.BlockStep.{BlockStep}
use Rattle.vhost_backend.specs.declared.block_queue.Finished.{Finished}
use Rattle.vhost_backend.specs.declared.block_queue.Finished.TheVariants.{NotUnderWay}
use Rattle.vhost_backend.specs.declared.block_queue.GiveBack.{GiveBack}
use Rattle.vhost_backend.specs.declared.block_queue.GiveBack.TheVariants as back
use Rattle.vhost_backend.specs.Sight.{Sight}
use Rattle.vhost_backend.specs.declared.block_queues.Reached.{Reached}
use Rattle.vhost_backend.specs.declared.block_queues.Reached.TheVariants.{Fine, Broken}
use Rattle.vhost_backend.specs.declared.flight.FlightPlace.{FlightPlace}
use Rattle.vhost_backend.specs.declared.request.Chain.{Chain}

-- ---- without memory

-- queues that nobody has set up: so many, of a greatest size
abbrev pub new_queues : ℕ → ℕ → List BlockQueueState
new_queues count max_size = replicate count (new_queue (Packed (packed.new_queue max_size)) max_size)

-- the request with an id that is under way in a queue
abbrev pub request_of : BlockQueueState → ℕ → Option Request
request_of q id = option_map (λ asked. asked.request) (asked_at q id)

-- the part of a request that is served when so many are left, if it has it
abbrev pub part_at : ℕ → Option Request → Option BlockStep
part_at left None = None
part_at left (Some request) =
    if nat_lt 0 left && nat_le left (block_parts request) then Some (block_step request left) else None

abbrev pub part_of : ℕ → ℕ → Option BlockQueueState → Option BlockStep
part_of id left None = None
part_of id left (Some q) = part_at left (request_of q id)

-- the descriptors of the chain with an id that is under way
abbrev pub chain_of : ℕ → Option BlockQueueState → Option (List Segment)
chain_of id None = None
chain_of id (Some q) = option_map (λ asked. asked.chain) (asked_at q id)

-- the base of a ring that is stopped, if its queue was set up, which it is not from then on
abbrev pub base_left : BlockQueueState → BlockQueueState × Finish
base_left q = if is_set_up q.queue then (unset q, At (base_of q.queue)) else (q, Done)

abbrev pub based : List BlockQueueState → ℕ → Option BlockQueueState → List BlockQueueState × Finish
based qs ring None = (qs, Done)
based qs ring (Some q) = let t = base_left q in (slice_set qs ring t.0, t.1)

-- a ring begins with its queue, or goes on with it. It cannot be reached if there is no such queue
abbrev pub began : BlockQueueState → Result AnyQueue QueueError → Option ℕ → Option FlightPlace
    → BlockQueueState × Reached
began q (Ok made) log place = (started q made log place, Fine)
began q (Err e) log place = (q, Broken)

abbrev pub went_on : BlockQueueState → Result AnyQueue QueueError → Option ℕ → BlockQueueState × Reached
went_on q (Ok made) log = (moved q made log, Fine)
went_on q (Err e) log = (q, Broken)

-- it lies where it did, and is logged there
abbrev pub stays_at : BlockQueueState → RunningVring → Option ℕ → Bool
stays_at q vring log = lies_at q.queue vring && same_log q.reach.log log

-- a ring that was started begins at its base, and another one goes on where it is, if it was set up
abbrev pub set_up : BlockQueueState → ℕ → RunningVring → ℕ → Option FlightPlace → Bool → BlockQueueState × Reached
set_up q max_size vring features place true =
    began q (fresh_queue max_size vring features) (log_of vring features) place
set_up q max_size vring features place false = let log = log_of vring features in
    if not (is_set_up q.queue) || stays_at q vring log then (q, Fine) else went_on q (moved_queue q.queue vring) log

abbrev pub set_up_at : List BlockQueueState → ℕ → ℕ → RunningVring → ℕ → Option FlightPlace → Bool
    → Option BlockQueueState → List BlockQueueState × Reached
set_up_at qs ring max_size vring features place fresh None = (qs, Fine)
set_up_at qs ring max_size vring features place fresh (Some q) =
    let t = set_up q max_size vring features place fresh in (slice_set qs ring t.0, t.1)

-- ---- on memory

abbrev pub given_back : GiveBack → Reached
given_back back.Done = Fine
given_back (back.Broken e) = Broken

-- nothing is done for a ring that is not there
abbrev pub WithQueue : {H T : Type 0} → List BlockQueueState → ℕ → T → H → T → List BlockQueueState → H
    → (BlockQueueState → T → BlockQueueState → Type 0) → Type 0
WithQueue qs ring none old r qs' new P = MatchOption (slice_get qs ring) ((r ≡ none) × (qs' ≡ qs) × (new ≡ old))
    (λ q. (q' : BlockQueueState) × P q r q' × (qs' ≡ slice_set qs ring q'))

module _ {H : Type 0} (step : H → (s : MemoryStep) → Returned s → H → Type 0) where
  -- the request of a chain is over
  abbrev pub Finishes : Chain → ℕ → Bool → H → H → BlockQueueState → Finished → BlockQueueState → Type 0
  Finishes chain moved failed old new q r q' = FinishesRequest step q chain moved failed old r q' new

  abbrev pub FinishesAt : List BlockQueueState → ℕ → Chain → ℕ → Bool → H → Finished → List BlockQueueState → H → Type 0
  FinishesAt qs ring chain moved failed old r qs' new =
      WithQueue qs ring NotUnderWay old r qs' new (Finishes chain moved failed old new)

  -- a chain is given back
  abbrev pub Gives : Chain → ℕ → H → H → BlockQueueState → Reached → BlockQueueState → Type 0
  Gives chain len old new q r q' = (a : GiveBack) × GivesIn step q chain len old a q' new × (r ≡ given_back a)

  -- it is asked whether the driver has to be notified
  abbrev pub Asks : H → H → BlockQueueState → Result Bool QueueError → BlockQueueState → Type 0
  Asks old new q r q' = step old (needs q.queue) r new × (q' ≡ with_queue q (after_asked q.queue r))

  -- the ring takes a step of its turn
  abbrev pub Turns : Option Sight → DeviceLimits → ℕ → BackendState → BackendState → H → H → BlockQueueState → Option Todo
      → BlockQueueState → Type 0
  Turns way terms ring b b' old new q r q' = TakesStep step way terms ring b q old r b' q' new
