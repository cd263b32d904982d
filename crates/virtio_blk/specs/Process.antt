-- What a device does with the chains of a queue, one after the other.
use Rattle.std.specs.Prelude.{◌≡◌, ◌⊎◌, ℕ, zero, suc, ◌<◌, Bool, true, false, nat_lt, List, Option, Some, None, Result, Ok, Err, MatchResult}
use Rattle.std.specs.Option.{option_or}
use Rattle.vm_memory_guest.specs.Host.{Host}
use Rattle.vm_memory_guest.specs.Memory.{Memory}
use Rattle.vm_memory_device.specs.declared.chain.Segment.{Segment}
use Rattle.virtio_queue.specs.Any.{AddsUsed, Enables, MayWantChain, MayWantNeeds, after_asked, after_used, needs_notification, past, popped}
use Rattle.virtio_queue.specs.Fields.{Answers, Refuses}
use Rattle.virtio_queue.specs.declared.any.AnyQueue.{AnyQueue}
use Rattle.virtio_queue.specs.declared.error.QueueError.{QueueError}
use Rattle.virtio_queue.specs.declared.packed.state.PackedBuffer.{PackedBuffer}
use Rattle.virtio_blk.specs.Config.{Device}
use Rattle.virtio_blk.specs.Disk.{Call}
use Rattle.virtio_blk.specs.Served.{Serves}
use Rattle.virtio_blk.specs.declared.device.process.Served.{Served}

-- a device, its queue and the host
pub record State (B D : Type 0) : Type 0 where
  pub device : Device D
  pub queue : AnyQueue
  pub host : Host B

-- the result, or a value instead of an error
abbrev pub or_value : Bool → Result Bool QueueError → Bool
or_value b (Ok answer) = answer
or_value b (Err e) = b

-- the error that was returned, if one was
abbrev pub error_in : Result Bool QueueError → Option QueueError
error_in (Ok b) = None
error_in (Err e) = Some e

module _ {B D : Type 0} (marks : B → ℕ → ℕ → B → Type 0) (bytes : D → Option (List ℕ)) (sectors : D → ℕ)
    (calls : D → Call → Bool → D → Type 0) (m : Memory) where
  -- one chain was popped, served and returned, or that was refused
  pub record Turn (old : State B D) (answer : Result (Unit {0}) QueueError) (new : State B D) : Type 0 where
    pub buffer : PackedBuffer
    pub chain : List Segment
    pub len : ℕ
    pub mid : Host B
    pub popped : popped m old.host old.queue ≡ Ok (Some (buffer, chain))
    pub served : Serves marks bytes sectors calls m chain old.device old.host len new.device mid
    pub returned : AddsUsed marks m (past old.queue buffer) buffer len mid answer new.host
    pub queue : new.queue ≡ after_used (past old.queue buffer) buffer answer

  -- there was no chain, and the driver was asked to notify the device of the next one. That was refused, or it is
  -- returned whether the driver had published more by then
  pub record Idles (old : State B D) (answer : Result Bool QueueError) (new : State B D) : Type 0 where
    pub none : popped m old.host old.queue ≡ Ok None
    pub asked : Enables marks m old.queue old.host answer new.host
    pub left : new ≡ record old { host = new.host }

  -- what comes before a turn: nothing, or there was no chain, and the driver had published more when it was asked to
  -- notify the device
  abbrev pub Before : State B D → State B D → Type 0
  Before old new = (new ≡ old) ⊎ Idles old (Ok true) new

  -- N chains were popped, served and returned, one after the other
  abbrev pub Turns : ℕ → State B D → State B D → Type 0
  Turns zero old new = new ≡ old
  Turns (suc n) old new =
      (mid : State B D) × (start : State B D) × Turns n old mid × Before mid start × Turn start (Ok tt) new

  -- no chain could be popped: there was none, or that was refused
  abbrev pub Stays : State B D → Result Bool QueueError → State B D → Type 0
  Stays old answer new = (new ≡ old) × MatchResult answer
      (λ more. (more ≡ false) × (popped m old.host old.queue ≡ Ok None))
      (Refuses (MayWantChain m old.host old.queue) (popped m old.host old.queue))

  -- what comes of one try: a chain was popped, served and returned, or there was none, or the queue refused
  abbrev pub NextTurn : State B D → Result Bool QueueError → State B D → Type 0
  NextTurn old (Ok true) new = Turn old (Ok tt) new
  NextTurn old (Ok false) new = Stays old (Ok false) new
  NextTurn old (Err e) new = Stays old (Err e) new ⊎ Turn old (Err e) new

  -- how it ends: there is nothing left, and the device waits for the next chain. Or the queue refused: to ask the driver
  -- for that, to pop the next chain, or to return the last one
  abbrev pub Ends : State B D → Result Bool QueueError → State B D → Type 0
  Ends old (Ok true) new = ⊥
  Ends old (Ok false) new = Idles old (Ok false) new
  Ends old (Err e) new = Idles old (Err e) new
      ⊎ ((start : State B D) × Before old start × (Stays start (Err e) new ⊎ Turn start (Err e) new))

  -- what comes of one try: one more chain was served, or it ends
  abbrev pub Tries : State B D → Result Bool QueueError → State B D → Type 0
  Tries old (Ok true) new = (start : State B D) × Before old start × Turn start (Ok tt) new
  Tries old (Ok false) new = Ends old (Ok false) new
  Tries old (Err e) new = Ends old (Err e) new

  -- chains were served until it ended, fewer than a bound, or as many as that, so that there may be more
  pub record Runs (most : ℕ) (old : State B D) (count : ℕ) (answer : Result Bool QueueError) (new : State B D)
      : Type 0 where
    pub last : State B D
    pub turns : Turns count old last
    pub ends : ((count < most) × Ends last answer new) ⊎ ((count ≡ most) × (answer ≡ Ok true) × (new ≡ last))

  -- what a call returns: whether the bound ended it, and the first error of the queue. The driver is to be interrupted
  -- if it wants that. If the queue does not know, it is if a chain was returned
  pub record Processes (most : ℕ) (old : State B D) (served : Served) (new : State B D) : Type 0 where
    pub answer : Result Bool QueueError
    pub last : State B D
    pub needs : Result Bool QueueError
    pub runs : Runs most old served.count answer last
    pub more : served.more ≡ or_value false answer
    pub asked : Answers (MayWantNeeds m last.host last.queue) (needs_notification m last.host last.queue) needs
    pub interrupt : served.interrupt ≡ or_value (nat_lt 0 served.count) needs
    pub failed : served.failed ≡ option_or (error_in answer) (error_in needs)
    pub left : new ≡ record last { queue = after_asked last.queue needs }

-- a call that ended by itself: neither did its bound end it, nor did the queue fail
abbrev pub IsDone : Served → Type 0
IsDone served = (served.more ≡ false) × (served.failed ≡ None)
