-- What a call on a queue does with guest memory, which a guest may write at any moment: a step of its device, which is
-- one call of the queue or of a block request.
use Rattle.std.specs.Prelude.{◌≡◌, ℕ, Bool, List, length, map, All, Contains, ◌<◌, Option, Result, slice_get}
use Rattle.vm_memory_base.specs.Pages.{PageSet, marked}
use Rattle.vm_memory_guest.specs.Host.{Host}
use Rattle.vm_memory_guest.specs.Memory.{Memory}
use Rattle.vm_memory_guest.specs.declared.region.error.GuestMemoryError.{GuestMemoryError}
use Rattle.vm_memory_device.specs.Chain.{Entry, readable, text, writable}
use Rattle.vm_memory_device.specs.declared.chain.Segment.{Segment}
use Rattle.virtio_queue.specs.Any.{AddsUsed, Disables, Enables, MayWantChain, MayWantNeeds, asking, disabling, enabling, needs_notification, popped, popping, returning}
use Rattle.virtio_queue.specs.Available.{MayWantIdx, avail_idx}
use Rattle.virtio_queue.specs.Fields.{Answers as AnswersAs}
use Rattle.virtio_queue.specs.Looks.{Finds, Follows, Given, Step, Takes, index_of}
use Rattle.virtio_queue.specs.State.{Virtqueue}
use Rattle.virtio_queue.specs.Used.{MayWantUsedIdx, used_idx}
use Rattle.virtio_queue.specs.declared.any.AnyQueue.{AnyQueue}
use Rattle.virtio_queue.specs.declared.error.QueueError.{QueueError}
use Rattle.virtio_queue.specs.declared.packed.state.PackedBuffer.{PackedBuffer}
use Rattle.virtio_blk.specs.Looks.{BeginsBy, FinishesBy, FoundBy, PutBy}
use Rattle.virtio_blk.specs.Steps.{Begins, Finishes, breaks_limits}
use Rattle.virtio_blk.specs.declared.request.Request.{Request}
use Rattle.virtio_blk.specs.declared.request.DeviceLimits.{DeviceLimits}

-- a call of a queue: a pop, a return, whether the driver has to be notified, that it is to notify or not, and both
-- indices of a split one. Or the beginning or the end of the block request of a chain
pub data MemoryStep : Type 0 where
  pops : AnyQueue → MemoryStep
  adds_used : AnyQueue → PackedBuffer → ℕ → MemoryStep
  needs : AnyQueue → MemoryStep
  enables : AnyQueue → MemoryStep
  disables : AnyQueue → MemoryStep
  reads_avail : Virtqueue → MemoryStep
  reads_used : Virtqueue → MemoryStep
  begins : DeviceLimits → List Segment → MemoryStep
  finishes : List Segment → ℕ → ℕ → MemoryStep

-- what it returns
abbrev pub Returned : MemoryStep → Type 0
Returned (pops q) = Result (Option (PackedBuffer × List Segment)) QueueError
Returned (adds_used q buffer len) = Result (Unit {0}) QueueError
Returned (needs q) = Result Bool QueueError
Returned (enables q) = Result Bool QueueError
Returned (disables q) = Result (Unit {0}) QueueError
Returned (reads_avail q) = Result ℕ QueueError
Returned (reads_used q) = Result ℕ QueueError
Returned (begins limits chain) = Result Request GuestMemoryError
Returned (finishes chain status moved) = Result ℕ GuestMemoryError

-- ---- memory that stands still

-- what a step does to it: what the queue and the block request say
module _ {B : Type 0} (marks : B → ℕ → ℕ → B → Type 0) (m : Memory) where
  abbrev pub Still : Host B → (s : MemoryStep) → Returned s → Host B → Type 0
  Still old (pops q) r new = AnswersAs (MayWantChain m old q) (popped m old q) r × (new ≡ old)
  Still old (adds_used q buffer len) r new = AddsUsed marks m q buffer len old r new
  Still old (needs q) r new = AnswersAs (MayWantNeeds m old q) (needs_notification m old q) r × (new ≡ old)
  Still old (enables q) r new = Enables marks m q old r new
  Still old (disables q) r new = Disables marks m q old r new
  Still old (reads_avail q) r new =
      AnswersAs (MayWantIdx m old q.state) (avail_idx m old q.state) r × (new ≡ old)
  Still old (reads_used q) r new =
      AnswersAs (MayWantUsedIdx m old q.state) (used_idx m old q.state) r × (new ≡ old)
  Still old (begins limits chain) r new =
      Begins m old limits (breaks_limits limits chain) (text (readable chain)) (text (writable chain)) r × (new ≡ old)
  Still old (finishes chain status moved) r new =
      Finishes marks m (text (writable chain)) status moved old r new

-- marks of a bitmap whose pages are all that is known of it
abbrev pub marks_pages : PageSet → ℕ → ℕ → PageSet → Type 0
marks_pages old offset len new = new ≡ marked offset len old

-- what is known of the steps of a device on each memory of a machine
abbrev pub Steps : Type 1
Steps = Memory → Host PageSet → (s : MemoryStep) → Returned s → Host PageSet → Type 0

-- ---- memory that a guest writes

-- a step by looks and stores of which this is known: those that its definition asks for, in this order and each once
module _ {H : Type 0} (look : H → (s : Step) → Result (Given s) QueueError → H → Type 0)
    (store : H → (s : Step) → Result (Given s) QueueError → H → Type 0)
    (fetch : H → List Entry → ℕ → Result (List ℕ) GuestMemoryError → H → Type 0)
    (put : H → List Entry → List ℕ → Result ℕ GuestMemoryError → H → Type 0) where
  abbrev pub ByLooks : H → (s : MemoryStep) → Returned s → H → Type 0
  ByLooks old (pops q) r new = Follows look (popping q) old r new
  ByLooks old (adds_used q buffer len) r new = Follows store (returning q buffer len) old r new
  ByLooks old (needs q) r new = Follows look (asking q) old r new
  ByLooks old (enables q) r new = Follows store (enabling q) old r new
  ByLooks old (disables q) r new = Follows store (disabling q) old r new
  ByLooks old (reads_avail q) r new = Follows look (index_of q.state.ready q.state.avail_ring) old r new
  ByLooks old (reads_used q) r new = Follows look (index_of q.state.ready q.state.used_ring) old r new
  ByLooks old (begins limits chain) r new = BeginsBy fetch limits (breaks_limits limits chain) (text (readable chain))
      (text (writable chain)) old r new
  ByLooks old (finishes chain status moved) r new = FinishesBy put (text (writable chain)) status moved old r new

-- a guest that has the blocks of these numbers in common with the session changes their bytes as it likes: no length
-- changes, all are bytes, and other blocks stay
pub record GuestWrites (shared : List ℕ) (old new : List (List ℕ)) : Type 0 where
  pub lengths : map length new ≡ map length old
  pub bytes : All (All (λ byte. byte < 256)) new
  pub others : (block : ℕ) → (Contains shared block → ⊥) → slice_get new block ≡ slice_get old block

-- the guest writes, and then this is done
abbrev pub Amid : {B : Type 0} → List ℕ → Host B → (Host B → Type 0) → Type 0
Amid shared old did =
    (blocks : List (List ℕ)) × GuestWrites shared old.blocks blocks × did (record old { blocks = blocks })

-- a step during which the guest writes, before each look and each store
abbrev pub Races : List ℕ → Memory → Host PageSet → (s : MemoryStep) → Returned s → Host PageSet → Type 0
Races shared m = ByLooks
    (λ old s given new. Amid shared old (λ host. Finds m host s given × (new ≡ host)))
    (λ old s given new. Amid shared old (λ host. Takes marks_pages m host s given new))
    (λ old es n found new. Amid shared old (λ host. FoundBy m host es n found × (new ≡ host)))
    (λ old es bytes stored new. Amid shared old (λ host. PutBy marks_pages m es bytes host stored new))
