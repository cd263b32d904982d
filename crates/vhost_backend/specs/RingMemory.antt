-- What the calls of a ring do with guest memory, which a guest may write at any moment: steps, each of which is one call
-- of the queue, one of a block request, a mark of pages in the log, or a change of the table that the ring's addresses go
-- through.
use Rattle.std.specs.Prelude.{◌≡◌, ℕ, Bool, List, [], ◌∷◌, drop, take, Option, Some, None, Result, Ok, Err, IfOk}
use Rattle.std.specs.declared.alloc.AllocError.{AllocError}
use Rattle.vm_memory_base.specs.Table.{TableEvent, Set, Invalidate}
use Rattle.vm_memory_guest.specs.Host.{Holds, Host, Name, Shape, Tlb}
use Rattle.vm_memory_guest.specs.Memory.{Memory}
use Rattle.vm_memory_guest.specs.declared.host.TlbId.{TlbId}
use Rattle.vm_memory_guest.specs.declared.region.error.GuestMemoryError.{GuestMemoryError}
use Rattle.vm_memory_device.specs.Chain.{Entry, readable, text, writable}
use Rattle.vm_memory_device.specs.declared.chain.Segment.{Segment}
use Rattle.virtio_queue.specs.Again.{again}
use Rattle.virtio_queue.specs.Any.{AddsUsed, Enables, MayWantChain, MayWantNeeds, asking, enabling, needs_notification, popped, popping, returning}
use Rattle.virtio_queue.specs.Fields.{Answers}
use Rattle.virtio_queue.specs.Packed.{PackedVirtqueue}
use Rattle.virtio_queue.specs.PackedCopies.{copying, flags_in}
use Rattle.virtio_queue.specs.Looks.{Follows, Given, MayWantAny, Step, answer, index_of}
use Rattle.virtio_queue.specs.declared.any.AnyQueue.{AnyQueue}
use Rattle.virtio_queue.specs.declared.error.QueueError.{QueueError}
use Rattle.virtio_queue.specs.declared.packed.descriptor.PackedDescriptor.{PackedDescriptor}
use Rattle.virtio_queue.specs.declared.packed.state.PackedBuffer.{PackedBuffer}
use Rattle.virtio_queue.specs.State.{Virtqueue}
use Rattle.virtio_queue.specs.Used.{MayWantUsedIdx, used_idx}
use Rattle.virtio_blk.specs.Looks.{BeginsBy, FinishesBy}
use Rattle.virtio_blk.specs.Steps.{Begins, Finishes, breaks_limits}
use Rattle.virtio_blk.specs.declared.request.Request.{Request}
use Rattle.virtio_blk.specs.declared.request.DeviceLimits.{DeviceLimits}
use Rattle.vhost_iotlb.specs.Changes.{Changes}
use Rattle.vhost_iotlb.specs.declared.kept.Kept.{Kept}
use Rattle.vhost_inflight.specs.Store.{stored}
use Rattle.vhost_inflight.specs.declared.store.Store.{Store}
use Rattle.vhost_backend.specs.PageList.{marked}
use Rattle.vhost_backend.specs.RingMarks.{ring_marked}
use Rattle.vhost_backend.specs.declared.ring_memory.Logged.{Logged}

-- a pop, a return, whether the driver has to be notified, that it is to notify; the beginning and the end of the block
-- request of a chain; the index in the used ring; a mark of the pages with N bytes so far after an address, in guest
-- memory or in the ring's; a range that is kept for the ring, or is forgotten; a chain that was in flight when the back
-- end was started, the bytes of a part of the region of these, and a store to it; and of a packed ring the descriptors of
-- the next chain, and the flags of a slot
pub data MemoryStep : Type 0 where
  pops : AnyQueue → MemoryStep
  adds_used : AnyQueue → PackedBuffer → ℕ → MemoryStep
  needs : AnyQueue → MemoryStep
  enables : AnyQueue → MemoryStep
  begins : DeviceLimits → List Segment → MemoryStep
  finishes : List Segment → ℕ → ℕ → MemoryStep
  reads_used : Virtqueue → MemoryStep
  marks : ℕ → ℕ → ℕ → MemoryStep
  marks_ring : ℕ → ℕ → ℕ → MemoryStep
  keeps : Kept → MemoryStep
  forgets : Kept → MemoryStep
  pops_again : AnyQueue → ℕ → List PackedDescriptor → MemoryStep
  reads_region : ℕ → ℕ → MemoryStep
  tracks : Store → MemoryStep
  finds_copies : PackedVirtqueue → MemoryStep
  reads_flags : PackedVirtqueue → ℕ → MemoryStep

-- what it returns
abbrev pub Returned : MemoryStep → Type 0
Returned (pops q) = Result (Option (PackedBuffer × List Segment)) QueueError
Returned (adds_used q buffer len) = Result (Unit {0}) QueueError
Returned (needs q) = Result Bool QueueError
Returned (enables q) = Result Bool QueueError
Returned (begins terms chain) = Result Request GuestMemoryError
Returned (finishes chain status moved) = Result ℕ GuestMemoryError
Returned (reads_used q) = Result ℕ QueueError
Returned (marks base offset len) = Unit {0}
Returned (marks_ring base offset len) = Unit {0}
Returned (keeps k) = Result (Unit {0}) AllocError
Returned (forgets k) = Result (Unit {0}) AllocError
Returned (pops_again q head ds) = Result (List Segment) QueueError
Returned (reads_region offset n) = Result (List ℕ) AllocError
Returned (tracks s) = Unit {0}
Returned (finds_copies q) = Result (Option (List PackedDescriptor)) QueueError
Returned (reads_flags q slot) = Result ℕ QueueError

-- a call of the table of a ring, if it has one. If an allocation fails, nothing changes
abbrev pub ChangesTable : {B : Type 0} → Option TlbId → TableEvent → Host B → Result (Unit {0}) AllocError → Host B
    → Type 0
ChangesTable None call old r new = (r ≡ Ok tt) × (new ≡ old)
ChangesTable (Some t) call old (Ok done) new = Changes t.0 call old new
ChangesTable (Some t) call old (Err e) new = new ≡ old

-- a host holds what the memory of a ring names, what guest memory names, and the ring's table
abbrev pub table_names : Option TlbId → List Name
table_names None = []
table_names (Some t) = Tlb t.0 ∷ []

abbrev pub HoldsAll : Shape → List Name → List Name → Option TlbId → Type 0
HoldsAll shape ring guest table = Holds shape ring × Holds shape guest × Holds shape (table_names table)

-- on memory that stands still: what the queue says of the ring's memory, and the block request of guest memory. The log
-- is no part of it
module _ {B : Type 0} (marks_of : B → ℕ → ℕ → B → Type 0) (ring guest : Memory) (table : Option TlbId) where
  abbrev pub Still : Host B → (s : MemoryStep) → Returned s → Host B → Type 0
  Still old (pops q) r new = Answers (MayWantChain ring old q) (popped ring old q) r × (new ≡ old)
  Still old (adds_used q buffer len) r new = AddsUsed marks_of ring q buffer len old r new
  Still old (needs q) r new = Answers (MayWantNeeds ring old q) (needs_notification ring old q) r × (new ≡ old)
  Still old (enables q) r new = Enables marks_of ring q old r new
  Still old (begins terms chain) r new =
      Begins guest old terms (breaks_limits terms chain) (text (readable chain)) (text (writable chain)) r × (new ≡ old)
  Still old (finishes chain status moved) r new =
      Finishes marks_of guest (text (writable chain)) status moved old r new
  Still old (reads_used q) r new = Answers (MayWantUsedIdx ring old q.state) (used_idx ring old q.state) r × (new ≡ old)
  Still old (marks base offset len) r new = new ≡ old
  Still old (marks_ring base offset len) r new = new ≡ old
  Still old (keeps k) r new = ChangesTable table (Set k.iova k.base k.len k.access) old r new
  Still old (forgets k) r new = ChangesTable table (Invalidate k.iova k.len) old r new
  Still old (pops_again q head ds) r new = let t = again q head ds in
      Answers (MayWantAny ring old t) (answer ring old t) r × (new ≡ old)
  Still old (reads_region offset n) r new = new ≡ old
  Still old (tracks s) r new = new ≡ old
  Still old (finds_copies q) r new = let t = copying q.state in
      Answers (MayWantAny ring old t) (answer ring old t) r × (new ≡ old)
  Still old (reads_flags q slot) r new = let t = flags_in q.state slot in
      Answers (MayWantAny ring old t) (answer ring old t) r × (new ≡ old)

  -- and the pages that are to be marked, and the region
  abbrev pub Logs : Logged B → (s : MemoryStep) → Returned s → Logged B → Type 0
  Logs old (marks base offset len) r new = (new.host ≡ old.host) × (new.pages ≡ marked old.pages base offset len)
      × (new.region ≡ old.region)
  Logs old (marks_ring base offset len) r new =
      (new.host ≡ old.host) × (new.pages ≡ ring_marked table old.host.tables old.pages base offset len)
      × (new.region ≡ old.region)
  Logs old (keeps k) r new = Still old.host (keeps k) r new.host × (new.pages ≡ old.pages) × (new.region ≡ old.region)
  Logs old (forgets k) r new = Still old.host (forgets k) r new.host × (new.pages ≡ old.pages) × (new.region ≡ old.region)
  Logs old (pops q) r new = Still old.host (pops q) r new.host × (new.pages ≡ old.pages) × (new.region ≡ old.region)
  Logs old (adds_used q buffer len) r new =
      Still old.host (adds_used q buffer len) r new.host × (new.pages ≡ old.pages) × (new.region ≡ old.region)
  Logs old (needs q) r new = Still old.host (needs q) r new.host × (new.pages ≡ old.pages) × (new.region ≡ old.region)
  Logs old (enables q) r new = Still old.host (enables q) r new.host × (new.pages ≡ old.pages) × (new.region ≡ old.region)
  Logs old (reads_used q) r new = Still old.host (reads_used q) r new.host × (new.pages ≡ old.pages) × (new.region ≡ old.region)
  Logs old (begins terms chain) r new = Still old.host (begins terms chain) r new.host × (new.pages ≡ old.pages) × (new.region ≡ old.region)
  Logs old (finishes chain status moved) r new =
      Still old.host (finishes chain status moved) r new.host × (new.pages ≡ old.pages) × (new.region ≡ old.region)
  Logs old (pops_again q head ds) r new = Still old.host (pops_again q head ds) r new.host × (new.pages ≡ old.pages)
      × (new.region ≡ old.region)
  Logs old (reads_region offset n) r new = IfOk r (λ bytes. bytes ≡ take n (drop offset old.region))
      × (new.host ≡ old.host) × (new.pages ≡ old.pages) × (new.region ≡ old.region)
  Logs old (tracks s) r new =
      (new.host ≡ old.host) × (new.pages ≡ old.pages) × (new.region ≡ stored old.region s)
  Logs old (finds_copies q) r new =
      Still old.host (finds_copies q) r new.host × (new.pages ≡ old.pages) × (new.region ≡ old.region)
  Logs old (reads_flags q slot) r new =
      Still old.host (reads_flags q slot) r new.host × (new.pages ≡ old.pages) × (new.region ≡ old.region)

-- on memory that a guest writes: the looks and stores that the definition of the step asks for, in this order and each
-- once. What it makes of marks and of the ring's table, it says itself
module _ {H : Type 0} (look : H → (s : Step) → Result (Given s) QueueError → H → Type 0)
    (store : H → (s : Step) → Result (Given s) QueueError → H → Type 0)
    (fetch : H → List Entry → ℕ → Result (List ℕ) GuestMemoryError → H → Type 0)
    (put : H → List Entry → List ℕ → Result ℕ GuestMemoryError → H → Type 0)
    (log : H → (s : MemoryStep) → Returned s → H → Type 0) where
  abbrev pub ByLooks : H → (s : MemoryStep) → Returned s → H → Type 0
  ByLooks old (pops q) r new = Follows look (popping q) old r new
  ByLooks old (adds_used q buffer len) r new = Follows store (returning q buffer len) old r new
  ByLooks old (needs q) r new = Follows look (asking q) old r new
  ByLooks old (enables q) r new = Follows store (enabling q) old r new
  ByLooks old (begins terms chain) r new = BeginsBy fetch terms (breaks_limits terms chain) (text (readable chain))
      (text (writable chain)) old r new
  ByLooks old (finishes chain status moved) r new = FinishesBy put (text (writable chain)) status moved old r new
  ByLooks old (reads_used q) r new = Follows look (index_of q.state.ready q.state.used_ring) old r new
  ByLooks old (marks base offset len) r new = log old (marks base offset len) r new
  ByLooks old (marks_ring base offset len) r new = log old (marks_ring base offset len) r new
  ByLooks old (keeps k) r new = log old (keeps k) r new
  ByLooks old (forgets k) r new = log old (forgets k) r new
  ByLooks old (pops_again q head ds) r new = Follows look (again q head ds) old r new
  ByLooks old (reads_region offset n) r new = log old (reads_region offset n) r new
  ByLooks old (tracks s) r new = log old (tracks s) r new
  ByLooks old (finds_copies q) r new = Follows look (copying q.state) old r new
  ByLooks old (reads_flags q slot) r new = Follows look (flags_in q.state slot) old r new
