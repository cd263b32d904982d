-- Steps on a host with exact bitmaps are steps on a host that has their pages.
use Rattle.std.proofs.Common.{◌≡◌, ◌∙◌, ◌^◌, ◌==◌, ◌&&◌, ◌-◌, ℕ, Bool, true, false, is_none, is_ok, length, min, nat_lt, List, [], ◌∷◌, drop, map, Option, Some, None, option_map, MatchBool, MatchOption, Result, Ok, Err, ap}
use Rattle.std.proofs.lemmas.Option.{slice_get-map}
use Rattle.std.proofs.lemmas.List.{map-set}
use Rattle.vm_memory_base.specs.Pages.{PageSet, marked}
use Rattle.vm_memory_base.specs.declared.bitmap.BitmapId.{BitmapId}
use Rattle.vm_memory_base.specs.declared.bitmap.BitmapId.TheVariants.{Block, Space}
use Rattle.vm_memory_guest.specs.Dirt.{with_pages}
use Rattle.vm_memory_guest.specs.Host.{Host, written}
use Rattle.vm_memory_guest.specs.Memory.{Memory}
use Rattle.vm_memory_guest.specs.Window.{Marks, MarksAll, MarksOne, MarksWindow, Window, Writes, cells}
use Rattle.vm_memory_guest.specs.declared.region.error.GuestMemoryError.{GuestMemoryError}
use Rattle.vm_memory_device.specs.Chain.{Entry, WritesText, text, writable}
use Rattle.vm_memory_device.specs.declared.chain.Segment.{Segment}
use Rattle.virtio_queue.specs.Any as any
use Rattle.virtio_queue.specs.Fields.{StoresWord}
use Rattle.virtio_queue.specs.Fields.{Answers as AnswersAs}
use Rattle.virtio_queue.specs.Notification.{Disables, Enables, EnablesIfReady}
use Rattle.virtio_queue.specs.PackedEvents as packed
use Rattle.virtio_queue.specs.PackedUsed as packed_used
use Rattle.virtio_queue.specs.Used.{AddsUsed}
use Rattle.virtio_queue.specs.declared.any.AnyQueue.{AnyQueue}
use Rattle.virtio_queue.specs.declared.any.AnyQueue.TheVariants.{Split, Packed}
use Rattle.virtio_queue.specs.declared.error.QueueError.{QueueError}
use Rattle.virtio_queue.specs.declared.error.QueueError.TheVariants as errors
use Rattle.virtio_queue.specs.declared.packed.state.PackedBuffer.{PackedBuffer}
use Rattle.virtio_queue.specs.declared.packed.state.PackedState.{PackedState}
use Rattle.virtio_queue.specs.declared.state.QueueState.{QueueState}
use Rattle.virtio_blk.specs.Steps.{Finishes, Told, gapless, status_fault}
use Rattle.virtio_blk.specs.Texts.{WritesAt}
use Rattle.virtio_blk.specs.declared.request.Request.{Request}
use Rattle.virtio_blk.specs.declared.request.DeviceLimits.{DeviceLimits}
use Rattle.vm_session.specs.Codes.{bad_call}
use Rattle.vm_session.specs.MemorySteps.{MemoryStep, Returned, Still, adds_used, begins, disables, enables, finishes, marks_pages, needs, pops, reads_avail, reads_used}
use Rattle.vm_session.specs.QueueCodes.{answer_of_begun, answer_of_bytes, answer_of_done, answer_of_length, not_in_flight}
use Rattle.vm_session.specs.Queues.{BeginsRequest, Completes, CompletesIf, FinishesIf, FinishesRequest, Returns, ReturnsIf, TellsAvail, TellsUsed, Works, WritesChain, after_returned, device_limits, unfinished}
use Rattle.vm_session.specs.SessionState.{DeviceQueue, buffer_of, chain_of}
use Rattle.vm_session.specs.declared.call.Answer.{Answer}
use Rattle.vm_session.specs.declared.call.Call.{Call}
use Rattle.vm_session.specs.declared.call.Kind.{Kind}
use Rattle.vm_session.specs.declared.call.Kind.TheVariants as kind

module _ {B : Type 0} (marks : B → ℕ → ℕ → B → Type 0) (pages : B → PageSet)
    (exact : (old new : B) (offset len : ℕ) → marks old offset len new
    → pages new ≡ marked offset len (pages old)) where
  abbrev seen : Host B → Host PageSet
  seen host = with_pages pages host

  one_page : (number offset len : ℕ) (old new : List B) → MarksOne marks number offset len old new
      → MarksOne marks_pages number offset len (map pages old) (map pages new)
  one_page number offset len old new h = record {
    before = pages h.before;
    after = pages h.after;
    was = slice_get-map pages old number ∙ ap (option_map pages) h.was;
    marked = exact h.before h.after offset len h.marked;
    is = ap (map pages) h.is ∙ map-set pages old number h.after;
  }

  marks_seen : (id : BitmapId) (offset len : ℕ) (old new : Host B) → Marks marks id offset len old new
      → Marks marks_pages id offset len (seen old) (seen new)
  marks_seen (Block block) offset len old new h =
      (map pages h.0, one_page block offset len old.bitmaps h.0 h.1, ap seen h.2)
  marks_seen (Space space) offset len old new h =
      (map pages h.0, one_page space offset len old.spaces h.0 h.1, ap seen h.2)

  window_if : (b : Bool) (w : Window) (old new : Host B)
      → MatchBool b (Marks marks w.bitmap.id w.bitmap.base w.size old new) (new ≡ old)
      → MatchBool b (Marks marks_pages w.bitmap.id w.bitmap.base w.size (seen old) (seen new)) (seen new ≡ seen old)
  window_if true w old new h = marks_seen w.bitmap.id w.bitmap.base w.size old new h
  window_if false w old new h = ap seen h

  window_seen : (w : Window) (old new : Host B) → MarksWindow marks w old new
      → MarksWindow marks_pages w (seen old) (seen new)
  window_seen w old new h = window_if (nat_lt 0 w.size) w old new h

  all_seen : (ws : List Window) (old new : Host B) → MarksAll marks ws old new
      → MarksAll marks_pages ws (seen old) (seen new)
  all_seen [] old new h = ap seen h
  all_seen (w ∷ ws) old new h = (seen h.0, window_seen w old h.0 h.1, all_seen ws h.0 new h.2)

  pub writes_seen : (ws : List Window) (bytes : List ℕ) (old new : Host B) → Writes marks ws bytes old new
      → Writes marks_pages ws bytes (seen old) (seen new)
  writes_seen ws bytes old new h =
      all_seen ws (record old { blocks = written (cells ws) bytes old.blocks }) new h

  module _ (m : Memory) where
    stores_seen : (base offset value : ℕ) (old : Host B) (answer : Result (Unit {0}) QueueError) (new : Host B)
        → StoresWord marks m base offset value old answer new
        → StoresWord marks_pages m base offset value (seen old) answer (seen new)
    stores_seen base offset value old (Ok u) new h = (h.0, h.1, writes_seen (h.0 ∷ []) _ old new h.2)
    stores_seen base offset value old (Err e) new h = (h.0, ap seen h.1)

    adds_seen : (q : QueueState) (head len : ℕ) (old : Host B) (answer : Result (Unit {0}) QueueError) (new : Host B)
        → AddsUsed marks m q head len old answer new → AddsUsed marks_pages m q head len (seen old) answer (seen new)
    adds_seen q head len old (Ok u) new h =
        (seen h.0, (h.1.0, h.1.1, writes_seen _ _ old h.0 h.1.2), stores_seen _ _ _ h.0 (Ok tt) new h.2)
    adds_seen q head len old (Err e) new h = (h.0, ap seen h.1)

    enables_both : (q : QueueState) (old : Host B) (answer : Result Bool QueueError) (new : Host B)
        → Enables marks m q old answer new → Enables marks_pages m q (seen old) answer (seen new)
    enables_both q old (Ok more) new h = (stores_seen _ _ _ old (Ok tt) new h.0, h.1)
    enables_both q old (Err e) new h = (h.0, ap seen h.1)

    enables_seen : (q : QueueState) (old : Host B) (answer : Result Bool QueueError) (new : Host B)
        → EnablesIfReady marks m q old answer new → EnablesIfReady marks_pages m q (seen old) answer (seen new)
    enables_seen q old answer new h = at q.ready h
      where
        at : (b : Bool)
            → MatchBool b (Enables marks m q old answer new) ((answer ≡ Err errors.QueueNotReady) × (new ≡ old))
            → MatchBool b (Enables marks_pages m q (seen old) answer (seen new))
            ((answer ≡ Err errors.QueueNotReady) × (seen new ≡ seen old))
        at true h = enables_both q old answer new h
        at false h = (h.0, ap seen h.1)

    disables_seen : (q : QueueState) (old : Host B) (answer : Result (Unit {0}) QueueError) (new : Host B)
        → Disables marks m q old answer new → Disables marks_pages m q (seen old) answer (seen new)
    disables_seen q old answer new h = at q.ready q.event_idx_enabled h
      where
        at : (b on : Bool)
            → MatchBool b (MatchBool on ((answer ≡ Ok tt) × (new ≡ old))
            (StoresWord marks m q.used_ring 0 1 old answer new))
            ((answer ≡ Err errors.QueueNotReady) × (new ≡ old))
            → MatchBool b (MatchBool on ((answer ≡ Ok tt) × (seen new ≡ seen old))
            (StoresWord marks_pages m q.used_ring 0 1 (seen old) answer (seen new)))
            ((answer ≡ Err errors.QueueNotReady) × (seen new ≡ seen old))
        at true true h = (h.0, ap seen h.1)
        at true false h = stores_seen q.used_ring 0 1 old answer new h
        at false on h = (h.0, ap seen h.1)

    -- the same of a packed queue
    packed_adds : (q : PackedState) (buffer : PackedBuffer) (len : ℕ) (old : Host B)
        (answer : Result (Unit {0}) QueueError) (new : Host B)
        → packed_used.AddsUsed marks m q buffer len old answer new
        → packed_used.AddsUsed marks_pages m q buffer len (seen old) answer (seen new)
    packed_adds q buffer len old (Ok u) new h =
        (seen h.0, (h.1.0, h.1.1, writes_seen _ _ old h.0 h.1.2), stores_seen _ _ _ h.0 (Ok tt) new h.2)
    packed_adds q buffer len old (Err e) new h = (h.0, ap seen h.1)

    packed_both : (q : PackedState) (old : Host B) (answer : Result Bool QueueError) (new : Host B)
        → packed.Enables marks m q old answer new → packed.Enables marks_pages m q (seen old) answer (seen new)
    packed_both q old (Ok more) new h =
        (seen h.0, stores_seen _ _ _ old (Ok tt) h.0 h.1, stores_seen _ _ _ h.0 (Ok tt) new h.2, h.3)
    packed_both q old (Err e) new h = (h.0, ap seen h.1)

    packed_enables : (q : PackedState) (old : Host B) (answer : Result Bool QueueError) (new : Host B)
        → packed.EnablesIfReady marks m q old answer new
        → packed.EnablesIfReady marks_pages m q (seen old) answer (seen new)
    packed_enables q old answer new h = at q.ready h
      where
        at : (b : Bool) → MatchBool b (packed.Enables marks m q old answer new)
            ((answer ≡ Err errors.QueueNotReady) × (new ≡ old))
            → MatchBool b (packed.Enables marks_pages m q (seen old) answer (seen new))
            ((answer ≡ Err errors.QueueNotReady) × (seen new ≡ seen old))
        at true h = packed_both q old answer new h
        at false h = (h.0, ap seen h.1)

    packed_disables : (q : PackedState) (old : Host B) (answer : Result (Unit {0}) QueueError) (new : Host B)
        → packed.Disables marks m q old answer new → packed.Disables marks_pages m q (seen old) answer (seen new)
    packed_disables q old answer new h = at q.ready h
      where
        at : (b : Bool) → MatchBool b (StoresWord marks m q.device_area 2 1 old answer new)
            ((answer ≡ Err errors.QueueNotReady) × (new ≡ old))
            → MatchBool b (StoresWord marks_pages m q.device_area 2 1 (seen old) answer (seen new))
            ((answer ≡ Err errors.QueueNotReady) × (seen new ≡ seen old))
        at true h = stores_seen q.device_area 2 1 old answer new h
        at false h = (h.0, ap seen h.1)

    -- and of a queue of either kind
    any_pops : (q : AnyQueue) (host : Host B) (r : Result (Option (PackedBuffer × List Segment)) QueueError)
        → AnswersAs (any.MayWantChain m host q) (any.popped m host q) r
        → AnswersAs (any.MayWantChain m (seen host) q) (any.popped m (seen host) q) r
    any_pops (Split q) host r h = h
    any_pops (Packed q) host r h = h

    any_valid : (q : AnyQueue) (host : Host B) (r : Result Bool QueueError)
        → AnswersAs (any.MayWantValid m host q) (any.valid m host q) r
        → AnswersAs (any.MayWantValid m (seen host) q) (any.valid m (seen host) q) r
    any_valid (Split q) host r h = h
    any_valid (Packed q) host r h = h

    any_needs : (q : AnyQueue) (host : Host B) (r : Result Bool QueueError)
        → AnswersAs (any.MayWantNeeds m host q) (any.needs_notification m host q) r
        → AnswersAs (any.MayWantNeeds m (seen host) q) (any.needs_notification m (seen host) q) r
    any_needs (Split q) host r h = h
    any_needs (Packed q) host r h = h

    any_adds : (q : AnyQueue) (buffer : PackedBuffer) (len : ℕ) (old : Host B)
        (answer : Result (Unit {0}) QueueError) (new : Host B) → any.AddsUsed marks m q buffer len old answer new
        → any.AddsUsed marks_pages m q buffer len (seen old) answer (seen new)
    any_adds (Split q) buffer len old answer new h = adds_seen q.state buffer.id len old answer new h
    any_adds (Packed q) buffer len old answer new h = packed_adds q.state buffer len old answer new h

    any_enables : (q : AnyQueue) (old : Host B) (answer : Result Bool QueueError) (new : Host B)
        → any.Enables marks m q old answer new → any.Enables marks_pages m q (seen old) answer (seen new)
    any_enables (Split q) old answer new h = enables_seen q.state old answer new h
    any_enables (Packed q) old answer new h = packed_enables q.state old answer new h

    any_disables : (q : AnyQueue) (old : Host B) (answer : Result (Unit {0}) QueueError) (new : Host B)
        → any.Disables marks m q old answer new → any.Disables marks_pages m q (seen old) answer (seen new)
    any_disables (Split q) old answer new h = disables_seen q.state old answer new h
    any_disables (Packed q) old answer new h = packed_disables q.state old answer new h

    text_seen : (es : List Entry) (bytes : List ℕ) (old : Host B) (answer : Result ℕ GuestMemoryError)
        (left : List Entry) (new : Host B) → WritesText marks m es bytes old answer left new
        → WritesText marks_pages m es bytes (seen old) answer left (seen new)
    text_seen es bytes old answer left new h = (h.0, h.1, h.2, writes_seen _ bytes old new h.3)

    chain_seen : (q : DeviceQueue) (head offset : ℕ) (bytes : List ℕ) (old : Host B) (a : Answer) (new : Host B)
        → WritesChain marks m q head offset bytes old a new
        → WritesChain marks_pages m q head offset bytes (seen old) a (seen new)
    chain_seen q head offset bytes old a new h = at (chain_of q head) h
      where
        at : (o : Option (List Segment))
            → MatchOption o ((a ≡ not_in_flight) × (new ≡ old)) (λ chain. (r : Result ℕ GuestMemoryError)
            × (left : List Entry)
            × WritesText marks m (drop offset (text (writable chain))) bytes old r left new × (a ≡ answer_of_bytes r))
            → MatchOption o ((a ≡ not_in_flight) × (seen new ≡ seen old)) (λ chain. (r : Result ℕ GuestMemoryError)
            × (left : List Entry)
            × WritesText marks_pages m (drop offset (text (writable chain))) bytes (seen old) r left (seen new)
            × (a ≡ answer_of_bytes r))
        at None h = (h.0, ap seen h.1)
        at (Some chain) h = (h.0, h.1, text_seen _ bytes old h.0 h.1 new h.2, h.3)

    -- the status of a request
    at_seen : (es : List Entry) (bytes : List ℕ) (old new : Host B) → WritesAt marks m es bytes old new
        → WritesAt marks_pages m es bytes (seen old) (seen new)
    at_seen es bytes old new h = record {
      windows = h.windows;
      within = h.within;
      access = h.access;
      placed = h.placed;
      written = writes_seen h.windows bytes old new h.written;
    }

    status_if : (es : List Entry) (status : ℕ) (old new : Host B) (b : Bool)
        → MatchBool b (WritesAt marks m es (status ∷ []) old new) (new ≡ old)
        → MatchBool b (WritesAt marks_pages m es (status ∷ []) (seen old) (seen new)) (seen new ≡ seen old)
    status_if es status old new true h = at_seen es (status ∷ []) old new h
    status_if es status old new false h = ap seen h

    finishes_seen : (es : List Entry) (status moved : ℕ) (old : Host B) (answer : Result ℕ GuestMemoryError)
        (new : Host B) → Finishes marks m es status moved old answer new
        → Finishes marks_pages m es status moved (seen old) answer (seen new)
    finishes_seen es status moved old answer new h = at (length es == 0) h
      where
        at : (b : Bool) → MatchBool b ((answer ≡ Ok 0) × (new ≡ old))
            (Told m (status_fault m old.tables es) (gapless es (min moved (length es - 1)))
            (min moved (length es - 1)) answer
            × MatchBool (is_ok answer && is_none (status_fault m old.tables es))
            (WritesAt marks m (drop (length es - 1) es) (status ∷ []) old new) (new ≡ old))
            → MatchBool b ((answer ≡ Ok 0) × (seen new ≡ seen old))
            (Told m (status_fault m old.tables es) (gapless es (min moved (length es - 1)))
            (min moved (length es - 1)) answer
            × MatchBool (is_ok answer && is_none (status_fault m old.tables es))
            (WritesAt marks_pages m (drop (length es - 1) es) (status ∷ []) (seen old) (seen new))
            (seen new ≡ seen old))
        at true h = (h.0, ap seen h.1)
        at false h = (
          h.0,
          status_if (drop (length es - 1) es) status old new
              (is_ok answer && is_none (status_fault m old.tables es)) h.1,
        )

    -- so is each step of a device
    step_seen : (s : MemoryStep) (old : Host B) (r : Returned s) (new : Host B) → Still marks m old s r new
        → Still marks_pages m (seen old) s r (seen new)
    step_seen (pops q) old r new h = (any_pops q old r h.0, ap seen h.1)
    step_seen (adds_used q buffer len) old r new h = any_adds q buffer len old r new h
    step_seen (needs q) old r new h = (any_needs q old r h.0, ap seen h.1)
    step_seen (enables q) old r new h = any_enables q old r new h
    step_seen (disables q) old r new h = any_disables q old r new h
    step_seen (reads_avail q) old r new h = (h.0, ap seen h.1)
    step_seen (reads_used q) old r new h = (h.0, ap seen h.1)
    step_seen (begins limits chain) old r new h = (h.0, ap seen h.1)
    step_seen (finishes chain status moved) old r new h =
        finishes_seen (text (writable chain)) status moved old r new h

    avail_seen : (q : AnyQueue) (old : Host B) (a : Answer) (new : Host B) → TellsAvail (Still marks m) q old a new
        → TellsAvail (Still marks_pages m) q (seen old) a (seen new)
    avail_seen (Split q) old a new h = (h.0, step_seen (reads_avail q) old h.0 new h.1, h.2)
    avail_seen (Packed q) old a new h = (h.0, ap seen h.1)

    used_seen : (q : AnyQueue) (old : Host B) (a : Answer) (new : Host B) → TellsUsed (Still marks m) q old a new
        → TellsUsed (Still marks_pages m) q (seen old) a (seen new)
    used_seen (Split q) old a new h = (h.0, step_seen (reads_used q) old h.0 new h.1, h.2)
    used_seen (Packed q) old a new h = (h.0, ap seen h.1)

    returns_seen : (q : DeviceQueue) (head len : ℕ) (old : Host B) (a : Answer) (q' : DeviceQueue) (new : Host B)
        → Returns (Still marks m) q head len old a q' new
        → Returns (Still marks_pages m) q head len (seen old) a q' (seen new)
    returns_seen q head len old a q' new h = at (chain_of q head) h
      where
        at : (o : Option (List Segment))
            → MatchOption o ((a ≡ not_in_flight) × (q' ≡ q) × (new ≡ old)) (λ chain.
            (r : Result (Unit {0}) QueueError) × any.AddsUsed marks m q.queue (buffer_of q head) len old r new
            × (a ≡ answer_of_done r) × (q' ≡ after_returned q head r))
            → MatchOption o ((a ≡ not_in_flight) × (q' ≡ q) × (seen new ≡ seen old)) (λ chain.
            (r : Result (Unit {0}) QueueError)
            × any.AddsUsed marks_pages m q.queue (buffer_of q head) len (seen old) r (seen new)
            × (a ≡ answer_of_done r) × (q' ≡ after_returned q head r))
        at None h = (h.0, h.1, ap seen h.2)
        at (Some chain) h = (h.0, any_adds q.queue (buffer_of q head) len old h.0 new h.1, h.2, h.3)

    returns_if : (call : Call) (q : DeviceQueue) (old : Host B) (a : Answer) (q' : DeviceQueue) (new : Host B)
        → ReturnsIf (Still marks m) call q old a q' new
        → ReturnsIf (Still marks_pages m) call q (seen old) a q' (seen new)
    returns_if call q old a q' new h = at (nat_lt call.value (2 ^ 32)) h
      where
        at : (b : Bool) → MatchBool b (Returns (Still marks m) q call.third call.value old a q' new)
            ((a ≡ bad_call) × (q' ≡ q) × (new ≡ old))
            → MatchBool b (Returns (Still marks_pages m) q call.third call.value (seen old) a q' (seen new))
            ((a ≡ bad_call) × (q' ≡ q) × (seen new ≡ seen old))
        at true h = returns_seen q call.third call.value old a q' new h
        at false h = (h.0, h.1, ap seen h.2)

    completes_if : (call : Call) (input : List ℕ) (q : DeviceQueue) (old : Host B) (a : Answer) (q' : DeviceQueue)
        (new : Host B) → CompletesIf marks m (Still marks m) call input q old a q' new
        → CompletesIf marks_pages m (Still marks_pages m) call input q (seen old) a q' (seen new)
    completes_if call input q old a q' new h = at (nat_lt call.value (2 ^ 32)) h
      where
        whole : (told : Answer) (mid : Host B) (b : Bool) → MatchBool b
            (Returns (Still marks m) q call.third call.value mid a q' new)
            ((a ≡ unfinished (length input) told) × (q' ≡ q) × (new ≡ mid)) → MatchBool b
            (Returns (Still marks_pages m) q call.third call.value (seen mid) a q' (seen new))
            ((a ≡ unfinished (length input) told) × (q' ≡ q) × (seen new ≡ seen mid))
        whole told mid true k = returns_seen q call.third call.value mid a q' new k
        whole told mid false k = (k.0, k.1, ap seen k.2)

        at : (b : Bool) → MatchBool b (Completes marks m (Still marks m) call input q old a q' new)
            ((a ≡ bad_call) × (q' ≡ q) × (new ≡ old))
            → MatchBool b (Completes marks_pages m (Still marks_pages m) call input q (seen old) a q' (seen new))
            ((a ≡ bad_call) × (q' ≡ q) × (seen new ≡ seen old))
        at true k = (
          k.0,
          seen k.1,
          chain_seen q call.third call.address input old k.0 k.1 k.2,
          whole k.0 k.1 (k.0.code == 0 && k.0.count == length input) k.3,
        )
        at false k = (k.0, k.1, ap seen k.2)

    request_seen : (q : DeviceQueue) (head status moved : ℕ) (old : Host B) (a : Answer) (new : Host B)
        → FinishesRequest (Still marks m) q head status moved old a new
        → FinishesRequest (Still marks_pages m) q head status moved (seen old) a (seen new)
    request_seen q head status moved old a new h = at (chain_of q head) h
      where
        at : (o : Option (List Segment)) → MatchOption o ((a ≡ not_in_flight) × (new ≡ old)) (λ chain.
            (r : Result ℕ GuestMemoryError) × Finishes marks m (text (writable chain)) status moved old r new
            × (a ≡ answer_of_length r))
            → MatchOption o ((a ≡ not_in_flight) × (seen new ≡ seen old)) (λ chain. (r : Result ℕ GuestMemoryError)
            × Finishes marks_pages m (text (writable chain)) status moved (seen old) r (seen new)
            × (a ≡ answer_of_length r))
        at None h = (h.0, ap seen h.1)
        at (Some chain) h = (h.0, finishes_seen (text (writable chain)) status moved old h.0 new h.1, h.2)

    finish_if : (call : Call) (q : DeviceQueue) (old : Host B) (a : Answer) (new : Host B)
        → FinishesIf (Still marks m) call q old a new → FinishesIf (Still marks_pages m) call q (seen old) a (seen new)
    finish_if call q old a new h = at (nat_lt call.value (2 ^ 8)) h
      where
        at : (b : Bool) → MatchBool b (FinishesRequest (Still marks m) q call.third call.value call.length old a new)
            ((a ≡ bad_call) × (new ≡ old))
            → MatchBool b
            (FinishesRequest (Still marks_pages m) q call.third call.value call.length (seen old) a (seen new))
            ((a ≡ bad_call) × (seen new ≡ seen old))
        at true h = request_seen q call.third call.value call.length old a new h
        at false h = (h.0, ap seen h.1)

    begins_seen : (q : DeviceQueue) (head : ℕ) (o : Option DeviceLimits) (old : Host B) (a : Answer) (new : Host B)
        → BeginsRequest (Still marks m) q head o old a new
        → BeginsRequest (Still marks_pages m) q head o (seen old) a (seen new)
    begins_seen q head None old a new h = (h.0, ap seen h.1)
    begins_seen q head (Some limits) old a new h = at (chain_of q head) h
      where
        at : (o : Option (List Segment)) → MatchOption o ((a ≡ not_in_flight) × (new ≡ old)) (λ chain.
            (r : Result Request GuestMemoryError) × Still marks m old (begins limits chain) r new
            × (a ≡ answer_of_begun r))
            → MatchOption o ((a ≡ not_in_flight) × (seen new ≡ seen old)) (λ chain.
            (r : Result Request GuestMemoryError)
            × Still marks_pages m (seen old) (begins limits chain) r (seen new) × (a ≡ answer_of_begun r))
        at None h = (h.0, ap seen h.1)
        at (Some chain) h = (h.0, step_seen (begins limits chain) old h.0 new h.1, h.2)

    -- so is each call on a queue and a memory
    pub work_seen : (k : Kind) (call : Call) (input : List ℕ) (q : DeviceQueue) (old : Host B) (out : List ℕ)
        (a : Answer) (q' : DeviceQueue) (new : Host B) (out' : List ℕ)
        → Works marks m (Still marks m) k call input q old out a q' new out'
        → Works marks_pages m (Still marks_pages m) k call input q (seen old) out a q' (seen new) out'
    work_seen kind.QueueIsValid call input q old out a q' new out' h =
        ((h.0.0, any_valid q.queue old h.0.0 h.0.1, h.0.2), h.1, ap seen h.2, h.3)
    work_seen kind.AvailIdx call input q old out a q' new out' h = (avail_seen q.queue old a new h.0, h.1, h.2)
    work_seen kind.UsedIdx call input q old out a q' new out' h = (used_seen q.queue old a new h.0, h.1, h.2)
    work_seen kind.Pop call input q old out a q' new out' h =
        ((h.0.0, step_seen (pops q.queue) old h.0.0 new h.0.1, h.0.2), h.1)
    work_seen kind.ReadChain call input q old out a q' new out' h = (h.0, h.1, ap seen h.2)
    work_seen kind.WriteChain call input q old out a q' new out' h =
        (chain_seen q call.third call.address input old a new h.0, h.1, h.2)
    work_seen kind.AddUsed call input q old out a q' new out' h = (returns_if call q old a q' new h.0, h.1)
    work_seen kind.CompleteChain call input q old out a q' new out' h =
        (completes_if call input q old a q' new h.0, h.1)
    work_seen kind.NeedsNotification call input q old out a q' new out' h =
        ((h.0.0, step_seen (needs q.queue) old h.0.0 new h.0.1, h.0.2, h.0.3), h.1)
    work_seen kind.EnableNotification call input q old out a q' new out' h =
        ((h.0.0, step_seen (enables q.queue) old h.0.0 new h.0.1, h.0.2), h.1, h.2)
    work_seen kind.DisableNotification call input q old out a q' new out' h =
        ((h.0.0, step_seen (disables q.queue) old h.0.0 new h.0.1, h.0.2), h.1, h.2)
    work_seen kind.BeginRequest call input q old out a q' new out' h =
        (begins_seen q call.third (device_limits call) old a new h.0, h.1, h.2)
    work_seen kind.FinishRequest call input q old out a q' new out' h = (finish_if call q old a new h.0, h.1, h.2)
    work_seen k call input q old out a q' new out' h = absurd h
