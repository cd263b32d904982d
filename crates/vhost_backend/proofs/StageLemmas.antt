-- What a stage of a ring whose addresses a table translates leaves of its queue.
use Rattle.std.proofs.Common.{◌≡◌, ◌⊎◌, ◌∙◌, Bool, true, false, List, [], ◌∷◌, set, Option, Some, None, Result, Ok, Err, IfOk, MatchBool, MatchOption, refl, ap, sym, subst, inl, inr}
use Rattle.std.specs.declared.alloc.AllocError.{AllocError}
use Rattle.vm_memory_base.specs.Table.{Says}
use Rattle.vm_memory_base.specs.declared.iotlb.IovaRange.{IovaRange}
use Rattle.vm_memory_base.specs.declared.iotlb.Permissions.TheVariants.{Read}
use Rattle.vm_memory_guest.specs.declared.region.error.GuestMemoryError.{GuestMemoryError}
use Rattle.vm_memory_device.specs.declared.chain.Segment.{Segment}
use Rattle.virtio_queue.specs.declared.any.AnyQueue.{AnyQueue}
use Rattle.virtio_queue.specs.declared.error.QueueError.{QueueError}
use Rattle.virtio_queue.specs.declared.packed.state.PackedBuffer.{PackedBuffer}
use Rattle.virtio_blk.specs.declared.request.DeviceLimits.{DeviceLimits}
use Rattle.virtio_blk.specs.declared.request.Request.{Request}
use Rattle.virtio_blk.specs.declared.request.Request.TheVariants.{Refused}
use Rattle.vhost_iotlb.specs.declared.kept.Kept.{Kept}
use Rattle.vhost_backend.proofs.TurnLemmas.{read_asked, refused_is}
use Rattle.vhost_backend.specs.Behind.{AfterLookUp, BeginsFetched, Fetches, FetchesChain, FetchesNext, FetchesRow, Finds, FindsNext, GivesUp, HappensBehind, IsWaiting, KeepsRows, ReachesRing, ReadsBehind, TakesFetched, Uses, WaitsBehind, begun_behind, fetching, gone_on, missed_by, open_terms, or_empty, origin_of, past_found, read_on, with_fetch, with_reach}
use Rattle.vhost_backend.specs.BlockQueue.{BlockQueueState, FoundNone, event_of, has_place, popped, refused, shortened}
use Rattle.vhost_backend.specs.Fetch.{FetchState, begun, guest_chain, has_gap, waits, want}
use Rattle.vhost_backend.specs.Reach.{forgotten, rows_forgotten}
use Rattle.vhost_backend.specs.RingMemory.{MemoryStep, Returned, begins, pops}
use Rattle.vhost_backend.specs.declared.block_queue.Asked.{Asked}
use Rattle.vhost_backend.specs.declared.block_queue.behind.Origin.{Origin}
use Rattle.vhost_backend.specs.declared.fetch.Found.{Found}
use Rattle.vhost_backend.specs.declared.fetch.Goal.{Goal}
use Rattle.vhost_backend.specs.declared.fetch.Goal.TheVariants as goal
use Rattle.vhost_backend.specs.declared.fetch.State.{State}
use Rattle.vhost_backend.specs.declared.fetch.State.TheVariants as state
use Rattle.vhost_backend.specs.declared.ring.RingEvent.{RingEvent}
use Rattle.vhost_backend.specs.declared.ring.RingEvent.TheVariants.{Break, Emptied, Kick}

-- no chain is popped, and the turn goes on or the ring breaks
abbrev pub IsQuiet : Option RingEvent → Type 0
IsQuiet None = Unit {0}
IsQuiet (Some Kick) = Unit {0}
IsQuiet (Some Break) = Unit {0}
IsQuiet _ = ⊥

-- what a stage makes of a queue: a chain is popped, which may have no place, or the turn ends, or neither
module _ {H : Type 0} (step : H → (s : MemoryStep) → Returned s → H → Type 0) where
  abbrev pub Ends : BlockQueueState → Option RingEvent → BlockQueueState → H → Type 0
  Ends q e q' new = (e ≡ Some Emptied) × (q'.asked ≡ q.asked) × (q'.queue ≡ q.queue)
      × (FoundNone step q' new ⊎ IsWaiting q')

  abbrev pub Takes : BlockQueueState → Option RingEvent → BlockQueueState → Type 0
  Takes q e q' = (buffer : PackedBuffer) × (request : Request) × (a : Asked) × (has_place q buffer.id ≡ true)
      × (q'.asked ≡ set q.asked buffer.id (Some a)) × (e ≡ event_of (popped buffer request))

  abbrev pub Misfits : BlockQueueState → Option RingEvent → BlockQueueState → Type 0
  Misfits q e q' = (buffer : PackedBuffer) × (has_place q buffer.id ≡ false) × (q'.asked ≡ q.asked)
      × (e ≡ event_of (popped buffer (Refused 1)))

  abbrev pub Stage : BlockQueueState → Option RingEvent → BlockQueueState → H → Type 0
  Stage q e q' new = (IsQuiet e × (q'.asked ≡ q.asked)) ⊎ (Ends q e q' new ⊎ (Takes q e q' ⊎ Misfits q e q'))

  pub quiet : (q q' : BlockQueueState) (x e : Option RingEvent) (new : H) → IsQuiet x → e ≡ x → q'.asked ≡ q.asked
      → Stage q e q' new
  quiet q q' x e new is same kept = inl (subst IsQuiet (sym same) is, kept)

  pub refused_quiet : (e : QueueError) → IsQuiet (event_of (refused e))
  refused_quiet e = elim (refused_is e) [
    | inl later ↦ subst (λ p. IsQuiet (event_of p)) (sym later) tt
    | inr broken ↦ subst (λ p. IsQuiet (event_of p)) (sym broken) tt
  ]

  gone_on_quiet : (r : Result (Unit {0}) AllocError) → IsQuiet (gone_on r)
  gone_on_quiet (Ok done) = tt
  gone_on_quiet (Err e) = tt

  read_on_quiet : (r : Result (Unit {0}) QueueError) → IsQuiet (read_on r)
  read_on_quiet (Ok done) = tt
  read_on_quiet (Err e) = refused_quiet e

  -- a fetch begins
  begins_fetch : (q : BlockQueueState) (r : Result (Option FetchState) AllocError) (e : Option RingEvent)
      (q' : BlockQueueState) (new : H) → (e, q') ≡ fetching q r → Stage q e q' new
  begins_fetch q (Ok (Some f)) e q' new is =
      quiet q q' (Some Kick) e new tt (ap (λ t. t.0) is) (ap (λ t. t.1.asked) is)
  begins_fetch q (Ok None) e q' new is =
      quiet q q' (Some Break) e new tt (ap (λ t. t.0) is) (ap (λ t. t.1.asked) is)
  begins_fetch q (Err error) e q' new is = quiet q q' None e new tt (ap (λ t. t.0) is) (ap (λ t. t.1.asked) is)

  rows_stage : (q : BlockQueueState) (kept : List Kept) (old : H) (e : Option RingEvent) (q' : BlockQueueState) (new : H)
      → KeepsRows step q kept old e q' new → Stage q e q' new
  rows_stage q kept old e q' new (Ok done, becomes, (r, keeps, is)) =
      quiet q q' (gone_on r) e new (gone_on_quiet r) is (ap (λ n. n.asked) becomes)
  rows_stage q kept old e q' new (Err error, becomes, (is, still)) =
      quiet q q' None e new tt is (ap (λ n. n.asked) becomes)

  begins_stage : (terms : DeviceLimits) (q : BlockQueueState) (o : Origin) (chain : List Segment) (kept : List Kept)
      (old : H) (e : Option RingEvent) (q' : BlockQueueState) (new : H)
      → BeginsFetched step terms q o chain kept old e q' new → Stage q e q' new
  begins_stage terms q o chain kept old e q' new = go (has_place q o.buffer.id) refl
    where
      read : has_place q o.buffer.id ≡ true → (r : Result Request GuestMemoryError)
          → (e, q') ≡ begun_behind q o chain kept r → Stage q e q' new
      read place (Ok request) is = let short = shortened 0 0 request in inr (inr (inl (
        o.buffer,
        short,
        record { chain = chain; request = short; kept = kept; gap = o.gap },
        place,
        ap (λ t. t.1.asked) is,
        ap (λ t. t.0) is,
      )))
      read place (Err error) is = quiet q q' None e new tt (ap (λ t. t.0) is) (ap (λ t. t.1.asked) is)

      go : (v : Bool) → has_place q o.buffer.id ≡ v → MatchBool v
          ((r : Result Request GuestMemoryError) × step old (begins (open_terms terms) chain) r new
          × ((e, q') ≡ begun_behind q o chain kept r))
          ((e ≡ event_of (popped o.buffer (Refused 1))) × (q' ≡ past_found q o) × (new ≡ old)) → Stage q e q' new
      go true place (r, first, is) = read place r is
      go false place (is, becomes, still) = inr (inr (inr (o.buffer, place, ap (λ n. n.asked) becomes, is)))

  takes_stage : (terms : DeviceLimits) (q : BlockQueueState) (o : Origin) (kept : List Kept) (old : H)
      (e : Option RingEvent) (q' : BlockQueueState) (new : H) → TakesFetched step terms q o kept old e q' new
      → Stage q e q' new
  takes_stage terms q o kept old e q' new (Ok done, p) =
      begins_stage terms q o (or_empty (guest_chain kept)) kept old e q' new p
  takes_stage terms q o kept old e q' new (Err error, (is, becomes, still)) =
      quiet q q' None e new tt is (ap (λ n. n.asked) becomes)

  uses_stage : (terms : DeviceLimits) (q : BlockQueueState) (g : Goal) (kept : List Kept) (old : H) (e : Option RingEvent)
      (q' : BlockQueueState) (new : H) → Uses step terms q g kept old e q' new → Stage q e q' new
  uses_stage terms q goal.Ring kept old e q' new (r, keeps, is, becomes) =
      quiet q q' (gone_on r) e new (gone_on_quiet r) is (ap (λ n. n.asked) becomes)
  uses_stage terms q goal.Rows kept old e q' new p = rows_stage q kept old e q' new p
  uses_stage terms q (goal.Chain found) kept old e q' new p =
      takes_stage terms q (origin_of found false) kept old e q' new p
  uses_stage terms q (goal.Status found) kept old e q' new p =
      takes_stage terms q (origin_of found (has_gap found.chain)) kept old e q' new p

  gives_up_stage : (terms : DeviceLimits) (q : BlockQueueState) (g : Goal) (old : H) (e : Option RingEvent)
      (q' : BlockQueueState) (new : H) → GivesUp step terms q g old e q' new → Stage q e q' new
  gives_up_stage terms q goal.Ring old e q' new (is, becomes, still) =
      quiet q q' (Some Break) e new tt is (ap (λ n. n.asked) becomes)
  gives_up_stage terms q goal.Rows old e q' new (is, becomes, still) =
      quiet q q' (Some Break) e new tt is (ap (λ n. n.asked) becomes)
  gives_up_stage terms q (goal.Chain found) old e q' new (r, made, becomes, still) = begins_fetch q r e q' new becomes
  gives_up_stage terms q (goal.Status found) old e q' new p =
      takes_stage terms q (origin_of found false) [] old e q' new p

  module _ (f : Says) (can_ask : Bool) (terms : DeviceLimits) where
    waits_stage : (q : BlockQueueState) (g : FetchState) (e : Option RingEvent) (q' : BlockQueueState) (new : H)
        → waits g.state ≡ true → e ≡ Some Emptied → q' ≡ with_fetch q (Some g) → Stage q e q' new
    waits_stage q g e q' new waiting is becomes = inr (inl (
      is,
      ap (λ n. n.asked) becomes,
      ap (λ n. n.queue) becomes,
      inr (subst IsWaiting (sym becomes) waiting),
    ))

    looked_stage : (q : BlockQueueState) (g : FetchState) (s : State) (old : H) (e : Option RingEvent)
        (q' : BlockQueueState) (new : H) → g.state ≡ s → AfterLookUp step can_ask terms q g s old e q' new
        → Stage q e q' new
    looked_stage q g state.Begun old e q' new at (is, becomes, still) =
        quiet q q' None e new tt is (ap (λ n. n.asked) becomes)
    looked_stage q g (state.Waits iova access) old e q' new at p = go can_ask p
      where
        go : (v : Bool) → MatchBool v ((e ≡ Some Emptied) × (q' ≡ with_fetch q (Some g)) × (new ≡ old))
            (GivesUp step terms q g.goal old e q' new) → Stage q e q' new
        go true (is, becomes, still) = waits_stage q g e q' new (ap waits at) is becomes
        go false p = gives_up_stage terms q g.goal old e q' new p
    looked_stage q g state.Stops old e q' new at p = gives_up_stage terms q g.goal old e q' new p
    looked_stage q g state.Whole old e q' new at p = uses_stage terms q g.goal g.kept old e q' new p

    -- ---- what is fetched next

    reaches_stage : (q : BlockQueueState) (old : H) (e : Option RingEvent) (q' : BlockQueueState) (new : H)
        → ReachesRing step q old e q' new → Stage q e q' new
    reaches_stage q old e q' new (Ok done, forgets, (r, made, becomes)) = begins_fetch (with_reach q (forgotten q.reach (Ok done))) r e q' new becomes
    reaches_stage q old e q' new (Err error, forgets, (is, becomes)) =
        quiet q q' None e new tt is (ap (λ n. n.asked) becomes)

    pub chain_stage : (q : BlockQueueState) (found : Found) (old : H) (e : Option RingEvent) (q' : BlockQueueState) (new : H)
        → FetchesChain step terms q found old e q' new → Stage q e q' new
    chain_stage q found old e q' new (Ok done, forgets, (r, made, becomes)) =
        begins_fetch (with_reach q (rows_forgotten q.reach (Ok done))) r e q' new becomes
    chain_stage q found old e q' new (Err error, forgets, (is, becomes)) =
        quiet q q' None e new tt is (ap (λ n. n.asked) becomes)

    pub row_stage : (q : BlockQueueState) (error : QueueError) (e : Option RingEvent) (q' : BlockQueueState) (new : H)
        → FetchesRow q error e q' → Stage q e q' new
    row_stage q error e q' new = go (missed_by error)
      where
        go : (o : Option IovaRange) → MatchOption o ((e ≡ event_of (refused error)) × (q' ≡ q))
            (λ range. (r : Result (Option FetchState) AllocError)
            × IfOk r (λ g. g ≡ begun goal.Rows (want range.base.0 range.length Read ∷ [])) × ((e, q') ≡ fetching q r))
            → Stage q e q' new
        go None (is, becomes) =
            quiet q q' (event_of (refused error)) e new (refused_quiet error) is (ap (λ n. n.asked) becomes)
        go (Some range) (r, made, becomes) = begins_fetch q r e q' new becomes

    emptied_stage : (q : BlockQueueState) (e : Option RingEvent) (q' : BlockQueueState) (new : H)
        → FoundNone step q new → e ≡ Some Emptied → q' ≡ q → Stage q e q' new
    emptied_stage q e q' new found is becomes = inr (inl (
      is,
      ap (λ n. n.asked) becomes,
      ap (λ n. n.queue) becomes,
      inl (subst (λ n. FoundNone step n new) (sym becomes) found),
    ))

    -- nothing was found by a look
    found_nothing : (u : AnyQueue) (old : H) (new : H) → Finds step u old (Ok None) new → step old (pops u) (Ok None) new
    found_nothing u old new (Ok None, first, is) = first
    found_nothing u old new (Ok (Some p), first, is) = absurd (cc)
    found_nothing u old new (Err e, first, is) = absurd (cc)

    wait_stage : (q : BlockQueueState) (old : H) (e : Option RingEvent) (q' : BlockQueueState) (new : H)
        → WaitsBehind step terms q old e q' new → Stage q e q' new
    wait_stage q old e q' new (Ok true, mid, asks, (Ok (Some found), next, finds, p)) =
        chain_stage q found next e q' new p
    wait_stage q old e q' new (Ok true, mid, asks, (Ok None, next, finds, (is, becomes, still))) =
        emptied_stage q e q' new (
          old,
          Ok true,
          mid,
          asks,
          inr (
            refl,
            inl (subst (λ h. step mid (pops q.queue) (Ok None) h) (sym still) (found_nothing q.queue mid next finds)),
          ),
        ) is becomes
    wait_stage q old e q' new (Ok true, mid, asks, (Err error, next, finds, (p, still))) = row_stage q error e q' new p
    wait_stage q old e q' new (Ok false, mid, asks, (is, becomes, still)) =
        emptied_stage q e q' new (old, Ok false, mid, asks, inl (refl, still)) is becomes
    wait_stage q old e q' new (Err error, mid, asks, (is, becomes, still)) =
        quiet q q' (event_of (refused error)) e new (refused_quiet error) is (ap (λ n. n.asked) becomes)

    find_stage : (q : BlockQueueState) (old : H) (e : Option RingEvent) (q' : BlockQueueState) (new : H)
        → FindsNext step terms q old e q' new → Stage q e q' new
    find_stage q old e q' new (Ok (Some found), mid, finds, p) = chain_stage q found mid e q' new p
    find_stage q old e q' new (Ok None, mid, finds, p) = wait_stage q mid e q' new p
    find_stage q old e q' new (Err error, mid, finds, (p, still)) = row_stage q error e q' new p

    next_stage : (q : BlockQueueState) (old : H) (e : Option RingEvent) (q' : BlockQueueState) (new : H)
        → FetchesNext step terms q old e q' new → Stage q e q' new
    next_stage q old e q' new = go q.reach.is_reached
      where
        reads : (v : Bool) → MatchBool v (ReadsBehind step q old e q' new)
            (FindsNext step terms q old e q' new) → Stage q e q' new
        reads true (r, done, is) = quiet q q' (read_on r) e new (read_on_quiet r) is
            (read_asked step terms q q.is_unread q.queue old r q' new done)
        reads false p = find_stage q old e q' new p

        go : (v : Bool) → MatchBool v (MatchBool q.is_unread (ReadsBehind step q old e q' new)
            (FindsNext step terms q old e q' new)) (ReachesRing step q old e q' new)
            → Stage q e q' new
        go true p = reads q.is_unread p
        go false p = reaches_stage q old e q' new p

    pub behind_stage : (q : BlockQueueState) (old : H) (e : Option RingEvent) (q' : BlockQueueState) (new : H)
        → HappensBehind step f can_ask terms q old e q' new → Stage q e q' new
    behind_stage q old e q' new = go q.reach.fetch
      where
        go : (o : Option FetchState) → MatchOption o (FetchesNext step terms q old e q' new)
            (λ g. Fetches step f can_ask terms (with_fetch q None) g old e q' new) → Stage q e q' new
        go None p = next_stage q old e q' new p
        go (Some g) (g', looks, after) = looked_stage (with_fetch q None) g' g'.state old e q' new refl after

  -- a turn ends for want of a chain or of a mapping
  pub behind_ends : (q q' : BlockQueueState) (new : H) → Stage q (Some Emptied) q' new
      → (q'.queue ≡ q.queue) × (FoundNone step q' new ⊎ IsWaiting q')
  behind_ends q q' new (inl (quiet, kept)) = absurd quiet
  behind_ends q q' new (inr (inl (is, kept, queue, ends))) = (queue, ends)
  behind_ends q q' new (inr (inr (inl (buffer, request, a, place, set, is)))) = absurd (cc)
  behind_ends q q' new (inr (inr (inr (buffer, place, kept, is)))) = absurd (cc)

  -- if nothing is fetched, what happens is what is fetched next
  pub nothing_fetched : (f : Says) (can_ask : Bool) (terms : DeviceLimits) (q q' n : BlockQueueState) (old : H)
      (e : Option RingEvent) (new : H) → q.reach.fetch ≡ None → n ≡ with_fetch q None
      → FetchesNext step terms n old e q' new → HappensBehind step f can_ask terms q old e q' new
  nothing_fetched f can_ask terms q q' n old e new none is next =
      subst (λ o. MatchOption o (FetchesNext step terms q old e q' new)
      (λ g. Fetches step f can_ask terms (with_fetch q None) g old e q' new)) (sym none)
      (subst (λ v. FetchesNext step terms v old e q' new) (is ∙ ap (with_fetch q) (sym none)) next)
