-- The requests of a queue are those that its ring has under way.
use Rattle.std.proofs.Common.{◌≡◌, ◌∙◌, ℕ, ◌+◌, ◌<◌, ◌≤◌, ◌==◌, ◌&&◌, not, nat_lt, Bool, true, false, List, [], ◌∷◌, length, set, Option, Some, None, is_some, Result, Ok, Err, MatchBool, if◌then◌else◌, refl, ap, sym, subst, arith, inl, inr, length-append}
use Rattle.std.specs.List.{slice_index_or}
use Rattle.std.proofs.lemmas.Bool.{and_parts, cases_eq, cases_lt, eq-eqb, ltb-true, ne_eqb}
use Rattle.std.proofs.lemmas.List.{get_or-set_other, get_or-set_same, get_or_past}
use Rattle.std.proofs.Math.ListN.{length-set}
use Rattle.vm_memory_base.specs.Table.{says}
use Rattle.vm_memory_guest.specs.declared.region.error.GuestMemoryError.{GuestMemoryError}
use Rattle.virtio_queue.specs.Any.{past}
use Rattle.virtio_queue.specs.declared.error.QueueError.{QueueError}
use Rattle.virtio_queue.specs.declared.packed.state.PackedBuffer.{PackedBuffer}
use Rattle.virtio_blk.specs.declared.request.Request.{Request}
use Rattle.virtio_blk.specs.declared.request.Request.TheVariants.{Refused}
use Rattle.virtio_blk.specs.declared.request.DeviceLimits.{DeviceLimits}
use Rattle.vhost_backend.proofs.OnceLemmas.{step_keeps}
use Rattle.vhost_backend.proofs.FlightLemmas.{Goes, in_goes}
use Rattle.vhost_backend.proofs.StageLemmas.{IsQuiet, Stage, behind_stage}
use Rattle.vhost_backend.proofs.TurnLemmas.{nothing_popped, read_asked, refused_is}
use Rattle.vhost_backend.specs.Behind.{HappensBy}
use Rattle.vhost_backend.specs.Block.{block_parts, len_of}
use Rattle.vhost_backend.specs.BlockQueue.{AfterAsk, AfterPop, AfterRead, Agrees, BlockQueueState, FindsAll, HappensNext, Pops, PopsOrWaits, Waits, asked_at, asked_count, begun, chain_by, event_of, given, has_place, popped, refused, shortened, with_asked, with_queue}
use Rattle.vhost_backend.specs.Flight.{HappensIn}
use Rattle.vhost_backend.specs.Ring.{RingState, Step, may_run, request_at}
use Rattle.vhost_backend.specs.Ring as ring
use Rattle.vhost_backend.specs.RingMemory.{MemoryStep, Returned}
use Rattle.vhost_backend.specs.RingMemory as memory
use Rattle.vhost_backend.specs.Story.{RingStep, On, busy, chain_under_way, of_id, returned, stepped, taken, under_way}
use Rattle.vhost_backend.specs.declared.block_queue.Asked.{Asked}
use Rattle.vhost_backend.specs.declared.block_queue.Pop.{Pop}
use Rattle.vhost_backend.specs.declared.block_queue.Pop.TheVariants as pop
use Rattle.vhost_backend.specs.Sight.{Sight}
use Rattle.vhost_backend.specs.declared.request.Chain.{Chain}
use Rattle.vhost_backend.specs.declared.request.Request as ring_request
use Rattle.vhost_backend.specs.declared.ring.RingEvent.{RingEvent}
use Rattle.vhost_backend.specs.declared.ring.RingEvent.TheVariants.{Start, Stop, Enable, Break, Kick, Popped, Emptied, Ended}

abbrev one_if : Bool → ℕ
one_if b = if b then 1 else 0

at_most_one : (b : Bool) → one_if b ≤ 1
at_most_one true = omega arith
at_most_one false = omega arith

-- ---- chains that are given back

module _ (q : BlockQueueState) (id : ℕ) where
  pub none_asked : asked_count (with_asked q id None) id ≡ 0
  none_asked = elim (cases_lt id (length q.asked)) [
    | inl below ↦ ap (λ o. one_if (is_some o)) (get_or-set_same q.asked id None None below)
    | inr past ↦ ap (λ o. one_if (is_some o)) (get_or_past (set q.asked id None) id None
        (omega (arith, past, length-set q.asked id None)))
  ]

  pub other_asked : (i : ℕ) (o : Option Asked) → (i ≡ id → ⊥) → asked_count (with_asked q i o) id ≡ asked_count q id
  other_asked i o differs =
      ap (λ o. one_if (is_some o)) (get_or-set_other q.asked i id o None (λ e. differs (sym e)))

zero_either : (b : Bool) (n : ℕ) → n ≡ 0 → (if b then n else 0) ≡ 0
zero_either true n none = none
zero_either false n none = refl

given_count : (q : BlockQueueState) (cs : List Chain) (id : ℕ) → asked_count (given q cs) id
    ≡ (if length (of_id id cs) == 0 then asked_count q id else 0)
given_count q [] id = refl
given_count q (chain ∷ cs) id = elim (cases_eq chain.id id) [
  | inl same ↦ given_count (with_asked q chain.id None) cs id ∙ here same
  | inr differs ↦ given_count (with_asked q chain.id None) cs id ∙ other differs
]
  where
    here : chain.id ≡ id
        → (if length (of_id id cs) == 0 then asked_count (with_asked q chain.id None) id else 0)
        ≡ (if length (of_id id (chain ∷ cs)) == 0 then asked_count q id else 0)
    here same =
        let none : asked_count (with_asked q chain.id None) id ≡ 0 =
        subst (λ k. asked_count (with_asked q chain.id None) k ≡ 0) same (none_asked q chain.id) in
        let more : length (of_id id (chain ∷ cs)) ≡ 1 + length (of_id id cs) =
        rw (eq-eqb chain.id id same) (omega arith) in
        let some : (length (of_id id (chain ∷ cs)) == 0) ≡ false =
        ne_eqb (length (of_id id (chain ∷ cs))) 0 (λ bad. omega (arith, more, bad)) in
        zero_either (length (of_id id cs) == 0) (asked_count (with_asked q chain.id None) id) none
        ∙ sym (ap (λ b. if b then asked_count q id else 0) some)

    other : (chain.id ≡ id → ⊥)
        → (if length (of_id id cs) == 0 then asked_count (with_asked q chain.id None) id else 0)
        ≡ (if length (of_id id (chain ∷ cs)) == 0 then asked_count q id else 0)
    other differs = rw (other_asked q id chain.id None differs, ne_eqb chain.id id differs) refl

-- as many of each id are under way as are returned and stay under way
pub all_found : (q : BlockQueueState) (r : RingState) (cs : List Chain)
    → ((id : ℕ) → asked_count q id ≡ length (of_id id cs) + busy r id)
    → Agrees (given q cs) r × ((id : ℕ) → 0 < length (of_id id cs) → is_some (asked_at q id) ≡ true)
all_found q r cs count = (
  λ id. given_count q cs id
      ∙ by (length (of_id id cs)) (asked_count q id) (busy r id) (count id) (at_most_one (is_some (asked_at q id))),
  λ id some. found (is_some (asked_at q id)) (length (of_id id cs)) (busy r id) (count id) some,
)
  where
    by : (n a b : ℕ) → a ≡ n + b → a ≤ 1 → (if n == 0 then a else 0) ≡ b
    by n a b same most = elim (cases_eq n 0) [
      | inl none ↦ rw (eq-eqb n 0 none) (omega (arith, same, none))
      | inr some ↦ rw (ne_eqb n 0 some) (zero n a b same most some)
    ]
      where
        zero : (n a b : ℕ) → a ≡ n + b → a ≤ 1 → (n ≡ 0 → ⊥) → 0 ≡ b
        zero n a b same most some = elim (cases_lt 0 n) [
          | inl positive ↦ omega (arith, same, most, positive)
          | inr least ↦ let none : n ≡ 0 = omega arith in absurd (some none)
        ]

    found : (s : Bool) (n b : ℕ) → one_if s ≡ n + b → 0 < n → s ≡ true
    found true n b same some = refl
    found false n b same some = absurd (omega (arith, same, some))

settles : (q : BlockQueueState) (t : Step)
    → ((id : ℕ) → asked_count q id ≡ length (of_id id (returned t.1)) + busy t.0 id) → FindsAll q t
settles q t = all_found q t.0 (returned t.1)

-- ---- what a step of a ring takes and returns

pub busy_length : (id : ℕ) (r : RingState) → length (under_way r id) ≡ busy r id
busy_length id r = go (request_at r id)
  where
    go : (o : Option ring_request.Request) → length (chain_under_way id o) ≡ one_if (is_some o)
    go None = refl
    go (Some request) = refl

counts : (r : RingState) (id : ℕ) (s : RingStep) → busy r id + length (of_id id (taken r s))
    ≡ length (of_id id (returned (stepped r s).1)) + busy (stepped r s).0 id
counts r id s =
    let t = stepped r s in
    omega (
      arith,
      ap length (step_keeps r id s),
      length-append (under_way r id) (of_id id (taken r s)),
      length-append (of_id id (returned t.1)) (under_way t.0 id),
      busy_length id r,
      busy_length id t.0,
    )

pub others : (q : BlockQueueState) (r : RingState) (s : RingStep) → Agrees q r → taken r s ≡ []
    → FindsAll q (stepped r s)
others q r s agrees none = settles q (stepped r s) (λ id.
    let same : length (of_id id (taken r s)) ≡ 0 = ap (λ cs. length (of_id id cs)) none in
    omega (arith, counts r id s, agrees id, same))

-- ---- a step of a turn

module _ {H : Type 0} (step : H → (s : MemoryStep) → Returned s → H → Type 0) (terms : DeviceLimits) (q : BlockQueueState)
    (r : RingState) (agrees : Agrees q r) (same : length q.asked ≡ length r.requests) (runs : may_run r ≡ true) where
  -- one more is under way if the ring takes a chain
  abbrev Grows : RingEvent → BlockQueueState → Type 0
  Grows e new = (id : ℕ) → asked_count new id ≡ asked_count q id + length (of_id id (taken r (On e)))

  stays : (e : RingEvent) → taken r (On e) ≡ [] → (new : BlockQueueState) → new.asked ≡ q.asked → Grows e new
  stays e none new is id =
      let more : length (of_id id (taken r (On e))) ≡ 0 = ap (λ cs. length (of_id id cs)) none in
      let kept : asked_count new id ≡ asked_count q id = ap (λ l. one_if (is_some (slice_index_or l id None))) is in
      omega arith

  -- the ring has a place exactly if the queue has
  same_place : (id : ℕ) → ring.has_place r id ≡ has_place q id
  same_place id = ap (λ n. nat_lt id n && not (is_some (request_at r id))) (sym same)
      ∙ ap (λ b. nat_lt id (length q.asked) && not b) (go (is_some (request_at r id)) (is_some (asked_at q id)) (agrees id))
    where
      go : (one other : Bool) → one_if other ≡ one_if one → one ≡ other
      go true true is = refl
      go true false is = absurd (omega arith)
      go false true is = absurd (omega arith)
      go false false is = refl

  takes : (chain : Chain) (parts bytes : ℕ) (place : Bool) → has_place q chain.id ≡ place
      → taken r (On (Popped chain parts bytes)) ≡ (if place then chain ∷ [] else [])
  takes chain parts bytes place is = rw (runs, same_place chain.id, is) refl

  popped_grows : (buffer : PackedBuffer) (request : Request) (new : BlockQueueState) (a : Asked)
      → has_place q buffer.id ≡ true → new.asked ≡ set q.asked buffer.id (Some a) → (parts bytes : ℕ)
      → Grows (Popped (chain_by buffer) parts bytes) new
  popped_grows buffer request new a place is parts bytes id =
      let chain = chain_by buffer in
      let kept : asked_count new id ≡ asked_count (with_asked q buffer.id (Some a)) id =
      ap (λ l. one_if (is_some (slice_index_or l id None))) is in
      let more : length (of_id id (taken r (On (Popped chain parts bytes)))) ≡ length (of_id id (chain ∷ [])) =
      ap (λ cs. length (of_id id cs)) (takes chain parts bytes true place) in
      elim (cases_eq buffer.id id) [
        | inl here ↦
            let one : length (of_id id (chain ∷ [])) ≡ 1 = rw (here, eq-eqb id id refl) refl in
            omega (arith, kept, more, one, own here)
        | inr differs ↦
            let none : length (of_id id (chain ∷ [])) ≡ 0 = rw (ne_eqb buffer.id id differs) refl in
            omega (arith, kept, more, none, other_asked q id buffer.id (Some a) differs)
      ]
    where
      parts_of_place : (nat_lt buffer.id (length q.asked) ≡ true) × (not (is_some (asked_at q buffer.id)) ≡ true)
      parts_of_place = and_parts (nat_lt buffer.id (length q.asked)) (not (is_some (asked_at q buffer.id))) place

      inside : buffer.id < length q.asked
      inside = ltb-true buffer.id (length q.asked) parts_of_place.0

      free : (b : Bool) → not b ≡ true → one_if b ≡ 0
      free false is = refl
      free true is = absurd (cc)

      own : buffer.id ≡ id → asked_count (with_asked q buffer.id (Some a)) id ≡ asked_count q id + 1
      own here = subst (λ k. asked_count (with_asked q buffer.id (Some a)) k ≡ asked_count q k + 1) here (
          let one : asked_count (with_asked q buffer.id (Some a)) buffer.id ≡ 1 =
          ap (λ o. one_if (is_some o)) (get_or-set_same q.asked buffer.id (Some a) None inside) in
          let none : asked_count q buffer.id ≡ 0 = free (is_some (asked_at q buffer.id)) parts_of_place.1 in
          omega arith)

  event_is : (one other : RingEvent) → Some one ≡ Some other → one ≡ other
  event_is one other is = cc

  refused_grows : (error : QueueError) (e : RingEvent) (new : BlockQueueState) → event_of (refused error) ≡ Some e
      → new.asked ≡ q.asked → Grows e new
  refused_grows error e new is kept = elim (refused_is error) [
    | inl later ↦ let bad : None ≡ Some e = ap event_of (sym later) ∙ is in absurd (cc)
    | inr broken ↦
        let equal : Break ≡ e = event_is Break e (ap event_of (sym broken) ∙ is) in
        subst (λ x. Grows x new) equal (stays Break refl new kept)
  ]

  pops_grow : (old : H) (found : Pop) (new_q : BlockQueueState) (new : H) → Pops step terms q old found new_q new
      → (e : RingEvent) → event_of found ≡ Some e → Grows e new_q
  pops_grow old found new_q new (Ok None, mid, stepped, (is, kept, still)) e event =
      let equal : Emptied ≡ e = event_is Emptied e (ap event_of (sym is) ∙ event) in
      subst (λ x. Grows x new_q) equal (stays Emptied refl new_q (ap (λ n. n.asked) kept))
  pops_grow old found new_q new (Err error, mid, stepped, (is, kept, still)) e event =
      refused_grows error e new_q (ap event_of (sym is) ∙ event) (ap (λ n. n.asked) kept)
  pops_grow old found new_q new (Ok (Some p), mid, stepped, begins) e event =
      go (has_place q p.0.id) refl begins
    where
      next : BlockQueueState
      next = with_queue q (past q.queue p.0)

      read : (request : Result Request GuestMemoryError) → has_place q p.0.id ≡ true
          → (found, new_q) ≡ begun q.queue next p.0 p.1 request → Grows e new_q
      read (Err error) place is =
          let bad : None ≡ Some e = ap event_of (sym (ap (λ t. t.0) is)) ∙ event in absurd (cc)
      read (Ok request) place is =
          let short = shortened (length q.asked) (length p.1) request in
          let a : Asked = record { chain = p.1; request = short; kept = []; gap = false } in
          let b = popped p.0 short in
          let it : event_of b ≡ Some e = ap event_of (sym (ap (λ t. t.0) is)) ∙ event in
          let kept : new_q.asked ≡ set q.asked p.0.id (Some a) = ap (λ t. t.1.asked) is in
          subst (λ x. Grows x new_q) (event_is (Popped (chain_by p.0) (block_parts short) (len_of short)) e it)
          (popped_grows p.0 short new_q a place kept (block_parts short) (len_of short))

      go : (place : Bool) → has_place q p.0.id ≡ place → MatchBool place
          ((request : Result Request GuestMemoryError) × step mid (memory.begins terms p.1) request new
          × ((found, new_q) ≡ begun q.queue next p.0 p.1 request))
          ((found ≡ popped p.0 (Refused 1)) × (new_q ≡ next) × (new ≡ mid)) → Grows e new_q
      go true place (request, looked, is) = read request place is
      go false place (is, kept, still) =
          let it : Some (Popped (chain_by p.0) 0 0) ≡ Some e = ap event_of (sym is) ∙ event in
          subst (λ x. Grows x new_q) (event_is (Popped (chain_by p.0) 0 0) e it)
          (stays (Popped (chain_by p.0) 0 0) (takes (chain_by p.0) 0 0 false place) new_q (ap (λ n. n.asked) kept))

  ask_grows : (answer : Result Bool QueueError) (asked : H) (e : RingEvent) (new_q : BlockQueueState) (new : H)
      → AfterAsk step terms q answer asked (Some e) new_q new → Grows e new_q
  ask_grows (Ok false) asked e new_q new (is, kept, still) =
      subst (λ x. Grows x new_q) (event_is Emptied e (sym is)) (stays Emptied refl new_q (ap (λ n. n.asked) kept))
  ask_grows (Ok true) asked e new_q new (found, pops, is) = pops_grow asked found new_q new pops e (sym is)
  ask_grows (Err error) asked e new_q new (is, kept, still) =
      refused_grows error e new_q (sym is) (ap (λ n. n.asked) kept)

  waits_grow : (before : H) (e : RingEvent) (new_q : BlockQueueState) (new : H)
      → Waits step terms q before (Some e) new_q new → Grows e new_q
  waits_grow before e new_q new (answer, asked, asks, after) = ask_grows answer asked e new_q new after

  after_grows : (old : H) (found : Pop) (mid_q : BlockQueueState) (mid : H) → Pops step terms q old found mid_q mid
      → (e : RingEvent) (new_q : BlockQueueState) (new : H) → AfterPop step terms found mid_q mid (Some e) new_q new
      → Grows e new_q
  after_grows old pop.None mid_q mid pops e new_q new after =
      let (kept, stepped) = nothing_popped step terms q mid_q old mid pops in
      waits_grow mid e new_q new (subst (λ m. Waits step terms m mid (Some e) new_q new) kept after)
  after_grows old (pop.Chain chain parts bytes) mid_q mid pops e new_q new (is, kept, still) =
      subst (Grows e) (sym kept) (pops_grow old (pop.Chain chain parts bytes) mid_q mid pops e (sym is))
  after_grows old (pop.Broken error) mid_q mid pops e new_q new (is, kept, still) =
      subst (Grows e) (sym kept) (pops_grow old (pop.Broken error) mid_q mid pops e (sym is))
  after_grows old pop.Later mid_q mid pops e new_q new (is, kept, still) = absurd (cc)

  pop_or_wait_grows : (old : H) (e : RingEvent) (new_q : BlockQueueState) (new : H)
      → PopsOrWaits step terms q old (Some e) new_q new → Grows e new_q
  pop_or_wait_grows old e new_q new (found, mid_q, mid, pops, after) =
      after_grows old found mid_q mid pops e new_q new after

module _ {H : Type 0} (step : H → (s : MemoryStep) → Returned s → H → Type 0) (terms : DeviceLimits) (q : BlockQueueState)
    (r : RingState) (agrees : Agrees q r) (same : length q.asked ≡ length r.requests) (runs : may_run r ≡ true) where
  in_place_grows : (old : H) (e : RingEvent) (new_q : BlockQueueState) (new : H)
      → HappensNext step terms q old (Some e) new_q new → (id : ℕ)
      → asked_count new_q id ≡ asked_count q id + length (of_id id (taken r (On e)))
  in_place_grows old e new_q new (read, mid_q, mid, reads, after) id =
      go read after ∙ ap (λ n. n + length (of_id id (taken r (On e)))) (kept id)
    where
      is : mid_q.asked ≡ q.asked
      is = read_asked step terms q q.is_unread q.queue old read mid_q mid reads

      kept : (id : ℕ) → asked_count mid_q id ≡ asked_count q id
      kept id = ap (λ l. one_if (is_some (slice_index_or l id None))) is

      agrees_mid : Agrees mid_q r
      agrees_mid id = kept id ∙ agrees id

      go : (v : Result (Unit {0}) QueueError) → AfterRead step terms v mid_q mid (Some e) new_q new
          → asked_count new_q id ≡ asked_count mid_q id + length (of_id id (taken r (On e)))
      go (Ok done) p = pop_or_wait_grows step terms mid_q r agrees_mid (ap length is ∙ same) runs mid e new_q new p id
      go (Err error) (what, kept, still) = refused_grows step terms mid_q r agrees_mid (ap length is ∙ same) runs error e
          new_q (sym what) (ap (λ n. n.asked) kept) id

  stage_grows : (e : RingEvent) (new_q : BlockQueueState) (new : H) → Stage step q (Some e) new_q new → (id : ℕ)
      → asked_count new_q id ≡ asked_count q id + length (of_id id (taken r (On e)))
  stage_grows e new_q new (inl (quiet, kept)) = quiet_grows e quiet
    where
      quiet_grows : (e : RingEvent) → IsQuiet (Some e) → (id : ℕ)
          → asked_count new_q id ≡ asked_count q id + length (of_id id (taken r (On e)))
      quiet_grows Kick is = stays step terms q r agrees same runs Kick refl new_q kept
      quiet_grows Break is = stays step terms q r agrees same runs Break refl new_q kept
      quiet_grows Start is = absurd is
      quiet_grows Stop is = absurd is
      quiet_grows (Enable on) is = absurd is
      quiet_grows (Popped chain parts bytes) is = absurd is
      quiet_grows Emptied is = absurd is
      quiet_grows (Ended id end) is = absurd is
  stage_grows e new_q new (inr (inl (is, kept, queue, ends))) =
      subst (λ x. (id : ℕ) → asked_count new_q id ≡ asked_count q id + length (of_id id (taken r (On x))))
      (event_is step terms q r agrees same runs Emptied e (sym is))
      (stays step terms q r agrees same runs Emptied refl new_q kept)
  stage_grows e new_q new (inr (inr (inl (buffer, request, a, place, set, is)))) =
      subst (λ x. (id : ℕ) → asked_count new_q id ≡ asked_count q id + length (of_id id (taken r (On x))))
      (event_is step terms q r agrees same runs (Popped (chain_by buffer) (block_parts request) (len_of request)) e (sym is))
      (popped_grows step terms q r agrees same runs buffer request new_q a place set (block_parts request) (len_of request))
  stage_grows e new_q new (inr (inr (inr (buffer, place, kept, is)))) =
      subst (λ x. (id : ℕ) → asked_count new_q id ≡ asked_count q id + length (of_id id (taken r (On x))))
      (event_is step terms q r agrees same runs (Popped (chain_by buffer) 0 0) e (sym is))
      (stays step terms q r agrees same runs (Popped (chain_by buffer) 0 0)
      (takes step terms q r agrees same runs (chain_by buffer) 0 0 false place) new_q kept)

module _ {H : Type 0} (step : H → (s : MemoryStep) → Returned s → H → Type 0) (way : Option Sight) (terms : DeviceLimits)
    (q : BlockQueueState) (r : RingState) (agrees : Agrees q r) (same : length q.asked ≡ length r.requests)
    (runs : may_run r ≡ true) where
  by_grows : (old : H) (e : RingEvent) (new_q : BlockQueueState) (new : H)
      → HappensBy step way terms q old (Some e) new_q new → (id : ℕ)
      → asked_count new_q id ≡ asked_count q id + length (of_id id (taken r (On e)))
  by_grows old e new_q new = go way
    where
      go : (w : Option Sight) → HappensBy step w terms q old (Some e) new_q new → (id : ℕ)
          → asked_count new_q id ≡ asked_count q id + length (of_id id (taken r (On e)))
      go None p = in_place_grows step terms q r agrees same runs old e new_q new p
      go (Some w) p = stage_grows step terms q r agrees same runs e new_q new
          (behind_stage step (says w.table) w.can_ask terms q old (Some e) new_q new p)

  pub turn_grows : (old : H) (e : RingEvent) (new_q : BlockQueueState) (new : H)
      → HappensIn step terms way q old (Some e) new_q new → (id : ℕ)
      → asked_count new_q id ≡ asked_count q id + length (of_id id (taken r (On e)))
  turn_grows old e new_q new p id =
      let (mid_q, mid, goes, is, ends) = in_goes step terms way q old (Some e) new_q new p in
      ap (λ (v : BlockQueueState). asked_count v id) is ∙ go mid_q mid goes
    where
      go : (mid_q : BlockQueueState) (mid : H) → Goes step terms way q old (Some e) mid_q mid
          → asked_count mid_q id ≡ asked_count q id + length (of_id id (taken r (On e)))
      go mid_q mid (inl p) = by_grows old e mid_q mid p id
      go mid_q mid (inr p) = stage_grows step terms q r agrees same runs e mid_q mid p id

  pub turns : (old : H) (e : RingEvent) (new_q : BlockQueueState) (new : H)
      → HappensIn step terms way q old (Some e) new_q new → FindsAll new_q (stepped r (On e))
  turns old e new_q new next =
      let grows = turn_grows old e new_q new next in
      settles new_q (stepped r (On e)) (λ id. omega (arith, grows id, counts r id (On e), agrees id))
