-- What looks at memory that stands still give: the answer that it holds.
use Rattle.std.proofs.Common.{◌≡◌, ◌⊎◌, ◌∙◌, ℕ, zero, suc, ◌==◌, if◌then◌else◌, nat_lt, Bool, true, false, List, [], ◌∷◌, ◌++◌, Option, Some, None, Result, Ok, Err, ap, inl, inr, refl, subst, sym, append-nil, append_assoc}
use Rattle.vm_memory_base.specs.declared.iotlb.Permissions.TheVariants.{Read}
use Rattle.vm_memory_device.specs.Chain.{chain_fault}
use Rattle.vm_memory_device.specs.declared.chain.Segment.{Segment}
use Rattle.vm_memory_guest.specs.Host.{Host}
use Rattle.vm_memory_guest.specs.Memory.{Memory}
use Rattle.virtio_queue.specs.Available as held
use Rattle.virtio_queue.specs.Available.{Followed, direct, followed, followed_in, if_chain, indirect_len, prefixed, with_indirect}
use Rattle.virtio_queue.specs.Descriptor.{has_next, is_indirect, segment_of}
use Rattle.virtio_queue.specs.Fields.{Answers, MayWant, descriptor_at, word_at}
use Rattle.virtio_queue.specs.Looks.{Finds, Follows, Given, MayWantAny, Step, Tree, and_takes, answer, bare, found_in, gives, if_ok, index_of, keeps, loads, room, row, spot, stores, takes, word, writes}
use Rattle.virtio_queue.specs.Popping.{MayWantChain, chain_after, chain_from, following, head_after, head_in_slot, next_head, popping, segments_from, with_table}
use Rattle.virtio_queue.specs.Rings.{ahead, and_then, next_in, slot}
use Rattle.virtio_queue.specs.declared.descriptor.Descriptor.{Descriptor}
use Rattle.virtio_queue.specs.declared.error.QueueError.{QueueError}
use Rattle.virtio_queue.specs.declared.error.QueueError.TheVariants as errors
use Rattle.virtio_queue.specs.declared.state.QueueState.{QueueState}

prefixed_none : (r : Result Followed QueueError) → prefixed [] r ≡ r
prefixed_none (Ok f) = refl
prefixed_none (Err e) = refl

prefixed_twice : (xs ys : List Segment) (r : Result Followed QueueError)
    → prefixed xs (prefixed ys r) ≡ prefixed (xs ++ ys) r
prefixed_twice xs ys (Ok f) =
    ap (λ ss. Ok (record { segments = ss; indirect = f.indirect })) (sym (append_assoc xs ys f.segments))
prefixed_twice xs ys (Err e) = refl

module _ {B : Type 0} (m : Memory) (host : Host B) where
  -- a look found what is held, or an allocation failed
  held_or_full : (s : Step) (given : Result (Given s) QueueError) → Finds m host s given
      → (given ≡ found_in m host s) ⊎ (given ≡ Err errors.Memory)
  held_or_full (word base offset) given (inl is) = inl is
  held_or_full (word base offset) given (inr (full, w)) = inr full
  held_or_full (row table i) given (inl is) = inl is
  held_or_full (row table i) given (inr (full, w)) = inr full
  held_or_full (room base offset n) given (inl is) = inl is
  held_or_full (room base offset n) given (inr (full, w)) = inr full
  held_or_full (spot access base offset) given (inl is) = inl is
  held_or_full (spot access base offset) given (inr (full, w)) = inr full
  held_or_full (writes base offset bytes) given h = absurd h
  held_or_full (stores base offset value) given h = absurd h
  held_or_full (loads base offset) given h = absurd h

  -- bitmaps do not matter
  pub finds_bare : (s : Step) (given : Result (Given s) QueueError) → Finds m host s given
      → Finds m (bare host) s given
  finds_bare (word base offset) given h = h
  finds_bare (row table i) given h = h
  finds_bare (room base offset n) given h = h
  finds_bare (spot access base offset) given h = h
  finds_bare (writes base offset bytes) given h = absurd h
  finds_bare (stores base offset value) given h = absurd h
  finds_bare (loads base offset) given h = absurd h

  abbrev Ends : {T : Type 0} → Tree T → Result T QueueError → Type 0
  Ends t result = (result ≡ answer m host t) ⊎ ((result ≡ Err errors.Memory) × MayWantAny m host t)

  -- what is made of a look that found something, or was refused
  module _ {T : Type 0} (s : Step) (k : Given s → Tree T) (result : Result T QueueError) where
    look_gave : (v : Given s) → Finds m host s (Ok v) → Ends (k v) result → Ends (takes s k) result
    look_gave v finds (inl so) = elim (held_or_full s (Ok v) finds) [
      | inl is ↦ inl (so ∙ ap (λ r. and_then r (λ v. answer m host (k v))) is)
      | inr bad ↦ absurd (cc)
    ]
    look_gave v finds (inr (full, run)) = inr (full, (Ok v, tt, (finds_bare s (Ok v) finds, refl), run))

    look_failed : (e : QueueError) → Finds m host s (Err e) → result ≡ Err e → Ends (takes s k) result
    look_failed e finds so = elim (held_or_full s (Err e) finds) [
      | inl is ↦ inl (so ∙ ap (λ r. and_then r (λ v. answer m host (k v))) is)
      | inr full ↦ (
          let same : e ≡ errors.Memory = cc in
          let last : ◌≡◌ {A = Result T QueueError} (Err errors.Memory) (Err e) = ap Err (sym same) in
          inr (so ∙ sym last, (Err e, tt, (finds_bare s (Err e) finds, refl), (last, refl)))
          )
    ]

  module _ {S : Type 0} (look : S → (p : Step) → Result (Given p) QueueError → S → Type 0) (old : S)
      (same : (p : Step) (found : Result (Given p) QueueError) (new : S) → look old p found new
      → Finds m host p found × (new ≡ old)) where
    pub still : {T : Type 0} (t : Tree T) (new : S) (result : Result T QueueError) → Follows look t old result new
        → Answers (MayWantAny m host t) (answer m host t) result
    still (gives r) new result (is, stays) = inl is
    still (takes p k) new result (Ok v, mid, looked, more) =
        let (finds, stays) = same p (Ok v) mid looked in
        look_gave p k result v finds
        (still (k v) new result (subst (λ s. Follows look (k v) s result new) stays more))
    still (takes p k) new result (Err e, mid, looked, more) =
        let (finds, stays) = same p (Err e) mid looked in look_failed p k result e finds more.0
    still (keeps t) new result (inl more) = elim (still t new result more) [
      | inl so ↦ inl so
      | inr (full, run) ↦ inr (full, inl run)
    ]
    still (keeps t) new result (inr more) = inr (more.0, inr (refl, refl))

    -- the index of a ring
    pub index_held : (ring : ℕ) (ready : Bool) (new : S) (result : Result ℕ QueueError)
        → Follows look (index_of ready ring) old result new
        → Answers ((ready ≡ true) × MayWant m host ring 2 2 Read)
        (if ready then word_at m host ring 2 else Err errors.QueueNotReady) result
    index_held ring true new result (Ok v, mid, looked, more) = elim ((same (word ring 2) (Ok v) mid looked).0) [
      | inl is ↦ inl (more.0 ∙ is)
      | inr (full, w) ↦ absurd (cc)
    ]
    index_held ring true new result (Err e, mid, looked, more) = elim ((same (word ring 2) (Err e) mid looked).0) [
      | inl is ↦ inl (more.0 ∙ is)
      | inr (full, w) ↦ inr (more.0 ∙ full, (refl, w))
    ]
    index_held ring false new result (is, stays) = inl is

  -- ---- one after another

  pub same_then : {X T : Type 0} (r : Result X QueueError) (f g : X → Result T QueueError) → ((x : X) → f x ≡ g x)
      → and_then r f ≡ and_then r g
  same_then (Ok x) f g same = same x
  same_then (Err e) f g same = refl

  twice : {X Y T : Type 0} (r : Result X QueueError) (f : X → Result Y QueueError) (g : Y → Result T QueueError)
      (h : X → Result T QueueError) → ((x : X) → h x ≡ and_then (f x) g) → and_then r h ≡ and_then (and_then r f) g
  twice (Ok x) f g h same = same x
  twice (Err e) f g h same = refl

  pub answer_then : {X T : Type 0} (t : Tree X) (f : X → Tree T)
      → answer m host (and_takes t f) ≡ and_then (answer m host t) (λ x. answer m host (f x))
  answer_then (gives (Ok x)) f = refl
  answer_then (gives (Err e)) f = refl
  answer_then (takes p k) f = twice (found_in m host p) (λ v. answer m host (k v)) (λ x. answer m host (f x))
      (λ v. answer m host (and_takes (k v) f)) (λ v. answer_then (k v) f)
  answer_then (keeps t) f = answer_then t f

  -- ---- chains

  module _ (table len : ℕ) where
    abbrev at : ℕ → Result Descriptor QueueError
    at i = descriptor_at m host table i

    abbrev asked : ℕ → List Segment → Descriptor → Bool → Bool → Tree Followed
    asked most front d kind next = if kind then gives (Ok (record { segments = front; indirect = Some d }))
        else keeps (if next then following table len most (front ++ segment_of d ∷ []) d.next
        else gives (Ok (record { segments = front ++ segment_of d ∷ []; indirect = None })))

    abbrev made : ℕ → Descriptor → Bool → Bool → Result Followed QueueError
    made most d kind next = if kind then Ok (record { segments = []; indirect = Some d })
        else if next then prefixed (segment_of d ∷ []) (followed at len most d.next)
        else Ok (record { segments = segment_of d ∷ []; indirect = None })

    module _ (most : ℕ) (front : List Segment) (i : ℕ) (rest : (front : List Segment) (i : ℕ)
        → answer m host (following table len most front i) ≡ prefixed front (followed at len most i)) where
      by_kind : (d : Descriptor) (kind next : Bool)
          → answer m host (asked most front d kind next) ≡ prefixed front (made most d kind next)
      by_kind d true next =
          ap (λ ss. Ok (record { segments = ss; indirect = Some d })) (sym (append-nil front))
      by_kind d false true = rest (front ++ segment_of d ∷ []) d.next
          ∙ sym (prefixed_twice front (segment_of d ∷ []) (followed at len most d.next))
      by_kind d false false = refl

      by_found : (r : Result Descriptor QueueError)
          → and_then r (λ d. answer m host (asked most front d (is_indirect d) (has_next d)))
          ≡ prefixed front (and_then r (λ d. made most d (is_indirect d) (has_next d)))
      by_found (Ok d) = by_kind d (is_indirect d) (has_next d)
      by_found (Err e) = refl

      by_index : (b : Bool) → answer m host
          (if b then takes (row table i) (λ d. asked most front d (is_indirect d) (has_next d))
          else gives (Err errors.InvalidDescriptorIndex))
          ≡ prefixed front (and_then (if b then at i else Err errors.InvalidDescriptorIndex)
          (λ d. made most d (is_indirect d) (has_next d)))
      by_index true = by_found (at i)
      by_index false = refl

    by_end : (front : List Segment) (b : Bool) → answer m host {T = Followed}
        (if b then gives (Err errors.DescriptorLoop) else gives (Err errors.InvalidDescriptorIndex))
        ≡ prefixed front (if b then Err errors.DescriptorLoop else Err errors.InvalidDescriptorIndex)
    by_end front true = refl
    by_end front false = refl

    answer_following : (most : ℕ) (front : List Segment) (i : ℕ)
        → answer m host (following table len most front i) ≡ prefixed front (followed at len most i)
    unfolding following followed
    answer_following zero front i = by_end front (nat_lt i len)
    answer_following (suc most) front i = by_index most front i (answer_following most) (nat_lt i len)

  -- the segments of an indirect table, after these
  direct_after : (front more : List Segment) (end : Option Descriptor)
      → direct (record { segments = front ++ more; indirect = end })
      ≡ and_then (direct (record { segments = more; indirect = end })) (λ ss. Ok (front ++ ss))
  direct_after front more None = refl
  direct_after front more (Some d) = refl

  followed_after : (front : List Segment) (r : Result Followed QueueError)
      → and_then (prefixed front r) direct ≡ and_then (and_then r direct) (λ ss. Ok (front ++ ss))
  followed_after front (Ok f) = direct_after front f.segments f.indirect
  followed_after front (Err e) = refl

  abbrev rest : Followed → Tree (List Segment)
  rest f = gives (direct f)

  table_by_len : (front : List Segment) (d : Descriptor) (r : Result ℕ QueueError)
      → answer m host (if_ok (λ n. and_takes (following d.addr n n front 0) rest) r)
      ≡ and_then (and_then r (λ n. and_then (followed_in m host d.addr n 0) direct)) (λ ss. Ok (front ++ ss))
  table_by_len front d (Ok n) = answer_then (following d.addr n n front 0) rest
      ∙ ap (λ r. and_then r direct) (answer_following d.addr n n front 0)
      ∙ followed_after front (followed_in m host d.addr n 0)
  table_by_len front d (Err e) = refl

  answer_with : (front : List Segment) (end : Option Descriptor)
      → answer m host (with_table front end) ≡ with_indirect m host front end
  answer_with front None = refl
  answer_with front (Some d) = table_by_len front d (indirect_len d)

  module _ (q : QueueState) (head : ℕ) where
    abbrev ones : Tree Followed
    ones = following q.desc_table q.size q.size [] head

    abbrev more : Followed → Tree (List Segment)
    more f = with_table f.segments f.indirect

    answer_ones : answer m host ones ≡ followed_in m host q.desc_table q.size head
    answer_ones = answer_following q.desc_table q.size q.size [] head
        ∙ prefixed_none (followed_in m host q.desc_table q.size head)

    answer_segments : answer m host (segments_from q head) ≡ held.segments_at m host q head
    answer_segments = answer_then ones more
        ∙ ap (λ r. and_then r (λ f. answer m host (more f))) answer_ones
        ∙ same_then (followed_in m host q.desc_table q.size head) (λ f. answer m host (more f))
        (λ f. with_indirect m host f.segments f.indirect) (λ f. answer_with f.segments f.indirect)

    abbrev checked : List Segment → Tree (List Segment)
    checked ss = gives (if_chain ss (chain_fault ss))

    answer_chain : answer m host (chain_from q head) ≡ held.chain_at m host q head
    answer_chain = answer_then (segments_from q head) checked
        ∙ ap (λ r. and_then r (λ ss. if_chain ss (chain_fault ss))) answer_segments

  -- ---- the next head

  module _ (q : QueueState) where
    abbrev ring : ℕ → Result (Option ℕ) QueueError
    ring idx = next_in q.size idx q.next_avail (held.head_in m host q)

    by_ahead : (none past : Bool) → answer m host {T = Option ℕ} (if none then gives (Ok None)
        else if past then gives (Err errors.InvalidAvailRingIndex) else head_in_slot q)
        ≡ if none then Ok None else if past then Err errors.InvalidAvailRingIndex
        else and_then (held.head_in m host q (slot q.size q.next_avail)) (λ h. Ok (Some h))
    by_ahead true past = refl
    by_ahead false true = refl
    by_ahead false false = refl

    by_ready : (ready : Bool) → answer m host
        (if ready then takes (word q.avail_ring 2) (head_after q) else gives (Err errors.QueueNotReady))
        ≡ and_then (if ready then word_at m host q.avail_ring 2 else Err errors.QueueNotReady) ring
    by_ready true = same_then (word_at m host q.avail_ring 2) (λ idx. answer m host (head_after q idx)) ring
        (λ idx. by_ahead (ahead idx q.next_avail == 0) (nat_lt q.size (ahead idx q.next_avail)))
    by_ready false = refl

    answer_head : answer m host (next_head q) ≡ held.next_head m host q
    answer_head = by_ready q.ready

    -- ---- the next chain

    abbrev with_head : ℕ → List Segment → Tree (Option (ℕ × List Segment))
    with_head head segments = gives (Ok (Some (head, segments)))

    answer_after : (found : Option ℕ) → answer m host (chain_after q found) ≡ held.chain_of m host q found
    answer_after None = refl
    answer_after (Some head) = answer_then (chain_from q head) (with_head head)
        ∙ ap (λ r. and_then r (λ ss. Ok (Some (head, ss)))) (answer_chain q head)

    pub answer_popping : answer m host (popping q) ≡ held.popped m host q
    answer_popping = answer_then (next_head q) (chain_after q)
        ∙ ap (λ r. and_then r (λ found. answer m host (chain_after q found))) answer_head
        ∙ same_then (held.next_head m host q) (λ found. answer m host (chain_after q found))
        (held.chain_of m host q) answer_after

    -- a pop by looks at it answers what it holds
    pub pops_held : (result : Result (Option (ℕ × List Segment)) QueueError)
        → Answers (MayWantAny m host (popping q)) (answer m host (popping q)) result
        → Answers (MayWantChain m host q) (held.popped m host q) result
    pops_held result (inl is) = inl (is ∙ answer_popping)
    pops_held result (inr full) = inr full

    pub none_held : (q.ready ≡ true) → Finds m host (word q.avail_ring 2) (Ok q.next_avail)
        → held.avail_idx m host q ≡ Ok q.next_avail
    none_held ready (inl is) =
        ap (λ (b : Bool). if b then word_at m host q.avail_ring 2 else Err errors.QueueNotReady) ready ∙ sym is
    none_held ready (inr (is, w)) = absurd (cc)
