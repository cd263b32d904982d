-- Looks one after another, and those of a memory that stands still.
use Rattle.std.proofs.Common.{◌≡◌, ℕ, suc, ◌+◌, ◌-◌, ◌<◌, ◌≤◌, if◌then◌else◌, nat_lt, true, false, List, [], ◌∷◌, ◌++◌, Option, Some, None, Result, Ok, Err, ap, inl, inr, refl, subst, sym, arith, lt-ltb, le-ltb}
use Rattle.vm_memory_device.specs.declared.chain.Segment.{Segment}
use Rattle.vm_memory_device.specs.Chain.{chain_fault}
use Rattle.vm_memory_device.specs.declared.chain.ChainFault.{ChainFault}
use Rattle.virtio_queue.specs.Available.{Followed, direct, if_chain, indirect_len}
use Rattle.virtio_queue.specs.Descriptor.{has_next, is_indirect, segment_of}
use Rattle.virtio_queue.specs.Looks.{Follows, Given, Step, Tree, and_takes, gives, if_ok, keeps, takes, row}
use Rattle.virtio_queue.specs.Popping.{chain_after, chain_from, following, next_head, popping, segments_from, table_after, with_table}
use Rattle.virtio_queue.specs.declared.state.QueueState.{QueueState}
use Rattle.virtio_queue.specs.declared.descriptor.Descriptor.{Descriptor}
use Rattle.virtio_queue.specs.declared.error.QueueError.{QueueError}
use Rattle.virtio_queue.specs.declared.error.QueueError.TheVariants as errors

module _ {S : Type 0} (look : S → (p : Step) → Result (Given p) QueueError → S → Type 0) where
  -- a call that gave something, and then what is made of that
  pub then_follows : {R T : Type 0} (t : Tree R) (f : R → Tree T) (old mid new : S) (x : R)
      (result : Result T QueueError) → Follows look t old (Ok x) mid → Follows look (f x) mid result new
      → Follows look (and_takes t f) old result new
  then_follows (gives r) f old mid new x result (is, same) rest =
      subst (λ r. Follows look (if_ok f r) old result new) is (subst (λ s. Follows look (f x) s result new) same rest)
  then_follows (takes p k) f old mid new x result (Ok v, next, looked, more) rest =
      (Ok v, next, looked, then_follows (k v) f next mid new x result more rest)
  then_follows (takes p k) f old mid new x result (Err e, next, looked, more) rest = let bad = more.0 in absurd (cc)
  then_follows (keeps t) f old mid new x result (inl more) rest =
      inl (then_follows t f old mid new x result more rest)
  then_follows (keeps t) f old mid new x result (inr more) rest = let bad = more.0 in absurd (cc)

  -- a call that was refused ends what would be made of it
  pub then_fails : {R T : Type 0} (t : Tree R) (f : R → Tree T) (old new : S) (e : QueueError)
      → Follows look t old (Err e) new → Follows look (and_takes t f) old (Err e) new
  then_fails (gives r) f old new e (is, same) =
      subst (λ r. Follows look (if_ok f r) old (Err e) new) is (refl, same)
  then_fails (takes p k) f old new e (Ok v, next, looked, more) =
      (Ok v, next, looked, then_fails (k v) f next new e more)
  then_fails (takes p k) f old new e (Err d, next, looked, more) =
      let is = more.0 in let same : e ≡ d = cc in (Err d, next, looked, (ap Err same, more.1))
  then_fails (keeps t) f old new e (inl more) = inl (then_fails t f old new e more)
  then_fails (keeps t) f old new e (inr more) =
      let is = more.0 in let same : e ≡ errors.Memory = cc in inr (ap Err same, more.1)

  module _ (table len : ℕ) (front : List Segment) (index turns : ℕ) where
    abbrev on : ℕ → Descriptor → Tree Followed
    on most d = if is_indirect d then gives (Ok (record { segments = front; indirect = Some d }))
        else keeps (if has_next d then following table len most (front ++ segment_of d ∷ []) d.next
        else gives (Ok (record { segments = front ++ segment_of d ∷ []; indirect = None })))

    -- the next turn
    turn : turns < len → following table len (len - turns) front index
        ≡ if nat_lt index len then takes (row table index) (on (len - (turns + 1)))
        else gives (Err errors.InvalidDescriptorIndex)
    unfolding following
    turn h = let more : len - turns ≡ suc (len - (turns + 1)) = omega arith in rw more refl

    pub at_past : (s : S) → turns < len → len ≤ index
        → Follows look (following table len (len - turns) front index) s (Err errors.InvalidDescriptorIndex) s
    at_past s h k = rw (turn h, le-ltb index len k) (refl, refl)

    pub at_refused : (s new : S) (e : QueueError) → turns < len → index < len → look s (row table index) (Err e) new
        → Follows look (following table len (len - turns) front index) s (Err e) new
    at_refused s new e h k looked = rw (turn h, lt-ltb index len k) (Err e, new, looked, (refl, refl))

    module _ (most : ℕ) (d : Descriptor) where
      on_indirect : is_indirect d ≡ true
          → on most d ≡ gives (Ok (record { segments = front; indirect = Some d }))
      on_indirect flag = rw flag refl

      on_last : is_indirect d ≡ false → has_next d ≡ false
          → on most d ≡ keeps (gives (Ok (record { segments = front ++ segment_of d ∷ []; indirect = None })))
      on_last direct last = rw (direct, last) refl

      on_next : is_indirect d ≡ false → has_next d ≡ true
          → on most d ≡ keeps (following table len most (front ++ segment_of d ∷ []) d.next)
      on_next direct next = rw (direct, next) refl

      on_kept : is_indirect d ≡ false → (t : Tree Followed) × (on most d ≡ keeps t)
      on_kept direct = (
        if has_next d then following table len most (front ++ segment_of d ∷ []) d.next
            else gives (Ok (record { segments = front ++ segment_of d ∷ []; indirect = None })),
        rw direct refl,
      )

    module _ (s new : S) (d : Descriptor) (h : turns < len) (k : index < len)
        (looked : look s (row table index) (Ok d) new) where
      -- what is made of the descriptor is made of the turn
      made : (t : Tree Followed) (result : Result Followed QueueError) (end : S) → on (len - (turns + 1)) d ≡ t
          → Follows look t new result end
          → Follows look (following table len (len - turns) front index) s result end
      made t result end is rest = rw (turn h, lt-ltb index len k)
          (Ok d, new, looked, subst (λ t. Follows look t new result end) (sym is) rest)

      pub at_indirect : is_indirect d ≡ true → Follows look (following table len (len - turns) front index) s
          (Ok (record { segments = front; indirect = Some d })) new
      at_indirect flag = made (gives (Ok (record { segments = front; indirect = Some d })))
          (Ok (record { segments = front; indirect = Some d })) new (on_indirect (len - (turns + 1)) d flag) (refl, refl)

      pub at_full : is_indirect d ≡ false
          → Follows look (following table len (len - turns) front index) s (Err errors.Memory) new
      at_full direct = let (t, is) = on_kept (len - (turns + 1)) d direct in
          made (keeps t) (Err errors.Memory) new is (inr (refl, refl))

      pub at_last : (after : List Segment) → is_indirect d ≡ false → has_next d ≡ false
          → after ≡ front ++ segment_of d ∷ []
          → Follows look (following table len (len - turns) front index) s
          (Ok (record { segments = after; indirect = None })) new
      at_last after direct last is =
          made (keeps (gives (Ok (record { segments = front ++ segment_of d ∷ []; indirect = None }))))
          (Ok (record { segments = after; indirect = None })) new (on_last (len - (turns + 1)) d direct last)
          (inl (ap (λ ss. Ok (record { segments = ss; indirect = None })) is, refl))

      pub at_next : (after : List Segment) (result : Result Followed QueueError) (end : S) → is_indirect d ≡ false
          → has_next d ≡ true → after ≡ front ++ segment_of d ∷ []
          → Follows look (following table len (len - (turns + 1)) after d.next) new result end
          → Follows look (following table len (len - turns) front index) s result end
      at_next after result end direct next is rest =
          made (keeps (following table len (len - (turns + 1)) (front ++ segment_of d ∷ []) d.next)) result end
          (on_next (len - (turns + 1)) d direct next)
          (inl (subst (λ ss. Follows look (following table len (len - (turns + 1)) ss d.next) new result end) is rest))

    pub at_loop : (s : S) → len ≤ turns → index < len
        → Follows look (following table len (len - turns) front index) s (Err errors.DescriptorLoop) s
    unfolding following
    at_loop s h k = let none : len - turns ≡ 0 = omega arith in rw (none, lt-ltb index len k) (refl, refl)

    pub at_outside : (s : S) → len ≤ turns → len ≤ index
        → Follows look (following table len (len - turns) front index) s (Err errors.InvalidDescriptorIndex) s
    unfolding following
    at_outside s h k = let none : len - turns ≡ 0 = omega arith in rw (none, le-ltb index len k) (refl, refl)

  -- an indirect table, after these segments
  module _ (front : List Segment) (d : Descriptor) (n : ℕ) (s new : S) (is : Ok n ≡ indirect_len d) where
    abbrev rest : Followed → Tree (List Segment)
    rest f = gives (direct f)

    table_is : and_takes (following d.addr n n front 0) rest ≡ table_after front d
    table_is = ap (if_ok (λ n. and_takes (following d.addr n n front 0) rest)) is

    pub table_refused : (e : QueueError) → Follows look (following d.addr n n front 0) s (Err e) new
        → Follows look (table_after front d) s (Err e) new
    table_refused e h = subst (λ t. Follows look t s (Err e) new) table_is
        (then_fails (following d.addr n n front 0) rest s new e h)

    pub table_followed : (f : Followed) → Follows look (following d.addr n n front 0) s (Ok f) new
        → Follows look (table_after front d) s (direct f) new
    table_followed f h = subst (λ t. Follows look t s (direct f) new) table_is
        (then_follows (following d.addr n n front 0) rest s new new f (direct f) h (refl, refl))

  -- the segments of a head, and its chain
  module _ (q : QueueState) (head : ℕ) (s : S) where
    abbrev direct_ones : Tree Followed
    direct_ones = following q.desc_table q.size q.size [] head

    pub segments_refused : (new : S) (e : QueueError) → Follows look direct_ones s (Err e) new
        → Follows look (segments_from q head) s (Err e) new
    segments_refused new e h = then_fails direct_ones (λ f. with_table f.segments f.indirect) s new e h

    pub segments_follow : (mid new : S) (f : Followed) (result : Result (List Segment) QueueError)
        → Follows look direct_ones s (Ok f) mid → Follows look (with_table f.segments f.indirect) mid result new
        → Follows look (segments_from q head) s result new
    segments_follow mid new f result h rest =
        then_follows direct_ones (λ f. with_table f.segments f.indirect) s mid new f result h rest

    abbrev checked : List Segment → Tree (List Segment)
    checked ss = gives (if_chain ss (chain_fault ss))

    pub chain_refused : (new : S) (e : QueueError) → Follows look (segments_from q head) s (Err e) new
        → Follows look (chain_from q head) s (Err e) new
    chain_refused new e h = then_fails (segments_from q head) checked s new e h

    pub chain_made : (new : S) (ss : List Segment) (fault : Option ChainFault)
        → Follows look (segments_from q head) s (Ok ss) new → chain_fault ss ≡ fault
        → Follows look (chain_from q head) s (if_chain ss fault) new
    chain_made new ss fault h is = then_follows (segments_from q head) checked s new new ss (if_chain ss fault) h
        (ap (if_chain ss) (sym is), refl)

    -- a head that was found, and its chain or why it has none
    module _ (mid new : S) (found : Follows look (next_head q) s (Ok (Some head)) mid) where
      abbrev with_head : List Segment → Tree (Option (ℕ × List Segment))
      with_head segments = gives (Ok (Some (head, segments)))

      pub pop_refused : (e : QueueError) → Follows look (chain_from q head) mid (Err e) new
          → Follows look (popping q) s (Err e) new
      pop_refused e h = then_follows (next_head q) (chain_after q) s mid new (Some head) (Err e) found
          (then_fails (chain_from q head) with_head mid new e h)

      pub pop_found : (ss : List Segment) → Follows look (chain_from q head) mid (Ok ss) new
          → Follows look (popping q) s (Ok (Some (head, ss))) new
      pop_found ss h = then_follows (next_head q) (chain_after q) s mid new (Some head) (Ok (Some (head, ss))) found
          (then_follows (chain_from q head) with_head mid new new ss (Ok (Some (head, ss))) h (refl, refl))
