-- What steps in memory that nobody else writes come to.
use Rattle.std.proofs.Common.{◌≡◌, ◌⊎◌, ◌∙◌, ℕ, ◌+◌, ◌*◌, ◌==◌, nat_le, Bool, true, false, not, if◌then◌else◌, List, [], ◌∷◌, length, Contains, Result, Ok, Err, IfOk, IsTrue, MatchResult, OnOk, ap, inl, inr, refl, subst, sym}
use Rattle.std.proofs.lemmas.Bool.{eqb-true}
use Rattle.std.specs.Int.{w16, to_le_bytes}
use Rattle.vm_memory_base.specs.declared.iotlb.Permissions.{Permissions}
use Rattle.vm_memory_base.specs.declared.iotlb.Permissions.TheVariants.{Read, Write}
use Rattle.vm_memory_guest.specs.Access.{windows}
use Rattle.vm_memory_guest.specs.Host.{Cell, Holds, Host, byte_at, shape_of, written}
use Rattle.vm_memory_guest.specs.Memory.{Memory}
use Rattle.vm_memory_guest.specs.Walk.{NeedsPieces}
use Rattle.vm_memory_guest.specs.Window.{Window, Writes, window_names}
use Rattle.virtio_queue.specs.Available.{avail_idx}
use Rattle.virtio_queue.specs.Fields.{Answers, MayWant, Refuses, StoresWord, WritesBytes, is_word, lies_whole, place, reached_at, room_at, room_fault, stored_at, window_at, word_at, word_window}
use Rattle.virtio_queue.specs.Looks.{Finds, Follows, Given, IsAt, MayWantAny, Step, Takes, Tree, bare, gives, handing, if_ready, loads, room, row, setting, spot, stores, takes, word, writes}
use Rattle.virtio_queue.specs.Notification as split
use Rattle.virtio_queue.specs.Notification.{disabling, enabling, kick_offset, kick_value}
use Rattle.virtio_queue.specs.Packed.{to_bits}
use Rattle.virtio_queue.specs.PackedEvents as events
use Rattle.virtio_queue.specs.PackedEvents.{kick_flags}
use Rattle.virtio_queue.specs.PackedRing.{has_next, is_available}
use Rattle.virtio_queue.specs.PackedUsed as packed_used
use Rattle.virtio_queue.specs.PackedUsed.{is_out, rest_bytes, used_flags}
use Rattle.virtio_queue.specs.Rings.{and_then, index_after, slot}
use Rattle.virtio_queue.specs.Used as used
use Rattle.virtio_queue.specs.Used.{entry_bytes, returning}
use Rattle.virtio_queue.specs.declared.error.QueueError.{QueueError}
use Rattle.virtio_queue.specs.declared.error.QueueError.TheVariants as errors
use Rattle.virtio_queue.specs.declared.packed.state.PackedBuffer.{PackedBuffer}
use Rattle.virtio_queue.specs.declared.packed.state.PackedState.{PackedState}
use Rattle.virtio_queue.specs.declared.state.QueueState.{QueueState}
use Rattle.virtio_queue.proofs.RingLemmas.{answer_is, window_stays}
use Rattle.virtio_queue.proofs.StoreLemmas.{stored_stays}

-- ---- look-ups

-- a look-up that was refused
lost : {X : Type 0} (W : Type 0) (r : Result X QueueError) (e : QueueError) → Answers W r (Err e) → Refuses W r e
lost W r e (inl is) = inl (sym is)
lost W r e (inr (is, w)) = let full : e ≡ errors.Memory = cc in inr (full, w)

module _ {B T Y : Type 0} (m : Memory) (old : Host B) (s : Step) (k : Given s → Tree T)
    (r : Result (Given s) QueueError) (f : Given s → Result Y QueueError) (e : QueueError) where
  -- the first of two is refused, or the second
  first_lost : (W : Type 0) → (W → Finds m (bare old) s (Err errors.Memory)) → Refuses W r e
      → Refuses (MayWantAny m old (takes s k)) (and_then r f) e
  first_lost W fails (inl is) = inl (ap (λ r. and_then r f) is)
  first_lost W fails (inr (full, w)) = inr (full, (Err errors.Memory, tt, (fails w, refl), (refl, refl)))

  second_lost : (x : Given s) → r ≡ Ok x → Finds m (bare old) s (Ok x) → Refuses (MayWantAny m old (k x)) (f x) e
      → Refuses (MayWantAny m old (takes s k)) (and_then r f) e
  second_lost x at finds (inl is) = inl (ap (λ r. and_then r f) at ∙ is)
  second_lost x at finds (inr (full, run)) = inr (full, (Ok x, tt, (finds, refl), run))

-- the address of a room is that of its place
pub room_place : {B : Type 0} (m : Memory) (host : Host B) (base offset n a : ℕ) → room_at m host base offset n ≡ Ok a
    → place base offset n ≡ Ok a
room_place m host base offset n a is = go (place base offset n) is
  where
    at : (b : ℕ) (whole : Bool)
        → ◌≡◌ {A = Result ℕ QueueError} (if whole then Ok b else Err (room_fault m host b n)) (Ok a)
        → ◌≡◌ {A = Result ℕ QueueError} (Ok b) (Ok a)
    at b true is = is
    at b false is = absurd (cc)

    go : (p : Result ℕ QueueError)
        → and_then p (λ a. if lies_whole m host a n Write then Ok a else Err (room_fault m host a n)) ≡ Ok a → p ≡ Ok a
    go (Ok b) is = at b (lies_whole m host b n Write) is
    go (Err e) is = absurd (cc)

-- and what lies there whole
pub room_whole : {B : Type 0} (m : Memory) (host : Host B) (base offset n a : ℕ) → room_at m host base offset n ≡ Ok a
    → IsTrue (lies_whole m host a n Write)
room_whole m host base offset n a is = go (place base offset n) is
  where
    at : (b : ℕ) (whole : Bool) → lies_whole m host b n Write ≡ whole
        → ◌≡◌ {A = Result ℕ QueueError} (if whole then Ok b else Err (room_fault m host b n)) (Ok a)
        → IsTrue (lies_whole m host a n Write)
    at b true whole is = let same : b ≡ a = cc in subst (λ x. IsTrue (lies_whole m host x n Write)) same whole
    at b false whole is = absurd (cc)

    go : (p : Result ℕ QueueError)
        → and_then p (λ a. if lies_whole m host a n Write then Ok a else Err (room_fault m host a n)) ≡ Ok a
        → IsTrue (lies_whole m host a n Write)
    go (Ok b) is = at b (lies_whole m host b n Write) refl is
    go (Err e) is = absurd (cc)

-- ---- lent memory

module _ {B : Type 0} (m : Memory) (host : Host B) where
  -- what was looked up is there
  pub spot_found : (access : Permissions) (base offset : ℕ) (r : Result Window QueueError)
      → Answers (MayWant m host base offset 2 access) (window_at m host base offset access) r
      → IfOk r (λ w. Holds (shape_of host) (window_names w)) → IfOk r (λ w. is_word w ≡ true)
      → IfOk r (IsAt m host (spot access base offset))
  spot_found access base offset (Ok w) answers held even =
      (answer_is (MayWant m host base offset 2 access) (window_at m host base offset access) w answers, held, even)
  spot_found access base offset (Err e) answers held even = tt

  pub room_found : (base offset n : ℕ) (r : Result ℕ QueueError)
      → Answers (MayWant m host base offset n Write) (room_at m host base offset n) r
      → IfOk r (IsAt m host (room base offset n))
  room_found base offset n (Ok a) answers =
      answer_is (MayWant m host base offset n Write) (room_at m host base offset n) a answers
  room_found base offset n (Err e) answers = tt

-- and stays there
pub is_at_stays : {B : Type 0} (m : Memory) (old new : Host B) → new.tables ≡ old.tables → shape_of new ≡ shape_of old
    → (s : Step) (x : Given s) → IsAt m old s x → IsAt m new s x
is_at_stays m old new tables shape (room base offset n) a is = rw tables is
is_at_stays m old new tables shape (spot access base offset) w (is, held, even) =
    (rw tables is, subst (λ s. Holds s (window_names w)) (sym shape) held, even)
is_at_stays m old new tables shape (word base offset) x h = tt
is_at_stays m old new tables shape (row table i) x h = tt
is_at_stays m old new tables shape (writes base offset bytes) x h = tt
is_at_stays m old new tables shape (stores base offset value) x h = tt
is_at_stays m old new tables shape (loads base offset) x h = tt

module _ {B : Type 0} (marks : B → ℕ → ℕ → B → Type 0) (m : Memory) (a : ℕ) (bytes : List ℕ) (old new : Host B) where
  abbrev WrittenOr : Result (Unit {0}) QueueError → Type 0
  WrittenOr r = MatchResult r (λ _. WritesBytes marks m a bytes old new)
      (λ e. (e ≡ errors.Memory) × NeedsPieces m old.tables a (length bytes) Write × (new ≡ old))

  -- bytes that were written, or not, change no table
  pub tables_stay : ((ws : List Window) (bytes : List ℕ) (old new : Host B) → Writes marks ws bytes old new
      → new.tables ≡ old.tables) → (r : Result (Unit {0}) QueueError) → WrittenOr r → new.tables ≡ old.tables
  tables_stay keep (Ok u) wrote = keep (windows (reached_at m old a (length bytes) Write).path) bytes old new wrote
  tables_stay keep (Err e) (full, needs, same) = ap (λ (h : Host B). h.tables) same

  pub bytes_step : (base offset : ℕ) → room_at m old base offset (length bytes) ≡ Ok a
      → (r : Result (Unit {0}) QueueError) → WrittenOr r → shape_of new ≡ shape_of old
      → Takes marks m old (writes base offset bytes) r new
  bytes_step base offset at (Ok u) wrote shape = (a, at, (wrote, shape))
  bytes_step base offset at (Err e) h shape = (a, at, h)

module _ {B : Type 0} (marks : B → ℕ → ℕ → B → Type 0) (m : Memory) where
  abbrev Did : {T : Type 0} → Tree T → Host B → Result T QueueError → Host B → Type 0
  Did = Follows (Takes marks m)

  -- ---- a store

  -- what is known after a store
  abbrev Stored : ℕ → ℕ → ℕ → Host B → Host B → Type 0
  Stored base offset value old new = StoresWord marks m base offset value old (Ok tt) new
      × (stored_at m new base offset ≡ Ok value) × (shape_of new ≡ shape_of old)

  -- a store is not refused
  after_store : {T : Type 0} (base offset value : ℕ) (t : Tree T) (old new : Host B) (result : Result T QueueError)
      → Did (takes (stores base offset value) (λ _. t)) old result new
      → (mid : Host B) × Stored base offset value old mid × Did t mid result new
  after_store base offset value t old new result (Ok u, mid, (is, stored, lies, shape), more) =
      (mid, (stored, lies, shape), more)
  after_store base offset value t old new result (Err e, mid, (is, stored, lies, shape), more) = absurd (cc)

  last_store : (base offset value : ℕ) (old new : Host B) (result : Result (Unit {0}) QueueError)
      → Did (takes (stores base offset value) (λ _. gives (Ok tt))) old result new
      → (result ≡ Ok tt) × Stored base offset value old new
  last_store base offset value old new result h =
      let (mid, stored, more) = after_store base offset value (gives (Ok tt)) old new result h in
      (more.0, subst (Stored base offset value old) (sym more.1) stored)

  -- a look-up, and what comes after it in the same memory
  after_spot : {T : Type 0} (access : Permissions) (base offset : ℕ) (t : Tree T) (old new : Host B)
      (result : Result T QueueError) → Did (takes (spot access base offset) (λ _. t)) old result new
      → ((w : Window) × (window_at m old base offset access ≡ Ok w) × Did t old result new)
      ⊎ ((e : QueueError) × (result ≡ Err e) × (new ≡ old)
      × Refuses (MayWant m old base offset 2 access) (window_at m old base offset access) e)
  after_spot access base offset t old new result (Ok w, mid, (answers, same), more) =
      let is = answer_is (MayWant m old base offset 2 access) (window_at m old base offset access) w answers in
      inl (w, is, subst (λ s. Did t s result new) same more)
  after_spot access base offset t old new result (Err e, mid, (answers, same), (is, stays)) =
      inr (e, is, stays ∙ same, lost (MayWant m old base offset 2 access) (window_at m old base offset access) e answers)

  after_room : {T : Type 0} (base offset n : ℕ) (t : Tree T) (old new : Host B)
      (result : Result T QueueError) → Did (takes (room base offset n) (λ _. t)) old result new
      → ((a : ℕ) × (room_at m old base offset n ≡ Ok a) × Did t old result new)
      ⊎ ((e : QueueError) × (result ≡ Err e) × (new ≡ old)
      × Refuses (MayWant m old base offset n Write) (room_at m old base offset n) e)
  after_room base offset n t old new result (Ok a, mid, (answers, same), more) =
      let is = answer_is (MayWant m old base offset n Write) (room_at m old base offset n) a answers in
      inl (a, is, subst (λ s. Did t s result new) same more)
  after_room base offset n t old new result (Err e, mid, (answers, same), (is, stays)) =
      inr (e, is, stays ∙ same, lost (MayWant m old base offset n Write) (room_at m old base offset n) e answers)

  -- a load is not refused
  after_load : {T : Type 0} (base offset : ℕ) (k : ℕ → Tree T) (old new : Host B) (result : Result T QueueError)
      → Did (takes (loads base offset) k) old result new
      → (v : ℕ) × (word_at m old base offset ≡ Ok v) × Did (k v) old result new
  after_load base offset k old new result (Ok x, mid, (v, is, at, same), more) =
      let one : x ≡ v = cc in
      (v, at, subst (λ y. Did (k y) old result new) one (subst (λ s. Did (k x) s result new) same more))
  after_load base offset k old new result (Err e, mid, (v, is, at, same), more) = absurd (cc)

  -- ---- a number is set

  pub set : (base offset value : ℕ) (old new : Host B) (result : Result (Unit {0}) QueueError)
      → Did (setting base offset value) old result new
      → StoresWord marks m base offset value old result new × (shape_of new ≡ shape_of old)
  set base offset value old new result h = go (after_spot Write base offset
      (takes (stores base offset value) (λ _. gives (Ok tt))) old new result h)
    where
      go : ((w : Window) × (window_at m old base offset Write ≡ Ok w)
          × Did (takes (stores base offset value) (λ _. gives (Ok tt))) old result new)
          ⊎ ((e : QueueError) × (result ≡ Err e) × (new ≡ old)
          × Refuses (MayWant m old base offset 2 Write) (window_at m old base offset Write) e)
          → StoresWord marks m base offset value old result new × (shape_of new ≡ shape_of old)
      go (inl (w, at, more)) = let (is, stored) = last_store base offset value old new result more in
          (subst (λ r. StoresWord marks m base offset value old r new) (sym is) stored.0, stored.2)
      go (inr (e, is, same, refuses)) =
          (subst (λ r. StoresWord marks m base offset value old r new) (sym is) (refuses, same), ap shape_of same)

  -- ---- returns

  module _ (ring offset : ℕ) (bytes : List ℕ) (last value : ℕ) (old : Host B) where
    -- where the bytes go, and the number
    abbrev Places : Result (ℕ × Window) QueueError
    Places = and_then (room_at m old ring offset (length bytes)) (λ a.
        and_then (word_window m old ring last) (λ w. Ok (a, w)))

    abbrev then_write : Tree (Unit {0})
    then_write = takes (writes ring offset bytes) (λ _. takes (stores ring last value) (λ _. gives (Ok tt)))

    abbrev then_spot : Tree (Unit {0})
    then_spot = takes (spot Write ring last) (λ _. then_write)

    abbrev MayWantPlaces : Type 0
    MayWantPlaces = MayWantAny m old (handing ring offset bytes last value)

    -- the bytes were written, and then the number was stored. Or it was refused, and nothing changed
    abbrev Handed : Result (Unit {0}) QueueError → Host B → Type 0
    Handed result new = MatchResult result
        (λ _. (mid : Host B) × ((a : ℕ) × (room_at m old ring offset (length bytes) ≡ Ok a)
        × WritesBytes marks m a bytes old mid) × StoresWord marks m ring last value mid (Ok tt) new)
        (λ e. Refuses MayWantPlaces Places e × (new ≡ old))

    -- nothing was written
    kept : (result : Result (Unit {0}) QueueError) (new : Host B) (e : QueueError) → result ≡ Err e → new ≡ old
        → Refuses MayWantPlaces Places e → Handed result new × (shape_of new ≡ shape_of old)
    kept result new e is same refuses =
        (subst (λ r. Handed r new) (sym is) (refuses, same), ap shape_of same)

    in_room : (a : ℕ) → room_at m old ring offset (length bytes) ≡ Ok a → (w : Window)
        → word_window m old ring last ≡ Ok w → (result : Result (Unit {0}) QueueError) (new : Host B)
        → Did (takes (writes ring offset bytes) (λ _. takes (stores ring last value) (λ _. gives (Ok tt)))) old result new
        → Handed result new × (shape_of new ≡ shape_of old)
    in_room a at w there result new (Ok u, mid, (b, is, (wrote, shape)), more) =
        let (so, stored) = last_store ring last value mid new result more in
        (subst (λ r. Handed r new) (sym so) (mid, (b, is, wrote), stored.0), stored.2 ∙ shape)
    in_room a at w there result new (Err e, mid, (b, is, (full, needs, same)), (so, stays)) =
        kept result new e so (stays ∙ same)
        (inr (
          full,
          (
            Err errors.Memory,
            tt,
            (inr (refl, (b, room_place m old ring offset (length bytes) b is, needs)), refl),
            (refl, refl),
          ),
        ))

    module _ (result : Result (Unit {0}) QueueError) (new : Host B) where
      at_spot : (a : ℕ) → room_at m old ring offset (length bytes) ≡ Ok a
          → ((w : Window) × (window_at m old ring last Write ≡ Ok w) × Did then_write old result new)
          ⊎ ((e : QueueError) × (result ≡ Err e) × (new ≡ old)
          × Refuses (MayWant m old ring last 2 Write) (window_at m old ring last Write) e)
          → Handed result new × (shape_of new ≡ shape_of old)
      at_spot a at (inl (w, there, more)) = in_room a at w there result new more
      at_spot a at (inr (e, is, same, refuses)) = kept result new e is same
          (second_lost m old (room ring offset (length bytes)) (λ _. then_spot)
          (room_at m old ring offset (length bytes)) (λ a. and_then (word_window m old ring last) (λ w. Ok (a, w)))
          e a at (inl (sym at))
          (first_lost m old (spot Write ring last) (λ _. then_write) (word_window m old ring last) (λ w. Ok (a, w)) e
          (MayWant m old ring last 2 Write) (λ w. inr (refl, w)) refuses))

      at_room : ((a : ℕ) × (room_at m old ring offset (length bytes) ≡ Ok a) × Did then_spot old result new)
          ⊎ ((e : QueueError) × (result ≡ Err e) × (new ≡ old)
          × Refuses (MayWant m old ring offset (length bytes) Write) (room_at m old ring offset (length bytes)) e)
          → Handed result new × (shape_of new ≡ shape_of old)
      at_room (inl (a, at, more)) = at_spot a at (after_spot Write ring last then_write old new result more)
      at_room (inr (e, is, same, refuses)) = kept result new e is same
          (first_lost m old (room ring offset (length bytes)) (λ _. then_spot)
          (room_at m old ring offset (length bytes)) (λ a. and_then (word_window m old ring last) (λ w. Ok (a, w)))
          e (MayWant m old ring offset (length bytes) Write) (λ w. inr (refl, w)) refuses)

      pub handed : Did (handing ring offset bytes last value) old result new
          → Handed result new × (shape_of new ≡ shape_of old)
      handed h = at_room (after_room ring offset (length bytes) then_spot old new result h)

  -- an entry and its index
  module _ (q : QueueState) (head len : ℕ) (old new : Host B) (result : Result (Unit {0}) QueueError) where
    refuse : (e : QueueError) → result ≡ Err e → new ≡ old → used.used_places m old q head ≡ Err e
        → used.AddsUsed marks m q head len old result new × (shape_of new ≡ shape_of old)
    refuse e is same places =
        (subst (λ r. used.AddsUsed marks m q head len old r new) (sym is) (inl places, same), ap shape_of same)

    module _ (ready : q.ready ≡ true) (below : nat_le q.size head ≡ false) where
      place_is : (r : Result ℕ QueueError) → room_at m old q.used_ring (4 + 8 * slot q.size q.next_used) 8 ≡ r
          → used.entry_place m old q head ≡ r
      place_is r is = rw (ready, below) is

      asks : MayWantPlaces q.used_ring (4 + 8 * slot q.size q.next_used) (entry_bytes head len) 2 (index_after q.next_used)
          old → MayWantAny m old (returning q head len)
      asks w = rw (ready, below) w

      handed_is : (r : Result (Unit {0}) QueueError)
          → Handed q.used_ring (4 + 8 * slot q.size q.next_used) (entry_bytes head len) 2 (index_after q.next_used) old r new
          → used.AddsUsed marks m q head len old r new
      handed_is (Ok u) (mid, (a, at, wrote), stored) = (mid, (a, place_is (Ok a) at, wrote), stored)
      handed_is (Err e) (inl is, same) = (inl (rw (ready, below) is), same)
      handed_is (Err e) (inr (full, w), same) = (inr (full, asks w), same)

    go : (ready : Bool) → q.ready ≡ ready → (past : Bool) → nat_le q.size head ≡ past
        → Did (if_ready ready (if past then gives (Err errors.InvalidDescriptorIndex)
        else handing q.used_ring (4 + 8 * slot q.size q.next_used) (entry_bytes head len) 2 (index_after q.next_used)))
        old result new
        → used.AddsUsed marks m q head len old result new × (shape_of new ≡ shape_of old)
    go false is past at (r, same) = refuse errors.QueueNotReady r same (rw is refl)
    go true is true at (r, same) = refuse errors.InvalidDescriptorIndex r same (rw (is, at) refl)
    go true is false at h =
        let (given, shape) = handed q.used_ring (4 + 8 * slot q.size q.next_used) (entry_bytes head len) 2
        (index_after q.next_used) old result new h in
        (handed_is is at result given, shape)

    pub returned : Did (returning q head len) old result new
        → used.AddsUsed marks m q head len old result new × (shape_of new ≡ shape_of old)
    returned h = go q.ready refl (nat_le q.size head) refl h

  -- length and id, and their flags
  module _ (q : PackedState) (buffer : PackedBuffer) (len : ℕ) (old new : Host B)
      (result : Result (Unit {0}) QueueError) where
    packed_refuse : (e : QueueError) → result ≡ Err e → new ≡ old → packed_used.used_places m old q buffer ≡ Err e
        → packed_used.AddsUsed marks m q buffer len old result new × (shape_of new ≡ shape_of old)
    packed_refuse e is same places =
        (subst (λ r. packed_used.AddsUsed marks m q buffer len old r new) (sym is) (inl places, same), ap shape_of same)

    module _ (ready : q.ready ≡ true) (out : is_out q buffer ≡ true) where
      rest_is : (r : Result ℕ QueueError) → room_at m old q.desc_ring (16 * q.next_used.slot + 8) 6 ≡ r
          → packed_used.rest_place m old q buffer ≡ r
      rest_is r is = rw (ready, out) is

      rest_asks : MayWantPlaces q.desc_ring (16 * q.next_used.slot + 8) (rest_bytes buffer len)
          (16 * q.next_used.slot + 14) (used_flags q.next_used.wrap len) old
          → MayWantAny m old (packed_used.returning q buffer len)
      rest_asks w = rw (ready, out) w

      rest_handed : (r : Result (Unit {0}) QueueError) → Handed q.desc_ring (16 * q.next_used.slot + 8)
          (rest_bytes buffer len) (16 * q.next_used.slot + 14) (used_flags q.next_used.wrap len) old r new
          → packed_used.AddsUsed marks m q buffer len old r new
      rest_handed (Ok u) (mid, (a, at, wrote), stored) = (mid, (a, rest_is (Ok a) at, wrote), stored)
      rest_handed (Err e) (inl is, same) = (inl (rw (ready, out) is), same)
      rest_handed (Err e) (inr (full, w), same) = (inr (full, rest_asks w), same)

    packed_go : (ready : Bool) → q.ready ≡ ready → (out : Bool) → is_out q buffer ≡ out
        → Did (if_ready ready (if not out then gives (Err errors.InvalidDescriptorIndex)
        else handing q.desc_ring (16 * q.next_used.slot + 8) (rest_bytes buffer len) (16 * q.next_used.slot + 14)
        (used_flags q.next_used.wrap len))) old result new
        → packed_used.AddsUsed marks m q buffer len old result new × (shape_of new ≡ shape_of old)
    packed_go false is out at (r, same) = packed_refuse errors.QueueNotReady r same (rw is refl)
    packed_go true is false at (r, same) = packed_refuse errors.InvalidDescriptorIndex r same (rw (is, at) refl)
    packed_go true is true at h =
        let (given, shape) = handed q.desc_ring (16 * q.next_used.slot + 8) (rest_bytes buffer len)
        (16 * q.next_used.slot + 14) (used_flags q.next_used.wrap len) old result new h in
        (rest_handed is at result given, shape)

    pub packed_returned : Did (packed_used.returning q buffer len) old result new
        → packed_used.AddsUsed marks m q buffer len old result new × (shape_of new ≡ shape_of old)
    packed_returned h = packed_go q.ready refl (is_out q buffer) refl h

  -- ---- notifications

  -- what an enabled queue knows
  abbrev Enabled : QueueState → Host B → Result Bool QueueError → Host B → Type 0
  Enabled q old result new = split.EnablesIfReady marks m q old result new
      × OnOk result (stored_at m new q.used_ring (kick_offset q) ≡ Ok (kick_value q))
      × (result ≡ Ok false → split.Waits m new q) × (shape_of new ≡ shape_of old)

  module _ (q : QueueState) (old new : Host B) (result : Result Bool QueueError) where
    abbrev then_look : Tree Bool
    then_look = takes (loads q.avail_ring 2) (λ idx. gives (Ok (not (idx == q.next_avail))))

    abbrev then_store : Tree Bool
    then_store = takes (stores q.used_ring (kick_offset q) (kick_value q)) (λ _. then_look)

    abbrev then_idx : Tree Bool
    then_idx = takes (spot Read q.avail_ring 2) (λ _. then_store)

    abbrev kick : Result Window QueueError
    kick = word_window m old q.used_ring (kick_offset q)

    abbrev idx : Result Window QueueError
    idx = window_at m old q.avail_ring 2 Read

    not_kicked : (e : QueueError) → result ≡ Err e → new ≡ old → split.EnablesIfReady marks m q old (Err e) new
        → Enabled q old result new
    not_kicked e is same enables =
        subst (λ r. Enabled q old r new) (sym is) (enables, tt, (λ bad. absurd (cc)), ap shape_of same)

    same_of : (v : ℕ) (b : Bool) → (v == q.next_avail) ≡ b → ◌≡◌ {A = Result Bool QueueError} (Ok (not b)) (Ok false)
        → v ≡ q.next_avail
    same_of v true e is = eqb-true v q.next_avail e
    same_of v false e is = absurd (cc)

    module _ (ready : q.ready ≡ true) where
      looked : (mid : Host B) → Stored q.used_ring (kick_offset q) (kick_value q) old mid → (v : ℕ)
          → word_at m mid q.avail_ring 2 ≡ Ok v → Enabled q old (Ok (not (v == q.next_avail))) mid
      looked mid (stored, lies, shape) v at =
          let index : avail_idx m mid q ≡ Ok v = rw ready at in
          let more = ap (λ (r : Result ℕ QueueError). and_then r (λ i. Ok (not (i == q.next_avail)))) at in (
            rw ready (stored, more),
            lies,
            (λ none. record { asks = lies; none = index ∙ ap Ok (same_of v (v == q.next_avail) refl none) }),
            shape,
          )

      wrote : Did then_store old result new → Enabled q old result new
      wrote h =
          let (mid, stored, more) = after_store q.used_ring (kick_offset q) (kick_value q) then_look old new result h in
          let (v, at, end) = after_load q.avail_ring 2 (λ idx. gives (Ok (not (idx == q.next_avail)))) mid new
          result more in
          subst (λ r. Enabled q old r new) (sym end.0) (subst (Enabled q old (Ok (not (v == q.next_avail)))) (sym end.1)
          (looked mid stored v at))

      lose : (e : QueueError) → result ≡ Err e → new ≡ old
          → Refuses (MayWantAny m old (takes (spot Write q.used_ring (kick_offset q)) (λ _. then_idx)))
          (split.kick_places m old q) e → Enabled q old result new
      lose e is same refuses = not_kicked e is same (rw ready (refuses, same))

      at_idx : (w : Window) → kick ≡ Ok w
          → ((v : Window) × (idx ≡ Ok v) × Did then_store old result new)
          ⊎ ((e : QueueError) × (result ≡ Err e) × (new ≡ old) × Refuses (MayWant m old q.avail_ring 2 2 Read) idx e)
          → Enabled q old result new
      at_idx w at (inl (v, there, more)) = wrote more
      at_idx w at (inr (e, is, same, refuses)) = lose e is same
          (second_lost m old (spot Write q.used_ring (kick_offset q)) (λ _. then_idx) kick
          (λ k. and_then idx (λ i. Ok (k, i))) e w at (inl (sym at))
          (first_lost m old (spot Read q.avail_ring 2) (λ _. then_store) idx (λ i. Ok (w, i)) e
          (MayWant m old q.avail_ring 2 2 Read) (λ w. inr (refl, w)) refuses))

      at_kick : ((w : Window) × (kick ≡ Ok w) × Did then_idx old result new)
          ⊎ ((e : QueueError) × (result ≡ Err e) × (new ≡ old)
          × Refuses (MayWant m old q.used_ring (kick_offset q) 2 Write) kick e) → Enabled q old result new
      at_kick (inl (w, at, more)) = at_idx w at (after_spot Read q.avail_ring 2 then_store old new result more)
      at_kick (inr (e, is, same, refuses)) = lose e is same
          (first_lost m old (spot Write q.used_ring (kick_offset q)) (λ _. then_idx) kick
          (λ k. and_then idx (λ i. Ok (k, i))) e (MayWant m old q.used_ring (kick_offset q) 2 Write)
          (λ w. inr (refl, w)) refuses)

    kick_if : (ready : Bool) → q.ready ≡ ready → Did (if_ready ready
        (takes (spot Write q.used_ring (kick_offset q)) (λ _. then_idx))) old result new → Enabled q old result new
    kick_if false is (r, same) = not_kicked errors.QueueNotReady r same (rw is (refl, same))
    kick_if true is h = at_kick is (after_spot Write q.used_ring (kick_offset q) then_idx old new result h)

    pub enabled : Did (enabling q) old result new → Enabled q old result new
    enabled h = kick_if q.ready refl h

  pub disabled : (q : QueueState) (old new : Host B) (result : Result (Unit {0}) QueueError)
      → Did (disabling q) old result new
      → split.Disables marks m q old result new × (shape_of new ≡ shape_of old)
  disabled q old new result h = go q.ready refl q.event_idx_enabled refl h
    where
      go : (ready : Bool) → q.ready ≡ ready → (on : Bool) → q.event_idx_enabled ≡ on
          → Did (if_ready ready (if on then gives (Ok tt) else setting q.used_ring 0 1)) old result new
          → split.Disables marks m q old result new × (shape_of new ≡ shape_of old)
      go false is on so (r, same) = (rw is (r, same), ap shape_of same)
      go true is true so (r, same) = (rw (is, so) (r, same), ap shape_of same)
      go true is false so h = let (stored, shape) = set q.used_ring 0 1 old new result h in (rw (is, so) stored, shape)

  pub packed_disabled : (q : PackedState) (old new : Host B) (result : Result (Unit {0}) QueueError)
      → Did (events.disabling q) old result new
      → events.Disables marks m q old result new × (shape_of new ≡ shape_of old)
  packed_disabled q old new result h = go q.ready refl h
    where
      go : (ready : Bool) → q.ready ≡ ready → Did (if_ready ready (setting q.device_area 2 1)) old result new
          → events.Disables marks m q old result new × (shape_of new ≡ shape_of old)
      go false is (r, same) = (rw is (r, same), ap shape_of same)
      go true is h = let (stored, shape) = set q.device_area 2 1 old new result h in (rw is stored, shape)

  -- what an enabled packed queue knows
  abbrev PackedEnabled : PackedState → Host B → Result Bool QueueError → Host B → Type 0
  PackedEnabled q old result new = events.EnablesIfReady marks m q old result new
      × OnOk result (events.Offers m new q) × (result ≡ Ok false → events.Waits m new q)
      × (shape_of new ≡ shape_of old)

  module _ (stay : (cells : List Cell) (bytes : List ℕ) (blocks : List (List ℕ)) (cell : Cell)
      → (Contains cells cell → ⊥) → byte_at (written cells bytes blocks) cell ≡ byte_at blocks cell)
      (keep : (ws : List Window) (bytes : List ℕ) (old new : Host B) → Writes marks ws bytes old new
      → new.tables ≡ old.tables) (q : PackedState) (old new : Host B) (result : Result Bool QueueError) where
    abbrev after_next : ℕ
    after_next = 16 * q.next_avail.slot + 14

    abbrev then_load : Tree Bool
    then_load = takes (loads q.desc_ring after_next) (λ flags. gives (Ok (is_available flags q.next_avail.wrap)))

    abbrev then_flags : Tree Bool
    then_flags = takes (stores q.device_area 2 (kick_flags q)) (λ _. then_load)

    abbrev then_offset : Tree Bool
    then_offset = takes (stores q.device_area 0 (to_bits q.next_avail)) (λ _. then_flags)

    abbrev then_next : Tree Bool
    then_next = takes (spot Read q.desc_ring after_next) (λ _. then_offset)

    abbrev then_second : Tree Bool
    then_second = takes (spot Write q.device_area 2) (λ _. then_next)

    no_kick : (e : QueueError) → result ≡ Err e → new ≡ old → events.EnablesIfReady marks m q old (Err e) new
        → PackedEnabled q old result new
    no_kick e is same enables =
        subst (λ r. PackedEnabled q old r new) (sym is) (enables, tt, (λ bad. absurd (cc)), ap shape_of same)

    offers : (mid end : Host B) → Stored q.device_area 0 (to_bits q.next_avail) old mid
        → Stored q.device_area 2 (kick_flags q) mid end → events.Offers m end q
    offers mid end (first, lies, shape) ((v', is', second), also_lies, last_shape) w v at is apart =
        let tables = keep (v' ∷ []) (to_le_bytes w16 (kick_flags q)) mid end second in
        let there : word_window m mid q.device_area 0 ≡ Ok w =
        window_stays m end mid q.device_area 0 w (sym tables) Write at in
        let flags : word_window m mid q.device_area 2 ≡ Ok v =
        window_stays m end mid q.device_area 2 v (sym tables) Write is in
        let one : v ≡ v' = let e : ◌≡◌ {A = Result Window QueueError} (Ok v) (Ok v') = sym flags ∙ is' in cc in
        stored_stays marks m q.device_area 0 mid end stay w v' (to_le_bytes w16 (kick_flags q)) there
        (subst (λ (x : Window). events.AreApart w x) one apart) tables second ∙ lies

    module _ (ready : q.ready ≡ true) where
      found_next : (mid end : Host B) → Stored q.device_area 0 (to_bits q.next_avail) old mid
          → Stored q.device_area 2 (kick_flags q) mid end → (v : ℕ) → word_at m end q.desc_ring after_next ≡ Ok v
          → PackedEnabled q old (Ok (is_available v q.next_avail.wrap)) end
      found_next mid end first second v at =
          let more : has_next m end q ≡ Ok (is_available v q.next_avail.wrap) =
          rw ready (ap (λ (r : Result ℕ QueueError). and_then r (λ f. Ok (is_available f q.next_avail.wrap))) at) in (
            rw ready (mid, first.0, second.0, rw ready at more),
            offers mid end first second,
            (λ none. record { asks = second.1; offers = offers mid end first second; none = more ∙ none }),
            second.2 ∙ first.2,
          )

      wrote_both : Did then_offset old result new → PackedEnabled q old result new
      wrote_both h =
          let (mid, first, more) = after_store q.device_area 0 (to_bits q.next_avail) then_flags old new result h in
          let (end, second, rest) = after_store q.device_area 2 (kick_flags q) then_load mid new result more in
          let (v, at, last) = after_load q.desc_ring after_next
          (λ flags. gives (Ok (is_available flags q.next_avail.wrap))) end new result rest in
          subst (λ r. PackedEnabled q old r new) (sym last.0)
          (subst (PackedEnabled q old (Ok (is_available v q.next_avail.wrap))) (sym last.1)
          (found_next mid end first second v at))

      abbrev offset : Result Window QueueError
      offset = word_window m old q.device_area 0

      abbrev flags : Result Window QueueError
      flags = word_window m old q.device_area 2

      abbrev next : Result Window QueueError
      next = window_at m old q.desc_ring after_next Read

      all_lost : (e : QueueError) → result ≡ Err e → new ≡ old
          → Refuses (MayWantAny m old (takes (spot Write q.device_area 0) (λ _. then_second)))
          (events.kick_places m old q) e → PackedEnabled q old result new
      all_lost e is same refuses = no_kick e is same (rw ready (refuses, same))

      at_next : (w v : Window) → offset ≡ Ok w → flags ≡ Ok v
          → ((x : Window) × (next ≡ Ok x) × Did then_offset old result new)
          ⊎ ((e : QueueError) × (result ≡ Err e) × (new ≡ old)
          × Refuses (MayWant m old q.desc_ring after_next 2 Read) next e)
          → PackedEnabled q old result new
      at_next w v at also (inl (x, there, more)) = wrote_both more
      at_next w v at also (inr (e, is, same, refuses)) = all_lost e is same
          (second_lost m old (spot Write q.device_area 0) (λ _. then_second) offset
          (λ o. and_then flags (λ f. and_then next (λ n. Ok (o, f, n)))) e w at (inl (sym at))
          (second_lost m old (spot Write q.device_area 2) (λ _. then_next) flags
          (λ f. and_then next (λ n. Ok (w, f, n))) e v also (inl (sym also))
          (first_lost m old (spot Read q.desc_ring after_next) (λ _. then_offset) next (λ n. Ok (w, v, n)) e
          (MayWant m old q.desc_ring after_next 2 Read) (λ w. inr (refl, w)) refuses)))

      at_flags : (w : Window) → offset ≡ Ok w
          → ((v : Window) × (flags ≡ Ok v) × Did then_next old result new)
          ⊎ ((e : QueueError) × (result ≡ Err e) × (new ≡ old)
          × Refuses (MayWant m old q.device_area 2 2 Write) flags e) → PackedEnabled q old result new
      at_flags w at (inl (v, also, more)) =
          at_next w v at also (after_spot Read q.desc_ring after_next then_offset old new result more)
      at_flags w at (inr (e, is, same, refuses)) = all_lost e is same
          (second_lost m old (spot Write q.device_area 0) (λ _. then_second) offset
          (λ o. and_then flags (λ f. and_then next (λ n. Ok (o, f, n)))) e w at (inl (sym at))
          (first_lost m old (spot Write q.device_area 2) (λ _. then_next) flags
          (λ f. and_then next (λ n. Ok (w, f, n))) e (MayWant m old q.device_area 2 2 Write)
          (λ w. inr (refl, w)) refuses))

      at_offset : ((w : Window) × (offset ≡ Ok w) × Did then_second old result new)
          ⊎ ((e : QueueError) × (result ≡ Err e) × (new ≡ old)
          × Refuses (MayWant m old q.device_area 0 2 Write) offset e) → PackedEnabled q old result new
      at_offset (inl (w, at, more)) = at_flags w at (after_spot Write q.device_area 2 then_next old new result more)
      at_offset (inr (e, is, same, refuses)) = all_lost e is same
          (first_lost m old (spot Write q.device_area 0) (λ _. then_second) offset
          (λ o. and_then flags (λ f. and_then next (λ n. Ok (o, f, n)))) e (MayWant m old q.device_area 0 2 Write)
          (λ w. inr (refl, w)) refuses)

    pub packed_enabled : Did (events.enabling q) old result new → PackedEnabled q old result new
    packed_enabled h = go q.ready refl h
      where
        go : (ready : Bool) → q.ready ≡ ready → Did (if_ready ready
            (takes (spot Write q.device_area 0) (λ _. then_second))) old result new → PackedEnabled q old result new
        go false is (r, same) = no_kick errors.QueueNotReady r same (rw is (refl, same))
        go true is h = at_offset is (after_spot Write q.device_area 0 then_second old new result h)
