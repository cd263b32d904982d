-- Histories of a packed queue: chains and entries keep their order.
use Rattle.std.proofs.Common.{◌≡◌, ◌∙◌, ℕ, zero, suc, ◌+◌, ◌-◌, ◌*◌, ◌/◌, ◌%◌, ◌<◌, ◌≤◌, ◌==◌, nat_lt, Bool, true, false, not, if◌then◌else◌, List, [], ◌∷◌, ◌++◌, length, take, Option, Some, None, ap, refl, sym, subst, arith, inl, inr, append_assoc}
use Rattle.std.specs.List.{slice_get}
use Rattle.std.proofs.Math.Nat.{add-mod_right, mod-add-div, mul-suc, suc-mul}
use Rattle.std.proofs.lemmas.List.Sums.{sum_by-append, sum_by-cons}
use Rattle.std.proofs.lemmas.Nat.{div-add-mod', div-mul-add, mod-mul-add, mod_below, mul-le}
use Rattle.std.proofs.lemmas.Bool.{cases_eq, cases_lt, cases_order, le-ltb}
use borrow.Author.Tests.{ltb-true}
use Rattle.std.proofs.lemmas.Bool.Decides.{nat_tests}
use Rattle.virtio_queue.specs.Packed.{moved}
use Rattle.virtio_queue.specs.PackedHistory.{Cell, Entry, Story, Event, Publish, Pop, Return, Take, May, AllMay, after, after_pop, after_take, available_cell, chain_to_pop, entry_slots, entry_to_take, first, has, is_available_cell, is_used_cell, slots_of, story, used_cell, with_cell, with_chain}
use Rattle.virtio_queue.specs.declared.packed.state.PackedBuffer.{PackedBuffer}
use Rattle.virtio_queue.specs.declared.packed.position.RingPosition.{RingPosition}

-- ---- positions

-- the wrap counter of the n-th slot that is passed
abbrev wrap_at : ℕ → ℕ → Bool
wrap_at size n = n / size % 2 == 0

abbrev at : ℕ → ℕ → RingPosition
at size n = record { slot = n % size; wrap = wrap_at size n }

flips : (q : ℕ) → (suc q % 2 == 0) ≡ not (q % 2 == 0)
flips q = elim (cases_eq (q % 2) 0) [
  | inl even ↦ let odd : suc q % 2 ≡ 1 = omega (arith, even) in rw (even, odd) refl
  | inr other ↦
      let odd : q % 2 ≡ 1 = omega (arith, other) in let even : suc q % 2 ≡ 0 = omega (arith, odd) in rw (even, odd) refl
]

at_of : (size q r : ℕ) → r < size → at size (q * size + r) ≡ record { slot = r; wrap = q % 2 == 0 }
at_of size q r h =
    let m = mod-mul-add q size r h in
    let d = div-mul-add q size r h in
    ap (λ (s : ℕ). record { slot = s; wrap = wrap_at size (q * size + r) }) m
    ∙ ap (λ (n : ℕ). record { slot = r; wrap = n % 2 == 0 }) d

quotients : (size p q r i j : ℕ) → r + size * p ≡ i → r + size * q ≡ j → i < j → j < i + size → ⊥
quotients size p q r i j is_i is_j below near = elim (cases_lt p q) [
  | inl less ↦ let more = mul-le size (suc p) size q (omega arith) (omega arith) in omega (arith, more, mul-suc size p)
  | inr least ↦ let more = mul-le size q size p (omega arith) least in omega (arith, more)
]

module _ (size : ℕ) (some : 0 < size) where
  -- numbers less than the size apart have different slots
  apart : (i j : ℕ) → i < j → j < i + size → j % size ≡ i % size → ⊥
  apart i j below near same =
      quotients size (i / size) (j / size) (i % size) i j (mod-add-div i size)
      (ap (λ r. r + size * (j / size)) (sym same) ∙ mod-add-div j size) below near

  moved_at : (n k : ℕ) → k ≤ size → moved size (at size n) k ≡ at size (n + k)
  moved_at n k within = go (nat_lt (n % size + k) size) refl
    where
      sum : n / size * size + n % size ≡ n
      sum = div-add-mod' n size

      below : n % size < size
      below = mod_below n size some

      go : (b : Bool) → nat_lt (n % size + k) size ≡ b
          → (if b then record { slot = n % size + k; wrap = wrap_at size n }
          else record { slot = n % size + k - size; wrap = not (wrap_at size n) })
          ≡ at size (n + k)
      go true e =
          let h = ltb-true (n % size + k) size e in
          let same : n / size * size + (n % size + k) ≡ n + k = omega (arith, sum) in
          sym (at_of size (n / size) (n % size + k) h) ∙ ap (at size) same
      go false e =
          let h : n % size + k - size < size = omega (arith, below) in
          let past : size ≤ n % size + k = grind (arith, nat_tests) in
          let same : suc (n / size) * size + (n % size + k - size) ≡ n + k =
          omega (arith, sum, past, suc-mul (n / size) size) in
          ap (λ (w : Bool). record { slot = n % size + k - size; wrap = w }) (sym (flips (n / size)))
          ∙ sym (at_of size (suc (n / size)) (n % size + k - size) h) ∙ ap (at size) same

  -- a round later the slot is the same, and the wrap counter is not
  round_wrap : (n : ℕ) → wrap_at size (n + size) ≡ not (wrap_at size n)
  round_wrap n =
      let past : size ≤ n % size + size = omega arith in
      let later = sym (moved_at n size (omega arith)) in
      ap (λ (p : RingPosition). p.wrap) later ∙ rw (le-ltb (n % size + size) size past) refl

-- ---- slots

has_same : (w : Bool) → has w w ≡ true
has_same true = refl
has_same false = refl

has_other : (w : Bool) → has (not w) w ≡ false
has_other true = refl
has_other false = refl

twice : (w : Bool) → not (not w) ≡ w
twice true = refl
twice false = refl

same_cell : (cells : ℕ → Cell) (i j : ℕ) (x : Cell) → j ≡ i → with_cell cells i x j ≡ x
same_cell cells i j x e = grind (arith, nat_tests)

other_cell : (cells : ℕ → Cell) (i j : ℕ) (x : Cell) → (j ≡ i → ⊥) → with_cell cells i x j ≡ cells j
other_cell cells i j x e = grind (arith, nat_tests)

available_there : (c : Cell) (w : Bool) → c.avail ≡ w → c.used ≡ not w → is_available_cell c w ≡ true
available_there c w a u = rw (a, u, has_same w, has_other w) refl

none_available : (c : Cell) (w : Bool) → c.avail ≡ not w → is_available_cell c w ≡ false
none_available c w a = rw (a, has_other w) refl

none_used : (c : Cell) (w : Bool) → c.avail ≡ not w → is_used_cell c w ≡ false
none_used c w a = rw (a, has_other w) refl

not_used : (c : Cell) (w : Bool) → c.avail ≡ w → c.used ≡ not w → is_used_cell c w ≡ false
not_used c w a u = rw (a, u, has_same w, has_other w) refl

used_there : (c : Cell) (w : Bool) (e : Entry) → c ≡ used_cell w e → is_used_cell c w ≡ true
used_there c w e is = rw (is, has_same w) refl

-- ---- lists

module _ {X : Type 0} where
  abbrev first_of : List X → Option X
  first_of [] = None
  first_of (x ∷ xs) = Some x

  taken_of : (xs ys all : List X) → all ≡ xs ++ ys → xs ≡ take (length xs) all
  taken_of [] ys all e = refl
  taken_of (x ∷ xs) ys all e = rw e (ap (λ zs. x ∷ zs) (taken_of xs ys (xs ++ ys) refl))

  next_of : (xs ys all : List X) → all ≡ xs ++ ys → slice_get all (length xs) ≡ first_of ys
  next_of [] [] all e = rw e refl
  next_of [] (y ∷ ys) all e = rw e refl
  next_of (x ∷ xs) ys all e = rw e (next_of xs ys (xs ++ ys) refl)

  moved_over : (xs : List X) (y : X) (ys all : List X) → all ≡ xs ++ y ∷ ys → all ≡ (xs ++ y ∷ []) ++ ys
  moved_over xs y ys all e = e ∙ sym (append_assoc xs (y ∷ []) ys)

slots_cons : (b : PackedBuffer) (bs : List PackedBuffer) → slots_of (b ∷ bs) ≡ b.slots + slots_of bs
slots_cons b bs = sum_by-cons (λ (x : PackedBuffer). x.slots) b bs

entry_cons : (e : Entry) (es : List Entry) → entry_slots (e ∷ es) ≡ e.buffer.slots + entry_slots es
entry_cons e es = sum_by-cons (λ (x : Entry). x.buffer.slots) e es

added_slots : (b : PackedBuffer) (bs : List PackedBuffer) → slots_of (bs ++ b ∷ []) ≡ slots_of bs + b.slots
added_slots b bs = omega (arith, sum_by-append (λ (x : PackedBuffer). x.slots) bs (b ∷ []), slots_cons b [])

added_entry : (e : Entry) (es : List Entry) → entry_slots (es ++ e ∷ []) ≡ entry_slots es + e.buffer.slots
added_entry e es = omega (arith, sum_by-append (λ (x : Entry). x.buffer.slots) es (e ∷ []), entry_cons e [])

-- ---- what lies in the ring

module _ (size : ℕ) where
  -- chains lie one after the other from a slot on, and so do entries
  unfoldable Chains : (ℕ → Cell) → ℕ → List PackedBuffer → Type 0
  Chains cells n [] = Unit {0}
  Chains cells n (b ∷ bs) =
      (0 < b.slots) × ((cells (n % size)).entry.buffer ≡ b) × Chains cells (n + b.slots) bs

  unfoldable Entries : (ℕ → Cell) → ℕ → List Entry → Type 0
  Entries cells n [] = Unit {0}
  Entries cells n (e ∷ es) = (0 < e.buffer.slots) × (cells (n % size) ≡ used_cell (wrap_at size n) e)
      × Entries cells (n + e.buffer.slots) es

  -- the same slots are in both, from one number up to another
  abbrev Same : ℕ → ℕ → (ℕ → Cell) → (ℕ → Cell) → Type 0
  Same low high old new = (j : ℕ) → low ≤ j → j < high → new (j % size) ≡ old (j % size)

  chains_stay : (old new : ℕ → Cell) (n high : ℕ) (bs : List PackedBuffer) → n + slots_of bs ≤ high
      → Same n high old new → Chains old n bs → Chains new n bs
  unfolding Chains
  chains_stay old new n high [] within same h = h
  chains_stay old new n high (b ∷ bs) within same (more, is, rest) = (
    more,
    ap (λ (c : Cell). c.entry.buffer) (same n (omega arith) (omega (arith, slots_cons b bs))) ∙ is,
    chains_stay old new (n + b.slots) high bs (omega (arith, slots_cons b bs))
        (λ j low high. same j (omega arith) high) rest,
  )

  entries_stay : (old new : ℕ → Cell) (n high : ℕ) (es : List Entry) → n + entry_slots es ≤ high
      → Same n high old new → Entries old n es → Entries new n es
  unfolding Entries
  entries_stay old new n high [] within same h = h
  entries_stay old new n high (e ∷ es) within same (more, is, rest) = (
    more,
    same n (omega arith) (omega (arith, entry_cons e es)) ∙ is,
    entries_stay old new (n + e.buffer.slots) high es (omega (arith, entry_cons e es))
        (λ j low high. same j (omega arith) high) rest,
  )

  chains_more : (cells : ℕ → Cell) (n : ℕ) (bs : List PackedBuffer) (b : PackedBuffer) → Chains cells n bs
      → 0 < b.slots → (cells ((n + slots_of bs) % size)).entry.buffer ≡ b → Chains cells n (bs ++ b ∷ [])
  unfolding Chains
  chains_more cells n [] b h more is =
      let same : n + 0 ≡ n = omega arith in
      (more, subst (λ i. (cells (i % size)).entry.buffer ≡ b) same is, tt)
  chains_more cells n (x ∷ bs) b (some_slots, there, rest) more is =
      let same : n + slots_of (x ∷ bs) ≡ n + x.slots + slots_of bs = omega (arith, slots_cons x bs) in (
        some_slots,
        there,
        chains_more cells (n + x.slots) bs b rest more
            (subst (λ i. (cells (i % size)).entry.buffer ≡ b) same is),
      )

  entries_more : (cells : ℕ → Cell) (n : ℕ) (es : List Entry) (e : Entry) → Entries cells n es
      → 0 < e.buffer.slots
      → cells ((n + entry_slots es) % size) ≡ used_cell (wrap_at size (n + entry_slots es)) e
      → Entries cells n (es ++ e ∷ [])
  unfolding Entries
  entries_more cells n [] e h more is =
      let same : n + 0 ≡ n = omega arith in
      (more, subst (λ i. cells (i % size) ≡ used_cell (wrap_at size i) e) same is, tt)
  entries_more cells n (x ∷ es) e (some_slots, there, rest) more is =
      let same : n + entry_slots (x ∷ es) ≡ n + x.buffer.slots + entry_slots es = omega (arith, entry_cons x es) in (
        some_slots,
        there,
        entries_more cells (n + x.buffer.slots) es e rest more
            (subst (λ i. cells (i % size) ≡ used_cell (wrap_at size i) e) same is),
      )

module _ (size : ℕ) (some : 0 < size) where
  -- a chain that is put changes its own slots
  chain_outside : (buffer : PackedBuffer) (n low : ℕ) (cells : ℕ → Cell) (i : ℕ)
      → ((j : ℕ) → low ≤ j → j < low + n → i ≡ j % size → ⊥)
      → with_chain size buffer n (at size low) cells i ≡ cells i
  unfolding with_chain
  chain_outside buffer zero low cells i apart_from = refl
  chain_outside buffer (suc n) low cells i apart_from =
      let now = with_cell cells (low % size) (available_cell (wrap_at size low) buffer) in
      let on = moved_at size some low 1 (omega arith) in
      ap (λ p. with_chain size buffer n p now i) on
      ∙ chain_outside buffer n (low + 1) now i (λ j least most. apart_from j (omega arith) (omega arith))
      ∙ other_cell cells (low % size) i (available_cell (wrap_at size low) buffer)
      (apart_from low (omega arith) (omega arith))

  chain_inside : (buffer : PackedBuffer) (n low : ℕ) (cells : ℕ → Cell) → n ≤ size → (j : ℕ) → low ≤ j → j < low + n
      → with_chain size buffer n (at size low) cells (j % size) ≡ available_cell (wrap_at size j) buffer
  unfolding with_chain
  chain_inside buffer zero low cells within j least most = absurd (omega arith)
  chain_inside buffer (suc n) low cells within j least most =
      let now = with_cell cells (low % size) (available_cell (wrap_at size low) buffer) in
      let on = moved_at size some low 1 (omega arith) in
      ap (λ p. with_chain size buffer n p now (j % size)) on ∙ elim (cases_eq j low) [
        | inl here ↦
            let same : j % size ≡ low % size = ap (λ i. i % size) here in
            chain_outside buffer n (low + 1) now (j % size)
            (λ k more less e. apart size some low k (omega arith) (omega arith) (sym e ∙ same))
            ∙ same_cell cells (low % size) (j % size) (available_cell (wrap_at size low) buffer) same
            ∙ ap (λ i. available_cell (wrap_at size i) buffer) (sym here)
        | inr behind ↦ chain_inside buffer n (low + 1) now (omega arith) j (omega arith) (omega arith)
      ]

-- ---- what holds after all events

record Holds (size : ℕ) (s : Story) : Type 0 where
  pub waiting : List PackedBuffer
  pub unseen : List Entry
  pub published : s.published ≡ s.popped ++ waiting
  pub returned : s.returned ≡ s.taken ++ unseen
  pub publishes : s.ring.publishes ≡ at size (slots_of s.published)
  pub pops : s.ring.pops ≡ at size (slots_of s.popped)
  pub returns : s.ring.returns ≡ at size (entry_slots s.returned)
  pub takes : s.ring.takes ≡ at size (entry_slots s.taken)
  pub returned_within : entry_slots s.returned ≤ slots_of s.popped
  pub room : slots_of s.published ≤ entry_slots s.taken + size
  pub ready : (j : ℕ) → entry_slots s.taken ≤ j → j < slots_of s.published
      → (s.ring.cells (j % size)).avail ≡ wrap_at size j
  pub free : (j : ℕ) → slots_of s.published ≤ j → j < entry_slots s.taken + size
      → (s.ring.cells (j % size)).avail ≡ not (wrap_at size j)
  pub given : (j : ℕ) → entry_slots s.returned ≤ j → j < slots_of s.published
      → (s.ring.cells (j % size)).used ≡ not (wrap_at size j)
  pub chains : Chains size s.ring.cells (slots_of s.popped) waiting
  pub entries : Entries size s.ring.cells (entry_slots s.taken) unseen

module _ (size : ℕ) (some : 0 < size) where
  published_slots : (s : Story) (h : Holds size s) → slots_of s.popped + slots_of h.waiting ≡ slots_of s.published
  published_slots s h =
      sym (sum_by-append (λ (b : PackedBuffer). b.slots) s.popped h.waiting) ∙ ap slots_of (sym h.published)

  returned_slots : (s : Story) (h : Holds size s) → entry_slots s.taken + entry_slots h.unseen ≡ entry_slots s.returned
  returned_slots s h = sym (sum_by-append (λ (e : Entry). e.buffer.slots) s.taken h.unseen)
      ∙ ap entry_slots (sym h.returned)

  -- the chain that is popped next is the first that waits
  next_chain : (s : Story) (h : Holds size s) → chain_to_pop size s.ring ≡ first_of h.waiting
  unfolding Chains
  next_chain s h = go h.waiting h.chains (published_slots s h)
    where
      c : Cell
      c = s.ring.cells (slots_of s.popped % size)

      at_pops : chain_to_pop size s.ring
          ≡ (if is_available_cell c (wrap_at size (slots_of s.popped)) then Some c.entry.buffer else None)
      at_pops = ap (λ (p : RingPosition). let c = s.ring.cells p.slot in
          if is_available_cell c p.wrap then Some c.entry.buffer else None) h.pops

      go : (waiting : List PackedBuffer) → Chains size s.ring.cells (slots_of s.popped) waiting
          → slots_of s.popped + slots_of waiting ≡ slots_of s.published → chain_to_pop size s.ring ≡ first_of waiting
      go [] chains sum = at_pops ∙ rw (none_available c (wrap_at size (slots_of s.popped)) empty) refl
        where
          n : ℕ
          n = slots_of s.popped

          empty : c.avail ≡ not (wrap_at size n)
          empty = elim (cases_lt n (entry_slots s.taken + size)) [
            | inl inside ↦ h.free n (omega (arith, sum)) inside
            | inr past ↦
                let t = entry_slots s.taken in
                let is : n ≡ t + size = omega (arith, sum, h.room, past) in
                let same : n % size ≡ t % size = ap (λ i. i % size) is ∙ add-mod_right t size in
                let flipped : wrap_at size n ≡ not (wrap_at size t) =
                ap (wrap_at size) is ∙ round_wrap size some t in
                let old = h.ready t (omega arith) (omega (arith, sum, is)) in
                ap (λ (i : ℕ). (s.ring.cells i).avail) same ∙ old ∙ sym (twice (wrap_at size t))
                ∙ ap not (sym flipped)
          ]
      go (b ∷ bs) (more, is, rest) sum =
          let n = slots_of s.popped in
          let below : n < slots_of s.published = omega (arith, sum, more, slots_cons b bs) in
          let a = h.ready n (omega (arith, h.returned_within, returned_slots s h)) below in
          let u = h.given n h.returned_within below in
          at_pops ∙ rw (available_there c (wrap_at size n) a u) (ap Some is)

  -- the entry that is taken next is the first that the driver has not seen
  next_entry : (s : Story) (h : Holds size s) → entry_to_take size s.ring ≡ first_of h.unseen
  unfolding Entries
  next_entry s h = go h.unseen h.entries (returned_slots s h)
    where
      c : Cell
      c = s.ring.cells (entry_slots s.taken % size)

      at_takes : entry_to_take size s.ring
          ≡ (if is_used_cell c (wrap_at size (entry_slots s.taken)) then Some c.entry else None)
      at_takes = ap (λ (p : RingPosition). let c = s.ring.cells p.slot in
          if is_used_cell c p.wrap then Some c.entry else None) h.takes

      go : (unseen : List Entry) → Entries size s.ring.cells (entry_slots s.taken) unseen
          → entry_slots s.taken + entry_slots unseen ≡ entry_slots s.returned
          → entry_to_take size s.ring ≡ first_of unseen
      go [] entries sum =
          let t = entry_slots s.taken in
          let none : is_used_cell c (wrap_at size t) ≡ false = elim (cases_lt t (slots_of s.published)) [
            | inl more ↦ not_used c (wrap_at size t) (h.ready t (omega arith) more)
                (h.given t (omega (arith, sum)) more)
            | inr all ↦ none_used c (wrap_at size t) (h.free t all (omega (arith, some)))
          ] in
          at_takes ∙ rw none refl
      go (e ∷ es) (more, is, rest) sum =
          at_takes ∙ rw (used_there c (wrap_at size (entry_slots s.taken)) e is)
          (ap (λ (x : Cell). Some x.entry) is)

  -- ---- what an event leaves

  after_publish_holds : (b : PackedBuffer) (s : Story) → Holds size s → May size (Publish b) s
      → Holds size (after size (Publish b) s)
  after_publish_holds b s h (more, fits) =
      let put = slots_of s.published in
      let cells = s.ring.cells in
      let new = with_chain size b b.slots (at size put) cells in
      let placed : with_chain size b b.slots s.ring.publishes cells ≡ new =
      ap (λ p. with_chain size b b.slots p cells) h.publishes in
      let sum = published_slots s h in
      let seen = returned_slots s h in
      let total : slots_of (s.published ++ b ∷ []) ≡ put + b.slots = added_slots b s.published in
      let small : b.slots ≤ size = omega (arith, h.returned_within, sum, seen) in
      let outside : (j : ℕ) → entry_slots s.taken ≤ j → j < put → new (j % size) ≡ cells (j % size) =
      λ j least most. chain_outside size some b b.slots put cells (j % size)
      (λ k low high e. apart size some j k (omega arith) (omega (arith, fits)) (sym e)) in
      let inside : (j : ℕ) → put ≤ j → j < put + b.slots
      → new (j % size) ≡ available_cell (wrap_at size j) b =
      λ j least most. chain_inside size some b b.slots put cells small j least most in
      let beyond : (j : ℕ) → put + b.slots ≤ j → j < entry_slots s.taken + size
      → new (j % size) ≡ cells (j % size) =
      λ j least most. chain_outside size some b b.slots put cells (j % size)
      (λ k low high e. apart size some k j (omega arith) (omega (arith, h.room, sum, seen, h.returned_within)) e) in
      rw placed (record {
        waiting = h.waiting ++ b ∷ [];
        unseen = h.unseen;
        published = ap (λ bs. bs ++ b ∷ []) h.published ∙ append_assoc s.popped h.waiting (b ∷ []);
        returned = h.returned;
        publishes = ap (λ p. moved size p b.slots) h.publishes ∙ moved_at size some put b.slots small
            ∙ ap (at size) (sym total);
        pops = h.pops;
        returns = h.returns;
        takes = h.takes;
        returned_within = h.returned_within;
        room = omega (arith, total, fits);
        ready = λ j least most. elim (cases_lt j put) [
          | inl old ↦ ap (λ (c : Cell). c.avail) (outside j least old) ∙ h.ready j least old
          | inr now ↦ ap (λ (c : Cell). c.avail) (inside j now (omega (arith, total, most)))
        ];
        free = λ j least most. ap (λ (c : Cell). c.avail) (beyond j (omega (arith, total, least)) most)
            ∙ h.free j (omega (arith, total, least)) most;
        given = λ j least most. elim (cases_lt j put) [
          | inl old ↦ ap (λ (c : Cell). c.used) (outside j (omega (arith, seen, least)) old) ∙ h.given j least old
          | inr now ↦ ap (λ (c : Cell). c.used) (inside j now (omega (arith, total, most)))
        ];
        chains = chains_more size new (slots_of s.popped) h.waiting b
            (chains_stay size cells new (slots_of s.popped) put h.waiting (omega (arith, sum))
            (λ j least most. outside j (omega (arith, seen, h.returned_within, least)) most) h.chains) more
            (ap (λ i. (new (i % size)).entry.buffer) sum
            ∙ ap (λ (c : Cell). c.entry.buffer) (inside put (omega arith) (omega (arith, more))));
        entries = entries_stay size cells new (entry_slots s.taken) put h.unseen
            (omega (arith, seen, sum, h.returned_within)) outside h.entries;
      })

  after_pop_holds : (s : Story) (h : Holds size s) (found : Option PackedBuffer) → found ≡ first_of h.waiting
      → Holds size (after_pop size found s)
  unfolding Chains
  after_pop_holds s h None e = h
  after_pop_holds s h (Some b) e = go h.waiting h.published h.chains (published_slots s h) e
    where
      seen : entry_slots s.taken + entry_slots h.unseen ≡ entry_slots s.returned
      seen = returned_slots s h

      go : (waiting : List PackedBuffer) → s.published ≡ s.popped ++ waiting
          → Chains size s.ring.cells (slots_of s.popped) waiting
          → slots_of s.popped + slots_of waiting ≡ slots_of s.published → Some b ≡ first_of waiting
          → Holds size (after_pop size (Some b) s)
      go [] all chains sum e = absurd (cc)
      go (x ∷ xs) all (more, is, rest) sum e =
          let one : b ≡ x = cc in
          let total : slots_of (s.popped ++ b ∷ []) ≡ slots_of s.popped + b.slots = added_slots b s.popped in
          let whole : slots_of s.popped + (b.slots + slots_of xs) ≡ slots_of s.published =
          rw one (omega (arith, sum, slots_cons x xs)) in
          let some_slots : 0 < b.slots = rw one more in
          let small : b.slots ≤ size = omega (arith, whole, h.room, seen, h.returned_within) in
          let later : Chains size s.ring.cells (slots_of (s.popped ++ b ∷ [])) xs = rw (total, one) rest in
          record {
            waiting = xs;
            unseen = h.unseen;
            published = rw one (moved_over s.popped x xs s.published all);
            returned = h.returned;
            publishes = h.publishes;
            pops = ap (λ p. moved size p b.slots) h.pops ∙ moved_at size some (slots_of s.popped) b.slots small
                ∙ ap (at size) (sym total);
            returns = h.returns;
            takes = h.takes;
            returned_within = omega (arith, total, h.returned_within);
            room = h.room;
            ready = h.ready;
            free = h.free;
            given = h.given;
            chains = later;
            entries = h.entries;
          }

  after_return_holds : (e : Entry) (s : Story) → Holds size s → May size (Return e) s
      → Holds size (after size (Return e) s)
  after_return_holds e s h (more, fits) =
      let back = entry_slots s.returned in
      let cells = s.ring.cells in
      let x = used_cell (wrap_at size back) e in
      let new = with_cell cells (back % size) x in
      let placed : with_cell cells s.ring.returns.slot (used_cell s.ring.returns.wrap e) ≡ new =
      ap (λ (p : RingPosition). with_cell cells p.slot (used_cell p.wrap e)) h.returns in
      let sum = published_slots s h in
      let seen = returned_slots s h in
      let total : entry_slots (s.returned ++ e ∷ []) ≡ back + e.buffer.slots = added_entry e s.returned in
      let small : e.buffer.slots ≤ size = omega (arith, fits, sum, h.room, seen) in
      let here : new (back % size) ≡ x = same_cell cells (back % size) (back % size) x refl in
      let behind : (j : ℕ) → entry_slots s.taken ≤ j → j < back → new (j % size) ≡ cells (j % size) =
      λ j least most. other_cell cells (back % size) (j % size) x
      (λ same. apart size some j back most (omega (arith, fits, sum, h.room)) (sym same)) in
      let beyond : (j : ℕ) → back < j → j < entry_slots s.taken + size → new (j % size) ≡ cells (j % size) =
      λ j least most. other_cell cells (back % size) (j % size) x
      (λ same. apart size some back j least (omega (arith, seen)) same) in
      rw placed (record {
        waiting = h.waiting;
        unseen = h.unseen ++ e ∷ [];
        published = h.published;
        returned = ap (λ es. es ++ e ∷ []) h.returned ∙ append_assoc s.taken h.unseen (e ∷ []);
        publishes = h.publishes;
        pops = h.pops;
        returns = ap (λ p. moved size p e.buffer.slots) h.returns ∙ moved_at size some back e.buffer.slots small
            ∙ ap (at size) (sym total);
        takes = h.takes;
        returned_within = omega (arith, total, fits);
        room = h.room;
        ready = λ j least most. elim (cases_order j back) [
          | inl same ↦ rw same (ap (λ (c : Cell). c.avail) here)
          | inr (inl front) ↦ ap (λ (c : Cell). c.avail) (behind j least front) ∙ h.ready j least most
          | inr (inr past) ↦ ap (λ (c : Cell). c.avail) (beyond j past (omega (arith, h.room, most)))
              ∙ h.ready j least most
        ];
        free = λ j least most. ap (λ (c : Cell). c.avail) (beyond j (omega (arith, fits, sum, least, more)) most)
            ∙ h.free j least most;
        given = λ j least most. ap (λ (c : Cell). c.used)
            (beyond j (omega (arith, total, least, more)) (omega (arith, h.room, most)))
            ∙ h.given j (omega (arith, total, least)) most;
        chains = chains_stay size cells new (slots_of s.popped) (slots_of s.published) h.waiting (omega (arith, sum))
            (λ j least most. beyond j (omega (arith, fits, more, least)) (omega (arith, h.room, most))) h.chains;
        entries = entries_more size new (entry_slots s.taken) h.unseen e
            (entries_stay size cells new (entry_slots s.taken) back h.unseen (omega (arith, seen)) behind h.entries)
            more
            (ap (λ i. new (i % size)) seen ∙ here ∙ ap (λ i. used_cell (wrap_at size i) e) (sym seen));
      })

  after_take_holds : (s : Story) (h : Holds size s) (found : Option Entry) → found ≡ first_of h.unseen
      → Holds size (after_take size found s)
  unfolding Entries
  after_take_holds s h None is = h
  after_take_holds s h (Some e) is = go h.unseen h.returned h.entries (returned_slots s h) is
    where
      waits : slots_of s.popped + slots_of h.waiting ≡ slots_of s.published
      waits = published_slots s h

      go : (unseen : List Entry) → s.returned ≡ s.taken ++ unseen
          → Entries size s.ring.cells (entry_slots s.taken) unseen
          → entry_slots s.taken + entry_slots unseen ≡ entry_slots s.returned → Some e ≡ first_of unseen
          → Holds size (after_take size (Some e) s)
      go [] all entries sum is = absurd (cc)
      go (x ∷ xs) all (more, there, rest) sum is =
          let one : e ≡ x = cc in
          let t = entry_slots s.taken in
          let total : entry_slots (s.taken ++ e ∷ []) ≡ t + e.buffer.slots = added_entry e s.taken in
          let whole : t + (e.buffer.slots + entry_slots xs) ≡ entry_slots s.returned =
          rw one (omega (arith, sum, entry_cons x xs)) in
          let small : e.buffer.slots ≤ size = omega (arith, whole, h.room, waits, h.returned_within) in
          let later : Entries size s.ring.cells (entry_slots (s.taken ++ e ∷ [])) xs = rw (total, one) rest in
          record {
            waiting = h.waiting;
            unseen = xs;
            published = h.published;
            returned = rw one (moved_over s.taken x xs s.returned all);
            publishes = h.publishes;
            pops = h.pops;
            returns = h.returns;
            takes = ap (λ p. moved size p e.buffer.slots) h.takes ∙ moved_at size some t e.buffer.slots small
                ∙ ap (at size) (sym total);
            returned_within = h.returned_within;
            room = omega (arith, total, h.room);
            ready = λ j least most. h.ready j (omega (arith, total, least)) most;
            free = λ j least most. elim (cases_lt j (t + size)) [
              | inl now ↦ h.free j least now
              | inr past ↦
                  let i = j - size in
                  let back : j ≡ i + size = omega (arith, past) in
                  let old = h.ready i (omega (arith, past))
                  (omega (arith, past, most, total, whole, waits, h.returned_within)) in
                  let slot : j % size ≡ i % size = ap (λ k. k % size) back ∙ add-mod_right i size in
                  let wrap : wrap_at size j ≡ not (wrap_at size i) = ap (wrap_at size) back ∙ round_wrap size some i in
                  ap (λ k. (s.ring.cells k).avail) slot ∙ old ∙ sym (twice (wrap_at size i)) ∙ ap not (sym wrap)
            ];
            given = h.given;
            chains = h.chains;
            entries = later;
          }

  after_holds : (e : Event) (s : Story) → Holds size s → May size e s → Holds size (after size e s)
  after_holds (Publish b) s h may = after_publish_holds b s h may
  after_holds Pop s h may = after_pop_holds s h (chain_to_pop size s.ring) (next_chain s h)
  after_holds (Return e) s h may = after_return_holds e s h may
  after_holds Take s h may = after_take_holds s h (entry_to_take size s.ring) (next_entry s h)

  story_holds : (es : List Event) (s : Story) → Holds size s → AllMay size es s → Holds size (story size es s)
  unfolding story AllMay
  story_holds [] s h may = h
  story_holds (e ∷ es) s h may = story_holds es (after size e s) (after_holds e s h may.0) may.1

  begins : Holds size first
  unfolding Chains Entries
  begins = record {
    waiting = [];
    unseen = [];
    published = refl;
    returned = refl;
    publishes = begin;
    pops = begin;
    returns = begin;
    takes = begin;
    returned_within = omega arith;
    room = omega arith;
    ready = λ j least most. absurd (omega arith);
    free = λ j least most. early j most;
    given = λ j least most. absurd (omega arith);
    chains = tt;
    entries = tt;
  }
    where
      zero_is : 0 * size + 0 ≡ 0
      zero_is = omega arith

      begin : record { slot = 0; wrap = true } ≡ at size 0
      begin = sym (at_of size 0 0 some) ∙ ap (at size) zero_is

      early : (j : ℕ) → j < 0 + size → false ≡ not (wrap_at size j)
      early j most =
          let sum : 0 * size + j ≡ j = omega arith in
          let none : j / size ≡ 0 = ap (λ i. i / size) (sym sum) ∙ div-mul-add 0 size j (omega (arith, most)) in
          rw none refl

pub order_is_kept : (size : ℕ) (es : List Event) → 0 < size → AllMay size es first
    → let s = story size es first in
    (s.popped ≡ take (length s.popped) s.published)
    × (chain_to_pop size s.ring ≡ slice_get s.published (length s.popped))
    × (s.taken ≡ take (length s.taken) s.returned)
    × (entry_to_take size s.ring ≡ slice_get s.returned (length s.taken))
order_is_kept size es some may =
    let s = story size es first in
    let h = story_holds size some es first (begins size some) may in (
      taken_of s.popped h.waiting s.published h.published,
      next_chain size some s h ∙ sym (next_of s.popped h.waiting s.published h.published),
      taken_of s.taken h.unseen s.returned h.returned,
      next_entry size some s h ∙ sym (next_of s.taken h.unseen s.returned h.returned),
    )
