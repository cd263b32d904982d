-- Packed queues and their histories.
use Rattle.std.proofs.Common.{◌≡◌, ◌∙◌, ℕ, ◌+◌, ◌*◌, ◌%◌, ◌/◌, ◌^◌, ◌<◌, ◌≤◌, ◌==◌, nat_lt, Bool, true, false, if◌then◌else◌, List, Option, Some, None, Result, Ok, Err, IsTrue, ap, refl, subst, sym, arith}
use Rattle.std.proofs.lemmas.Bool.{ne_eqb}
use Rattle.vm_memory_device.specs.Chain.{chain_fault}
use Rattle.vm_memory_device.specs.declared.chain.Segment.{Segment}
use Rattle.vm_memory_guest.specs.Host.{Host}
use Rattle.vm_memory_guest.specs.Memory.{Memory}
use Rattle.virtio_queue.specs.Available.{if_chain}
use Rattle.virtio_queue.specs.Packed.{PackedVirtqueue, are_positions, at_base, base_of, moved, of_bits, set_if, to_bits, with_positions}
use Rattle.virtio_queue.specs.PackedHistory.{Cell, Entry, Pop, Return, Ring, Story, after, after_pop, chain_to_pop, is_available_cell, used_cell, with_cell}
use Rattle.virtio_queue.specs.PackedLaws.{Marks}
use Rattle.virtio_queue.specs.PackedRing as ring
use Rattle.virtio_queue.specs.PackedRing.{Listed, buffer_of, chain_of, if_next, is_available, next_chain, next_flags, next_listed, popped, segments_of}
use Rattle.virtio_queue.specs.PackedUsed.{after_used, used_flags}
use Rattle.virtio_queue.specs.Rings.{and_then}
use Rattle.virtio_queue.specs.declared.error.QueueError.{QueueError}
use Rattle.virtio_queue.specs.declared.error.QueueError.TheVariants.{InvalidAvailRingIndex}
use Rattle.virtio_queue.specs.declared.packed.position.RingPosition.{RingPosition}
use Rattle.virtio_queue.specs.declared.packed.state.PackedBuffer.{PackedBuffer}
use Rattle.virtio_queue.specs.declared.packed.state.PackedState.{PackedState}
use Rattle.virtio_queue.proofs.PackedLawLemmas.{bits_come_back, has_false, has_true, twice_not}

-- ---- bases

bits_small : (p : RingPosition) → to_bits p < 2 ^ 16
bits_small p = go p.wrap p.slot
  where
    go : (w : Bool) (slot : ℕ) → to_bits (record { slot = slot; wrap = w }) < 2 ^ 16
    go true slot = omega arith
    go false slot = omega arith

slots_inside : (size : ℕ) (avail used : RingPosition) → IsTrue (are_positions size avail used)
    → (avail.slot < size) × (used.slot < size)
slots_inside size avail used h = grind arith

pub base_comes_back : (p q : PackedVirtqueue) → p.state.size ≡ q.state.size → q.state.size ≤ 2 ^ 15
    → IsTrue (are_positions q.state.size q.state.next_avail q.state.next_used)
    → at_base p (base_of q.state) ≡ (Ok tt, with_positions p q.state.next_avail q.state.next_used)
base_comes_back p q size fits h =
    let a = to_bits q.state.next_avail in
    let u = to_bits q.state.next_used in
    let (in_avail, in_used) = slots_inside q.state.size q.state.next_avail q.state.next_used h in
    let small = bits_small q.state.next_avail in
    let low : (a + 2 ^ 16 * u) % 2 ^ 16 ≡ a = omega (arith, small) in
    let high : (a + 2 ^ 16 * u) / 2 ^ 16 ≡ u = omega (arith, small) in
    let first : of_bits ((a + 2 ^ 16 * u) % 2 ^ 16) ≡ q.state.next_avail =
    ap of_bits low ∙ bits_come_back q.state.next_avail (omega (arith, in_avail, fits)) in
    let second : of_bits ((a + 2 ^ 16 * u) / 2 ^ 16) ≡ q.state.next_used =
    ap of_bits high ∙ bits_come_back q.state.next_used (omega (arith, in_used, fits)) in
    set_at (of_bits ((a + 2 ^ 16 * u) % 2 ^ 16)) (of_bits ((a + 2 ^ 16 * u) / 2 ^ 16)) first second
  where
    stands : (b : Bool) → IsTrue b → (other : PackedVirtqueue)
        → set_if b InvalidAvailRingIndex p other ≡ (Ok tt, other)
    stands true h other = refl
    stands false h other = absurd (cc)

    set_at : (avail used : RingPosition) → avail ≡ q.state.next_avail → used ≡ q.state.next_used
        → set_if (are_positions p.state.size avail used) InvalidAvailRingIndex p (with_positions p avail used)
        ≡ (Ok tt, with_positions p q.state.next_avail q.state.next_used)
    set_at avail used one two =
        let a = q.state.next_avail in
        let u = q.state.next_used in
        ap (λ (x : RingPosition). set_if (are_positions p.state.size x used) InvalidAvailRingIndex p (with_positions p x used))
        one
        ∙ (ap (λ (y : RingPosition). set_if (are_positions p.state.size a y) InvalidAvailRingIndex p (with_positions p a y))
        two
        ∙ (ap (λ (n : ℕ). set_if (are_positions n a u) InvalidAvailRingIndex p (with_positions p a u)) size
        ∙ stands (are_positions q.state.size a u) h (with_positions p a u)))

-- ---- pops

-- flags say whether a slot is available
available_alike : (flags : ℕ) (c : Cell) (wrap : Bool) → Marks flags c
    → is_available flags wrap ≡ is_available_cell c wrap
available_alike flags c true marks = rw (has_true c.avail, has_true c.used, marks.0, marks.1) refl
available_alike flags c false marks =
    rw (has_false c.avail, has_false c.used, twice_not c.used, marks.0, marks.1) refl

module _ (r : Ring) where
  found_none : (b : Bool) (x : PackedBuffer) → (if b then Some x else None) ≡ None → b ≡ false
  found_none true x is = absurd (cc)
  found_none false x is = refl

  found_some : (b : Bool) (x y : PackedBuffer) → (if b then Some x else None) ≡ Some y → b ≡ true
  found_some true x y is = refl
  found_some false x y is = absurd (cc)

module _ {B : Type 0} (m : Memory) (host : Host B) (q : PackedState) (r : Ring) (flags : ℕ) (at : q.next_avail ≡ r.pops)
    (found : next_flags m host q ≡ Ok flags) (marks : Marks flags (r.cells r.pops.slot)) where
  popped_if : (b : Bool) → is_available_cell (r.cells r.pops.slot) r.pops.wrap ≡ b → popped m host q ≡ if_next m host q b
  popped_if b is =
      let says : is_available flags q.next_avail.wrap ≡ b =
      ap (λ (p : RingPosition). is_available flags p.wrap) at
      ∙ (available_alike flags (r.cells r.pops.slot) r.pops.wrap marks ∙ is) in
      ap (λ (x : Result ℕ QueueError). and_then (and_then x (λ f. Ok (is_available f q.next_avail.wrap)))
      (if_next m host q)) found ∙ ap (if_next m host q) says

  pub pops_none : chain_to_pop q.size r ≡ None → popped m host q ≡ Ok None
  pops_none is = let c = r.cells r.pops.slot in
      popped_if false (found_none r (is_available_cell c r.pops.wrap) c.entry.buffer is)

  pub pops_some : (buffer : PackedBuffer) → chain_to_pop q.size r ≡ Some buffer
      → popped m host q ≡ and_then (next_chain m host q) (λ p. Ok (Some p))
  pops_some buffer is = let c = r.cells r.pops.slot in
      popped_if true (found_some r (is_available_cell c r.pops.wrap) c.entry.buffer buffer is)

pub chain_listed : {B : Type 0} (m : Memory) (host : Host B) (q : PackedState) (l : Listed) (buffer : PackedBuffer)
    (segments : List Segment) → next_listed m host q ≡ Ok l → next_chain m host q ≡ Ok (buffer, segments)
    → buffer ≡ buffer_of l
chain_listed m host q l buffer segments listed is =
    go (segments_of m host l) (sym (ap (λ (r : Result Listed QueueError). and_then r (chain_of m host)) listed) ∙ is)
  where
    named : (r : Result (List Segment) QueueError)
        → ◌≡◌ {A = Result (PackedBuffer × List Segment) QueueError} (and_then r (λ ss. Ok (buffer_of l, ss)))
        (Ok (buffer, segments)) → buffer ≡ buffer_of l
    named (Ok ss) is = let same : ◌≡◌ {A = PackedBuffer × List Segment} (buffer_of l, ss) (buffer, segments) = cc in
        sym (ap (λ (p : PackedBuffer × List Segment). p.0) same)
    named (Err e) is = absurd (cc)

    go : (r : Result (List Segment) QueueError)
        → ◌≡◌ {A = Result (PackedBuffer × List Segment) QueueError} (and_then r (λ ss.
        and_then (if_chain ss (chain_fault ss)) (λ ss. Ok (buffer_of l, ss)))) (Ok (buffer, segments))
        → buffer ≡ buffer_of l
    go (Ok ss) is = named (if_chain ss (chain_fault ss)) is
    go (Err e) is = absurd (cc)

pub moves_alike : (q : PackedState) (s : Story) (buffer : PackedBuffer) (segments : List Segment)
    → q.next_avail ≡ s.ring.pops → chain_to_pop q.size s.ring ≡ Some buffer
    → (ring.after_pop q (Ok (Some (buffer, segments)))).next_avail ≡ (after q.size Pop s).ring.pops
moves_alike q s buffer segments at is =
    ap (λ p. moved q.size p buffer.slots) at
    ∙ ap (λ (o : Option PackedBuffer). (after_pop q.size o s).ring.pops) (sym is)

-- ---- returns

flags_marked : (wrap : Bool) (entry : Entry) → Marks (used_flags wrap entry.len) (used_cell wrap entry)
flags_marked wrap entry = go wrap (nat_lt 0 entry.len) refl
  where
    go : (w b : Bool) → nat_lt 0 entry.len ≡ b → Marks (used_flags w entry.len) (used_cell w entry)
    go true true is = rw is (refl, refl)
    go true false is = rw is (refl, refl)
    go false true is = rw is (refl, refl)
    go false false is = rw is (refl, refl)

cell_there : (cells : ℕ → Cell) (i : ℕ) (x : Cell) → with_cell cells i x i ≡ x
cell_there cells i x = let same : (i == i) ≡ true = grind arith in rw same refl

cell_elsewhere : (cells : ℕ → Cell) (i j : ℕ) (x : Cell) → (j ≡ i → ⊥) → with_cell cells i x j ≡ cells j
cell_elsewhere cells i j x differ = rw (ne_eqb j i differ) refl

pub returns_alike : (q : PackedVirtqueue) (s : Story) (entry : Entry) → s.ring.returns ≡ q.state.next_used
    → (let t = after q.state.size (Return entry) s in let i = q.state.next_used.slot in
    (t.ring.returns ≡ (after_used q entry.buffer (Ok tt)).state.next_used)
    × (t.ring.cells i ≡ used_cell q.state.next_used.wrap entry)
    × Marks (used_flags q.state.next_used.wrap entry.len) (t.ring.cells i)
    × ((j : ℕ) → (j ≡ i → ⊥) → t.ring.cells j ≡ s.ring.cells j))
returns_alike q s entry is = go s.ring.returns is
  where
    go : (p : RingPosition) → p ≡ q.state.next_used
        → (moved q.state.size p entry.buffer.slots ≡ moved q.state.size q.state.next_used entry.buffer.slots)
        × (with_cell s.ring.cells p.slot (used_cell p.wrap entry) q.state.next_used.slot
        ≡ used_cell q.state.next_used.wrap entry)
        × Marks (used_flags q.state.next_used.wrap entry.len)
        (with_cell s.ring.cells p.slot (used_cell p.wrap entry) q.state.next_used.slot)
        × ((j : ℕ) → (j ≡ q.state.next_used.slot → ⊥)
        → with_cell s.ring.cells p.slot (used_cell p.wrap entry) j ≡ s.ring.cells j)
    go p same =
        let u = q.state.next_used in
        let there : with_cell s.ring.cells p.slot (used_cell p.wrap entry) u.slot ≡ used_cell u.wrap entry =
        ap (λ (x : RingPosition). with_cell s.ring.cells x.slot (used_cell x.wrap entry) u.slot) same
        ∙ cell_there s.ring.cells u.slot (used_cell u.wrap entry) in (
          ap (λ x. moved q.state.size x entry.buffer.slots) same,
          there,
          subst (Marks (used_flags u.wrap entry.len)) (sym there) (flags_marked u.wrap entry),
          (λ j differ. ap (λ (x : RingPosition). with_cell s.ring.cells x.slot (used_cell x.wrap entry) j) same
              ∙ cell_elsewhere s.ring.cells u.slot j (used_cell u.wrap entry) differ),
        )
