-- Chains slot by slot, flags and positions.
use Rattle.std.proofs.Common.{◌≡◌, ◌∙◌, ℕ, zero, suc, ◌+◌, ◌%◌, ◌<◌, ◌≤◌, nat_le, nat_lt, Bool, true, false, not, if◌then◌else◌, List, [], ◌∷◌, length, Result, Ok, Err, ap, refl, sym, subst, arith}
use Rattle.std.proofs.lemmas.Bool.Decides.{nat_tests}
use Rattle.virtio_queue.specs.Packed.{moved, of_bits, slot_after, to_bits}
use Rattle.virtio_queue.specs.PackedEvents.{is_passed}
use Rattle.virtio_queue.specs.PackedHistory.{has}
use Rattle.virtio_queue.specs.PackedLaws.{AreInSlots}
use Rattle.virtio_queue.specs.PackedRing.{Listed, is_last, listed, prefixed}
use Rattle.virtio_queue.specs.Rings.{and_then}
use Rattle.virtio_queue.specs.declared.error.QueueError.{QueueError}
use Rattle.virtio_queue.specs.declared.packed.descriptor.PackedDescriptor.{PackedDescriptor}
use Rattle.virtio_queue.specs.declared.packed.position.RingPosition.{RingPosition}

module _ (descriptor : ℕ → Result PackedDescriptor QueueError) (size : ℕ) where
  -- what a list gives lies in slots
  abbrev Lies : ℕ → ℕ → Listed → Type 0
  Lies most i l = (j : ℕ) × AreInSlots descriptor size i l.front j × (descriptor j ≡ Ok l.last)
      × (is_last l.last ≡ true) × (length l.front < most)

  abbrev step : ℕ → ℕ → PackedDescriptor → Bool → Result Listed QueueError
  step most i d b = if b then Ok (record { front = []; last = d })
      else prefixed (d ∷ []) (listed descriptor size most (slot_after size i))

  turn : (most i : ℕ) (r : Result PackedDescriptor QueueError) → descriptor i ≡ r
      → listed descriptor size (suc most) i ≡ and_then r (λ d. step most i d (is_last d))
  unfolding listed
  turn most i r e = rw e refl

  -- a chain that ends at its first descriptor, or goes on after it
  module _ (most i : ℕ) (l : Listed) (h : listed descriptor size (suc most) i ≡ Ok l)
      (later : (k : Listed) → listed descriptor size most (slot_after size i) ≡ Ok k
      → Lies most (slot_after size i) k) where
    behind : (d : PackedDescriptor) → descriptor i ≡ Ok d → is_last d ≡ false
        → (r : Result Listed QueueError) → listed descriptor size most (slot_after size i) ≡ r
        → prefixed (d ∷ []) r ≡ Ok l → Lies (suc most) i l
    unfolding AreInSlots
    behind d e last (Err x) is whole = absurd (cc)
    behind d e last (Ok k) is whole =
        let (j, slots, there, ends, few) = later k is in
        let same : ◌≡◌ {A = Listed} (record { front = d ∷ k.front; last = k.last }) l = cc in
        subst (Lies (suc most) i) same (j, (e, last, slots), there, ends, omega (arith, few))

    ended : (d : PackedDescriptor) → descriptor i ≡ Ok d → (b : Bool) → is_last d ≡ b
        → step most i d b ≡ Ok l → Lies (suc most) i l
    unfolding AreInSlots
    ended d e true last whole =
        let same : ◌≡◌ {A = Listed} (record { front = []; last = d }) l = cc in
        subst (Lies (suc most) i) same (i, refl, e, last, omega arith)
    ended d e false last whole = behind d e last (listed descriptor size most (slot_after size i)) refl whole

    met : (r : Result PackedDescriptor QueueError) → descriptor i ≡ r → Lies (suc most) i l
    met (Err x) e =
        let no : ◌≡◌ {A = Result Listed QueueError} (Err x) (Ok l) = sym (turn most i (Err x) e) ∙ h in absurd (cc)
    met (Ok d) e = ended d e (is_last d) refl (sym (turn most i (Ok d) e) ∙ h)

  pub listed_lies : (most i : ℕ) (l : Listed) → listed descriptor size most i ≡ Ok l → Lies most i l
  unfolding listed
  listed_lies zero i l h = absurd (cc)
  listed_lies (suc most) i l h =
      met most i l h (λ k is. listed_lies most (slot_after size i) k is) (descriptor i) refl

  pub lies_listed : (most i j : ℕ) (front : List PackedDescriptor) (last : PackedDescriptor)
      → AreInSlots descriptor size i front j → descriptor j ≡ Ok last → is_last last ≡ true → length front < most
      → listed descriptor size most i ≡ Ok (record { front = front; last = last })
  unfolding AreInSlots
  lies_listed zero i j front last slots there ends few = absurd (omega arith)
  lies_listed (suc most) i j [] last slots there ends few =
      turn most i (Ok last) (ap descriptor slots ∙ there) ∙ ap (step most i last) ends
  lies_listed (suc most) i j (d ∷ ds) last (e, goes, slots) there ends few =
      turn most i (Ok d) e ∙ ap (step most i d) goes
      ∙ ap (prefixed (d ∷ [])) (lies_listed most (slot_after size i) j ds last slots there ends (omega arith))

pub bits_come_back : (p : RingPosition) → p.slot < 32768 → of_bits (to_bits p) ≡ p
bits_come_back p small = go p.wrap p.slot small
  where
    go : (w : Bool) (slot : ℕ) → slot < 32768
        → of_bits (to_bits (record { slot = slot; wrap = w })) ≡ record { slot = slot; wrap = w }
    go true slot h =
        let s : (slot % 32768 + 32768) % 32768 ≡ slot = omega arith in
        let n : nat_le 32768 (slot % 32768 + 32768) ≡ true = grind (arith, nat_tests) in
        rw (s, n) refl
    go false slot h =
        let s : (slot % 32768 + 0) % 32768 ≡ slot = omega arith in
        let n : nat_le 32768 (slot % 32768 + 0) ≡ false = grind (arith, nat_tests) in
        rw (s, n) refl

-- a position is one of the slots from it on
pub waiting_is_passed : (size n count : ℕ) (p : RingPosition) → p.slot < size → 0 < n → n ≤ size → n ≤ count
    → is_passed size count (moved size p n) p ≡ true
waiting_is_passed size n count p inside some most among = go p.wrap p.slot (nat_lt (p.slot + n) size) refl inside
  where
    go : (w : Bool) (slot : ℕ) (b : Bool) → nat_lt (slot + n) size ≡ b → slot < size
        → is_passed size count (moved size (record { slot = slot; wrap = w }) n) (record { slot = slot; wrap = w }) ≡ true
    go true slot true e h = rw e (grind (arith, nat_tests))
    go true slot false e h = rw e (grind (arith, nat_tests))
    go false slot true e h = rw e (grind (arith, nat_tests))
    go false slot false e h = rw e (grind (arith, nat_tests))

-- ---- flags

pub has_true : (b : Bool) → has b true ≡ b
has_true true = refl
has_true false = refl

pub has_false : (b : Bool) → has b false ≡ not b
has_false true = refl
has_false false = refl

pub twice_not : (b : Bool) → not (not b) ≡ b
twice_not true = refl
twice_not false = refl
