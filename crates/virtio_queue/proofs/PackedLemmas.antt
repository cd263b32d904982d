-- Positions of a packed ring: a device that pops what is free, or returns what is out, stands at positions again.
use Rattle.std.proofs.Common.{◌≡◌, ◌∙◌, ℕ, ◌+◌, ◌-◌, ◌<◌, ◌≤◌, nat_lt, nat_le, Bool, true, false, not, ◌&&◌, if◌then◌else◌, IsTrue, ap, refl, arith}
use Rattle.std.proofs.lemmas.Bool.{and_parts, and_from, lt-ltb}
use Rattle.std.proofs.lemmas.Bool.Decides.{nat_tests}
use borrow.Author.Tests.{ltb-true}
use Rattle.virtio_queue.specs.Packed.{are_positions, is_same, moved, slots_out}
use Rattle.virtio_queue.specs.declared.packed.position.RingPosition.{RingPosition}

-- which of two slots is not in front of the other, if the wrap counters are the same or not
abbrev in_order : Bool → ℕ → ℕ → Bool
in_order same a u = if same then nat_le u a else nat_le a u

abbrev gap : ℕ → Bool → ℕ → ℕ → ℕ
gap size same a u = if same then a - u else size + a - u

-- the parts of what positions have to be
pub record Stand (size : ℕ) (avail used : RingPosition) : Type 0 where
  pub avail_in : avail.slot < size
  pub used_in : used.slot < size
  pub ordered : in_order (is_same avail.wrap used.wrap) avail.slot used.slot ≡ true

pub stand : (size : ℕ) (avail used : RingPosition) → IsTrue (are_positions size avail used) → Stand size avail used
stand size avail used is =
    let (front, order) = and_parts (nat_lt avail.slot size && nat_lt used.slot size)
    (in_order (is_same avail.wrap used.wrap) avail.slot used.slot) is in
    let (a, u) = and_parts (nat_lt avail.slot size) (nat_lt used.slot size) front in
    record { avail_in = ltb-true avail.slot size a; used_in = ltb-true used.slot size u; ordered = order }

stands : (size : ℕ) (avail used : RingPosition) → Stand size avail used → IsTrue (are_positions size avail used)
stands size avail used h =
    and_from (nat_lt avail.slot size && nat_lt used.slot size)
    (in_order (is_same avail.wrap used.wrap) avail.slot used.slot)
    (and_from (nat_lt avail.slot size) (nat_lt used.slot size) (lt-ltb avail.slot size h.avail_in)
    (lt-ltb used.slot size h.used_in)) h.ordered

first_flips : (w v : Bool) → is_same (not w) v ≡ not (is_same w v)
first_flips true true = refl
first_flips true false = refl
first_flips false true = refl
first_flips false false = refl

second_flips : (w v : Bool) → is_same w (not v) ≡ not (is_same w v)
second_flips true v = refl
second_flips false true = refl
second_flips false false = refl

avail_step : (size a u n : ℕ) (same b : Bool) → nat_lt (a + n) size ≡ b → a < size → u < size
    → in_order same a u ≡ true → n ≤ size - gap size same a u
    → ((if b then a + n else a + n - size) < size)
    × (in_order (if b then same else not same) (if b then a + n else a + n - size) u ≡ true)
avail_step size a u n true true e below within ordered room = (grind (arith, nat_tests), grind (arith, nat_tests))
avail_step size a u n true false e below within ordered room = (grind (arith, nat_tests), grind (arith, nat_tests))
avail_step size a u n false true e below within ordered room = (grind (arith, nat_tests), grind (arith, nat_tests))
avail_step size a u n false false e below within ordered room = (grind (arith, nat_tests), grind (arith, nat_tests))

used_step : (size a u n : ℕ) (same b : Bool) → nat_lt (u + n) size ≡ b → a < size → u < size
    → in_order same a u ≡ true → n ≤ gap size same a u
    → ((if b then u + n else u + n - size) < size)
    × (in_order (if b then same else not same) a (if b then u + n else u + n - size) ≡ true)
used_step size a u n true true e below within ordered room = (grind (arith, nat_tests), grind (arith, nat_tests))
used_step size a u n true false e below within ordered room = (grind (arith, nat_tests), grind (arith, nat_tests))
used_step size a u n false true e below within ordered room = (grind (arith, nat_tests), grind (arith, nat_tests))
used_step size a u n false false e below within ordered room = (grind (arith, nat_tests), grind (arith, nat_tests))

module _ (size : ℕ) (avail used : RingPosition) (n : ℕ) (is : IsTrue (are_positions size avail used)) where
  pub popping_stands : n ≤ size - slots_out size avail used → IsTrue (are_positions size (moved size avail n) used)
  popping_stands room = stands size (moved size avail n) used (go (nat_lt (avail.slot + n) size) refl)
    where
      h : Stand size avail used
      h = stand size avail used is

      go : (b : Bool) → nat_lt (avail.slot + n) size ≡ b → Stand size
          (if b then record { slot = avail.slot + n; wrap = avail.wrap }
          else record { slot = avail.slot + n - size; wrap = not avail.wrap }) used
      go true e =
          let s = avail_step size avail.slot used.slot n (is_same avail.wrap used.wrap) true e h.avail_in h.used_in
          h.ordered room in
          record { avail_in = s.0; used_in = h.used_in; ordered = s.1 }
      go false e =
          let s = avail_step size avail.slot used.slot n (is_same avail.wrap used.wrap) false e h.avail_in h.used_in
          h.ordered room in
          record {
            avail_in = s.0;
            used_in = h.used_in;
            ordered = ap (λ b. in_order b (avail.slot + n - size) used.slot) (first_flips avail.wrap used.wrap) ∙ s.1;
          }

  pub returning_stands : n ≤ slots_out size avail used → IsTrue (are_positions size avail (moved size used n))
  returning_stands room = stands size avail (moved size used n) (go (nat_lt (used.slot + n) size) refl)
    where
      h : Stand size avail used
      h = stand size avail used is

      go : (b : Bool) → nat_lt (used.slot + n) size ≡ b → Stand size avail
          (if b then record { slot = used.slot + n; wrap = used.wrap }
          else record { slot = used.slot + n - size; wrap = not used.wrap })
      go true e =
          let s = used_step size avail.slot used.slot n (is_same avail.wrap used.wrap) true e h.avail_in h.used_in
          h.ordered room in
          record { avail_in = h.avail_in; used_in = s.0; ordered = s.1 }
      go false e =
          let s = used_step size avail.slot used.slot n (is_same avail.wrap used.wrap) false e h.avail_in h.used_in
          h.ordered room in
          record {
            avail_in = h.avail_in;
            used_in = s.0;
            ordered = ap (λ b. in_order b avail.slot (used.slot + n - size)) (second_flips avail.wrap used.wrap) ∙ s.1;
          }
