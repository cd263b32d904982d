-- Histories of a queue: heads and entries keep their order.
use Rattle.std.proofs.Common.{◌≡◌, ◌∙◌, ℕ, zero, suc, ◌+◌, ◌*◌, ◌/◌, ◌%◌, ◌^◌, ◌<◌, ◌≤◌, ◌==◌, nat_lt, if◌then◌else◌, List, [], ◌∷◌, ◌++◌, length, take, Option, Some, None, Ok, Err, IsTrue, ap, refl, sym, arith, inl, inr, length-append}
use Rattle.std.specs.List.{slice_get}
use Rattle.std.proofs.Math.Nat.{mod-eq_of_lt, mod-mod_of_dvd, mod-add-div, mul-suc, zero-mod}
use Rattle.std.proofs.lemmas.Nat.{mul-le, mul-mod_second}
use Rattle.std.proofs.lemmas.Nat.Gcd.{dvd_of_mod-eq-zero}
use Rattle.std.proofs.lemmas.Bool.{and_parts, cases_eq, cases_lt, eqb-true}
use borrow.Author.Tests.{ltb-true}
use Rattle.std.proofs.lemmas.Bool.Decides.{nat_tests}
use Rattle.std.proofs.lemmas.Option.{slice_get_past, slice_get_within}
use Rattle.virtio_queue.specs.History.{Entry, Story, Event, Publish, Pop, Return, Take, with_slot, head_to_pop, entry_to_take, after, after_pop, after_take, May, AllMay, story, beginning, empty_rings}
use Rattle.virtio_queue.specs.Rings.{ahead, index_after, next_in, slot}
use Rattle.virtio_queue.specs.State.{is_size}
use Rattle.virtio_queue.specs.declared.error.QueueError.TheVariants.{InvalidAvailRingIndex}

-- the slot of an index is that of the number that it counts, since the size divides 2^16
slot_of_count : (size n : ℕ) → 65536 % size ≡ 0 → slot size (n % 2 ^ 16) ≡ slot size n
slot_of_count size n divides = mod-mod_of_dvd size n (dvd_of_mod-eq-zero size divides)

-- numbers less than the size apart have different slots
quotients : (size p q r i j : ℕ) → r + size * p ≡ i → r + size * q ≡ j → i < j → j < i + size → ⊥
quotients size p q r i j is_i is_j below near = elim (cases_lt p q) [
  | inl less ↦ let more = mul-le size (suc p) size q (omega arith) (omega arith) in omega (arith, more, mul-suc size p)
  | inr least ↦ let more = mul-le size q size p (omega arith) least in omega (arith, more)
]

apart : (size i j : ℕ) → i < j → j < i + size → slot size j ≡ slot size i → ⊥
apart size i j below near same =
    quotients size (i / size) (j / size) (i % size) i j (mod-add-div i size)
    (ap (λ r. r + size * (j / size)) (sym same) ∙ mod-add-div j size) below near

-- ---- slots

module _ {X : Type 0} where
  same_slot : (slots : ℕ → X) (i j : ℕ) (x : X) → j ≡ i → with_slot slots i x j ≡ x
  same_slot slots i j x e = grind (arith, nat_tests)

  other_slot : (slots : ℕ → X) (i j : ℕ) (x : X) → (j ≡ i → ⊥) → with_slot slots i x j ≡ slots j
  other_slot slots i j x e = grind (arith, nat_tests)

  get_at_end : (xs : List X) (x : X) → slice_get (xs ++ x ∷ []) (length xs) ≡ Some x
  get_at_end [] x = refl
  get_at_end (y ∷ xs) x = get_at_end xs x

  get_before : (xs : List X) (x : X) (i : ℕ) → i < length xs → slice_get (xs ++ x ∷ []) i ≡ slice_get xs i
  get_before [] x i h = absurd (omega arith)
  get_before (y ∷ xs) x zero h = refl
  get_before (y ∷ xs) x (suc i) h = get_before xs x i (omega arith)

  take_next : (xs : List X) (n : ℕ) (x : X) → slice_get xs n ≡ Some x → take n xs ++ x ∷ [] ≡ take (suc n) xs
  take_next [] n x h = absurd (cc)
  take_next (y ∷ xs) zero x h = let same : y ≡ x = cc in ap (λ z. z ∷ []) (sym same)
  take_next (y ∷ xs) (suc n) x h = ap (λ zs. y ∷ zs) (take_next xs n x h)

  take_front : (xs : List X) (n : ℕ) (x : X) → n ≤ length xs → take n xs ≡ take n (xs ++ x ∷ [])
  take_front xs zero x h = refl
  take_front [] (suc n) x h = absurd (omega arith)
  take_front (y ∷ xs) (suc n) x h = ap (λ zs. y ∷ zs) (take_front xs n x (omega arith))

  length_more : (xs : List X) (x : X) → length (xs ++ x ∷ []) ≡ suc (length xs)
  length_more xs x = omega (arith, length-append xs (x ∷ []))

  -- those that were taken are the first of those that were put, and stay so
  taken_more : (xs ys : List X) (x : X) → ys ≡ take (length ys) xs → slice_get xs (length ys) ≡ Some x
      → ys ++ x ∷ [] ≡ take (length (ys ++ x ∷ [])) xs
  taken_more xs ys x e h = ap (λ zs. zs ++ x ∷ []) e ∙ take_next xs (length ys) x h
      ∙ ap (λ n. take n xs) (sym (length_more ys x))

  taken_still : (xs ys : List X) (x : X) → length ys ≤ length xs → ys ≡ take (length ys) xs
      → ys ≡ take (length ys) (xs ++ x ∷ [])
  taken_still xs ys x h e = e ∙ take_front xs (length ys) x h

  -- the slots of what was put and not yet taken hold it
  abbrev pub Keeps : ℕ → ℕ → (ℕ → X) → List X → ℕ → Type 0
  Keeps size start slots put gone =
      (j : ℕ) → gone ≤ j → j < length put → slice_get put j ≡ Some (slots (slot size (start + j)))

  put_one : (size start gone index : ℕ) (slots : ℕ → X) (put : List X) (x : X) → 65536 % size ≡ 0
      → index ≡ (start + length put) % 65536 → length put < gone + size → Keeps size start slots put gone
      → Keeps size start (with_slot slots (slot size index) x) (put ++ x ∷ []) gone
  put_one size start gone index slots put x divides is room keeps j least most =
      let place : slot size index ≡ slot size (start + length put) =
      ap (slot size) is ∙ slot_of_count size (start + length put) divides in
      elim (cases_lt j (length put)) [
        | inl before ↦
            let there = keeps j least before in
            let differs : slot size (start + j) ≡ slot size index → ⊥ =
            λ e. apart size (start + j) (start + length put) (omega arith) (omega arith) (sym (e ∙ place)) in
            get_before put x j before ∙ there
            ∙ ap Some (sym (other_slot slots (slot size index) (slot size (start + j)) x differs))
        | inr behind ↦
            let last : j ≡ length put = omega (arith, length_more put x) in
            let same : slot size (start + j) ≡ slot size index = ap (λ n. slot size (start + n)) last ∙ sym place in
            ap (slice_get (put ++ x ∷ [])) last ∙ get_at_end put x
            ∙ ap Some (sym (same_slot slots (slot size index) (slot size (start + j)) x same))
      ]

-- ---- what is taken next

next_none : (size index next : ℕ) (f : ℕ → ℕ) → ahead index next ≡ 0 → next_in size index next (λ i. Ok (f i)) ≡ Ok None
next_none size index next f none = rw none refl

next_some : (size index next : ℕ) (f : ℕ → ℕ) → 0 < ahead index next → ahead index next ≤ size
    → next_in size index next (λ i. Ok (f i)) ≡ Ok (Some (f (slot size next)))
next_some size index next f some within = go (ahead index next) some within
  where
    go : (n : ℕ) → 0 < n → n ≤ size
        → (if n == 0 then Ok None
        else if nat_lt size n then Err InvalidAvailRingIndex
        else Ok (Some (f (slot size next))))
        ≡ Ok (Some (f (slot size next)))
    go n h k = grind (arith, nat_tests)

ahead_is : (start put gone : ℕ) → gone ≤ put → put ≤ gone + 32768
    → ahead ((start + put) % 65536) ((start + gone) % 65536) + gone ≡ put
ahead_is start put gone h k = omega arith

-- ---- what holds after all events

-- the indices count what was put and taken, and the slots hold what is between
record Holds (size avail used : ℕ) (s : Story) : Type 0 where
  pub avail_idx : s.rings.avail_idx ≡ (avail + length s.published) % 65536
  pub next_avail : s.rings.next_avail ≡ (avail + length s.popped) % 65536
  pub used_idx : s.rings.used_idx ≡ (used + length s.returned) % 65536
  pub next_used : s.rings.next_used ≡ (used + length s.taken) % 65536
  pub popped_within : length s.popped ≤ length s.published
  pub returned_within : length s.returned ≤ length s.popped
  pub taken_within : length s.taken ≤ length s.returned
  pub room : length s.published ≤ length s.taken + size
  pub heads : Keeps size avail s.rings.avail s.published (length s.popped)
  pub entries : Keeps size used s.rings.used s.returned (length s.taken)
  pub popped : s.popped ≡ take (length s.popped) s.published
  pub taken : s.taken ≡ take (length s.taken) s.returned

module _ (size avail used : ℕ) (some : 0 < size) (fits : size ≤ 32768) (divides : 65536 % size ≡ 0) where
  next_head : (s : Story) → Holds size avail used s
      → head_to_pop size s.rings ≡ Ok (slice_get s.published (length s.popped))
  next_head s h =
      let put = length s.published in
      let gone = length s.popped in
      let n = ahead s.rings.avail_idx s.rings.next_avail in
      let away : n + gone ≡ put =
      rw (h.avail_idx, h.next_avail) (ahead_is avail put gone h.popped_within
      (omega (arith, h.room, h.taken_within, h.returned_within))) in
      elim (cases_lt gone put) [
        | inl more ↦
            let place : slot size s.rings.next_avail ≡ slot size (avail + gone) =
            ap (slot size) h.next_avail ∙ slot_of_count size (avail + gone) divides in
            next_some size s.rings.avail_idx s.rings.next_avail s.rings.avail (omega arith)
            (omega (arith, h.room, h.taken_within, h.returned_within))
            ∙ ap (λ i. Ok (Some (s.rings.avail i))) place
            ∙ ap Ok (sym (h.heads gone (omega arith) more))
        | inr all ↦
            next_none size s.rings.avail_idx s.rings.next_avail s.rings.avail (omega (arith, h.popped_within))
            ∙ ap Ok (sym (slice_get_past s.published gone all))
      ]

  same_count : (put gone : ℕ) → gone ≤ put → put ≤ gone + 32768
      → (used + put) % 65536 ≡ (used + gone) % 65536 → put ≡ gone
  same_count put gone h k e = omega arith

  next_entry : (s : Story) → Holds size avail used s
      → entry_to_take size s.rings ≡ slice_get s.returned (length s.taken)
  next_entry s h =
      let put = length s.returned in
      let gone = length s.taken in
      let near : put ≤ gone + 32768 = omega (arith, h.room, h.popped_within, h.returned_within) in
      elim (cases_eq put gone) [
        | inl all ↦
            let same : s.rings.used_idx ≡ s.rings.next_used =
            h.used_idx ∙ ap (λ n. (used + n) % 65536) all ∙ sym h.next_used in
            none_there s same ∙ sym (slice_get_past s.returned gone (omega arith))
        | inr more ↦
            let differs : s.rings.used_idx ≡ s.rings.next_used → ⊥ =
            λ e. more (same_count put gone h.taken_within near (sym h.used_idx ∙ e ∙ h.next_used)) in
            let place : slot size s.rings.next_used ≡ slot size (used + gone) =
            ap (slot size) h.next_used ∙ slot_of_count size (used + gone) divides in
            one_there s differs ∙ ap (λ i. Some (s.rings.used i)) place
            ∙ sym (h.entries gone (omega arith) (less put gone h.taken_within more))
      ]
    where
      none_there : (s : Story) → s.rings.used_idx ≡ s.rings.next_used → entry_to_take size s.rings ≡ None
      none_there s e = grind (arith, nat_tests)

      one_there : (s : Story) → (s.rings.used_idx ≡ s.rings.next_used → ⊥)
          → entry_to_take size s.rings ≡ Some (s.rings.used (slot size s.rings.next_used))
      one_there s e = grind (arith, nat_tests)

      less : (m n : ℕ) → n ≤ m → (m ≡ n → ⊥) → n < m
      less m n h e = omega (arith, e)

  after_is : (start n index : ℕ) → index ≡ (start + n) % 65536 → index_after index ≡ (start + suc n) % 65536
  after_is start n index e = omega arith

  after_publish_holds : (head : ℕ) (s : Story) → Holds size avail used s → May size (Publish head) s
      → Holds size avail used (after size (Publish head) s)
  after_publish_holds head s h may =
      let more = length_more s.published head in
      record {
        avail_idx = after_is avail (length s.published) s.rings.avail_idx h.avail_idx
            ∙ ap (λ n. (avail + n) % 65536) (sym more);
        next_avail = h.next_avail;
        used_idx = h.used_idx;
        next_used = h.next_used;
        popped_within = omega (arith, more, h.popped_within);
        returned_within = h.returned_within;
        taken_within = h.taken_within;
        room = omega (arith, more, may);
        heads = put_one size avail (length s.popped) s.rings.avail_idx s.rings.avail s.published head divides
            h.avail_idx (omega (arith, may, h.taken_within, h.returned_within)) h.heads;
        entries = h.entries;
        popped = taken_still s.published s.popped head h.popped_within h.popped;
        taken = h.taken;
      }

  after_return_holds : (entry : Entry) (s : Story) → Holds size avail used s → May size (Return entry) s
      → Holds size avail used (after size (Return entry) s)
  after_return_holds entry s h may =
      let more = length_more s.returned entry in
      record {
        avail_idx = h.avail_idx;
        next_avail = h.next_avail;
        used_idx = after_is used (length s.returned) s.rings.used_idx h.used_idx
            ∙ ap (λ n. (used + n) % 65536) (sym more);
        next_used = h.next_used;
        popped_within = h.popped_within;
        returned_within = omega (arith, more, may);
        taken_within = omega (arith, more, h.taken_within);
        room = h.room;
        heads = h.heads;
        entries = put_one size used (length s.taken) s.rings.used_idx s.rings.used s.returned entry divides
            h.used_idx (omega (arith, may, h.popped_within, h.room)) h.entries;
        popped = h.popped;
        taken = taken_still s.returned s.taken entry h.taken_within h.taken;
      }

  after_pop_holds : (s : Story) (found : Option ℕ) → found ≡ slice_get s.published (length s.popped)
      → Holds size avail used s → Holds size avail used (after_pop (Ok found) s)
  after_pop_holds s None e h = h
  after_pop_holds s (Some head) e h =
      let more = length_more s.popped head in
      let within = slice_get_within s.published (length s.popped) head (sym e) in
      record {
        avail_idx = h.avail_idx;
        next_avail = after_is avail (length s.popped) s.rings.next_avail h.next_avail
            ∙ ap (λ n. (avail + n) % 65536) (sym more);
        used_idx = h.used_idx;
        next_used = h.next_used;
        popped_within = omega (arith, more, within);
        returned_within = omega (arith, more, h.returned_within);
        taken_within = h.taken_within;
        room = h.room;
        heads = λ j least most. h.heads j (omega (arith, more)) most;
        entries = h.entries;
        popped = taken_more s.published s.popped head h.popped (sym e);
        taken = h.taken;
      }

  after_take_holds : (s : Story) (found : Option Entry) → found ≡ slice_get s.returned (length s.taken)
      → Holds size avail used s → Holds size avail used (after_take found s)
  after_take_holds s None e h = h
  after_take_holds s (Some entry) e h =
      let more = length_more s.taken entry in
      let within = slice_get_within s.returned (length s.taken) entry (sym e) in
      record {
        avail_idx = h.avail_idx;
        next_avail = h.next_avail;
        used_idx = h.used_idx;
        next_used = after_is used (length s.taken) s.rings.next_used h.next_used
            ∙ ap (λ n. (used + n) % 65536) (sym more);
        popped_within = h.popped_within;
        returned_within = h.returned_within;
        taken_within = omega (arith, more, within);
        room = omega (arith, more, h.room);
        heads = h.heads;
        entries = λ j least most. h.entries j (omega (arith, more)) most;
        popped = h.popped;
        taken = taken_more s.returned s.taken entry h.taken (sym e);
      }

  after_holds : (e : Event) (s : Story) → Holds size avail used s → May size e s
      → Holds size avail used (after size e s)
  after_holds (Publish head) s h may = after_publish_holds head s h may
  after_holds Pop s h may = rw (next_head s h) (after_pop_holds s (slice_get s.published (length s.popped)) refl h)
  after_holds (Return entry) s h may = after_return_holds entry s h may
  after_holds Take s h may = rw (next_entry s h) (after_take_holds s (slice_get s.returned (length s.taken)) refl h)

  story_holds : (es : List Event) (s : Story) → Holds size avail used s → AllMay size es s
      → Holds size avail used (story size es s)
  unfolding story AllMay
  story_holds [] s h may = h
  story_holds (e ∷ es) s h may = story_holds es (after size e s) (after_holds e s h may.0) may.1

  begins : avail < 65536 → used < 65536 → Holds size avail used (beginning (empty_rings avail used))
  begins a u = record {
    avail_idx = omega arith;
    next_avail = omega arith;
    used_idx = omega arith;
    next_used = omega arith;
    popped_within = omega arith;
    returned_within = omega arith;
    taken_within = omega arith;
    room = omega arith;
    heads = λ j least most. absurd (omega arith);
    entries = λ j least most. absurd (omega arith);
    popped = refl;
    taken = refl;
  }

-- a size is positive, at most 32768, and divides 2^16
pub record Divides (size : ℕ) : Type 0 where
  pub some : 0 < size
  pub fits : size ≤ 32768
  pub divides : 65536 % size ≡ 0

size_divides : (n : ℕ) → IsTrue (is_size n) → Divides n
size_divides n is =
    let parts = and_parts (nat_lt 0 n) (32768 % n == 0) is in
    let none : 32768 % n ≡ 0 = eqb-true (32768 % n) 0 parts.1 in
    let twice : 65536 % n ≡ 0 = sym (mul-mod_second 2 32768 n) ∙ ap (λ r. 2 * r % n) none ∙ zero-mod n in
    let within : n ≤ 32768 = elim (cases_lt 32768 n) [
      | inl past ↦ let whole : 32768 % n ≡ 32768 = mod-eq_of_lt past in absurd (omega arith)
      | inr inside ↦ inside
    ] in
    record { some = ltb-true 0 n parts.0; fits = within; divides = twice }

pub order_is_kept : (size avail used : ℕ) (es : List Event) → IsTrue (is_size size) → avail < 65536 → used < 65536
    → AllMay size es (beginning (empty_rings avail used))
    → let s = story size es (beginning (empty_rings avail used)) in
    (s.popped ≡ take (length s.popped) s.published)
    × (head_to_pop size s.rings ≡ Ok (slice_get s.published (length s.popped)))
    × (s.taken ≡ take (length s.taken) s.returned)
    × (entry_to_take size s.rings ≡ slice_get s.returned (length s.taken))
order_is_kept size avail used es is a u may =
    let d = size_divides size is in
    let s = story size es (beginning (empty_rings avail used)) in
    let h = story_holds size avail used d.some d.fits d.divides es (beginning (empty_rings avail used))
    (begins size avail used d.some d.fits d.divides a u) may in (
      h.popped,
      next_head size avail used d.some d.fits d.divides s h,
      h.taken,
      next_entry size avail used d.some d.fits d.divides s h,
    )

-- a returned entry goes into its slot, and no other slot changes
pub returned_alike : (size next index : ℕ) (slots : ℕ → Entry) (entry : Entry) → index ≡ next
    → (index_after index ≡ index_after next) × (with_slot slots (slot size index) entry (slot size next) ≡ entry)
    × ((j : ℕ) → (j ≡ slot size next → ⊥) → with_slot slots (slot size index) entry j ≡ slots j)
returned_alike size next index slots entry e = (
  ap index_after e,
  same_slot slots (slot size index) (slot size next) entry (ap (slot size) (sym e)),
  λ j differs. other_slot slots (slot size index) j entry (λ h. differs (h ∙ ap (slot size) e)),
)
