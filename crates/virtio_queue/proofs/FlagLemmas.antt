-- The flags of a descriptor are found by a load of them alone, too.
use Rattle.std.proofs.Common.{◌≡◌, ◌∙◌, ℕ, zero, suc, ◌+◌, ◌*◌, ◌%◌, ◌^◌, ◌==◌, ◌&&◌, if◌then◌else◌, nat_le, Bool, true, false, List, [], ◌∷◌, length, drop, map, Option, Some, None, option_map, Result, Ok, Err, ap, refl, sym, arith}
use borrow.Author.Tests.{eqb-true}
use Rattle.std.specs.Int.{w16, from_le_bytes}
use Rattle.vm_memory_base.specs.declared.iotlb.Permissions.TheVariants.{Read}
use Rattle.vm_memory_guest.specs.Dirt.{path_cells}
use Rattle.vm_memory_guest.specs.Error.{error_of}
use Rattle.vm_memory_guest.specs.Host.{Host, byte_at, bytes_at}
use Rattle.vm_memory_guest.specs.Memory.{Memory, Route, Direct, Through, physical, route, said_on, translated}
use Rattle.vm_memory_guest.specs.Region.{Region, cell}
use Rattle.vm_memory_guest.specs.Transfer.{all_of, ended}
use Rattle.vm_memory_guest.specs.Typed.{answered, is_uncut, typed_path, whole_path}
use Rattle.vm_memory_guest.specs.declared.region.error.GuestMemoryError.{GuestMemoryError}
use Rattle.vm_memory_guest.specs.declared.region.error.GuestMemoryError.TheVariants.{InvalidBackendAddress, PartialBuffer}
use Rattle.virtio_queue.specs.Fields.{bytes_in, descriptor_at, descriptor_of, loaded, place, reached_at, told, word_at}
use Rattle.virtio_queue.specs.Rings.{and_then}
use Rattle.virtio_queue.specs.declared.descriptor.Descriptor.{Descriptor}
use Rattle.virtio_queue.specs.declared.error.QueueError.{QueueError}
use Rattle.virtio_queue.specs.declared.error.QueueError.TheVariants as errors
use Rattle.vm_memory_guest.specs.Access.{Access, Meets, Reached, Reaches, Stops, access_of, allowed, first_fault, meets, meets_at, onto, path, refusal}

module _ (m n : ℕ → Meets) where
  -- what two accesses meet at the same bytes
  pub path_same : (i j count : ℕ) → ((k : ℕ) → m (i + k) ≡ n (j + k)) → path m i count ≡ path n j count
  unfolding path
  path_same i j zero same = refl
  path_same i j (suc count) same =
      let here : m i ≡ n j = let a : i + 0 ≡ i = omega arith in let b : j + 0 ≡ j = omega arith in
      ap m (sym a) ∙ same 0 ∙ ap n b in
      let behind : path m (i + 1) count ≡ path n (j + 1) count = path_same (i + 1) (j + 1) count (λ k.
      let a : i + 1 + k ≡ i + (k + 1) = omega arith in let b : j + (k + 1) ≡ j + 1 + k = omega arith in
      ap m a ∙ same (k + 1) ∙ ap n b) in
      ap (λ o. onto o (path m (i + 1) count)) here ∙ ap (onto (n j)) behind

-- the end of a path that reaches all its bytes
pub path_drop : (m : ℕ → Meets) (i k n total : ℕ) → total ≡ k + n → length (path m i total) ≡ total
    → drop k (path m i total) ≡ path m (i + k) n
unfolding path
path_drop m i zero n total is whole =
    let count : total ≡ n = omega (arith, is) in
    let at : i ≡ i + 0 = omega arith in ap (path m i) count ∙ ap (λ i. path m i n) at
path_drop m i (suc k) n zero is whole = let no : ⊥ = omega (arith, is) in absurd no
path_drop m i (suc k) n (suc total) is whole =
    let more : total ≡ k + n = omega (arith, is) in
    go (m i) (path m (i + 1) total) (path_drop m (i + 1) k n total more) whole
  where
    go : (o : Meets) (xs : List Reached) → (length xs ≡ total → drop k xs ≡ path m (i + 1 + k) n)
        → length (onto o xs) ≡ suc total → drop (suc k) (onto o xs) ≡ path m (i + suc k) n
    go (Reaches x) xs rest whole =
        let count : length xs ≡ total = omega (arith, whole) in
        let at : i + 1 + k ≡ i + suc k = omega arith in
        rest count ∙ ap (λ i. path m i n) at
    go (Stops fault) xs rest whole = let no : ⊥ = omega (arith, whole) in absurd no

module _ {X Y : Type 0} (f : X → Y) where
  drop_map : (k : ℕ) (xs : List X) → drop k (map f xs) ≡ map f (drop k xs)
  drop_map zero xs = refl
  drop_map (suc k) [] = refl
  drop_map (suc k) (x ∷ xs) = drop_map k xs

module _ {X : Type 0} where
  drop_none : (k : ℕ) → drop {A = X} k [] ≡ []
  drop_none zero = refl
  drop_none (suc k) = refl

  drop_twice : (j k total : ℕ) (xs : List X) → total ≡ k + j → drop j (drop k xs) ≡ drop total xs
  drop_twice j zero total xs is = let same : j ≡ total = omega (arith, is) in ap (λ n. drop n xs) same
  drop_twice j (suc k) total [] is = drop_none j ∙ sym (drop_none total)
  drop_twice j (suc k) zero (x ∷ xs) is = let no : ⊥ = omega (arith, is) in absurd no
  drop_twice j (suc k) (suc total) (x ∷ xs) is =
      let same : total ≡ k + j = omega (arith, is) in drop_twice j k total xs same

module _ {X Y E : Type 0} where
  pub then_ok : (r : Result X E) (f : X → Result Y E) (y : Y) → and_then r f ≡ Ok y → (x : X) × (r ≡ Ok x) × (f x ≡ Ok y)
  then_ok (Ok x) f y is = (x, refl, is)
  then_ok (Err e) f y is = absurd (cc)

  answered_ok : (f : X → Y) (r : Result X E) (y : Y) → answered f r ≡ Ok y → (x : X) × (r ≡ Ok x) × (f x ≡ y)
  answered_ok f (Ok x) y is = let so : f x ≡ y = cc in (x, refl, so)
  answered_ok f (Err e) y is = absurd (cc)

told_ok : {X : Type 0} (r : Result X GuestMemoryError) (x : X) → told r ≡ Ok x → r ≡ Ok x
told_ok (Ok y) x is = let so : y ≡ x = cc in ap Ok so
told_ok (Err e) x is = absurd (cc)

place_ok : (base offset n a : ℕ) → place base offset n ≡ Ok a → a ≡ base + offset
place_ok base offset n a is = by (nat_le (base + offset + n) (2 ^ 64)) is
  where
    by : (b : Bool) → ◌≡◌ {A = Result ℕ QueueError} (if b then Ok (base + offset) else Err errors.AddressOverflow) (Ok a)
        → a ≡ base + offset
    by true is = cc
    by false is = absurd (cc)

whole_ok : (size : ℕ) (xs ys : List Reached) (fault : Option GuestMemoryError) → whole_path size xs fault ≡ Ok ys
    → ys ≡ xs
whole_ok size [] ys None is = absurd (cc)
whole_ok size [] ys (Some e) is = absurd (cc)
whole_ok size (x ∷ xs) ys fault is = by (length (x ∷ xs) == size && is_uncut (x ∷ xs) && x.cell.offset % size == 0) is
  where
    by : (b : Bool) → ◌≡◌ {A = Result (List Reached) GuestMemoryError}
        (if b then Ok (x ∷ xs) else Err InvalidBackendAddress) (Ok ys) → ys ≡ x ∷ xs
    by true is = cc
    by false is = absurd (cc)

all_ok : (n total : ℕ) (fault : Option GuestMemoryError) → all_of PartialBuffer n (ended total fault) ≡ Ok tt
    → (total == n) ≡ true
all_ok n total fault is = by fault is
  where
    full : (b : Bool) → ◌≡◌ {A = Result (Unit {0}) GuestMemoryError} (if b then Ok tt else Err (PartialBuffer n total)) (Ok tt)
        → b ≡ true
    full true is = refl
    full false is = absurd (cc)

    some : (e : GuestMemoryError) (a : Bool) → all_of PartialBuffer n (if a then Err e else Ok total) ≡ Ok tt
        → (total == n) ≡ true
    some e true is = absurd (cc)
    some e false is = full (total == n) is

    by : (fault : Option GuestMemoryError) → all_of PartialBuffer n (ended total fault) ≡ Ok tt → (total == n) ≡ true
    by None is = full (total == n) is
    by (Some e) is = some e (total == 0) is

-- what two accesses reach of the same bytes, whatever their sizes
module _ (regions : List Region) (way : Route) (a b : ℕ) (k : ℕ) (is : b ≡ a + k) where
  same_at : (j : ℕ) → a + (k + j) ≡ b + (0 + j)
  same_at j = omega (arith, is)

  physical_same : (way : Route) (j : ℕ) → physical way a (k + j) ≡ physical way b (0 + j)
  physical_same Direct j = ap (λ x. x % 2 ^ 64) (same_at j)
  physical_same (Through f space) j = ap (λ x. translated x (f x)) (same_at j)

  meets_same : (j : ℕ) → meets regions way a (k + j) ≡ meets regions way b (0 + j)
  meets_same j =
      ap (λ x. meets_at way x (said_on way x) (physical way a (k + j)) (cell regions (physical way a (k + j)))) (same_at j)
      ∙ ap (λ p. meets_at way (b + (0 + j)) (said_on way (b + (0 + j))) p (cell regions p)) (physical_same way j)

-- the path of a load that took its bytes
load_path : (regions : List Region) (way : Route) (a n : ℕ) (xs : List Reached)
    → typed_path n (access_of regions way a n Read) ≡ Ok xs → xs ≡ path (meets regions way a) 0 n
load_path regions way a n xs is = by (allowed way a n Read) is
  where
    by : (b : Bool) → typed_path n (if b
        then record { path = path (meets regions way a) 0 n; fault = first_fault (meets regions way a) 0 n }
        else record { path = []; fault = Some (refusal way a n) }) ≡ Ok xs
        → xs ≡ path (meets regions way a) 0 n
    by true is = whole_ok n (path (meets regions way a) 0 n) xs
        (option_map error_of (first_fault (meets regions way a) 0 n)) is
    by false is = absurd (cc)

-- the path of a read that took its bytes
read_path : (regions : List Region) (way : Route) (a n : ℕ) → (n == 0) ≡ false
    → let x = access_of regions way a n Read in
    all_of PartialBuffer n (ended (length x.path) (option_map error_of x.fault)) ≡ Ok tt
    → (x.path ≡ path (meets regions way a) 0 n) × (length (path (meets regions way a) 0 n) ≡ n)
read_path regions way a n some is = by (allowed way a n Read) is
  where
    abbrevs : Bool → Access
    abbrevs b = if b
        then record { path = path (meets regions way a) 0 n; fault = first_fault (meets regions way a) 0 n }
        else record { path = []; fault = Some (refusal way a n) }

    by : (b : Bool) → all_of PartialBuffer n (ended (length (abbrevs b).path) (option_map error_of (abbrevs b).fault)) ≡ Ok tt
        → ((abbrevs b).path ≡ path (meets regions way a) 0 n) × (length (path (meets regions way a) 0 n) ≡ n)
    by true is = (
      refl,
      eqb-true (length (path (meets regions way a) 0 n)) n (all_ok n
          (length (path (meets regions way a) 0 n)) (option_map error_of (first_fault (meets regions way a) 0 n)) is),
    )
    by false is = absurd (cc)

-- the last two bytes of sixteen are those of a load of them alone
load_is_end : (regions : List Region) (way : Route) (blocks : List (List ℕ)) (a b : ℕ) (xs : List Reached)
    → b ≡ a + 14 → typed_path 2 (access_of regions way b 2 Read) ≡ Ok xs
    → let x = access_of regions way a 16 Read in
    all_of PartialBuffer 16 (ended (length x.path) (option_map error_of x.fault)) ≡ Ok tt
    → drop 2 (drop 4 (drop 8 (bytes_at blocks (path_cells x.path)))) ≡ bytes_at blocks (path_cells xs)
load_is_end regions way blocks a b xs is took whole =
    let x = access_of regions way a 16 Read in
    let (at, count) = read_path regions way a 16 refl whole in
    let all = path (meets regions way a) 0 16 in
    let end : drop 14 all ≡ xs =
    path_drop (meets regions way a) 0 14 2 16 refl count
    ∙ path_same (meets regions way a) (meets regions way b) 14 0 2 (meets_same regions way a b 14 is)
    ∙ sym (load_path regions way b 2 xs took) in
    let bytes = bytes_at blocks (path_cells x.path) in
    ap (drop 2) (drop_twice 4 8 12 bytes refl) ∙ drop_twice 2 12 14 bytes refl
    ∙ ap (λ p. drop 14 (bytes_at blocks (path_cells p))) at
    ∙ drop_map (byte_at blocks) 14 (path_cells all)
    ∙ ap (map (byte_at blocks)) (drop_map (λ x. x.cell) 14 all)
    ∙ ap (λ p. bytes_at blocks (path_cells p)) end

-- the flags that a load found are those of the descriptor
module _ {B : Type 0} (m : Memory) (host : Host B) (ring i : ℕ) where
  pub flags_are : (flags : ℕ) (d : Descriptor) → word_at m host ring (16 * i + 14) ≡ Ok flags
      → descriptor_at m host ring i ≡ Ok d → d.next ≡ flags
  flags_are flags d there is =
      let way = route m host.tables in
      let (b, at_b, told_b) = then_ok (place ring (16 * i + 14) 2) _ flags there in
      let (a, at_a, told_a) = then_ok (place ring (16 * i) 16) _ d is in
      let (bytes, got, flags_of) = answered_ok (from_le_bytes w16) (loaded m host b 2) flags
      (told_ok (answered (from_le_bytes w16) (loaded m host b 2)) flags told_b) in
      let (xs, took, bytes_of) = answered_ok (λ xs. bytes_at host.blocks (path_cells xs))
      (typed_path 2 (reached_at m host b 2 Read)) bytes got in
      let (all, got_all, d_of) = answered_ok descriptor_of (bytes_in m host a 16) d
      (told_ok (answered descriptor_of (bytes_in m host a 16)) d told_a) in
      let x = reached_at m host a 16 Read in
      let (u, whole, all_of_path) = answered_ok (λ u. bytes_at host.blocks (path_cells x.path))
      (all_of PartialBuffer 16 (ended (length x.path) (option_map error_of x.fault))) all got_all in
      let after : b ≡ a + 14 =
      let at : b ≡ ring + (16 * i + 14) = place_ok ring (16 * i + 14) 2 b at_b in
      let base : a ≡ ring + 16 * i = place_ok ring (16 * i) 16 a at_a in omega (arith, at, base) in
      sym (ap (λ (d : Descriptor). d.next) d_of)
      ∙ ap (λ bytes. from_le_bytes w16 (drop 2 (drop 4 (drop 8 bytes)))) (sym all_of_path)
      ∙ ap (from_le_bytes w16) (load_is_end m.regions way host.blocks a b xs after took whole ∙ bytes_of)
      ∙ flags_of
