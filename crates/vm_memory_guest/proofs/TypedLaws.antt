-- Loads and stores of guest memory, and the bytes that they take.
use Rattle.std.proofs.Common.{◌≡◌, ◌⊎◌, ℕ, ◌+◌, ◌%◌, ◌<◌, ◌≤◌, ◌&&◌, ◌==◌, Bool, true, false, not, cond, List, [], ◌∷◌, map, length, Option, Some, None, option_map, Result, Ok, Err, refl, sym, ap, subst, ◌∙◌, inl, inr, arith}
use Rattle.std.proofs.lemmas.Bool.Decides.{nat_tests}
use Rattle.std.specs.List.{All}
use Rattle.vm_memory_base.specs.Pages.{PageSet}
use Rattle.vm_memory_base.specs.declared.iotlb.Permissions.{Permissions}
use Rattle.vm_memory_guest.specs.Access.{Reached, Stretch, access_of, is_cut, lengthened, stretches, window_of, windows}
use Rattle.vm_memory_guest.specs.Dirt.{after_write, path_cells, with_pages}
use Rattle.vm_memory_guest.specs.Error.{error_of}
use Rattle.vm_memory_guest.specs.Host.{Cell, Host, bytes_at}
use Rattle.vm_memory_guest.specs.Memory.{Route}
use Rattle.vm_memory_guest.specs.Region.{Region, IsRegion}
use Rattle.vm_memory_guest.specs.Typed.{answered, given, first_aligned, is_uncut, place_of, typed_path, whole_path, path_given}
use Rattle.vm_memory_guest.specs.Window.{Window, Writes, cells, cells_of}
use Rattle.vm_memory_guest.specs.declared.region.error.GuestMemoryError.{GuestMemoryError}
use Rattle.vm_memory_guest.specs.declared.region.error.GuestMemoryError.TheVariants.{InvalidBackendAddress}
use Rattle.vm_memory_guest.proofs.AccessLaws.{cells-access}
use Rattle.vm_memory_guest.proofs.PathLaws.{length-access}
use Rattle.vm_memory_guest.proofs.WrittenLaws.{cells-one}

-- the first stretch of a path begins with its first byte, and is the whole path where there is no cut
record Head (x : Reached) (xs : List Reached) : Type 0 where
  len : ℕ
  rest : List Stretch
  is : stretches (x ∷ xs) ≡ record { first = x; len = len } ∷ rest
  whole : ((is_uncut (x ∷ xs) ≡ true) × (len ≡ length (x ∷ xs)) × (rest ≡ []))
      ⊎ ((is_uncut (x ∷ xs) ≡ false) × (len < length (x ∷ xs)))

-- a byte before a stretch lengthens it, unless there is a cut
longer : (x y : Reached) (ys : List Reached) (b : Bool) → is_cut x y ≡ b → (h : Head y ys) → Head x (y ∷ ys)
unfolding stretches
longer x y ys true cut h = record {
  len = 1;
  rest = record { first = y; len = h.len } ∷ h.rest;
  is = ap (lengthened x) h.is
      ∙ ap (λ (b : Bool). cond b (record { first = x; len = 1 } ∷ record { first = y; len = h.len } ∷ h.rest)
      (record { first = x; len = h.len + 1 } ∷ h.rest)) cut;
  whole = inr (ap (λ (b : Bool). not b && is_uncut (y ∷ ys)) cut, omega arith);
}
longer x y ys false together h = record {
  len = h.len + 1;
  rest = h.rest;
  is = ap (lengthened x) h.is
      ∙ ap (λ (b : Bool). cond b (record { first = x; len = 1 } ∷ record { first = y; len = h.len } ∷ h.rest)
      (record { first = x; len = h.len + 1 } ∷ h.rest)) together;
  whole = elim h.whole [
    | inl all ↦
        inl (ap (λ (b : Bool). not b && is_uncut (y ∷ ys)) together ∙ all.0, (let n = all.1 in omega arith), all.2)
    | inr cut ↦ inr (ap (λ (b : Bool). not b && is_uncut (y ∷ ys)) together ∙ cut.0, (let n = cut.1 in omega arith))
  ];
}

head : (x : Reached) (xs : List Reached) → Head x xs
unfolding stretches
head x [] = record { len = 1; rest = []; is = refl; whole = inl (refl, refl, refl) }
head x (y ∷ ys) = longer x y ys (is_cut x y) refl (head y ys)

-- a window serves where the path serves whole, and is the path's only one. Else both have the same error
Serves : List Reached → Result Window GuestMemoryError → Result (List Reached) GuestMemoryError → Type 0
Serves path (Ok w) (Ok xs) = (xs ≡ path) × (windows path ≡ w ∷ [])
Serves path (Err e) (Err f) = e ≡ f
Serves path (Ok w) (Err f) = ⊥
Serves path (Err e) (Ok xs) = ⊥

serves-both : (path : List Reached) (w : Window) (b c : Bool) → b ≡ c → windows path ≡ w ∷ []
    → Serves path (cond b (Ok w) (Err InvalidBackendAddress)) (cond c (Ok path) (Err InvalidBackendAddress))
unfolding Serves
serves-both path w true true e is = (refl, is)
serves-both path w false false e is = refl
serves-both path w true false e is = absurd (cc)
serves-both path w false true e is = absurd (cc)

serves-neither : (path : List Reached) (w : Window) (b c : Bool) → b ≡ false → c ≡ false
    → Serves path (cond b (Ok w) (Err InvalidBackendAddress)) (cond c (Ok path) (Err InvalidBackendAddress))
unfolding Serves
serves-neither path w false false e f = refl
serves-neither path w true c e f = absurd (cc)
serves-neither path w false true e f = absurd (cc)

-- a load or a store of guest memory takes the path of its access, or nothing
serves : (xs : List Reached) (fault : Option GuestMemoryError) (size : ℕ) → length xs ≤ size
    → Serves xs (first_aligned size (windows xs) fault) (whole_path size xs fault)
unfolding Serves stretches
serves [] None size most = refl
serves [] (Some e) size most = refl
serves (x ∷ xs) fault size most =
    let h = head x xs in
    let w : Window = window_of (record { first = x; len = h.len }) in
    let is : windows (x ∷ xs) ≡ w ∷ map window_of h.rest = ap (map window_of) h.is in
    let aligned = x.cell.offset % size == 0 in
    let n = length (x ∷ xs) in
    subst (λ (ws : List Window). Serves (x ∷ xs) (first_aligned size ws fault) (whole_path size (x ∷ xs) fault))
    (sym is)
    (elim h.whole [
      | inl all ↦
          serves-both (x ∷ xs) w (h.len == size && aligned) (n == size && is_uncut (x ∷ xs) && aligned)
          (rw (all.0, all.1) (same_test (n == size) aligned))
          (is ∙ ap (λ (rest : List Stretch). w ∷ map window_of rest) all.2)
      | inr cut ↦
          serves-neither (x ∷ xs) w (h.len == size && aligned) (n == size && is_uncut (x ∷ xs) && aligned)
          (short h.len size aligned (let l = cut.1 in omega arith)) (rw cut.0 (never (n == size) aligned))
    ])
  where
    same_test : (b c : Bool) → (b && c) ≡ (b && true && c)
    same_test true c = refl
    same_test false c = refl

    never : (b c : Bool) → (b && false && c) ≡ false
    never true c = refl
    never false c = refl

    short : (m n : ℕ) (b : Bool) → m < n → (m == n && b) ≡ false
    short m n b l = grind (arith, nat_tests)

-- what such windows and paths have in common
serves-answers : (path : List Reached) (w : Result Window GuestMemoryError)
    (xs : Result (List Reached) GuestMemoryError) → Serves path w xs
    → answered (λ v. tt {0}) w ≡ answered (λ v. tt {0}) xs
unfolding Serves
serves-answers path (Ok w) (Ok xs) s = refl
serves-answers path (Err e) (Err f) s = ap (λ (x : GuestMemoryError). Err x) s
serves-answers path (Ok w) (Err f) s = absurd s
serves-answers path (Err e) (Ok xs) s = absurd s

serves-loads : (path : List Reached) (w : Result Window GuestMemoryError) (xs : Result (List Reached) GuestMemoryError)
    (blocks : List (List ℕ)) → cells (windows path) ≡ path_cells path → Serves path w xs
    → answered (λ v. bytes_at blocks (cells_of v)) w ≡ answered (λ v. bytes_at blocks (path_cells v)) xs
unfolding Serves
serves-loads path (Ok w) (Ok xs) blocks same s =
    let here : cells_of w ≡ path_cells xs =
    sym (cells-one w) ∙ (ap cells (sym s.1) ∙ (same ∙ ap path_cells (sym s.0))) in
    ap (λ (cs : List Cell). Ok (bytes_at blocks cs)) here
serves-loads path (Err e) (Err f) blocks same s = ap (λ (x : GuestMemoryError). Err x) s
serves-loads path (Ok w) (Err f) blocks same s = absurd s
serves-loads path (Err e) (Ok xs) blocks same s = absurd s

serves-stores : {B : Type 0} (marks : B → ℕ → ℕ → B → Type 0) (pages : B → PageSet) (path : List Reached)
    (w : Result Window GuestMemoryError) (xs : Result (List Reached) GuestMemoryError) (bytes : List ℕ)
    (old new : Host B)
    → (Writes marks (windows path) bytes old new → with_pages pages new ≡ after_write path bytes (with_pages pages old))
    → Serves path w xs
    → Writes marks (given w) bytes old new
    → with_pages pages new ≡ after_write (path_given xs) bytes (with_pages pages old)
unfolding Serves
serves-stores marks pages path (Ok w) (Ok xs) bytes old new whole s writes =
    rw s.0 (whole (subst (λ (ws : List Window). Writes marks ws bytes old new) (sym s.1) writes))
serves-stores marks pages path (Err e) (Err f) bytes old new whole s writes = ap (with_pages pages) writes
serves-stores marks pages path (Ok w) (Err f) bytes old new whole s writes = absurd s
serves-stores marks pages path (Err e) (Ok xs) bytes old new whole s writes = absurd s

module _ (regions : List Region) (route : Route) (a size : ℕ) (access : Permissions) where
  served : let x = access_of regions route a size access in Serves x.path (place_of size x) (typed_path size x)
  served =
      let x = access_of regions route a size access in
      serves x.path (option_map error_of x.fault) size (length-access regions route a size access)

  pub typed-answers : let x = access_of regions route a size access in
      answered (λ v. tt {0}) (place_of size x) ≡ answered (λ v. tt {0}) (typed_path size x)
  typed-answers =
      let x = access_of regions route a size access in
      serves-answers x.path (place_of size x) (typed_path size x) served

  pub typed-loads : (blocks : List (List ℕ)) → All IsRegion regions → let x = access_of regions route a size access in
      answered (λ v. bytes_at blocks (cells_of v)) (place_of size x)
      ≡ answered (λ v. bytes_at blocks (path_cells v)) (typed_path size x)
  typed-loads blocks each =
      let x = access_of regions route a size access in
      serves-loads x.path (place_of size x) (typed_path size x) blocks
      (cells-access regions each a size route access) served

  pub typed-stores : {B : Type 0} (marks : B → ℕ → ℕ → B → Type 0) (pages : B → PageSet) (bytes : List ℕ)
      (old new : Host B)
      → let x = access_of regions route a size access in
      (Writes marks (windows x.path) bytes old new
      → with_pages pages new ≡ after_write x.path bytes (with_pages pages old))
      → Writes marks (given (place_of size x)) bytes old new
      → with_pages pages new ≡ after_write (path_given (typed_path size x)) bytes (with_pages pages old)
  typed-stores marks pages bytes old new by_bytes =
      let x = access_of regions route a size access in
      serves-stores marks pages x.path (place_of size x) (typed_path size x) bytes old new by_bytes served
