-- Where the bytes of a part lie, and what is put of them.
use Rattle.std.proofs.Common.{◌≡◌, ◌∙◌, ℕ, suc, ◌+◌, ◌-◌, ◌<◌, ◌≤◌, ◌^◌, nat_lt, nat_le, ◌&&◌, Bool, true, false, List, [], ◌∷◌, ◌++◌, length, map, take, Option, Some, None, IfSome, if◌then◌else◌, refl, ap, sym, subst, arith, length-append, append_assoc, append-nil, inl, inr, ltb-true, ltb-false, ◌⊎◌, MatchOption}
use Rattle.std.specs.Option.{option_and_then, option_map}
use Rattle.std.specs.List.{slice_get, slice_set}
use Rattle.std.proofs.lemmas.List.{map_push, take_more_set}
use Rattle.std.proofs.lemmas.Bool.Decides.{nat_tests}
use Rattle.vm_memory_device.specs.declared.chain.Segment.{Segment}
use Rattle.vm_memory_guest.specs.Mmap.{PlacedBlock, mmap_region}
use Rattle.vm_memory_guest.specs.Region.{containing_in, has_address}
use Rattle.vhost_backend.specs.BlockConnection.{bytes_in}
use Rattle.vhost_backend.specs.ConnectionMemory.{MemoryState, place_in, place_of}
use Rattle.vhost_backend.specs.Given.{Lays, Puts, PutsPart, is_left, len_of_part, piece_row, place_from, rest_of}
use Rattle.vhost_backend.specs.BlockQueues.{chain_of}
use Rattle.vhost_backend.specs.Pieces.{piece_from, side}
use Rattle.vhost_backend.specs.Run.{GivesPart, NoPiece}
use Rattle.vhost_backend.specs.RunSteps.{PutsPartAt}
use Rattle.vhost_backend.specs.declared.block_connection.BlockConnection.{BlockConnection}
use Rattle.vhost_backend.specs.declared.given.OpenPart.{OpenPart}
use Rattle.vhost_backend.specs.declared.rows.PieceRow.{PieceRow}
use Rattle.vhost_backend.specs.declared.block.BlockStep.{BlockStep}
use Rattle.vhost_backend.specs.declared.connection_memory.RegionPiece.{RegionPiece}
use Rattle.vhost_backend.specs.declared.pieces.Piece.{Piece}
use Rattle.vhost_backend.proofs.PieceLemmas.{some}

-- ---- what was put

pub puts_none : {A : Type 0} (old : List A) (n : ℕ) → Puts old n [] old n
puts_none old n = (omega arith, sym (append-nil (take n old)))

pub puts_more : {A : Type 0} (old mid new : List A) (n m k : ℕ) (xs ys : List A) → Puts old n xs mid m → Puts mid m ys new k
    → Puts old n (xs ++ ys) new k
puts_more old mid new n m k xs ys (a, is) (b, js) = (
  omega (arith, length-append xs ys),
  js ∙ ap (λ zs. zs ++ ys) is ∙ append_assoc (take n old) xs ys,
)

pub puts_one : {A : Type 0} (old new : List A) (n : ℕ) (x : A) → n < length old → new ≡ slice_set old n x
    → Puts old n (x ∷ []) new (n + 1)
puts_one old new n x less is = (refl, ap (take (n + 1)) is ∙ take_more_set old n x less)

-- ---- places

PlaceIn : ℕ → Option RegionPiece → Type 0
PlaceIn n o = IfSome o (λ q. (0 < q.len) × (q.len ≤ n))

within : (s n a : ℕ) → (nat_le s a && nat_lt a (s + n)) ≡ true → (s ≤ a) × (a < s + n)
within s n a h = grind (arith, nat_tests)

found : (a n : ℕ) (rs : List PlacedBlock) → 0 < n → PlaceIn n (option_map (place_in a n) (containing_in mmap_region rs a))
unfolding PlaceIn
found a n [] positive = tt
found a n (r ∷ rs) positive = go (has_address (mmap_region r) a) refl (found a n rs positive)
  where
    go : (v : Bool) → has_address (mmap_region r) a ≡ v
        → IfSome (option_map (place_in a n) (containing_in mmap_region rs a)) (λ q. (0 < q.len) × (q.len ≤ n))
        → IfSome (option_map (place_in a n) (if v then Some r else containing_in mmap_region rs a))
        (λ q. (0 < q.len) × (q.len ≤ n))
    go true is rest = let at = within r.start r.mapping.size a is in (omega arith, omega arith)
    go false is rest = rest

placed : (m : MemoryState) (p : Piece) → 0 < p.len → PlaceIn p.len (place_of m p)
unfolding PlaceIn
placed m p positive = go (nat_lt (p.base + p.offset) (2 ^ 64))
  where
    go : (v : Bool) → IfSome (if v then option_map (place_in (p.base + p.offset) p.len)
        (containing_in mmap_region m.layout (p.base + p.offset)) else None) (λ q. (0 < q.len) × (q.len ≤ p.len))
    go true = found (p.base + p.offset) p.len m.layout positive
    go false = tt

-- the place of a byte has that and no byte past the end
pub from_some : (m : MemoryState) (chain : List Segment) (part : BlockStep) (from : ℕ) → from < len_of_part part
    → IfSome (place_from m chain part from) (λ q. (0 < q.len) × (from + q.len ≤ len_of_part part))
unfolding PlaceIn
from_some m chain part from below = go (piece_from (side (bytes_in part).0 chain) ((bytes_in part).1 + from)
    (len_of_part part - from)) (some (side (bytes_in part).0 chain) ((bytes_in part).1 + from)
    (len_of_part part - from) (omega arith))
  where
    last : (p : Piece) (o : Option RegionPiece) → p.len ≤ len_of_part part - from
        → IfSome o (λ q. (0 < q.len) × (q.len ≤ p.len))
        → IfSome o (λ q. (0 < q.len) × (from + q.len ≤ len_of_part part))
    last p None le is = tt
    last p (Some q) le (positive, less) = (positive, omega arith)

    go : (o : Option Piece) → IfSome o (λ p. (0 < p.len) × (p.len ≤ len_of_part part - from))
        → IfSome (option_and_then (place_of m) o) (λ q. (0 < q.len) × (from + q.len ≤ len_of_part part))
    go None is = tt
    go (Some p) (positive, le) = last p (place_of m p) le (placed m p positive)

-- ---- pieces one after another

pub lays_more : (m : MemoryState) (chain : List Segment) (part : BlockStep) (from mid : ℕ) (ps : List RegionPiece)
    (p : RegionPiece) → Lays m chain part from ps mid → mid < len_of_part part → place_from m chain part mid ≡ Some p
    → Lays m chain part from (ps ++ p ∷ []) (mid + p.len)
lays_more m chain part from mid [] p is below at =
    let here : from < len_of_part part = omega arith in
    (here, ap (place_from m chain part) (sym is) ∙ at, ap (λ n. n + p.len) is)
lays_more m chain part from mid (q ∷ ps) p (less, lies, rest) below at =
    (less, lies, lays_more m chain part (from + q.len) mid ps p rest below at)

-- a part goes on, unless no piece of it was given
pub lays_on : (m : MemoryState) (chain : List Segment) (part : BlockStep) (from to : ℕ) (ps : List RegionPiece)
    → Lays m chain part from ps to → ((ps ≡ []) × (to ≡ from)) ⊎ (from < to)
lays_on m chain part from to [] is = inl (refl, is)
lays_on m chain part from to (p ∷ ps) (less, lies, rest) = inr (go (place_from m chain part from) lies
    (from_some m chain part from less) (lays_on m chain part (from + p.len) to ps rest))
  where
    go : (o : Option RegionPiece) → o ≡ Some p → IfSome o (λ q. (0 < q.len) × (from + q.len ≤ len_of_part part))
        → ((ps ≡ []) × (to ≡ from + p.len)) ⊎ (from + p.len < to) → from < to
    go None is known after = absurd (cc)
    go (Some q) is (positive, le) after =
        let same : q.len ≡ p.len = cc in
        elim after [ inl (none, at) ↦ omega arith | inr past ↦ omega arith ]

pub lays_within : (m : MemoryState) (chain : List Segment) (part : BlockStep) (from to : ℕ) (ps : List RegionPiece)
    → Lays m chain part from ps to → from ≤ len_of_part part → to ≤ len_of_part part
lays_within m chain part from to [] is le = omega arith
lays_within m chain part from to (p ∷ ps) (less, lies, rest) le = lays_within m chain part (from + p.len) to ps rest
    (go (place_from m chain part from) lies (from_some m chain part from less))
  where
    go : (o : Option RegionPiece) → o ≡ Some p → IfSome o (λ q. (0 < q.len) × (from + q.len ≤ len_of_part part))
        → from + p.len ≤ len_of_part part
    go None is known = absurd (cc)
    go (Some q) is (positive, within) = let same : q.len ≡ p.len = cc in omega arith

pub whole_lies : (m : MemoryState) (chain : List Segment) (part : BlockStep) (to : ℕ) (ps : List RegionPiece)
    → Lays m chain part 0 ps to → len_of_part part ≤ to → Lays m chain part 0 ps (len_of_part part)
whole_lies m chain part to ps lays past =
    let le = lays_within m chain part 0 to ps lays (omega arith) in
    let same : to ≡ len_of_part part = omega arith in
    subst (Lays m chain part 0 ps) same lays

-- ---- what is put of a part

pub row_more : (old mid new : List PieceRow) (n m k : ℕ) (ps : List RegionPiece) (p : RegionPiece)
    → Puts old n (map piece_row ps) mid m → Puts mid m (piece_row p ∷ []) new k
    → Puts old n (map piece_row (ps ++ p ∷ [])) new k
row_more old mid new n m k ps p first second = subst (λ (rows : List PieceRow). Puts old n rows new k)
    (sym (map_push piece_row ps p)) (puts_more old mid new n m k (map piece_row ps) (piece_row p ∷ []) first second)

map_length : (ps : List RegionPiece) → length (map piece_row ps) ≡ length ps
map_length [] = refl
map_length (p ∷ ps) = ap suc (map_length ps)

-- no piece is put only if there is no place for one
pub none_given : (c : BlockConnection) (p : OpenPart) (old : List PieceRow) (n to : ℕ) (new : List PieceRow) (m : ℕ)
    → PutsPartAt c p old n to new m → to ≡ p.given → is_left p to ≡ true → NoPiece c p new m × Puts old n [] new m
none_given c p old n to new m puts same left = go (chain_of p.id (slice_get c.backend.queues p.ring)) puts
  where
    below : p.given < len_of_part p.step
    below = let is = ltb-true to (len_of_part p.step) left in omega arith

    go : (o : Option (List Segment)) → MatchOption o ((to ≡ p.given) × (new ≡ old) × (m ≡ n))
        (λ chain. PutsPart c.memory chain p old n to new m)
        → ((p.given < len_of_part p.step) × ((length new ≤ m) ⊎ MatchOption o (Unit {0})
        (λ chain. place_from c.memory chain p.step p.given ≡ None))) × Puts old n [] new m
    go None (at, is, js) = (
      (below, inr tt),
      subst (λ (xs : List PieceRow). Puts old n [] xs m) (sym is)
          (subst (Puts old n [] old) (sym js) (puts_none old n)),
    )
    go (Some chain) (ps, lays, put, stop) = elim (lays_on c.memory chain p.step p.given to ps lays) [
      | inl (none, at) ↦ (
        (
          below,
          elim (stop (omega (arith, below))) [
            | inl full ↦ inl full
            | inr no_place ↦ inr (subst (λ k. place_from c.memory chain p.step k ≡ None) same no_place)
          ],
        ),
        subst (λ (qs : List RegionPiece). Puts old n (map piece_row qs) new m) none put,
      )
      | inr past ↦ absurd (omega (arith, same))
    ]

-- what is given of a part
pub part_given : (c : BlockConnection) (p : OpenPart) (old : List PieceRow) (n to : ℕ) (new : List PieceRow) (m : ℕ)
    → PutsPartAt c p old n to new m → (to ≡ p.given → ⊥) ⊎ (is_left p to ≡ false)
    → (ps : List RegionPiece) × GivesPart c p ps to (record c { part = rest_of p to })
    × Puts old n (map piece_row ps) new m × (m - n ≡ length ps)
part_given c p old n to new m puts on = go (chain_of p.id (slice_get c.backend.queues p.ring)) puts
  where
    none_left : is_left p to ≡ false → len_of_part p.step ≤ to
    none_left is = ltb-false to (len_of_part p.step) is

    go : (o : Option (List Segment)) → MatchOption o ((to ≡ p.given) × (new ≡ old) × (m ≡ n))
        (λ chain. PutsPart c.memory chain p old n to new m)
        → (ps : List RegionPiece) × (MatchOption o ((ps ≡ []) × (to ≡ p.given))
        (λ chain. Lays c.memory chain p.step p.given ps to)
        × ((p.given < to) ⊎ (len_of_part p.step ≤ p.given))
        × (record c { part = rest_of p to } ≡ record c { part = rest_of p to }))
        × Puts old n (map piece_row ps) new m × (m - n ≡ length ps)
    go None (at, is, js) = (
      [],
      ((refl, at), elim on [ inl moved ↦ absurd (moved at) | inr past ↦ inr (omega (arith, none_left past)) ], refl),
      subst (λ (xs : List PieceRow). Puts old n [] xs m) (sym is) (subst (Puts old n [] old) (sym js) (puts_none old n)),
      omega arith,
    )
    go (Some chain) (ps, lays, put, stop) = (
      ps,
      (
        lays,
        elim (lays_on c.memory chain p.step p.given to ps lays) [
          | inl (none, at) ↦ elim on [ inl moved ↦ absurd (moved at) | inr past ↦ inr (omega (arith, none_left past)) ]
          | inr more ↦ inl more
        ],
        refl,
      ),
      put,
      omega (arith, put.0, map_length ps),
    )
