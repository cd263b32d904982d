-- What a host holds, over lists of names.
use Rattle.std.proofs.Common.{◌≡◌, ℕ, suc, ◌+◌, ◌<◌, ◌≤◌, ◌↔◌, List, [], ◌∷◌, ◌++◌, map, flat_map, drop, length, get_or, slice_index, refl, sym, subst, ap, ◌∙◌, add-one, length-append, Result, Ok, Err, OnOk, OnErr, All, Contains, arith}
use Rattle.std.proofs.lemmas.List.{get_or_append_left, map-append}
use Rattle.std.proofs.lemmas.List.Elements.{All-nil, All-cons, All-head, All-tail, All-weaker, All-contains, All-from_recursion, recursion_from_All}
use Rattle.std.proofs.Math.Seq.{drop-cons}
use Rattle.std.specs.List.{AllByRecursion}
use Rattle.vm_memory_base.specs.Table.{Table}
use Rattle.vm_memory_guest.specs.Host.{Host, Shape, Name, Block, Place, Space, Tlb, IsHeld, Holds, with_given_table, shape_of, block_at}
use Rattle.vm_memory_guest.specs.Region.{Region, region_names}
use Rattle.vm_memory_guest.proofs.WrittenLaws.{length-block_at}

-- both lists are held where they are held one after the other
pub Holds-append : (shape : Shape) (xs ys : List Name) → Holds shape xs → Holds shape ys → Holds shape (xs ++ ys)
Holds-append shape [] ys h k = k
Holds-append shape (x ∷ xs) ys h k = (h.0, Holds-append shape xs ys h.1 k)

pub Holds-left : (shape : Shape) (xs ys : List Name) → Holds shape (xs ++ ys) → Holds shape xs
Holds-left shape [] ys h = tt
Holds-left shape (x ∷ xs) ys h = (h.0, Holds-left shape xs ys h.1)

pub Holds-right : (shape : Shape) (xs ys : List Name) → Holds shape (xs ++ ys) → Holds shape ys
Holds-right shape [] ys h = h
Holds-right shape (x ∷ xs) ys h = Holds-right shape xs ys h.1

pub Holds-parts : (shape : Shape) (xs ys : List Name) → Holds shape (xs ++ ys) → Holds shape xs × Holds shape ys
Holds-parts shape xs ys h = (Holds-left shape xs ys h, Holds-right shape xs ys h)

-- names are held where each of them is
pub Holds-all : (shape : Shape) (names : List Name) → Holds shape names ↔ All (IsHeld shape) names
Holds-all shape names = (
  λ h. All-from_recursion (IsHeld shape) names (there names h),
  λ all. back names (recursion_from_All (IsHeld shape) names all),
)
  where
    there : (names : List Name) → Holds shape names → AllByRecursion (IsHeld shape) names
    there [] h = tt
    there (name ∷ names) h = (h.0, there names h.1)

    back : (names : List Name) → AllByRecursion (IsHeld shape) names → Holds shape names
    back [] h = tt
    back (name ∷ names) h = (h.0, back names h.1)

abbrev HoldsRegion : Shape → Region → Type 0
HoldsRegion shape r = Holds shape (region_names r)

-- regions are held where each of them is
pub Holds-each : (shape : Shape) (rs : List Region) → Holds shape (flat_map region_names rs)
    ↔ All (λ r. Holds shape (region_names r)) rs
Holds-each shape rs = (there rs, back rs)
  where
    there : (rs : List Region) → Holds shape (flat_map region_names rs) → All (HoldsRegion shape) rs
    there [] h = All-nil (HoldsRegion shape)
    there (r ∷ rs) h = All-cons (HoldsRegion shape) r rs
        (Holds-left shape (region_names r) (flat_map region_names rs) h)
        (there rs (Holds-right shape (region_names r) (flat_map region_names rs) h))

    back : (rs : List Region) → All (HoldsRegion shape) rs → Holds shape (flat_map region_names rs)
    back [] all = tt
    back (r ∷ rs) all = Holds-append shape (region_names r) (flat_map region_names rs)
        (All-head (HoldsRegion shape) r rs all) (back rs (All-tail (HoldsRegion shape) r rs all))

-- regions that are some of those that are held are held
pub Holds-among : (shape : Shape) (rs among : List Region) → Holds shape (flat_map region_names rs)
    → All (Contains rs) among → Holds shape (flat_map region_names among)
Holds-among shape rs among h all =
    (Holds-each shape among).1
    (All-weaker (Contains rs) (HoldsRegion shape)
    (λ r found. All-contains (HoldsRegion shape) rs r ((Holds-each shape rs).0 h) found) among all)

-- a block that is there is held whole
pub IsHeld-whole : {B : Type 0} (host : Host B) (block : ℕ) → IsHeld (shape_of host) (Block block)
    → IsHeld (shape_of host) (Place block 0 (length (block_at host.blocks block)))
IsHeld-whole host block h =
    let size = length-block_at host.blocks block in
    (h, omega (arith, size))

-- a place in a place that is held is held
pub IsHeld-part : (shape : Shape) (block offset len start n : ℕ) → IsHeld shape (Place block offset len)
    → start + n ≤ offset + len → IsHeld shape (Place block start n)
IsHeld-part shape block offset len start n h inside = (h.0, omega (arith, h.1))

-- a host with more blocks and spaces holds what it held
record IsMore (old new : Shape) : Type 0 where
  blocks : (block : ℕ) → block < length old.blocks → (block < length new.blocks)
      × (slice_index new.blocks block ≡ slice_index old.blocks block)
  spaces : old.spaces ≤ new.spaces
  tables : old.tables ≤ new.tables

IsHeld-more : (old new : Shape) → IsMore old new → (name : Name) → IsHeld old name → IsHeld new name
IsHeld-more old new more (Block block) h = (more.blocks block h).0
IsHeld-more old new more (Place block offset len) h =
    let there = more.blocks block h.0 in
    (there.0, subst (λ (size : ℕ). offset + len ≤ size) (sym there.1) h.1)
IsHeld-more old new more (Space space) h = let s = more.spaces in omega arith
IsHeld-more old new more (Tlb table) h = let t = more.tables in omega arith

Holds-more : (old new : Shape) → IsMore old new → (names : List Name) → Holds old names → Holds new names
Holds-more old new more [] h = tt
Holds-more old new more (name ∷ names) h = (IsHeld-more old new more name h.0, Holds-more old new more names h.1)

-- one block more
pub Holds-block : {B : Type 0} (old : Host B) (bytes : List ℕ) (bitmap : B) (names : List Name)
    → Holds (shape_of old) names
    → Holds (shape_of (record old { blocks = old.blocks ++ bytes ∷ []; bitmaps = old.bitmaps ++ bitmap ∷ [] })) names
Holds-block old bytes bitmap names held =
    let lengths = map-append length old.blocks (bytes ∷ []) in
    let shape : Shape = record (shape_of old) { blocks = map length old.blocks ++ length bytes ∷ [] } in
    let long = length-append (map length old.blocks) (length bytes ∷ []) in
    let more : IsMore (shape_of old) shape = record {
      blocks = λ block h. (omega arith, get_or_append_left (map length old.blocks) (length bytes ∷ []) 0 block h);
      spaces = omega arith;
      tables = omega arith;
    } in
    rw lengths (Holds-more (shape_of old) shape more names held)

-- one space more
pub Holds-space : {B : Type 0} (old : Host B) (bitmap : B) (names : List Name) → Holds (shape_of old) names
    → Holds (shape_of (record old { spaces = old.spaces ++ bitmap ∷ [] })) names
Holds-space old bitmap names held =
    let long = length-append old.spaces (bitmap ∷ []) in
    let more : IsMore (shape_of old) (record (shape_of old) { spaces = length (old.spaces ++ bitmap ∷ []) }) = record {
      blocks = λ block h. (h, refl);
      spaces = omega arith;
      tables = omega arith;
    } in
    Holds-more (shape_of old) (record (shape_of old) { spaces = length (old.spaces ++ bitmap ∷ []) }) more names held

-- one table more
pub Holds-table : {B : Type 0} (old : Host B) (table : Table) (names : List Name) → Holds (shape_of old) names
    → Holds (shape_of (with_given_table old table)) names
Holds-table old table names held =
    let long = length-append old.tables (table ∷ []) in
    let more : IsMore (shape_of old) (shape_of (with_given_table old table)) = record {
      blocks = λ block h. (h, refl);
      spaces = omega arith;
      tables = omega arith;
    } in
    Holds-more (shape_of old) (shape_of (with_given_table old table)) more names held

-- one more where a call made it, and none where it did not
module _ {B T E : Type 0} (old new more : Host B)
    (made : (names : List Name) → Holds (shape_of old) names → Holds (shape_of more) names) where
  pub Holds-made : (r : Result T E) → OnOk r (new ≡ more) → OnErr r (new ≡ old) → (names : List Name)
      → Holds (shape_of old) names → Holds (shape_of new) names
  Holds-made (Ok x) ok err names held =
      subst (λ (host : Host B). Holds (shape_of host) names) (sym ok) (made names held)
  Holds-made (Err e) ok err names held = subst (λ (host : Host B). Holds (shape_of host) names) (sym err) held

-- of regions whose tests came out so, all are held where the rest are
pub record AreHeldFrom (shape : Shape) (rs : List Region) (i : ℕ) : Type 0 where
  pub all : Holds shape (flat_map region_names (drop i rs)) → Holds shape (flat_map region_names rs)
  pub rest : Holds shape (flat_map region_names rs) → Holds shape (flat_map region_names (drop i rs))

pub AreHeldFrom-more : (shape : Shape) (rs : List Region) (i : ℕ) (r : Region) → i < length rs → get_or rs i r ≡ r
    → Holds shape (region_names r) → AreHeldFrom shape rs i → AreHeldFrom shape rs (i + 1)
AreHeldFrom-more shape rs i r within at held h =
    let parts : drop i rs ≡ r ∷ drop (i + 1) rs =
    rw add-one (drop-cons rs i r within ∙ ap (λ q. q ∷ drop (suc i) rs) at) in
    record {
      all = λ k. h.all (rw parts
          (Holds-append shape (region_names r) (flat_map region_names (drop (i + 1) rs)) held k));
      rest = λ k. Holds-right shape (region_names r) (flat_map region_names (drop (i + 1) rs)) (rw parts at (h.rest k));
    }

pub AreHeldFrom-at : (shape : Shape) (rs : List Region) (i : ℕ) (r : Region) → i < length rs → get_or rs i r ≡ r
    → AreHeldFrom shape rs i → Holds shape (flat_map region_names rs) → Holds shape (region_names r)
AreHeldFrom-at shape rs i r within at h k =
    let parts : drop i rs ≡ r ∷ drop (suc i) rs = drop-cons rs i r within ∙ ap (λ q. q ∷ drop (suc i) rs) at in
    Holds-left shape (region_names r) (flat_map region_names (drop (suc i) rs)) (rw parts at (h.rest k))
