-- The bytes of disks.
use Rattle.std.proofs.Common.{◌≡◌, ◌∙◌, ℕ, ◌+◌, ◌-◌, ◌*◌, ◌/◌, ◌≤◌, List, [], ◌++◌, length, take, drop, Option, Some, None, MatchOption, refl, sym, ap, arith, length-append, length-drop, append_assoc, append-nil, take-append-drop}
use Rattle.std.proofs.lemmas.List.{length-take-le, take-take, take_at, drop_at, drop-drop, drop-take}
use Rattle.std.proofs.Math.Seq.{take-add}
use Rattle.virtio_blk.specs.Disk.{LieAt, after_write, patched}

-- a disk tells bytes of which so many, if it tells them, are there
abbrev pub Has : Option (List ℕ) → ℕ → Type 0
Has all n = MatchOption all (Unit {0}) (λ bytes. n ≤ length bytes)

-- ---- writes

pub patched-none : (at : ℕ) (all : List ℕ) → patched at [] all ≡ all
patched-none at all =
    ap (λ xs. xs ++ drop (at + 0) all) (append-nil (take at all))
    ∙ ap (λ n. take at all ++ drop n all) (let e : at + 0 ≡ at = omega arith in e) ∙ take-append-drop at all

pub patched-append : (at : ℕ) (bs cs all : List ℕ) → at + length bs ≤ length all
    → patched (at + length bs) cs (patched at bs all) ≡ patched at (bs ++ cs) all
patched-append at bs cs all h =
    let n = length bs in
    let k = length cs in
    let p = take at all ++ bs in
    let q = drop (at + n) all in
    let size : length p ≡ at + n =
    omega (arith, length-append (take at all) bs, length-take-le at all (omega arith)) in
    let front : take (at + n) (p ++ q) ≡ p = take_at p q (at + n) size in
    let behind : drop (at + n + k) (p ++ q) ≡ drop (at + (n + k)) all =
    sym (drop-drop k (at + n) (p ++ q)) ∙ ap (drop k) (drop_at p q (at + n) size) ∙ drop-drop k (at + n) all
    ∙ ap (λ j. drop j all) (let e : at + n + k ≡ at + (n + k) = omega arith in e) in
    ap (λ xs. xs ++ cs ++ drop (at + n + k) (p ++ q)) front
    ∙ ap (λ xs. p ++ cs ++ xs) behind
    ∙ ap (λ xs. xs ++ drop (at + (n + k)) all) (append_assoc (take at all) bs cs)
    ∙ ap (λ j. take at all ++ (bs ++ cs) ++ drop (at + j) all) (sym (length-append bs cs))

pub after_write-none : (at : ℕ) (all : Option (List ℕ)) → after_write at [] all ≡ all
after_write-none at None = refl
after_write-none at (Some all) = ap Some (patched-none at all)

pub after_write-append : (at : ℕ) (bs cs : List ℕ) (all : Option (List ℕ)) → Has all (at + length bs)
    → after_write (at + length bs) cs (after_write at bs all) ≡ after_write at (bs ++ cs) all
after_write-append at bs cs None h = refl
after_write-append at bs cs (Some all) h = ap Some (patched-append at bs cs all h)

-- ---- reads

pub lie-none : (at : ℕ) (all : Option (List ℕ)) → LieAt at [] all
lie-none at None = tt
lie-none at (Some all) = refl

pub lie-append : (at : ℕ) (bs cs : List ℕ) (all : Option (List ℕ)) → LieAt at bs all → LieAt (at + length bs) cs all
    → LieAt at (bs ++ cs) all
lie-append at bs cs None h k = tt
lie-append at bs cs (Some all) h k =
    let n = length bs in
    let m = length cs in
    ap (λ xs. xs ++ cs) h
    ∙ ap (λ xs. take n (drop at all) ++ xs) (k ∙ ap (take m) (sym (drop-drop n at all)))
    ∙ sym (take-add n m (drop at all))
    ∙ ap (λ j. take j (drop at all)) (sym (length-append bs cs))

pub lie-front : (at n : ℕ) (bs : List ℕ) (all : Option (List ℕ)) → n ≤ length bs → LieAt at bs all
    → LieAt at (take n bs) all
lie-front at n bs None fits h = tt
lie-front at n bs (Some all) fits h =
    ap (take n) h ∙ take-take n (length bs) (drop at all) fits
    ∙ ap (λ j. take j (drop at all)) (sym (length-take-le n bs fits))

-- ---- the whole sectors of bytes

pub whole_sectors : (items : List ℕ) → 512 * (length items / 512) ≤ length items
whole_sectors items = omega arith

-- bytes of whole sectors lie in the whole sectors
pub lie-whole : (at w n : ℕ) (items : List ℕ) → at + n ≤ w
    → take n (drop at items) ≡ take n (drop at (take w items))
lie-whole at w n items fits =
    let rest : at + (w - at) ≡ w = omega arith in
    sym (take-take n (w - at) (drop at items) (omega arith))
    ∙ ap (take n) (sym (drop-take at (w - at) items) ∙ ap (λ j. drop at (take j items)) rest)

-- bytes that are put over others in the whole sectors are put over those of these
pub take-patched : (at w : ℕ) (bs items : List ℕ) → at + length bs ≤ w → w ≤ length items
    → take w (patched at bs items) ≡ patched at bs (take w items)
take-patched at w bs items fits within =
    let n = length bs in
    let p = take at items ++ bs in
    let q = drop (at + n) items in
    let r = w - (at + n) in
    let size : length p ≡ at + n =
    omega (arith, length-append (take at items) bs, length-take-le at items (omega arith)) in
    let all : w ≡ at + n + r = omega arith in
    ap (λ k. take k (p ++ q)) all ∙ take-add (at + n) r (p ++ q)
    ∙ ap (λ xs. xs ++ take r (drop (at + n) (p ++ q))) (take_at p q (at + n) size)
    ∙ ap (λ xs. p ++ take r xs) (drop_at p q (at + n) size)
    ∙ ap (λ xs. p ++ xs) (sym (drop-take (at + n) r items) ∙ ap (λ k. drop (at + n) (take k items)) (sym all))
    ∙ ap (λ xs. xs ++ bs ++ drop (at + n) (take w items)) (sym (take-take at w items (omega arith)))

pub length-patched : (at : ℕ) (bs items : List ℕ) → at + length bs ≤ length items
    → length (patched at bs items) ≡ length items
length-patched at bs items fits = omega (
  arith,
  length-append (take at items ++ bs) (drop (at + length bs) items),
  length-append (take at items) bs,
  length-take-le at items (omega arith),
  length-drop (at + length bs) items,
)
