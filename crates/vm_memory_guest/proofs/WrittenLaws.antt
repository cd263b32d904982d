-- Bytes that are written to cells, and bytes that are read from them.
use Rattle.std.proofs.Common.{◌≡◌, ℕ, zero, suc, ◌+◌, ◌<◌, ◌≤◌, ◌≢◌, List, [], ◌∷◌, ◌++◌, map, length, get_or, set, take, drop, refl, sym, ap, ap₂, ◌∙◌, inl, inr, add-zero, append_assoc, append-nil, arith, length-set, length-append, length-drop, length-take-le, set-set, get_or-set_same, get_or-set_other, take_at, drop_at, drop-drop}
use Rattle.std.proofs.lemmas.Bool.{cases_eq}
use Rattle.std.proofs.lemmas.List.{map-append, map-set, length-map, set-get_or, take_more_set, drop-set-lt, drop_more, take-append-drop}
use Rattle.std.proofs.lemmas.List.Concat.{flat_map-append}
use Rattle.std.proofs.lemmas.List.Sums.{sum_by-cons, sum_by-append}
use Rattle.std.proofs.lemmas.List.Elements.{All-head, All-tail, All-weaker}
use Rattle.std.specs.List.{All, AllPairs, Contains}
use Rattle.vm_memory_guest.specs.BlockBytes.{bytes_of, with_bytes}
use Rattle.vm_memory_guest.specs.declared.host.block_bytes.BlockBytes.{BlockBytes}
use Rattle.vm_memory_guest.proofs.BlockBytesLemmas.{with_bytes_is}
use Rattle.vm_memory_guest.specs.Host.{Cell, cells_from, block_at, byte_at, bytes_at, with_byte, written}
use Rattle.vm_memory_guest.specs.Window.{span, cells_of, cells, Window}
use Rattle.vm_memory_guest.specs.Answer.{filled_buffer}

-- two writes one after the other are one write
pub written-append : (xs ys : List Cell) (bs cs : List ℕ) (blocks : List (List ℕ)) → length xs ≡ length bs
    → written (xs ++ ys) (bs ++ cs) blocks ≡ written ys cs (written xs bs blocks)
written-append [] ys [] cs blocks h = refl
written-append [] ys (b ∷ bs) cs blocks h = absurd (omega arith)
written-append (x ∷ xs) ys [] cs blocks h = absurd (omega arith)
written-append (x ∷ xs) ys (b ∷ bs) cs blocks h = written-append xs ys bs cs (with_byte blocks x b) (omega arith)

-- bytes past the cells are ignored
pub written-take : (cs : List Cell) (bytes : List ℕ) (blocks : List (List ℕ))
    → written cs bytes blocks ≡ written cs (take (length cs) bytes) blocks
written-take [] bytes blocks = refl
written-take (c ∷ cs) [] blocks = refl
written-take (c ∷ cs) (b ∷ bytes) blocks = written-take cs bytes (with_byte blocks c b)

-- the block after bytes were moved into it from an offset on, and the next byte at its front
pasted : (o x : ℕ) (xs block : List ℕ) → o < length block
    → take (o + 1) (set block o x) ++ xs ++ drop (o + 1 + length xs) (set block o x) ≡ take o block ++ (x ∷ xs)
    ++ drop (o + suc (length xs)) block
pasted o x xs block h =
    let k : o < o + 1 + length xs = omega arith in
    let e : o + 1 + length xs ≡ o + suc (length xs) = omega arith in
    rw (
      take_more_set block o x h,
      drop-set-lt (o + 1 + length xs) block o x k,
      e,
      append_assoc (take o block) (x ∷ []) xs,
    )

-- bytes moved into a block at once
pub written-block : (b o : ℕ) (bytes : List ℕ) (blocks : List (List ℕ)) → b < length blocks
    → o + length bytes ≤ length (block_at blocks b)
    → written (cells_from b o (length bytes)) bytes blocks
    ≡ set blocks b (take o (block_at blocks b) ++ bytes ++ drop (o + length bytes) (block_at blocks b))
written-block b o [] blocks h k =
    rw (
      append-nil (take o (block_at blocks b)),
      add-zero o,
      take-append-drop o (block_at blocks b),
      set-get_or blocks b [],
    )
written-block b o (x ∷ xs) blocks h k =
    let block = block_at blocks b in
    let next = set blocks b (set block o x) in
    let same : block_at next b ≡ set block o x = get_or-set_same blocks b (set block o x) [] h in
    let h' : b < length next = rw length-set h in
    let k' : o + 1 + length xs ≤ length (block_at next b) = rw (same, length-set) (omega arith) in
    let l : o < length block = omega arith in
    written-block b (o + 1) xs next h' k' ∙ rw (same, pasted o x xs block l, set-set)

-- a block of vectors of bytes that got bytes in place of as many of its own
pub put-block : (blocks : List BlockBytes) (b o : ℕ) (all : BlockBytes) (bytes new : List ℕ)
    → let bs = map bytes_of blocks in
    b < length bs → (bytes_of all) ≡ block_at bs b → o + length bytes ≤ length (block_at bs b)
    → new ≡ take o (block_at bs b) ++ bytes ++ drop (o + length bytes) (block_at bs b)
    → map bytes_of (set blocks b (with_bytes all new))
    ≡ written (cells_from b o (length bytes)) bytes bs
put-block blocks b o all bytes new there is within put =
    let bs = map bytes_of blocks in
    let whole = block_at bs b in
    let kept : length new ≡ length (bytes_of all) =
    let long = ap length put in
    let parts = length-append (take o whole ++ bytes) (drop (o + length bytes) whole) in
    let front = length-append (take o whole) bytes in
    let before = length-take-le o whole (omega arith) in
    let rest = length-drop (o + length bytes) whole in
    let same = ap length is in
    omega arith in
    map-set bytes_of blocks b (with_bytes all new)
    ∙ (ap (set bs b) (with_bytes_is all new kept ∙ put) ∙ sym (written-block b o bytes bs there within))

-- a stretch of n cells has n cells
pub length-cells_from : (b o n : ℕ) → length (cells_from b o n) ≡ n
length-cells_from b o zero = refl
length-cells_from b o (suc n) = ap suc (length-cells_from b (o + 1) n)

-- the bytes in neighbouring cells of a block are a part of it
pub bytes_at-block : (b o n : ℕ) (blocks : List (List ℕ)) → o + n ≤ length (block_at blocks b)
    → bytes_at blocks (cells_from b o n) ≡ take n (drop o (block_at blocks b))
bytes_at-block b o zero blocks h = refl
bytes_at-block b o (suc n) blocks h =
    let l : o < length (block_at blocks b) = omega arith in
    let k : o + 1 + n ≤ length (block_at blocks b) = omega arith in
    rw (drop_more (block_at blocks b) o 0 l)
    (ap (λ (bs : List ℕ). get_or (block_at blocks b) o 0 ∷ bs) (bytes_at-block b (o + 1) n blocks k))

-- there is a byte for each cell
pub length-bytes_at : (blocks : List (List ℕ)) (cs : List Cell) → length (bytes_at blocks cs) ≡ length cs
length-bytes_at blocks cs = length-map cs (byte_at blocks)

-- the bytes in cells joined end to end are joined
pub bytes_at-append : (blocks : List (List ℕ)) (xs ys : List Cell)
    → bytes_at blocks (xs ++ ys) ≡ bytes_at blocks xs ++ bytes_at blocks ys
bytes_at-append blocks xs ys = map-append (byte_at blocks) xs ys

-- a window more has its size in bytes more
pub span-cons : (w : Window) (ws : List Window) → span (w ∷ ws) ≡ w.size + span ws
span-cons w ws = sum_by-cons (λ (v : Window). v.size) w ws

-- windows joined end to end have the bytes of both
pub span-append : (ws vs : List Window) → span (ws ++ vs) ≡ span ws + span vs
span-append ws vs = sum_by-append (λ (v : Window). v.size) ws vs

-- windows joined end to end have the cells of both
pub cells-append : (ws vs : List Window) → cells (ws ++ vs) ≡ cells ws ++ cells vs
cells-append ws vs = flat_map-append cells_of ws vs

-- windows have as many cells as bytes
pub length-cells : (ws : List Window) → length (cells ws) ≡ span ws
length-cells [] = refl
length-cells (w ∷ ws) =
    let a = length-append (cells_of w) (cells ws) in
    let b = length-cells_from w.block.0 w.offset w.size in
    let c = length-cells ws in
    let d = span-cons w ws in
    omega arith

-- a block keeps its length when a byte of it is written
pub lengths-with_byte : (blocks : List (List ℕ)) (b o byte : ℕ)
    → map length (set blocks b (set (block_at blocks b) o byte)) ≡ map length blocks
lengths-with_byte [] b o byte = refl
lengths-with_byte (block ∷ blocks) zero o byte = ap (λ (n : ℕ). n ∷ map length blocks) (length-set block o byte)
lengths-with_byte (block ∷ blocks) (suc b) o byte =
    ap (λ (ns : List ℕ). length block ∷ ns) (lengths-with_byte blocks b o byte)

-- each block keeps its length
pub lengths-written : (cs : List Cell) (bytes : List ℕ) (blocks : List (List ℕ))
    → map length (written cs bytes blocks) ≡ map length blocks
lengths-written [] bytes blocks = refl
lengths-written (c ∷ cs) [] blocks = refl
lengths-written (c ∷ cs) (b ∷ bytes) blocks = lengths-written cs bytes (with_byte blocks c b)
    ∙ lengths-with_byte blocks c.block c.offset b

pub ruleset written_lengths = lengths-written

-- the length of a block is that of its number among the lengths
pub length-block_at : (blocks : List (List ℕ)) (b : ℕ) → length (block_at blocks b) ≡ get_or (map length blocks) b 0
length-block_at [] b = refl
length-block_at (block ∷ blocks) zero = refl
length-block_at (block ∷ blocks) (suc b) = length-block_at blocks b

-- each block is as long as before
pub length-block_at-written : (cs : List Cell) (bytes : List ℕ) (blocks : List (List ℕ)) (b : ℕ)
    → length (block_at (written cs bytes blocks) b) ≡ length (block_at blocks b)
length-block_at-written cs bytes blocks b = length-block_at (written cs bytes blocks) b
    ∙ ap (λ (ns : List ℕ). get_or ns b 0) (lengths-written cs bytes blocks) ∙ sym (length-block_at blocks b)

-- the front of a buffer that is filled has the bytes in the cells
pub take-filled : (blocks : List (List ℕ)) (cs : List Cell) (buffer : List ℕ)
    → take (length cs) (filled_buffer blocks cs buffer) ≡ bytes_at blocks cs
take-filled blocks cs buffer =
    take_at (bytes_at blocks cs) (drop (length cs) buffer) (length cs) (length-bytes_at blocks cs)

-- what lies after the front is as it was
pub drop-filled : (blocks : List (List ℕ)) (cs : List Cell) (buffer : List ℕ)
    → drop (length cs) (filled_buffer blocks cs buffer) ≡ drop (length cs) buffer
drop-filled blocks cs buffer =
    drop_at (bytes_at blocks cs) (drop (length cs) buffer) (length cs) (length-bytes_at blocks cs)

-- a buffer is filled by some cells, and what lies after them by more
pub filled-append : (blocks : List (List ℕ)) (xs ys : List Cell) (buffer : List ℕ)
    → filled_buffer blocks (xs ++ ys) buffer ≡ take (length xs) (filled_buffer blocks xs buffer)
    ++ filled_buffer blocks ys (drop (length xs) buffer)
filled-append blocks xs ys buffer =
    rw (
      take-filled blocks xs buffer,
      drop-drop (length ys) (length xs) buffer,
      bytes_at-append blocks xs ys,
      length-append xs ys,
      append_assoc (bytes_at blocks xs) (bytes_at blocks ys)
          (drop (length xs + length ys) buffer),
    )

-- the same, where the buffer is at hand as the first cells left it
pub filled_more : (blocks : List (List ℕ)) (xs ys : List Cell) (buffer now : List ℕ)
    → now ≡ filled_buffer blocks xs buffer
    → take (length xs) now ++ filled_buffer blocks ys (drop (length xs) now) ≡ filled_buffer blocks (xs ++ ys) buffer
filled_more blocks xs ys buffer now h = rw (h, drop-filled blocks xs buffer) (sym (filled-append blocks xs ys buffer))

-- a block that has a byte at an offset is there
pub is_block : (blocks : List (List ℕ)) (b o : ℕ) → o < length (block_at blocks b) → b < length blocks
is_block [] b o h = absurd (omega arith)
is_block (block ∷ blocks) zero o h = omega arith
is_block (block ∷ blocks) (suc b) o h = let k = is_block blocks b o h in omega arith

-- a byte that is written is there afterwards
pub byte_at-with_byte_same : (blocks : List (List ℕ)) (c : Cell) (byte : ℕ)
    → c.offset < length (block_at blocks c.block) → byte_at (with_byte blocks c byte) c ≡ byte
byte_at-with_byte_same blocks c byte h =
    let b = is_block blocks c.block c.offset h in
    ap (λ (bs : List ℕ). get_or bs c.offset 0)
    (get_or-set_same blocks c.block (set (block_at blocks c.block) c.offset byte) [] b)
    ∙ get_or-set_same (block_at blocks c.block) c.offset byte 0 h

same_cell : (c d : Cell) → c.block ≡ d.block → c.offset ≡ d.offset → c ≡ d
same_cell c d p q = ap₂ (λ (b o : ℕ). record { block = b; offset = o }) p q

-- a block after a byte of that block was written
block_at-set : (blocks : List (List ℕ)) (b o byte : ℕ)
    → block_at (set blocks b (set (block_at blocks b) o byte)) b ≡ set (block_at blocks b) o byte
block_at-set [] b o byte = refl
block_at-set (block ∷ blocks) zero o byte = refl
block_at-set (block ∷ blocks) (suc b) o byte = block_at-set blocks b o byte

-- a byte that is written changes no other
pub byte_at-with_byte_other : (blocks : List (List ℕ)) (c d : Cell) (byte : ℕ) → (c ≡ d → ⊥)
    → byte_at (with_byte blocks d byte) c ≡ byte_at blocks c
byte_at-with_byte_other blocks c d byte h = elim (cases_eq c.block d.block) [
  | inl p ↦
      let q : c.offset ≢ d.offset = λ (q : c.offset ≡ d.offset). h (same_cell c d p q) in
      rw (p, block_at-set blocks d.block d.offset byte)
      (get_or-set_other (block_at blocks d.block) d.offset c.offset byte 0 q)
  | inr p ↦
      ap (λ (bs : List ℕ). get_or bs c.offset 0)
      (get_or-set_other blocks d.block c.block (set (block_at blocks d.block) d.offset byte) [] p)
]

-- a byte that no cell names stays
pub byte_at-written_other : (cs : List Cell) (bytes : List ℕ) (blocks : List (List ℕ)) (c : Cell) → (Contains cs c → ⊥)
    → byte_at (written cs bytes blocks) c ≡ byte_at blocks c
byte_at-written_other [] bytes blocks c h = refl
byte_at-written_other (d ∷ cs) [] blocks c h = refl
byte_at-written_other (d ∷ cs) (b ∷ bytes) blocks c h =
    let first : c ≡ d → ⊥ = λ (p : c ≡ d). h (0, omega arith, sym p) in
    let later : Contains cs c → ⊥ = λ (m : Contains cs c). h (suc m.0, omega arith, m.2) in
    byte_at-written_other cs bytes (with_byte blocks d b) c later ∙ byte_at-with_byte_other blocks c d b first

-- the last write to a cell wins
pub byte_at-written_last : (xs ys : List Cell) (bs cs : List ℕ) (c : Cell) (byte : ℕ) (blocks : List (List ℕ))
    → length xs ≡ length bs → (Contains ys c → ⊥) → c.offset < length (block_at blocks c.block)
    → byte_at (written (xs ++ (c ∷ ys)) (bs ++ (byte ∷ cs)) blocks) c ≡ byte
byte_at-written_last xs ys bs cs c byte blocks h none inside =
    let now = written xs bs blocks in
    let k : c.offset < length (block_at now c.block) = rw length-block_at-written inside in
    rw (written-append xs (c ∷ ys) bs (byte ∷ cs) blocks h)
    (byte_at-written_other ys cs (with_byte now c byte) c none ∙ byte_at-with_byte_same now c byte k)

distinct_first : (c : Cell) (cs : List Cell) → AllPairs (λ (c d : Cell). c ≢ d) (c ∷ cs) → Contains cs c → ⊥
distinct_first c cs h m = h 0 (suc m.0) c (omega arith) (omega arith) (sym m.2)

distinct_rest : (c : Cell) (cs : List Cell) → AllPairs (λ (c d : Cell). c ≢ d) (c ∷ cs)
    → AllPairs (λ (c d : Cell). c ≢ d) cs
distinct_rest c cs h i j d l k = h (suc i) (suc j) d (omega arith) (omega arith)

-- what was written is read back where each cell is met once
pub bytes_at-written : (cs : List Cell) (bytes : List ℕ) (blocks : List (List ℕ)) → AllPairs (λ (c d : Cell). c ≢ d) cs
    → All (λ (c : Cell). c.offset < length (block_at blocks c.block)) cs → length bytes ≡ length cs
    → bytes_at (written cs bytes blocks) cs ≡ bytes
bytes_at-written [] [] blocks distinct inside h = refl
bytes_at-written [] (b ∷ bytes) blocks distinct inside h = absurd (omega arith)
bytes_at-written (c ∷ cs) [] blocks distinct inside h = absurd (omega arith)
bytes_at-written (c ∷ cs) (b ∷ bytes) blocks distinct inside h =
    let next = with_byte blocks c b in
    let here = All-head (λ (c : Cell). c.offset < length (block_at blocks c.block)) c cs inside in
    let first = byte_at-written_other cs bytes next c (distinct_first c cs distinct)
    ∙ byte_at-with_byte_same blocks c b here in
    let same : (d : Cell) → d.offset < length (block_at blocks d.block) → d.offset < length (block_at next d.block) =
    λ d l. rw (length-block_at-written (c ∷ []) (b ∷ []) blocks d.block) l in
    let within = All-weaker (λ (c : Cell). c.offset < length (block_at blocks c.block))
    (λ (c : Cell). c.offset < length (block_at next c.block)) same cs
    (All-tail (λ (c : Cell). c.offset < length (block_at blocks c.block)) c cs inside) in
    ap₂ (λ (x : ℕ) (xs : List ℕ). x ∷ xs) first
    (bytes_at-written cs bytes next (distinct_rest c cs distinct) within (omega arith))

-- one window has its own cells
pub cells-one : (w : Window) → cells (w ∷ []) ≡ cells_of w
cells-one w = append-nil (cells_of w)
