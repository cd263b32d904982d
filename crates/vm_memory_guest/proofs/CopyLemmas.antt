-- Copies from one block to another, and inside one.
use Rattle.std.proofs.Common.{◌≡◌, ℕ, ◌+◌, ◌-◌, ◌<◌, ◌≤◌, List, [], ◌++◌, map, length, get_or, set, take, drop, refl, sym, ap, ◌∙◌, arith, length-drop, length-take-le, length-set, Vec}
use Rattle.std.proofs.lemmas.List.{get_or-map, length-map, set-append_left, set-append_right, get_or-append_right, get_or_append_left, with_items_is}
use Rattle.std.specs.Vec.{with_item, with_items}
use Rattle.std.specs.declared.alloc.Global.{Global}
use Rattle.vm_memory_guest.specs.Host.{block_at, bytes_at, cells_from, written}
use Rattle.vm_memory_guest.specs.BlockBytes.{bytes_of, with_bytes}
use Rattle.vm_memory_guest.specs.declared.host.block_bytes.BlockBytes.{BlockBytes}
use Rattle.vm_memory_guest.specs.Inside.{blocks_of}
use Rattle.vm_memory_guest.proofs.WrittenLaws.{bytes_at-block, length-bytes_at, length-cells_from, put-block}

-- a block is its vector's bytes
block-vec : (blocks : Vec BlockBytes Global) (block : ℕ) (v d : BlockBytes) → block < length blocks.items
    → v ≡ get_or blocks.items block d → (bytes_of v) ≡ block_at (blocks_of blocks) block
block-vec blocks block v d there is = ap bytes_of is
    ∙ sym (get_or-map bytes_of blocks.items block d [] there)

-- a block of which a part is replaced by bytes of a block
pub moved : (blocks : Vec BlockBytes Global) (items : List BlockBytes) (source from target to len : ℕ)
    (s t d e : BlockBytes) (old bytes new : List ℕ)
    → source < length blocks.items → target < length blocks.items
    → s ≡ get_or blocks.items source d → t ≡ get_or blocks.items target e
    → from + len ≤ length (block_at (blocks_of blocks) source) → to + len ≤ length (block_at (blocks_of blocks) target)
    → bytes ≡ take (from + len - from) (drop from (bytes_of s)) → old ≡ (bytes_of t)
    → new ≡ take to old ++ bytes ++ drop (to + length bytes) old
    → items ≡ set blocks.items target (with_bytes t new)
    → blocks_of (with_items blocks items)
    ≡ written (cells_from target to len) (bytes_at (blocks_of blocks) (cells_from source from len)) (blocks_of blocks)
moved blocks items source from target to len s t d e old bytes new there here s_is t_is readable writable taken old_is
    put items_is =
    let all = blocks_of blocks in
    let source_is = block-vec blocks source s d there s_is in
    let target_is = block-vec blocks target t e here t_is in
    let count : from + len - from ≡ len = omega arith in
    let bytes_are : bytes ≡ bytes_at all (cells_from source from len) =
    taken ∙ rw (count, source_is) (sym (bytes_at-block source from len all readable)) in
    let long : length bytes ≡ len =
    let a = ap length taken in
    let b = length-drop from (bytes_of s) in
    let c = ap length source_is in
    let d = length-take-le (from + len - from) (drop from (bytes_of s)) (omega arith) in
    omega arith in
    let whole = block_at all target in
    let same : old ≡ whole = old_is ∙ target_is in
    let within : to + length bytes ≤ length whole = omega arith in
    let new_is : new ≡ take to whole ++ bytes ++ drop (to + length bytes) whole =
    put ∙ ap (λ (b : List ℕ). take to b ++ bytes ++ drop (to + length bytes) b) same in
    let items_kept : length items ≡ blocks.len =
    let a = ap length items_is in
    let b = length-set blocks.items target (with_bytes t new) in
    let c = blocks.ok.0 in
    omega arith in
    let in_range : target < length all = rw (length-map blocks.items bytes_of) here in
    ap (map bytes_of) (with_items_is blocks items items_kept ∙ items_is)
    ∙ (put-block blocks.items target to t bytes new in_range target_is within new_is ∙ rw (long, bytes_are) refl)

-- a block of which a part is replaced by bytes of its own
pub moved-inside : (blocks : Vec BlockBytes Global) (block from to len : ℕ) (all : BlockBytes) (old new : List ℕ)
    → block < length (blocks_of blocks) → (bytes_of all) ≡ block_at (blocks_of blocks) block → old ≡ (bytes_of all)
    → from + len ≤ length (block_at (blocks_of blocks) block) → to + len ≤ length (block_at (blocks_of blocks) block)
    → new ≡ take to old ++ take len (drop from old) ++ drop (to + len) old
    → blocks_of (with_item blocks block (with_bytes all new))
    ≡ written (cells_from block to len) (bytes_at (blocks_of blocks) (cells_from block from len)) (blocks_of blocks)
moved-inside blocks block from to len all old new there same is readable writable put =
    let bs = blocks_of blocks in
    let whole = block_at bs block in
    let bytes = bytes_at bs (cells_from block from len) in
    let bytes_are : take len (drop from old) ≡ bytes =
    ap (λ (b : List ℕ). take len (drop from b)) (is ∙ same) ∙ sym (bytes_at-block block from len bs readable) in
    let long : length bytes ≡ len = length-bytes_at bs (cells_from block from len) ∙ length-cells_from block from len in
    let within : to + length bytes ≤ length whole = omega arith in
    let new_is : new ≡ take to whole ++ bytes ++ drop (to + length bytes) whole =
    put ∙ rw (bytes_are, long, is, same) refl in
    put-block blocks.items block to all bytes new there same within new_is
    ∙ ap (λ (n : ℕ). written (cells_from block to n) bytes bs) long

module _ (blocks low high : List BlockBytes) (split : blocks ≡ low ++ high) where
  -- what lies in the two parts of a list, and what a write to one of them makes of it
  pub low-at : (i : ℕ) (d : BlockBytes) → i < length low → get_or low i d ≡ get_or blocks i d
  low-at i d inside = sym
      (ap (λ (xs : List BlockBytes). get_or xs i d) split ∙ get_or_append_left low high d i inside)

  pub high-at : (i : ℕ) (d : BlockBytes) → length low ≡ i → get_or high 0 d ≡ get_or blocks i d
  high-at i d seam =
      let none : i - i ≡ 0 = omega arith in
      sym (ap (λ (xs : List BlockBytes). get_or xs i d) split
      ∙ get_or-append_right low high i i d seam (omega arith) ∙ ap (λ (k : ℕ). get_or high k d) none)

  pub set-low : (i : ℕ) (v : BlockBytes) → i < length low → set low i v ++ high ≡ set blocks i v
  set-low i v inside = sym (ap (λ (xs : List BlockBytes). set xs i v) split ∙ set-append_left low high i v inside)

  pub set-high : (i : ℕ) (v : BlockBytes) → length low ≡ i → low ++ set high 0 v ≡ set blocks i v
  set-high i v seam =
      let none : i - i ≡ 0 = omega arith in
      sym (ap (λ (xs : List BlockBytes). set xs i v) split ∙ set-append_right low high i i v seam (omega arith)
      ∙ ap (λ (k : ℕ). low ++ set high k v) none)
