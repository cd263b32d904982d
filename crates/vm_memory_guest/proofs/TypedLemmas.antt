-- Values that are moved into blocks and out of them.
use Rattle.std.proofs.Common.{◌≡◌, ℕ, ◌+◌, ◌-◌, ◌<◌, ◌≤◌, List, [], ◌∷◌, ◌++◌, map, length, take, drop, replicate, Ok, refl, sym, ap, ◌∙◌, subst, arith, append_assoc, drop-drop, length-drop, length-take-le, Vec}
use Rattle.std.specs.Vec.{with_item}
use Rattle.std.specs.declared.alloc.Global.{Global}
use Rattle.vm_memory_base.specs.declared.io.VolatileMemoryError.TheVariants.{PartialBuffer}
use Rattle.vm_memory_base.specs.Table.{Table}
use Rattle.vm_memory_guest.specs.Answer.{window_reach}
use Rattle.vm_memory_guest.specs.Transfer.{all_of, ended}
use Rattle.vm_memory_guest.specs.Typed.{answered}
use Rattle.vm_memory_guest.specs.Host.{Cell, Host, Shape, block_at, bytes_at, cells_from, written}
use Rattle.vm_memory_guest.specs.BlockBytes.{bytes_of, with_bytes}
use Rattle.vm_memory_guest.specs.declared.host.block_bytes.BlockBytes.{BlockBytes}
use Rattle.vm_memory_guest.specs.Inside.{IsSound, blocks_of}
use Rattle.vm_memory_guest.specs.Window.{Window, MarksWindow, Writes, cells, cells_of, span}
use Rattle.vm_memory_guest.proofs.MarkLaws.{Writes-one}
use Rattle.vm_memory_guest.proofs.WrittenLaws.{bytes_at-block, put-block, written-take, lengths-written, length-cells_from}

-- a block of which a part is replaced by as many bytes
block-put : (blocks : Vec BlockBytes Global) (block offset len : ℕ) (all : BlockBytes) (old bytes : List ℕ)
    → block < length (blocks_of blocks) → (bytes_of all) ≡ block_at (blocks_of blocks) block → old ≡ (bytes_of all)
    → length bytes ≡ len
    → offset + len ≤ length (block_at (blocks_of blocks) block)
    → blocks_of (with_item blocks block
    (with_bytes all (take offset old ++ (bytes ++ drop (offset + len - offset) (drop offset old)))))
    ≡ written (cells_from block offset len) bytes (blocks_of blocks)
block-put blocks block offset len all old bytes there is same long within =
    let whole = block_at (blocks_of blocks) block in
    let count : offset + len - offset ≡ len = omega arith in
    let new = take offset whole ++ bytes ++ drop (offset + length bytes) whole in
    let back : drop (offset + len - offset) (drop offset old) ≡ drop (offset + length bytes) whole =
    ap (λ (k : ℕ). drop k (drop offset old)) (count ∙ sym long) ∙ drop-drop (length bytes) offset old
    ∙ ap (drop (offset + length bytes)) (same ∙ is) in
    let moved : take offset old ++ (bytes ++ drop (offset + len - offset) (drop offset old)) ≡ new =
    rw (back, same, is) (sym (append_assoc (take offset whole) bytes (drop (offset + length bytes) whole))) in
    let here : offset + length bytes ≤ length whole = omega arith in
    rw moved (put-block blocks.items block offset all bytes new there is here refl
    ∙ ap (λ (n : ℕ). written (cells_from block offset n) bytes (blocks_of blocks)) long)

-- a part of a block that is lent to change: its bytes, how many, and what the blocks are once it was changed
module _ (blocks : Vec BlockBytes Global) (block offset len : ℕ) (all : BlockBytes) (old : List ℕ) where
  abbrev there_lent : List ℕ
  there_lent = take (offset + len - offset) (drop offset old)

  pub record Place : Type 0 where
    pub lent : there_lent ≡ bytes_at (blocks_of blocks) (cells_from block offset len)
    pub long : length there_lent ≡ len
    pub put : (bytes : List ℕ) → length bytes ≡ length there_lent
        → blocks_of (with_item blocks block
        (with_bytes all (take offset old ++ (bytes ++ drop (offset + len - offset) (drop offset old)))))
        ≡ written (cells_from block offset len) bytes (blocks_of blocks)

  pub place : block < length (blocks_of blocks) → (bytes_of all) ≡ block_at (blocks_of blocks) block → old ≡ (bytes_of all)
      → offset + len ≤ length (block_at (blocks_of blocks) block) → Place
  place there is same within =
      let whole : length old ≡ length (block_at (blocks_of blocks) block) = ap length (same ∙ is) in
      let rest = length-drop offset old in
      let enough : offset + len - offset ≤ length (drop offset old) = omega arith in
      let taken = length-take-le (offset + len - offset) (drop offset old) enough in
      let long : length there_lent ≡ len = omega arith in
      let count : offset + len - offset ≡ len = omega arith in
      record {
        lent = rw (count, same, is) (sym (bytes_at-block block offset len (blocks_of blocks) within));
        long = long;
        put = λ bytes kept. block-put blocks block offset len all old bytes there is same (kept ∙ long) within;
      }

-- a host stays sound where bytes are put at cells
pub sound-written : {B : Type 0} (cells : List Cell) (bytes : List ℕ) (old new : List (List ℕ))
    → new ≡ written cells bytes old → (bitmaps spaces : List B) (tables : List Table) (shape : Shape)
    → IsSound shape old bitmaps spaces tables → IsSound shape new bitmaps spaces tables
sound-written cells bytes old new is bitmaps spaces tables shape sound =
    let same : map length new ≡ map length old = ap (map length) is ∙ lengths-written cells bytes old in record {
      lengths = rw same sound.lengths;
      spaces_counted = sound.spaces_counted;
      tables_counted = sound.tables_counted;
      tracked = rw same sound.tracked;
      sized = rw same sound.sized;
    }

-- the window is marked after the write of its bytes
pub Writes-put : {B : Type 0} (marks : B → ℕ → ℕ → B → Type 0) (w : Window) (bytes : List ℕ) (old put new : Host B)
    (k : ℕ) → k ≡ w.size
    → put ≡ record old { blocks = written (cells_of w) (take k bytes) old.blocks } → MarksWindow marks w put new
    → Writes marks (w ∷ []) bytes old new
Writes-put {B} marks w bytes old put new k all is marked =
    let count : k ≡ length (cells_of w) = all ∙ sym (length-cells_from w.block.0 w.offset w.size) in
    let same : written (cells_of w) (take k bytes) old.blocks ≡ written (cells_of w) bytes old.blocks =
    ap (λ (n : ℕ). written (cells_of w) (take n bytes) old.blocks) count
    ∙ sym (written-take (cells_of w) bytes old.blocks) in
    Writes-one marks w bytes old new
    (subst (λ (h : Host B). MarksWindow marks w h new)
    (is ∙ ap (λ (bs : List (List ℕ)). record old { blocks = bs }) same) marked)

-- a value of no bytes is read anywhere
pub empty-value : {V : Type 0} (value_of : List ℕ → V) (w : Window) (offset width : ℕ) (blocks : List (List ℕ))
    (value : V) (bytes : List ℕ)
    → width ≡ 0 → bytes ≡ replicate width 0 → value_of bytes ≡ value
    → let r = window_reach w offset width in
    Ok value ≡ answered (λ done. value_of (bytes_at blocks (cells r.windows)))
    (all_of PartialBuffer width (ended (span r.windows) r.fault))
empty-value {V} value_of w offset width blocks value bytes none zeros same =
    let empty : bytes ≡ [] = zeros ∙ ap (λ (n : ℕ). replicate n 0) none in
    rw none (ap (λ (v : V). Ok v) (sym same ∙ ap value_of empty))
