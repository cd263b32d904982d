-- Marks of bitmaps by windows, and writes.
use Rattle.std.proofs.Common.{◌≡◌, ℕ, Bool, true, false, ltb, List, [], ◌∷◌, ◌++◌, map, length, take, MatchBool, refl, sym, ap, subst, ◌∙◌, length-set}
use Rattle.vm_memory_base.specs.declared.bitmap.BitmapId.{BitmapId}
use Rattle.vm_memory_base.specs.declared.bitmap.BitmapId.TheVariants.{Block, Space}
use Rattle.vm_memory_base.specs.Table.{Table}
use Rattle.vm_memory_guest.specs.Host.{Host, Cell, shape_of, written}
use Rattle.vm_memory_guest.specs.Window.{span, cells, MarksOne, Marks, MarksWindow, MarksAll, Writes, Window, cells_of}
use Rattle.vm_memory_guest.proofs.WrittenLaws.{cells-one, written-append, written-take, lengths-written, cells-append, length-cells}

-- a case for each answer of a test, each followed by what it says
match_bool-weaker : (b : Bool) (P Q R S : Type 0) → (P → R) → (Q → S) → MatchBool b P Q → MatchBool b R S
match_bool-weaker true P Q R S f g h = f h
match_bool-weaker false P Q R S f g h = g h

match_bool-either : (b : Bool) (P Q R : Type 0) → (P → R) → (Q → R) → MatchBool b P Q → R
match_bool-either true P Q R f g h = f h
match_bool-either false P Q R f g h = g h

written-span : (ws : List Window) (bytes : List ℕ) (blocks : List (List ℕ))
    → written (cells ws) bytes blocks ≡ written (cells ws) (take (span ws) bytes) blocks
written-span ws bytes blocks = written-take (cells ws) bytes blocks
    ∙ ap (λ (n : ℕ). written (cells ws) (take n bytes) blocks) (length-cells ws)

shape_from : {B : Type 0} (old new : Host B) → map length new.blocks ≡ map length old.blocks
    → length new.spaces ≡ length old.spaces → new.tables ≡ old.tables → shape_of new ≡ shape_of old
shape_from old new p q r = let t = ap (λ (ts : List Table). length ts) r in cc

-- bytes that are written keep the shape
pub shape_of-written : {B : Type 0} (cs : List Cell) (bytes : List ℕ) (host : Host B)
    → shape_of (record host { blocks = written cs bytes host.blocks }) ≡ shape_of host
shape_of-written cs bytes host =
    shape_from host (record host { blocks = written cs bytes host.blocks })
    (lengths-written cs bytes host.blocks) refl refl

module _ {B : Type 0} (marks : B → ℕ → ℕ → B → Type 0) where
  -- marks of windows joined end to end are the marks of the first and then of the others
  pub MarksAll-append : (ws vs : List Window) (old mid new : Host B) → MarksAll marks ws old mid
      → MarksAll marks vs mid new → MarksAll marks (ws ++ vs) old new
  MarksAll-append [] vs old mid new h k = subst (λ (x : Host B). MarksAll marks vs x new) h k
  MarksAll-append (w ∷ ws) vs old mid new h k = (h.0, h.1, MarksAll-append ws vs h.0 mid new h.2 k)

  -- a mark does not look at the blocks
  Marks-with_blocks : (id : BitmapId) (offset len : ℕ) (old new : Host B) (blocks : List (List ℕ))
      → Marks marks id offset len old new
      → Marks marks id offset len (record old { blocks = blocks }) (record new { blocks = blocks })
  Marks-with_blocks (Block block) offset len old new blocks h =
      (h.0, h.1, ap (λ (x : Host B). record x { blocks = blocks }) h.2)
  Marks-with_blocks (Space space) offset len old new blocks h =
      (h.0, h.1, ap (λ (x : Host B). record x { blocks = blocks }) h.2)

  MarksWindow-with_blocks : (w : Window) (old new : Host B) (blocks : List (List ℕ)) → MarksWindow marks w old new
      → MarksWindow marks w (record old { blocks = blocks }) (record new { blocks = blocks })
  MarksWindow-with_blocks w old new blocks h =
      match_bool-weaker (ltb 0 w.size) (Marks marks w.bitmap.id w.bitmap.base w.size old new) (new ≡ old)
      (Marks marks w.bitmap.id w.bitmap.base w.size (record old { blocks = blocks }) (record new { blocks = blocks }))
      (record new { blocks = blocks } ≡ record old { blocks = blocks })
      (Marks-with_blocks w.bitmap.id w.bitmap.base w.size old new blocks)
      (λ (e : new ≡ old). ap (λ (x : Host B). record x { blocks = blocks }) e)
      h

  -- marks do not look at the blocks
  pub MarksAll-with_blocks : (ws : List Window) (old new : Host B) (blocks : List (List ℕ)) → MarksAll marks ws old new
      → MarksAll marks ws (record old { blocks = blocks }) (record new { blocks = blocks })
  MarksAll-with_blocks [] old new blocks h = ap (λ (x : Host B). record x { blocks = blocks }) h
  MarksAll-with_blocks (w ∷ ws) old new blocks h = (
    record (h.0) { blocks = blocks },
    MarksWindow-with_blocks w old h.0 blocks h.1,
    MarksAll-with_blocks ws h.0 new blocks h.2,
  )

  -- what marks keep of a host
  record Kept (old new : Host B) : Type 0 where
    blocks : new.blocks ≡ old.blocks
    bitmaps : length new.bitmaps ≡ length old.bitmaps
    spaces : length new.spaces ≡ length old.spaces
    tables : new.tables ≡ old.tables

  kept_same : (old new : Host B) → new ≡ old → Kept old new
  kept_same old new e = record {
    blocks = ap (λ (x : Host B). x.blocks) e;
    bitmaps = ap (λ (x : Host B). length x.bitmaps) e;
    spaces = ap (λ (x : Host B). length x.spaces) e;
    tables =
        ap (λ (x : Host B). x.tables) e;
  }

  kept_more : (old mid new : Host B) → Kept old mid → Kept mid new → Kept old new
  kept_more old mid new h k =
      record {
        blocks = k.blocks ∙ h.blocks;
        bitmaps = k.bitmaps ∙ h.bitmaps;
        spaces = k.spaces
            ∙ h.spaces;
        tables = k.tables ∙ h.tables;
      }

  length-MarksOne : (number offset len : ℕ) (old new : List B) → MarksOne marks number offset len old new
      → length new ≡ length old
  length-MarksOne number offset len old new h = ap (λ (bs : List B). length bs) h.is ∙ length-set old number h.after

  Kept-Marks : (id : BitmapId) (offset len : ℕ) (old new : Host B) → Marks marks id offset len old new → Kept old new
  Kept-Marks (Block block) offset len old new h =
      record {
        blocks = ap (λ (x : Host B). x.blocks) h.2;
        bitmaps = ap (λ (x : Host B). length x.bitmaps) h.2
            ∙ length-MarksOne block offset len old.bitmaps h.0 h.1;
        spaces = ap (λ (x : Host B). length x.spaces) h.2;
        tables = ap (λ (x : Host B). x.tables) h.2;
      }
  Kept-Marks (Space space) offset len old new h =
      record {
        blocks = ap (λ (x : Host B). x.blocks) h.2;
        bitmaps = ap (λ (x : Host B). length x.bitmaps) h.2;
        spaces = ap (λ (x : Host B). length x.spaces) h.2
            ∙ length-MarksOne space offset len old.spaces h.0 h.1;
        tables = ap (λ (x : Host B). x.tables) h.2;
      }

  Kept-MarksWindow : (w : Window) (old new : Host B) → MarksWindow marks w old new → Kept old new
  Kept-MarksWindow w old new h =
      match_bool-either (ltb 0 w.size) (Marks marks w.bitmap.id w.bitmap.base w.size old new) (new ≡ old) (Kept old new)
      (Kept-Marks w.bitmap.id w.bitmap.base w.size old new) (kept_same old new) h

  Kept-MarksAll : (ws : List Window) (old new : Host B) → MarksAll marks ws old new → Kept old new
  Kept-MarksAll [] old new h = kept_same old new h
  Kept-MarksAll (w ∷ ws) old new h =
      kept_more old h.0 new (Kept-MarksWindow w old h.0 h.1) (Kept-MarksAll ws h.0 new h.2)

  -- marks leave the blocks
  pub blocks-MarksAll : (ws : List Window) (old new : Host B) → MarksAll marks ws old new → new.blocks ≡ old.blocks
  blocks-MarksAll ws old new h = (Kept-MarksAll ws old new h).blocks

  -- marks leave the tables
  pub tables-MarksAll : (ws : List Window) (old new : Host B) → MarksAll marks ws old new → new.tables ≡ old.tables
  tables-MarksAll ws old new h = (Kept-MarksAll ws old new h).tables

  -- there are as many bitmaps of blocks after marks
  pub length_bitmaps-MarksAll : (ws : List Window) (old new : Host B) → MarksAll marks ws old new
      → length new.bitmaps ≡ length old.bitmaps
  length_bitmaps-MarksAll ws old new h = (Kept-MarksAll ws old new h).bitmaps

  pub shape_of-MarksAll : (ws : List Window) (old new : Host B) → MarksAll marks ws old new
      → shape_of new ≡ shape_of old
  shape_of-MarksAll ws old new h =
      let k = Kept-MarksAll ws old new h in
      shape_from old new (ap (λ (bs : List (List ℕ)). map length bs) k.blocks) k.spaces k.tables

  -- a write keeps the shape
  pub shape_of-Writes : (ws : List Window) (bytes : List ℕ) (old new : Host B) → Writes marks ws bytes old new
      → shape_of new ≡ shape_of old
  shape_of-Writes ws bytes old new h =
      shape_of-MarksAll ws (record old { blocks = written (cells ws) bytes old.blocks }) new h
      ∙ shape_of-written (cells ws) bytes old

  -- a write leaves the tables
  pub tables-Writes : (ws : List Window) (bytes : List ℕ) (old new : Host B) → Writes marks ws bytes old new
      → new.tables ≡ old.tables
  tables-Writes ws bytes old new h =
      tables-MarksAll ws (record old { blocks = written (cells ws) bytes old.blocks }) new h

  -- there are as many bitmaps of blocks after a write
  pub length_bitmaps-Writes : (ws : List Window) (bytes : List ℕ) (old new : Host B) → Writes marks ws bytes old new
      → length new.bitmaps ≡ length old.bitmaps
  length_bitmaps-Writes ws bytes old new h =
      length_bitmaps-MarksAll ws (record old { blocks = written (cells ws) bytes old.blocks }) new h

  -- a write leaves its bytes in the blocks
  pub blocks-Writes : (ws : List Window) (bytes : List ℕ) (old new : Host B) → Writes marks ws bytes old new
      → new.blocks ≡ written (cells ws) bytes old.blocks
  blocks-Writes ws bytes old new h =
      blocks-MarksAll ws (record old { blocks = written (cells ws) bytes old.blocks }) new h

  -- two writes one after the other are one write
  pub Writes-append : (ws vs : List Window) (bs cs : List ℕ) (old mid new : Host B) → length bs ≡ span ws
      → Writes marks ws bs old mid → Writes marks vs cs mid new → Writes marks (ws ++ vs) (bs ++ cs) old new
  Writes-append ws vs bs cs old mid new e h k =
      let whole = written (cells vs) cs mid.blocks in
      let marked : MarksAll marks ws (record old { blocks = whole }) (record mid { blocks = whole }) =
      MarksAll-with_blocks ws (record old { blocks = written (cells ws) bs old.blocks }) mid whole h in
      let f : length (cells ws) ≡ length bs = length-cells ws ∙ sym e in
      let same : whole ≡ written (cells (ws ++ vs)) (bs ++ cs) old.blocks =
      rw (cells-append ws vs, written-append (cells ws) (cells vs) bs cs old.blocks f, blocks-Writes ws bs old mid h) in
      subst (λ (blocks : List (List ℕ)). MarksAll marks (ws ++ vs) (record old { blocks = blocks }) new) same
      (MarksAll-append ws vs (record old { blocks = whole }) (record mid { blocks = whole }) new marked k)

  -- bytes past the windows are ignored
  pub Writes-take : (ws : List Window) (bytes : List ℕ) (old new : Host B) → Writes marks ws bytes old new
      → Writes marks ws (take (span ws) bytes) old new
  Writes-take ws bytes old new h =
      subst (λ (blocks : List (List ℕ)). MarksAll marks ws (record old { blocks = blocks }) new)
      (written-span ws bytes old.blocks) h

  -- a write of as many bytes as the windows have is a write of all bytes
  pub Writes-from_take : (ws : List Window) (bytes : List ℕ) (old new : Host B)
      → Writes marks ws (take (span ws) bytes) old new → Writes marks ws bytes old new
  Writes-from_take ws bytes old new h =
      subst (λ (blocks : List (List ℕ)). MarksAll marks ws (record old { blocks = blocks }) new)
      (sym (written-span ws bytes old.blocks)) h

  -- a write to one window
  pub Writes-one : (w : Window) (bytes : List ℕ) (old new : Host B)
      → MarksWindow marks w (record old { blocks = written (cells_of w) bytes old.blocks }) new
      → Writes marks (w ∷ []) bytes old new
  Writes-one w bytes old new h = (new, rw (cells-one w) h, refl)
