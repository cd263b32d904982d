-- Blocks as vectors, and as the lists of their bytes.
use Rattle.std.proofs.Common.{◌≡◌, ℕ, zero, suc, List, [], ◌∷◌, map, length, get_or, refl, ap, take, ◌∙◌, add-zero}
use Rattle.vm_memory_guest.specs.Host.{Host, block_at, bytes_at, written}
use Rattle.vm_memory_guest.specs.Window.{Window, cells, cells_of, span, Writes}
use Rattle.vm_memory_guest.proofs.WrittenLaws.{written-take, length-cells, length-bytes_at, length-cells_from, span-cons}

-- the length of a block, as its host's shape has it
pub slice_index-lengths : (blocks : List (List ℕ)) (block : ℕ)
    → get_or (map length blocks) block 0 ≡ length (block_at blocks block)
slice_index-lengths [] block = refl
slice_index-lengths (bytes ∷ blocks) zero = refl
slice_index-lengths (bytes ∷ blocks) (suc block) = slice_index-lengths blocks block

pub ruleset block_lemmas = slice_index-lengths

-- bytes past the windows are ignored
pub Writes-taken : {B : Type 0} (marks : B → ℕ → ℕ → B → Type 0) (ws : List Window) (bytes : List ℕ) (old new : Host B)
    → Writes marks ws (take (span ws) bytes) old new → Writes marks ws bytes old new
Writes-taken marks ws bytes old new writes =
    let same : written (cells ws) bytes old.blocks ≡ written (cells ws) (take (span ws) bytes) old.blocks =
    written-take (cells ws) bytes old.blocks
    ∙ ap (λ n. written (cells ws) (take n bytes) old.blocks) (length-cells ws) in
    rw same writes

-- a window of whose bytes there are as many as it has
pub length-bytes : (blocks : List (List ℕ)) (w : Window) → length (bytes_at blocks (cells_of w)) ≡ w.size
length-bytes blocks w = length-bytes_at blocks (cells_of w) ∙ length-cells_from w.block.0 w.offset w.size

-- one window has as many bytes as it has
pub span-one : (w : Window) → span (w ∷ []) ≡ w.size
span-one w = span-cons w [] ∙ add-zero w.size
