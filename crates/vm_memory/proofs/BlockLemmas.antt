-- The bytes of a whole block.
use Rattle.std.proofs.Common.{◌≡◌, ℕ, List, length, ◌∙◌, arith}
use Rattle.std.proofs.lemmas.List.{take_all}
use Rattle.vm_memory_guest.specs.Host.{block_at, bytes_at}
use Rattle.vm_memory_guest.specs.Window.{block_window, cells_of}
use Rattle.vm_memory_guest.proofs.WrittenLaws.{bytes_at-block}

-- all bytes of a block are a window of it
pub whole_bytes : (blocks : List (List ℕ)) (block n : ℕ) → n ≡ length (block_at blocks block)
    → bytes_at blocks (cells_of (block_window block 0 n)) ≡ block_at blocks block
whole_bytes blocks block n size =
    bytes_at-block block 0 n blocks (omega arith) ∙ take_all n (block_at blocks block) (omega arith)
