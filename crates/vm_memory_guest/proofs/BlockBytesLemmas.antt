-- The bytes of a block, written as a whole.
use Rattle.std.proofs.Common.{◌≡◌, ℕ, List, length, sym, ◌∙◌}
use Rattle.std.proofs.lemmas.List.{with_items_is}
use Rattle.vm_memory_guest.specs.BlockBytes.{bytes_of, with_bytes}
use Rattle.vm_memory_guest.specs.declared.host.block_bytes.BlockBytes.{BlockBytes}
use Rattle.vm_memory_guest.specs.declared.host.block_bytes.BlockBytes.TheVariants.{Owned, Lent}

-- as many bytes as the block has are its bytes then
pub with_bytes_is : (block : BlockBytes) (bytes : List ℕ) → length bytes ≡ length (bytes_of block)
    → bytes_of (with_bytes block bytes) ≡ bytes
with_bytes_is (Owned v) bytes same = with_items_is v bytes (same ∙ sym v.ok.0)
with_bytes_is (Lent v) bytes same = with_items_is v bytes (same ∙ sym v.ok.0)
