-- Blocks that have only zeros from some byte on, as they were made.
use Rattle.std.specs.Prelude.{◌≡◌, ℕ, ◌+◌, ◌<◌, ◌≤◌, List, length, slice_index}
use Rattle.vm_memory_guest.specs.Host.{Host, block_at}

-- the blocks of a host from base on have only zeros, each from its offset on, as far as there are offsets
abbrev pub AreBare : {B : Type 0} → ℕ → List ℕ → Host B → Type 0
AreBare base offsets host = (j k : ℕ) → j < length offsets → slice_index offsets j ≤ k
    → slice_index (block_at host.blocks (base + j)) k ≡ 0
