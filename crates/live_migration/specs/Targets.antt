-- The blocks of a sender.
use Rattle.std.specs.Prelude.{◌≡◌, ℕ, List, slice_get, Some}
use Rattle.std.specs.NonZero.{non_zero_usize_get}
use Rattle.std.specs.declared.num.NonZeroUsize.{NonZeroUsize}
use Rattle.vm_memory_base.specs.Pages.{PageSet}
use Rattle.vm_memory_base.specs.declared.address.GuestAddress.{GuestAddress}
use Rattle.vm_memory_guest.specs.Host.{Host}
use Rattle.vm_memory_guest.specs.declared.host.BlockId.{BlockId}
use Rattle.live_migration.specs.Sending.{IsAsItWas, IsTracked}
use Rattle.live_migration.specs.declared.sender.pages.Target.{Target}

-- a target's block is none of those of others
abbrev pub IsOther : List Target → Target → Type 0
IsOther ts t = (j : ℕ) (u : Target) → slice_get ts j ≡ Some u → u.block.0 ≡ t.block.0 → ⊥

-- each is a block of the host, as long as is said, and none comes twice
pub record AreBlocks {B : Type 0} (host : Host B) (ts : List Target) : Type 0 where
  pub there : (j : ℕ) (t : Target) → slice_get ts j ≡ Some t → IsAsItWas t host
  pub once : (i j : ℕ) (t u : Target) → slice_get ts i ≡ Some t → slice_get ts j ≡ Some u → t.block.0 ≡ u.block.0
      → i ≡ j

-- and the bitmap of each tracks it in pages of the size that is said
pub record AreTargets {B : Type 0} (pages_of : B → PageSet) (host : Host B) (ts : List Target) : Type 0 where
  pub blocks : AreBlocks host ts
  pub each : (j : ℕ) (t : Target) → slice_get ts j ≡ Some t → IsTracked pages_of t host

-- a block and its address, as a sender has them, and as they were asked for
abbrev pub place_of : Target → ℕ × ℕ
place_of t = (t.block.0, t.entry.address)

abbrev pub asked : BlockId × GuestAddress → ℕ × ℕ
asked b = (b.0.0, b.1.0)

-- the same, with the size of the block's pages
abbrev pub sized_place_of : Target → ℕ × ℕ × ℕ
sized_place_of t = (t.block.0, t.entry.address, t.entry.page_size)

abbrev pub sized_asked : BlockId × GuestAddress × NonZeroUsize → ℕ × ℕ × ℕ
sized_asked b = (b.0.0, b.1.0, non_zero_usize_get b.2)
