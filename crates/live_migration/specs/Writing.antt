-- Writes of a guest's memory, in the words of the rounds.
use Rattle.std.specs.Prelude.{◌≡◌, ℕ, ◌+◌, ◌^◌, ◌≤◌, List, map}
use Rattle.vm_memory_base.specs.Address.{numbers}
use Rattle.vm_memory_base.specs.declared.bitmap.BitmapId.TheVariants.{Block}
use Rattle.vm_memory_guest.specs.Window.{Window}
use Rattle.live_migration.specs.Rounds.{Event, Source, Write}

-- a window whose writes mark the bitmap of its own block, at the offsets of its bytes
pub record MarksItsBlock (w : Window) : Type 0 where
  pub bitmap : w.bitmap ≡ record { id = Block w.block.0; base = w.offset }
  pub fits : w.offset + w.size ≤ 2 ^ 64

-- N blocks, from the first on, are written to be these
abbrev pub all_written : (ℕ → Source) → ℕ → List Event
all_written sources count = map (λ j. Write j (sources j)) (numbers 0 count)
