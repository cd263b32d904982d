-- States whose layouts are layouts, so that the first region that has an address is the only one.
use Rattle.std.specs.Prelude.{List, All}
use Rattle.vm_memory_guest.specs.Memory.{Memory}
use Rattle.vm_memory_guest.specs.Region.{Region, IsRegion, IsLayout}
use Rattle.vm_memory.specs.State.{State}

-- regions that fit their addresses and make a layout
abbrev pub IsLaidOut : List Region → Type 0
IsLaidOut rs = All IsRegion rs × IsLayout rs

-- the regions of the pool fit, and those of each layout and of each memory are laid out
pub record IsLawful (s : State) : Type 0 where
  pub regions : All IsRegion s.regions
  pub layouts : All IsLaidOut s.layouts
  pub memories : All (λ (m : Memory). IsLaidOut m.regions) s.memories
