-- What a contract sees of a machine, and the state of the model that it stands for.
use Rattle.std.specs.Prelude.{ℕ, List, map, flat_map, All}
use Rattle.vm_memory_base.specs.Pages.{PageSet}
use Rattle.vm_memory_guest.specs.Host.{Host, Tlb, shape_of, Holds, IsHeld}
use Rattle.vm_memory_guest.specs.Memory.{memory_names}
use Rattle.vm_memory_guest.specs.Region.{Region, IsLayout, region_names}
use Rattle.vm_memory_guest.specs.Dirt.{with_pages}
use Rattle.vm_memory_guest.specs.Window.{Window, block_window}
use Rattle.vm_memory_device.specs.Memories.{memory_meant}
use Rattle.vm_memory.specs.State.{State}
use Rattle.vm_memory.specs.declared.machine.command.BlockRange.{BlockRange}
use Rattle.vm_memory_device.specs.declared.machine_memory.MachineMemory.{MachineMemory}

-- a host, pools of regions and of translators, and the layouts and memories that were made
pub record Parts (R I B : Type 0) : Type 0 where
  pub host : Host B
  pub regions : List R
  pub translators : List I
  pub layouts : List (List R)
  pub memories : List (MachineMemory R I)

-- a host holds the bytes of these regions
abbrev pub HoldsRegions : {R B : Type 0} → (R → Region) → Host B → List R → Type 0
HoldsRegions region host rs = Holds (shape_of host) (flat_map region_names (map region rs))

-- a host holds the tables of these translators
abbrev pub HoldsTables : {I B : Type 0} → (I → ℕ) → Host B → List I → Type 0
HoldsTables number host translators = All (λ i. IsHeld (shape_of host) (Tlb (number i))) translators

module _ {R I B : Type 0} (region : R → Region) (number : I → ℕ) where
  -- a host holds what a memory names
  abbrev pub HoldsMemory : Host B → MachineMemory R I → Type 0
  HoldsMemory host m = Holds (shape_of host) (memory_names (memory_meant region number m))

  -- the host holds the bytes of each region of the pool and of each layout, the tables of the translators, and
  -- what each memory names. The regions of each layout and of each memory are a layout
  pub record AreHeld (m : Parts R I B) : Type 0 where
    pub pool : HoldsRegions region m.host m.regions
    pub tables : HoldsTables number m.host m.translators
    pub layouts : All (HoldsRegions region m.host) m.layouts
    pub memories : All (HoldsMemory m.host) m.memories
    pub laid_out : All (λ (rs : List R). IsLayout (map region rs)) m.layouts
    pub memories_laid_out : All (λ (x : MachineMemory R I). IsLayout (memory_meant region number x).regions) m.memories

  -- the state of the model: regions by what they mean, translators by their tables, bitmaps by their pages
  abbrev pub state_of : (B → PageSet) → Parts R I B → State
  state_of pages m = record {
    regions = map region m.regions;
    translators = map number m.translators;
    layouts = map (map region) m.layouts;
    memories = map (memory_meant region number) m.memories;
    host = with_pages pages m.host;
  }

-- a window of a block, writes to which mark the block's bitmap
abbrev pub range_window : BlockRange → Window
range_window w = block_window w.block w.offset w.len
