-- The machine of scripts and of sessions, and the state of the model that it stands for.
use Rattle.std.specs.Prelude.{[], Some}
use Rattle.vm_memory_base.specs.Exclusive.{pages_of}
use Rattle.vm_memory_base.specs.declared.bitmap.exclusive.ExclusiveBitmap.{ExclusiveBitmap}
use Rattle.vm_memory_guest.specs.Mmap.{mmap_region}
use Rattle.vm_memory_guest.specs.declared.mmap.GuestRegionMmap.{GuestRegionMmap}
use Rattle.vm_memory_device.specs.declared.iommu.TableIommu.{TableIommu}
use Rattle.vm_memory.specs.Parts.{Parts, state_of}
use Rattle.vm_memory.specs.State.{State}

-- the parts of such a machine
abbrev pub ScriptParts : Type 0
ScriptParts = Parts GuestRegionMmap TableIommu ExclusiveBitmap

-- an empty one
abbrev pub no_parts : ScriptParts
no_parts = record {
  host = record { blocks = []; bitmaps = []; spaces = []; tables = [] };
  regions = [];
  translators = [];
  layouts = [];
  memories = [];
}

-- its state
abbrev pub state_made : ScriptParts → State
state_made parts = state_of mmap_region (λ number. number) (λ b. Some (pages_of b)) parts
