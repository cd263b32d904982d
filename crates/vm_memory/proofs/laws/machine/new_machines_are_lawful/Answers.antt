use Rattle.std.proofs.lemmas.List.Elements.{All-nil}
use Rattle.vm_memory_guest.specs.Collection.{each_is_region}
use Rattle.vm_memory_guest.specs.Memory.{Memory}
use Rattle.vm_memory.specs.Lawful.{IsLaidOut}
use Rattle.vm_memory.proofs.laws.machine.new_machines_are_lawful.Goals as goal

pub returns : goal.returns
returns g c host regions translators = record {
  regions = each_is_region g.R.GuestMemoryRegion.region g.met.R.GuestMemoryRegion.fits regions;
  layouts = All-nil IsLaidOut;
  memories = All-nil (λ (m : Memory). IsLaidOut m.regions);
}
