-- What a machine is made of, as its parts. No public clause cites this module.
use Rattle.vm_memory_guest.specs.Collection.{regions_of}
use Rattle.vm_memory.specs.Parts.{Parts}
use Rattle.vm_memory.specs.declared.machine.Machine.TheInside.{Inside}

abbrev pub parts_of : {R I B : Type 0} → Inside R I B → Parts R I B
parts_of m = record {
  host = m.host;
  regions = regions_of m.regions;
  translators = regions_of m.translators;
  layouts = m.layouts.items;
  memories = m.memories.items;
}
