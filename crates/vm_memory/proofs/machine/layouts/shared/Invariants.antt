use Rattle.std.proofs.Common.{◌≡◌, take, map, Some}
use Rattle.vm_memory_guest.specs.Collection.{regions_of}
use Rattle.vm_memory.specs.State.{named}
use Rattle.vm_memory.proofs.machine.layouts.shared.Given as goal

abbrev pub invariant-loop-number : goal.invariant-loop-number
invariant-loop-number g l =
    let region = g.R.GuestMemoryRegion.region in
    named (map region (regions_of l.pool)) (take l.number-index l.numbers) ≡ Some (map region (regions_of l.regions))
