use Rattle.std.proofs.Common.{◌≡◌, ◌∙◌, length, map, sym}
use Rattle.std.proofs.lemmas.List.{length-map}
use Rattle.vm_memory_guest.specs.Collection.{regions_of}
use Rattle.vm_memory.proofs.NamedLemmas.{named_below, below_named}
use Rattle.vm_memory.proofs.machine.layouts.are_there.Goals as goal

pub returns : goal.returns
returns g c =
    let pool = c.args.pool.now in
    let numbers = c.args.numbers.now in
    let regions = map g.R.GuestMemoryRegion.region (regions_of pool) in
    let bound : length regions ≡ c.len.result = simp length-map (sym (c.len.ensures ∙ pool.ok.0)) in (
      λ t. named_below regions numbers (rw bound (c.all_below.ensures.0 t)),
      λ h. c.all_below.ensures.1 (rw (← bound) (below_named regions numbers h)),
    )
