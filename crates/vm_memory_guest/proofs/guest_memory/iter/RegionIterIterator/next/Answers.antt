use Rattle.std.proofs.Common.{◌∙◌, sym}
use Rattle.vm_memory_guest.proofs.QueryLemmas.{drop-some}
use Rattle.vm_memory_guest.proofs.guest_memory.iter.RegionIterIterator.next.Goals as goal

pub returns-clause-steps : goal.returns-clause-steps
returns-clause-steps g c =
    let it = c.self.inside in
    sym c.self.view_is
    ∙ drop-some (g.M.GuestMemoryBackend.regions it.mem.now) it.next c.in_ok-region.region.now c.in_ok-region.ensures
