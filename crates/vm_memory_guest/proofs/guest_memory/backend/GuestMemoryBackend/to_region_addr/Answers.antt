use Rattle.std.proofs.Common.{arith}
use Rattle.vm_memory_guest.proofs.QueryLemmas.{found-from}
use Rattle.vm_memory_guest.proofs.guest_memory.backend.GuestMemoryBackend.to_region_addr.Goals as goal

pub overflow_sub-offset : goal.overflow_sub-offset
overflow_sub-offset g c =
    let rs = g.Self.GuestMemoryBackend.regions c.args.self.now in
    let low = found-from g.Self.R.GuestMemoryRegion.region rs c.args.addr.0 c.in_ok-region.region.now
    c.in_ok-region.ensures.found in
    omega (arith, c.start_addr.ensures)
