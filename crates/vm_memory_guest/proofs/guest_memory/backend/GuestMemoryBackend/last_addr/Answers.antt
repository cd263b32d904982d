use Rattle.std.proofs.Common.{◌∙◌, ◌-◌, ap}
use Rattle.vm_memory_guest.proofs.QueryLemmas.{last-greatest, none-greatest}
use Rattle.vm_memory_guest.proofs.guest_memory.backend.GuestMemoryBackend.last_addr.Goals as goal

pub returns-in-Some : goal.returns-in-Some
returns-in-Some g c =
    let rs = g.Self.GuestMemoryBackend.regions c.args.self.now in
    let index = c.saturating_sub.ensures ∙ ap (λ n. n - 1) c.num_regions.ensures.count in
    c.last_addr.ensures
    ∙ last-greatest g.Self.R.GuestMemoryRegion.region g.met.Self.R.GuestMemoryRegion.fits rs
    c.saturating_sub.result c.in-Some.region.now c.num_regions.ensures.layout index c.in-Some.ensures

pub returns-in-None : goal.returns-in-None
returns-in-None g c =
    let rs = g.Self.GuestMemoryBackend.regions c.args.self.now in
    let index = c.saturating_sub.ensures ∙ ap (λ n. n - 1) c.num_regions.ensures.count in
    none-greatest g.Self.R.GuestMemoryRegion.region g.met.Self.R.GuestMemoryRegion.fits rs
    c.saturating_sub.result index c.in-None.ensures
