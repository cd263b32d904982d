use Rattle.std.proofs.Common.{◌∙◌, ap, map}
use Rattle.std.specs.Prelude.{is_none}
use Rattle.vm_memory_base.specs.declared.iotlb.Permissions.TheVariants.{No}
use Rattle.vm_memory_guest.specs.Memory.{Direct}
use Rattle.vm_memory_guest.proofs.QueryLemmas.{whole-access}
use Rattle.vm_memory_guest.proofs.guest_memory.backend.GuestMemoryBackend.check_range.Goals as goal

pub returns : goal.returns
returns g c =
    let regions = map g.Self.R.GuestMemoryRegion.region (g.Self.GuestMemoryBackend.regions c.args.self.now) in
    c.ends_well.ensures
    ∙ ap (λ walk. is_none walk.fault) c.get_slices.ensures
    ∙ whole-access regions Direct c.args.base.0 c.args.len No
