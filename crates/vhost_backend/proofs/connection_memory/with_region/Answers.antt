use Rattle.std.proofs.Common.{◌∙◌, ap}
use Rattle.vm_memory_guest.specs.Layout.{inserted}
use Rattle.vm_memory_guest.specs.Mmap.{PlacedBlock, WholeBlock, mmap_region}
use Rattle.vhost_backend.proofs.connection_memory.with_region.Goals as goal

pub returns-in-Ok-insert_region : goal.returns-in-Ok-insert_region
returns-in-Ok-insert_region c =
    let at = c.in_ok-region.ensures.value in (
      c.in_ok-region.region,
      (
        at.0,
        ap (λ (b : WholeBlock). b.block) at.1 ∙ c.in_ok-mapping.ensures.block,
        ap (λ (b : WholeBlock). b.size) at.1 ∙ c.in_ok-mapping.ensures.size,
      ),
      c.in-Ok-insert_region.ensures.1
          ∙ ap (λ (r : PlacedBlock). inserted mmap_region c.args.layout.now r) c.in-Ok.ensures.ok,
    )
