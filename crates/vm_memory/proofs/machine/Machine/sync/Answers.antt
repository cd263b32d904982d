use Rattle.vm_memory.proofs.BitmapLemmas.{sync_is_synced}
use Rattle.vm_memory.specs.Inside.{parts_of}
use Rattle.vm_memory.proofs.machine.Machine.sync.Goals as goal

pub returns-clause-synced : goal.returns-clause-synced
returns-clause-synced g c =
    let region = g.R.GuestMemoryRegion.region in
    let pages = g.B.ExactBitmap.pages in
    rw (← c.self.view_is)
    (sync_is_synced region g.I.Iommu.number pages
    (parts_of c.self.inside) c.args.block.0 c.args.image.now c.sync_in.new.image
    c.sync_in.new.host c.sync_in.result c.sync_in.ensures.image c.sync_in.ensures.clean)
