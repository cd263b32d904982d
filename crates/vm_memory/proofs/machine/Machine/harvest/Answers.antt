use Rattle.vm_memory.proofs.BitmapLemmas.{harvest_is_step, refusal_is_step}
use Rattle.vm_memory.specs.Inside.{parts_of}
use Rattle.vm_memory.proofs.machine.Machine.harvest.Goals as goal
use Rattle.vm_memory.proofs.machine.Machine.harvest.Goals.{in-Ok, in-Err}

pub returns-clause-answer : goal.returns-clause-answer
returns-clause-answer g c =
    let region = g.R.GuestMemoryRegion.region in
    let pages = g.B.ExactBitmap.pages in
    let parts = parts_of c.self.inside in
    let bitmap = c.bitmap_mut.result.now in
    let there = c.bitmap_mut.ensures.value in
    elim c.match-taken.branch [
      | in-Ok w ↦
          rw (w.result-is, w.pages-is, ← c.self.view_is)
          (harvest_is_step region g.I.Iommu.number pages parts c.args.bitmap bitmap c.if-not-has_bitmap.ensures.found there w.in-Ok.dirty.items
          c.harvest-taken.new.self w.in-Ok.ensures.dirty w.in-Ok.ensures.clean)
      | in-Err w ↦
          rw (w.result-is, w.in-Err.ensures.refused.0, ← c.self.view_is)
          (refusal_is_step region g.I.Iommu.number pages parts c.args.bitmap bitmap c.if-not-has_bitmap.ensures.found there w.in-Err.ensures.refused.1)
    ]
