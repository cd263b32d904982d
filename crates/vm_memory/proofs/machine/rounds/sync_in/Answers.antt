use Rattle.std.proofs.Common.{◌≡◌, ◌≢◌, [], refl, subst, sym, ap, ◌∙◌}
use Rattle.std.proofs.lemmas.Result.{err_from_is_err_and}
use Rattle.vm_memory_base.specs.Pages.{cleaned, dirty_pages}
use Rattle.vm_memory_base.specs.declared.bitmap.BitmapId.TheVariants.{Block}
use Rattle.vm_memory_guest.specs.Dirt.{with_pages}
use Rattle.vm_memory.specs.Rounds.{bytes_of_block}
use Rattle.vm_memory.proofs.BitmapLemmas.{pages_of_block-with_pages, with_bitmap-same}
use Rattle.vm_memory.proofs.PatchLemmas.{patched_by-shape}
use Rattle.vm_memory.proofs.machine.rounds.sync_in.Goals as goal

pub returns-in_err-pages-clause-refused : goal.returns-in_err-pages-clause-refused
returns-in_err-pages-clause-refused g c =
    let there = c.bitmap_mut-bitmap.ensures.value in
    let same = with_bitmap-same c.args.host.now (Block c.args.block.0) c.bitmap_mut-bitmap.result.now there in
    let p = err_from_is_err_and c.from_residual.result c.from_residual.ensures.1 in
    let bitmap = c.bitmap_mut-bitmap.result.now in
    let set = pages_of_block-with_pages g.B.ExactBitmap.pages c.args.host.now c.args.block.0 bitmap there in
    let dirty = subst (λ s. dirty_pages s ≢ []) (sym set) c.in_err-pages.ensures.refused.1 in
    rw (p.1, c.in_err-pages.ensures.refused.0) (same, refl, dirty)

pub copy_pages-requires-clause-len : goal.copy_pages-requires-clause-len
copy_pages-requires-clause-len g c = rw c.whole_block.ensures c.requires.len

pub returns-clause-image : goal.returns-clause-image
returns-clause-image g c =
    let block = c.args.block.0 in
    let host = c.args.host.now in
    let pages = g.B.ExactBitmap.pages in
    let bitmap = c.bitmap_mut-bitmap.result.now in
    let set = pages_of_block-with_pages pages host block bitmap c.bitmap_mut-bitmap.ensures.value in
    let now = bytes_of_block block (with_pages pages host) in
    let image = c.args.image.now in
    let dirty = dirty_pages (pages bitmap) in
    let size = c.in-Some.page_size in
    let told : c.as_slice.result.now ≡ dirty = c.as_slice.ensures.value ∙ c.in_ok-pages.ensures.dirty in
    let by = patched_by-shape (pages bitmap) size c.in-Some.field-0-1 dirty now image (sym c.in-Some.ensures) in
    rw (c.copy_pages.ensures, told, c.whole_block.ensures, set) (sym by)

pub returns-clause-clean : goal.returns-clause-clean
returns-clause-clean g c =
    let pages = g.B.ExactBitmap.pages in
    let bitmap = c.bitmap_mut-bitmap.result.now in
    let set = pages_of_block-with_pages pages c.args.host.now c.args.block.0 bitmap c.bitmap_mut-bitmap.ensures.value in
    (c.harvest.new.self, c.in_ok-pages.ensures.clean ∙ ap cleaned (sym set), refl)
