use Rattle.std.proofs.Common.{◌≡◌, ◌<◌, false, Some, sym, subst, arith}
use Rattle.std.specs.NonZero.{non_zero_usize_get}
use Rattle.vm_memory_base.specs.Exclusive.{pages_of}
use Rattle.vm_memory_base.specs.Pages.{IsCleanFor, IsPageSet, PageSet, is_dirty_at, new_pages}
use Rattle.tests_base.proofs.witnesses.clean_bitmap.Goals as goal

pub returns : goal.returns
returns c =
    let law = c.new_pages_cover.ensures in
    let size = non_zero_usize_get c.args.size in
    let bytes = c.args.bytes in
    let made : Some (pages_of c.in_ok-bitmap.bitmap) ≡ new_pages size bytes = c.in_ok-bitmap.ensures.pages in
    let some : 0 < size = grind (arith, c.args.size.ok) in
    let clean : IsCleanFor bytes (Some (pages_of c.in_ok-bitmap.bitmap)) =
    subst (IsCleanFor bytes) (sym made) (law.clean size bytes some) in (
      subst IsPageSet (sym made) (law.valid size bytes some (omega (arith, c.ranges.bytes.fits))),
      λ offset below. (
        law.no_byte_dirty bytes offset (Some (pages_of c.in_ok-bitmap.bitmap)) clean,
        law.each_byte bytes offset (pages_of c.in_ok-bitmap.bitmap) clean below,
      ),
    )
