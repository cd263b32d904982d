use Rattle.std.proofs.Common.{refl}
use Rattle.vm_memory_base.specs.lemmas.NewPages.{length-flags_of}
use Rattle.vm_memory_base.proofs.bitmap.exclusive.ExclusiveBitmapExactBitmap.shape.Goals as goal

pub returns : goal.returns
returns c =
    rw (length-flags_of, c.get.ensures.value, c.page_size.ensures, c.count.ensures) refl
