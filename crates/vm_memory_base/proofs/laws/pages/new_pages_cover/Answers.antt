use Rattle.std.proofs.Common.{Bool, false}
use Rattle.std.proofs.lemmas.List.{length-replicate}
use Rattle.std.specs.Int.{div_ceil}
use Rattle.vm_memory_base.specs.lemmas.NewPages.{new_pages_are_clean, pages_fit}
use Rattle.vm_memory_base.proofs.BitmapLemmas.{clean_is_not_dirty, covered}
use Rattle.vm_memory_base.proofs.laws.pages.new_pages_cover.Goals as goal

pub returns : goal.returns
returns c = record {
  clean = new_pages_are_clean;
  valid = λ size bytes. pages_fit size bytes _ (length-replicate {A = Bool} (div_ceil bytes size) false);
  no_byte_dirty = clean_is_not_dirty;
  each_byte = covered;
}
