use Rattle.vm_memory_base.proofs.PagesLaws.{get_or-flags_unmarked, dirty_pages-cleaned, is_dirty_at-cleaned, shape-cleaned, IsPageSet-cleaned}
use Rattle.vm_memory_base.proofs.BitmapLemmas.{is_dirty_at-unmarked, unmarked-marked, shape-unmarked, IsPageSet-unmarked}
use Rattle.vm_memory_base.proofs.laws.pages.cleaned_is_clean.Goals as goal

pub returns : goal.returns
returns c = record {
  no_page = dirty_pages-cleaned;
  no_byte = is_dirty_at-cleaned;
  shape = shape-cleaned;
  valid = IsPageSet-cleaned;
  undone_pages = get_or-flags_unmarked;
  undone_bytes = is_dirty_at-unmarked;
  undone_after_a_mark = unmarked-marked;
  undone_shape = shape-unmarked;
  undone_valid = IsPageSet-unmarked;
}
