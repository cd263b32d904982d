use Rattle.vm_memory_base.proofs.PagesLaws.{marked_is_dirty, stays_dirty, is_dirty_at-marked_own, is_dirty_at-marked_other, takes-true, get_or-flags_marked, is_dirty_at-marked}
use Rattle.vm_memory_base.proofs.laws.pages.marked_bytes_are_dirty.Goals as goal

pub returns : goal.returns
returns c = record {
  marked = marked_is_dirty;
  before = stays_dirty;
  own = is_dirty_at-marked_own;
  other = is_dirty_at-marked_other;
  takes = takes-true;
  pages = get_or-flags_marked;
  bytes = is_dirty_at-marked;
}
