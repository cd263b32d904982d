use Rattle.std.proofs.Common.{refl, lit<}
use Rattle.vm_memory_base.proofs.laws.examples.pages_and_marks.Goals as goal

pub returns : goal.returns
returns c = record {
  empty = refl;
  over_a_boundary = refl;
  past_the_last_page = refl;
  after_the_last_page = refl;
  not_dirty = refl;
  pages_of_all_offsets = (lit< tt, lit< tt);
  to_the_greatest_offset = refl;
  undone = refl;
  nothing_undone = refl;
  rounded_up = refl;
  no_page = refl;
  words = refl;
}
