use Rattle.std.proofs.Common.{refl}
use Rattle.vm_memory_base.proofs.PagesLaws.{shape-marked, pages-marked, IsPageSet-marked, shape-marked_each, IsPageSet-marked_each, marked_to_the_end, marked_past}
use Rattle.vm_memory_base.proofs.laws.pages.mark_keeps_shape.Goals as goal

pub returns : goal.returns
returns c = record {
  shape = shape-marked;
  pages = pages-marked;
  valid = IsPageSet-marked;
  shape_of_many = shape-marked_each;
  valid_of_many = IsPageSet-marked_each;
  to_the_greatest_offset = marked_to_the_end;
  past_the_last_page = marked_past;
  untracked = λ start len. refl;
}
