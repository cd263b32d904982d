use Rattle.vm_memory_base.proofs.PagesLaws.{marked-empty, marked_each-numbers, marked_on}
use Rattle.vm_memory_base.proofs.laws.pages.mark_is_by_bytes.Goals as goal

pub returns : goal.returns
returns c = record {
  empty = marked-empty;
  each = marked_each-numbers;
  neighbours = marked_on;
}
