use Rattle.vm_memory_base.proofs.PagesLaws.{marked_comm, marked_each_comm, marked_twice}
use Rattle.vm_memory_base.proofs.laws.pages.mark_order.Goals as goal

pub returns : goal.returns
returns c = record { any_order = marked_comm; each_in_any_order = marked_each_comm; twice = marked_twice }
