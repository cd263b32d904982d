use Rattle.std.proofs.Common.{refl}
use Rattle.vm_memory_guest.proofs.examples.accesses.windows_of_a_block.Goals as goal

pub returns-clause-write_to_two : goal.returns-clause-write_to_two
returns-clause-write_to_two c = (
  _,
  (_, record { before = _; after = _; was = refl; marked = refl; is = refl }, refl),
  (_, (_, record { before = _; after = _; was = refl; marked = refl; is = refl }, refl), refl),
)

pub returns-clause-write_to_none : goal.returns-clause-write_to_none
returns-clause-write_to_none c = (_, refl, refl)
