use Rattle.vm_memory_base.proofs.TableLaws.{addresses-pieces, numbers-misses, numbers-failures, lens-look_up, lens-mapped, is_allowed-true, each-true}
use Rattle.vm_memory_base.proofs.laws.table.look_up_by_addresses.Goals as goal

pub returns : goal.returns
returns c = record {
  targets = addresses-pieces;
  missed = numbers-misses;
  failed = numbers-failures;
  together = lens-look_up;
  mapped = lens-mapped;
  allowed = is_allowed-true;
  each = each-true;
}
