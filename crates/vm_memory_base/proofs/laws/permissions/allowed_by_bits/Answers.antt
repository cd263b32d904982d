use Rattle.vm_memory_base.proofs.PermissionsLaws.{allow_by_bits, allow-No, ReadWrite-allow, allow-Read, allow-Write, allow_itself, allow_trans, allow_antisym}
use Rattle.vm_memory_base.proofs.laws.permissions.allowed_by_bits.Goals as goal

pub returns : goal.returns
returns c = record {
  bits = allow_by_bits;
  nothing_asked = allow-No;
  all_permitted = ReadWrite-allow;
  read_asked = allow-Read;
  write_asked = allow-Write;
  reflexive = allow_itself;
  transitive = allow_trans;
  antisymmetric = allow_antisym;
}
