use Rattle.vm_memory_base.proofs.PermissionsLaws.{has_read-union, has_write-union, allow-union, union_comm, has_read-intersection, has_write-intersection, intersection-allow, intersection_comm, same_tests_equality}
use Rattle.vm_memory_base.proofs.laws.permissions.permissions_are_sets.Goals as goal

pub returns : goal.returns
returns c = record {
  union_read = has_read-union;
  union_write = has_write-union;
  union_least = allow-union;
  union_commutes = union_comm;
  intersection_read = has_read-intersection;
  intersection_write = has_write-intersection;
  intersection_greatest = intersection-allow;
  intersection_commutes = intersection_comm;
  same = same_tests_equality;
}
