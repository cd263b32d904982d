use Rattle.std.proofs.Common.{sym}
use Rattle.vm_memory_guest.proofs.AccessLaws.{follows-access, cells-access}
use Rattle.vm_memory_guest.proofs.laws.accesses.windows_of_accesses_are_their_paths.Goals as goal

pub returns : goal.returns
returns c = record {
  cells = λ regions route a n access each. cells-access regions each a n route access;
  marks = λ regions route a n access each.
      sym (follows-access regions each a n c.allowed_where_each_address_grants.ensures route access).same;
  fit = λ regions route a n access each.
      (follows-access regions each a n c.allowed_where_each_address_grants.ensures route access).fit;
}
