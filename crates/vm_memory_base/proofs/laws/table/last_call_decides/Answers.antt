use Rattle.std.proofs.Common.{refl}
use Rattle.vm_memory_base.proofs.TableLaws.{says_after-not_covered, says_after-set, says_after-invalidate, set_nothing, invalidate_nothing, says_after_all-push, last_decides, says_after_all-none_covers}
use Rattle.vm_memory_base.proofs.laws.table.last_call_decides.Goals as goal

pub returns : goal.returns
returns c = record {
  elsewhere = says_after-not_covered;
  set = says_after-set;
  invalidated = says_after-invalidate;
  all_invalidated = λ x old. refl;
  set_nothing = set_nothing;
  invalidated_nothing = invalidate_nothing;
  one_more = says_after_all-push;
  last = last_decides;
  none = says_after_all-none_covers;
}
