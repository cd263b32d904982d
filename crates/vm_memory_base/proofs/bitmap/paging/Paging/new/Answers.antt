use Rattle.std.proofs.Common.{◌∙◌, rules}
use Rattle.vm_memory_base.proofs.bitmap.paging.Paging.new.Goals as goal

pub invariant_of-result : goal.invariant_of-result
invariant_of-result c = record {
  fits = search rules;
  whole = search rules;
  shifts = λ log is. let power = c.exact_log-shift.ensures log is in (power.0, power.1 ∙ c.get-2.ensures.value);
}
