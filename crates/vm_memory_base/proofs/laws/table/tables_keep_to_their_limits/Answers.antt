use Rattle.vm_memory_base.proofs.EvictLemmas.{unbounded_events, changed_within, missed_or_said, set_stays, says_changed_by, limit_stays}
use Rattle.vm_memory_base.proofs.laws.table.tables_keep_to_their_limits.Goals as goal

pub returns : goal.returns
returns c = record {
  unbounded = unbounded_events;
  within = changed_within;
  missed = missed_or_said;
  set = set_stays;
  events = says_changed_by;
  limit = limit_stays;
}
