use Rattle.vm_memory_device.proofs.ThroughLemmas.{CallLaws, changed_last, unchanged}
use Rattle.vm_memory_device.proofs.laws.tables.tables_say_what_calls_left.Goals as goal

pub returns : goal.returns
returns c =
    let laws : CallLaws = record {
      changed = c.tables_keep_to_their_limits.ensures.events;
      last = c.last_call_decides.ensures.last;
      none = c.last_call_decides.ensures.none;
    } in
    record { last = changed_last laws; opening = unchanged laws }
