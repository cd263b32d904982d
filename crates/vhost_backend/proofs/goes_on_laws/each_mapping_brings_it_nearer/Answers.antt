use Rattle.vhost_backend.proofs.NearLemmas.{each_nearer, nearer, not_looked_up, whole_at_last, whole_is_found, whole_is_popped}
use Rattle.vhost_backend.proofs.goes_on_laws.each_mapping_brings_it_nearer.Goals as goal

pub returns : goal.returns
returns g c = record {
  nearer = nearer;
  each = each_nearer;
  whole = whole_at_last;
  found = whole_is_found;
  pops = λ mem f can_ask terms q new_q fetch found old new e fetching whole chain.
      whole_is_popped (g.D.RingMemory.steps mem) terms q fetch found old e new_q new f can_ask fetching whole chain;
  looks_up = λ mem f h can_ask may_ask terms q new_q fetch old new e fetching whole.
      not_looked_up (g.D.RingMemory.steps mem) terms q fetch fetching whole old e new_q new f h can_ask may_ask;
}
