use Rattle.std.proofs.Common.{inl, inr}
use Rattle.vm_memory_base.specs.Table.{InvalidateAll}
use Rattle.vhost_iotlb.specs.Kept.{event_of}
use Rattle.vhost_iotlb.proofs.KeptLemmas.{leads_by_messages, says_no_more}
use Rattle.vhost_iotlb.proofs.taking_laws.tables_say_what_messages_say.Goals as goal

pub returns : goal.returns
returns c = record {
  goes_on = λ t f d. says_no_more t f d (c.tables_keep_to_their_limits.ensures.missed (event_of d) t);
  emptied = λ t f x l.
      elim (c.tables_keep_to_their_limits.ensures.missed InvalidateAll t x l) [ inl none ↦ inl none | inr is ↦ inl is ];
  leads = leads_by_messages;
}
