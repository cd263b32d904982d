use Rattle.std.proofs.Common.{◌+◌, Option, subst, ◌∙◌, sym}
use Rattle.std.proofs.lemmas.Option.{none-some}
use Rattle.vm_memory_base.specs.Table as table
use Rattle.vm_memory_base.specs.Table.{Mapping, TableEvent, events_of}
use Rattle.vm_memory_device.specs.Reach.{GoesThrough}
use Rattle.vm_memory_device.proofs.ThroughLemmas.{CallLaws, through_a_set_range, through_changed, through_last}
use Rattle.vm_memory_device.proofs.laws.tables.accesses_go_through_what_calls_left.Goals as goal

pub returns : goal.returns
returns c =
    let laws : CallLaws = record {
      changed = c.tables_keep_to_their_limits.ensures.events;
      last = c.last_call_decides.ensures.last;
      none = c.last_call_decides.ensures.none;
    } in
    let grants = c.allowed_where_each_address_grants.ensures in
    record {
      all = λ tables m b t calls a n i access x on there reached.
          (through_changed laws grants tables m b t calls a n i access x on there reached).1;
      set = λ tables m b t calls a n i iova to len access perm x on there reached is.
          let call : TableEvent = table.Set iova to len perm in
          let h = through_last laws grants tables m b t calls a n i access x call on there reached is in
          through_a_set_range c.targets_follow_addresses.ensures.set m.regions (a + i) iova to len perm access x h.0
          is.covers_it h.1;
      invalidated = λ tables m b t calls a n i access x call on there reached is gone.
          let h = through_last laws grants tables m b t calls a n i access x call on there reached is in
          none-some h.1.mapping (sym gone ∙ h.1.is_said);
      opening = λ tables m b t calls a n i access x on there reached uncovered.
          let h = through_changed laws grants tables m b t calls a n i access x on there reached in
          let before = laws.none (events_of calls t) (a + i) (table.says t (a + i)) uncovered in
          subst (λ (o : Option Mapping). GoesThrough m.regions (a + i) o access x) before h.1;
    }
