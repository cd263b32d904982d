use Rattle.std.proofs.Common.{◌+◌, ◌^◌, ◌<◌, ◌∙◌, ◌∷◌, sym, arith}
use Rattle.vm_memory_base.specs.Table.{says}
use Rattle.vhost_message.specs.declared.iotlb.IotlbMessage.TheVariants.{Invalidate}
use Rattle.vhost_iotlb.proofs.InvalidationLemmas.{none_after, parts, unsaid}
use Rattle.vhost_iotlb.proofs.laws.invalidated_addresses_are_missed.Goals as goal

pub returns : goal.returns
returns g c =
    let said = c.tables_say_what_was_updated_last.ensures in
    let gone = c.accesses_go_through_what_was_updated_last.ensures in
    record {
      missed = λ number x iova size regions earlier later calls old new t h there near is off.
          let fits : x < 2 ^ 64 = omega (arith, near) in
          let p = parts number regions earlier (Invalidate iova size ∷ later) calls old new h in
          let m = said.all number x regions earlier p.first old p.mid t p.before there fits in
          let u = said.all number x regions (Invalidate iova size ∷ later) p.rest p.mid new m.0 p.after m.1 fits in (
            u.0,
            u.1,
            u.2
                ∙ none_after number regions x iova size later p.rest p.mid new m.0 p.after m.1 near is off (says m.0 x),
          );
      unreached = λ a n i iova size regions earlier later calls old new m b t access x h on there near is off reached.
          let at = a + i in
          let fits : at < 2 ^ 64 = omega (arith, near) in
          let p = parts b.table regions earlier (Invalidate iova size ∷ later) calls old new h in
          let t1 = said.all b.table at regions earlier p.first old p.mid t p.before there fits in
          let through = gone.all regions (Invalidate iova size ∷ later) p.rest p.mid new m b t1.0 a n i access x p.after
          on t1.1 reached in
          unsaid through.mapping (sym (none_after b.table regions at iova size later p.rest p.mid new t1.0 p.after t1.1
          near is off (says t1.0 at)) ∙ through.is_said);
    }
