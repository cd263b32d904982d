use Rattle.std.proofs.Common.{◌+◌, ◌^◌, ◌<◌, inl, sym, ap, subst, arith}
use Rattle.vm_memory_base.specs.Table.{Says, Table, says, says_nothing}
use Rattle.vm_memory_base.specs.declared.iotlb.Permissions.TheVariants.{Read, ReadWrite}
use Rattle.vhost_iotlb.specs.Kept.{SaysNoMore, after_change}
use Rattle.vhost_iotlb.specs.Leads.{Leads}
use Rattle.vhost_iotlb.specs.declared.kept.Change.{Change}
use Rattle.vhost_iotlb.specs.declared.kept.Change.TheVariants.{Map}
use Rattle.vhost_iotlb.specs.declared.leads.Lead.{Lead}
use Rattle.tests_iotlb.proofs.taking.lead_after_eviction.Goals as goal

pub returns : goal.returns
returns c = λ base count is i l.
    let law = c.tables_say_what_messages_say.ensures in
    let one : Change = Map c.args.first c.args.to.0 4096 ReadWrite in
    let two : Change = Map c.args.second c.args.to.0 4096 ReadWrite in
    let f : Says = after_change one says_nothing in
    let g : Says = after_change two f in
    let new : SaysNoMore c.with_limit-table.result says_nothing =
    λ x _. inl (ap (λ (t : Table). says t x) c.with_limit-table.ensures) in
    let first : SaysNoMore c.set_mapping.new.self f =
    subst (λ (t : Table). SaysNoMore t f) (sym c.in_ok-set_mapping.ensures.ok)
    (law.goes_on c.with_limit-table.result says_nothing one new) in
    let second : SaysNoMore c.set_mapping-2.new.self g =
    subst (λ (t : Table). SaysNoMore t g) (sym c.in_ok-set_mapping-2.ensures.ok)
    (law.goes_on c.set_mapping.new.self f two first) in
    let lead = subst (λ (r : Lead). Leads (says c.set_mapping-2.new.self) c.args.first 4096 Read r) is c.lead_of.ensures
    in
    let fits : c.args.first + count < 2 ^ 64 = omega (arith, lead.1) in
    law.leads c.set_mapping-2.new.self g c.args.first count base Read second fits lead.2 i l
