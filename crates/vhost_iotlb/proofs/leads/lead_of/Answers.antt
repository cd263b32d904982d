use Rattle.std.proofs.Common.{arith}
use Rattle.vm_memory_base.specs.Table.{says}
use Rattle.vhost_iotlb.proofs.LeadLemmas.{leads_among_more, translation_leads}
use Rattle.vhost_iotlb.proofs.leads.lead_of.Goals as goal

pub returns-in-Some : goal.returns-in-Some
returns-in-Some c = (
  c.requires.some,
  omega arith,
  translation_leads (says c.args.table.now) c.args.iova c.args.len c.args.access c.in-Some.piece c.requires.some
      c.in-Some.ensures,
)

pub returns-in-Some-resolve_one : goal.returns-in-Some-resolve_one
returns-in-Some-resolve_one c = (
  omega arith,
  omega arith,
  translation_leads (says c.args.table.now) c.args.iova c.loop-count.count c.args.access c.in-Some-resolve_one.piece
      (omega arith) c.in-Some-resolve_one.ensures,
)

pub returns : goal.returns
returns c =
    leads_among_more (says c.args.table.now) c.args.iova 1 c.args.len c.args.access c.lead_of_one.result
    (omega arith) c.lead_of_one.ensures
