use Rattle.std.proofs.Common.{arith, inl, inr}
use Rattle.vm_memory_base.specs.Table.{says}
use Rattle.vhost_iotlb.proofs.LeadLemmas.{one_leads, one_refused}
use Rattle.vhost_iotlb.proofs.leads.lead_of_one.Goals as goal

pub returns-in-len1-up : goal.returns-in-len1-up
returns-in-len1-up c =
    let there = one_leads (says c.args.table.now) c.args.iova c.args.access c.as_slice.result.now _
    (rw (← c.as_slice.ensures) at c.in-Ok.ensures) in
    (omega arith, omega arith, there.0)

pub returns-in-Ok : goal.returns-in-Ok
returns-in-Ok c =
    let there = one_leads (says c.args.table.now) c.args.iova c.args.access c.as_slice.result.now
    (record { base = record { 0 = 0 }; length = 0 }) (rw (← c.as_slice.ensures) at c.in-Ok.ensures) in
    absurd (omega (arith, there.1))

pub returns-in-AccessNotAllowed : goal.returns-in-AccessNotAllowed
returns-in-AccessNotAllowed c =
    let why = one_refused (says c.args.table.now) c.args.iova c.args.access c.in-Err.error c.requires c.in-Err.ensures
    in
    elim why.2 [
      | inl missed ↦ absurd (cc (why.1, missed.0, c.in-CannotResolve.is, c.in-AccessNotAllowed.is))
      | inr forbids ↦ forbids.1
    ]

pub returns-in-CannotResolve : goal.returns-in-CannotResolve
returns-in-CannotResolve c =
    let why = one_refused (says c.args.table.now) c.args.iova c.args.access c.in-Err.error c.requires c.in-Err.ensures
    in
    elim why.2 [
      | inl missed ↦ missed.1
      | inr forbids ↦ absurd (c.in_default-reason.not-AccessNotAllowed (cc (why.1, forbids.0, c.in-CannotResolve.is)))
    ]

pub returns : goal.returns
returns c =
    let why = one_refused (says c.args.table.now) c.args.iova c.args.access c.in-Err.error c.requires c.in-Err.ensures
    in
    absurd (c.in_default.not-CannotResolve _ _ why.1)
