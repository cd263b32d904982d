use Rattle.std.proofs.Common.{◌≡◌, ◌<◌, ◌∷◌, [], true, sym, subst, ◌∙◌, arith}
use Rattle.vm_memory_base.specs.Table.{Table, says, is_allowed, pieces, target}
use Rattle.vm_memory_base.specs.Walk.{IsWalk, pieces_left}
use Rattle.vm_memory_base.proofs.LookupLemmas.{one_run}
use Rattle.vm_memory_base.proofs.iotlb.table.Iotlb.run_of.Goals as goal

pub returns : goal.returns
returns c =
    let there = c.in_ok-run.ensures in
    let r = c.in_ok-run.run' in
    let some : 0 < c.args.length = omega arith in
    let told = one_run c.self.inside.ranges there.0 there.1 r there.2 c.self.invariant.0 c.args.iova.0 c.args.length
    c.in_ok-end.end c.in_ok-end.ensures.1 some c.in_ok-end.ensures.0 c.args.access there.3 there.4 there.5 there.6
    (sym c.allows.ensures ∙ c.if-not-allows.false) in
    subst (λ (t : Table). (0 < c.args.length) × IsWalk c.args.iova.0 c.in_ok-end.end (r ∷ [])
    × (is_allowed (says t) c.args.iova.0 c.args.length c.args.access ≡ true)
    × (pieces_left c.args.iova.0 c.in_ok-end.end (r ∷ []) ≡ pieces (says t) c.args.iova.0 c.args.length)
    × (pieces (says t) c.args.iova.0 c.args.length
    ≡ record { base = target c.args.iova.0 r.value; len = c.args.length } ∷ []))
    c.self.view_is (some, told.0, told.1, told.2, told.3)
