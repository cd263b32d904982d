use Rattle.std.proofs.Common.{◌≡◌, List, true, false, inl, inr, ◌⊎◌, sym, ap, subst, ◌∙◌, arith}
use Rattle.vm_memory_base.specs.Table.{Table, Range, says, is_allowed, pieces, misses, failures}
use Rattle.vm_memory_base.specs.declared.iotlb.lookup.LookupError.{LookupError}
use Rattle.vm_memory_base.specs.declared.iotlb.lookup.LookupError.TheVariants.{Fails, Memory}
use Rattle.vm_memory_base.proofs.LookupLemmas.{looked_up, looked_up_in_vain, no_pieces}
use Rattle.vm_memory_base.specs.Change.{granted}
use Rattle.vm_memory_base.specs.Walk.{pieces_left}
use Rattle.vm_memory_base.proofs.iotlb.table.Iotlb.lookup_parts.Goals as goal

pub returns-then-length-eq0-clause-found : goal.returns-then-length-eq0-clause-found
returns-then-length-eq0-clause-found c =
    let none = no_pieces (says c.args.self.now) c.args.iova.0 c.args.access c.args.length c.if-length-eq0.true in
    let empty = ap (pieces_left c.in-Some.end c.in-Some.end) c.none.ensures in
    (none.0, c.new.ensures ∙ empty ∙ sym none.1)

pub new-requires-then-are_granted : goal.new-requires-then-are_granted
new-requires-then-are_granted c =
    let there = c.asked-asked.ensures in
    (looked_up c.self.inside.ranges there.0 c.asked-asked.result there.1 there.2 c.self.invariant.0 c.args.iova.0
    c.args.length c.in-Some.end c.in-Some.ensures.1 (omega arith) c.in-Some.ensures.0 c.args.access there.3 there.4
    there.5 (ap (granted c.args.iova.0 c.in-Some.end c.args.access) (sym c.again.ensures) ∙ sym c.are_granted.ensures
    ∙ c.if-are_granted.true)).1

pub returns-then-are_granted-clause-found : goal.returns-then-are_granted-clause-found
returns-then-are_granted-clause-found c =
    let there = c.asked-asked.ensures in
    let told = looked_up c.self.inside.ranges there.0 c.asked-asked.result there.1 there.2 c.self.invariant.0
    c.args.iova.0 c.args.length c.in-Some.end c.in-Some.ensures.1 (omega arith) c.in-Some.ensures.0 c.args.access
    there.3 there.4 there.5
    (ap (granted c.args.iova.0 c.in-Some.end c.args.access) (sym c.again.ensures) ∙ sym c.are_granted.ensures
    ∙ c.if-are_granted.true) in
    subst (λ (t : Table). (is_allowed (says t) c.args.iova.0 c.args.length c.args.access ≡ true)
    × (c.new-then-are_granted.result ≡ pieces (says t) c.args.iova.0 c.args.length))
    c.self.view_is (told.0, c.new-then-are_granted.ensures ∙ told.2)

-- the same answer of lists that are the same
same_fails : (e : LookupError) (m m' f f' : List Range) → m ≡ m' → f ≡ f' → (e ≡ Memory)
    ⊎ (e ≡ Fails (record { misses = m; access_fails = f })) → (e ≡ Memory)
    ⊎ (e ≡ Fails (record { misses = m'; access_fails = f' }))
same_fails e m m' f f' p q (inl z) = inl z
same_fails e m m' f f' p q (inr s) = inr (cc)

pub returns-clause-refused : goal.returns-clause-refused
returns-clause-refused c =
    let there = c.asked-asked.ensures in
    let told = looked_up_in_vain c.self.inside.ranges there.0 c.asked-asked.result there.1 there.2 c.self.invariant.0
    c.args.iova.0 c.args.length c.in-Some.end c.in-Some.ensures.1 (omega arith) c.in-Some.ensures.0 c.args.access
    there.3 there.4 there.5
    (ap (granted c.args.iova.0 c.in-Some.end c.args.access) (sym c.again.ensures) ∙ sym c.are_granted.ensures
    ∙ c.if-are_granted.false) in
    subst (λ (t : Table). (is_allowed (says t) c.args.iova.0 c.args.length c.args.access ≡ false)
    × ((c.refusal.result ≡ Memory)
    ⊎ (c.refusal.result ≡ Fails
    (record {
      misses = misses (says t) c.args.iova.0 c.args.length;
      access_fails = failures (says t) c.args.iova.0 c.args.length c.args.access;
    }))))
    c.self.view_is (told.0, same_fails c.refusal.result _ _ _ _ told.1 told.2 c.refusal.ensures)
