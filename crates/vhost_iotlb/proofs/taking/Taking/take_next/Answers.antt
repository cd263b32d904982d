use Rattle.std.proofs.Common.{◌+◌, ◌++◌, ◌∷◌, [], ap, ◌∙◌, refl, arith}
use Rattle.vhost_iotlb.specs.Taking.{TakingState}
use Rattle.vhost_iotlb.specs.declared.kept.Kept.{Kept}
use Rattle.vhost_iotlb.proofs.TakingLemmas.{next_want_at, taken_in_part, taken_to_the_end}
use Rattle.vhost_iotlb.proofs.taking.Taking.take_next.Goals as goal

pub overflow_add-iova : goal.overflow_add-iova
overflow_add-iova c =
    let n = next_want_at c.self.inside.wants.items c.self.inside.next c.self.inside.from c.self.inside.kept.items
    c.index-want.result.now c.index-want.ensures c.self.invariant (omega arith) in
    omega (arith, n.inside, n.fits)

pub overflow_sub-want : goal.overflow_sub-want
overflow_sub-want c =
    let n = next_want_at c.self.inside.wants.items c.self.inside.next c.self.inside.from c.self.inside.kept.items
    c.index-want.result.now c.index-want.ensures c.self.invariant (omega arith) in
    omega (arith, n.inside)

pub lead_of-requires-clause-some : goal.lead_of-requires-clause-some
lead_of-requires-clause-some c =
    let n = next_want_at c.self.inside.wants.items c.self.inside.next c.self.inside.from c.self.inside.kept.items
    c.index-want.result.now c.index-want.ensures c.self.invariant (omega arith) in
    omega (arith, n.inside)

pub lead_of-requires-clause-fits : goal.lead_of-requires-clause-fits
lead_of-requires-clause-fits c =
    let n = next_want_at c.self.inside.wants.items c.self.inside.next c.self.inside.from c.self.inside.kept.items
    c.index-want.result.now c.index-want.ensures c.self.invariant (omega arith) in
    omega (arith, n.inside, n.fits)

pub invariant_of-self-then-self-want : goal.invariant_of-self-then-self-want
invariant_of-self-then-self-want c =
    let n = next_want_at c.self.inside.wants.items c.self.inside.next c.self.inside.from c.self.inside.kept.items
    c.index-want.result.now c.index-want.ensures c.self.invariant (omega arith) in
    let k : Kept = record {
      iova = c.index-want.result.now.iova + c.self.inside.from;
      base = c.in-To.base;
      len = c.in-To.len;
      access = c.index-want.result.now.access;
    } in
    rw c.in-Ok.ensures.items
    (taken_to_the_end c.self.inside.wants.items c.self.inside.next c.self.inside.from c.self.inside.kept.items
    c.index-want.result.now k c.self.invariant n
    (refl, refl, c.in-To.ensures.0, omega (arith, n.inside, c.in-To.ensures.1)) c.if-self-want.true)

pub invariant_of-self-else-self-want : goal.invariant_of-self-else-self-want
invariant_of-self-else-self-want c =
    let n = next_want_at c.self.inside.wants.items c.self.inside.next c.self.inside.from c.self.inside.kept.items
    c.index-want.result.now c.index-want.ensures c.self.invariant (omega arith) in
    let k : Kept = record {
      iova = c.index-want.result.now.iova + c.self.inside.from;
      base = c.in-To.base;
      len = c.in-To.len;
      access = c.index-want.result.now.access;
    } in
    rw c.in-Ok.ensures.items
    (taken_in_part c.self.inside.wants.items c.self.inside.next c.self.inside.from c.self.inside.kept.items
    c.index-want.result.now k c.self.invariant n
    (refl, refl, c.in-To.ensures.0, omega (arith, n.inside, c.in-To.ensures.1)) c.if-self-want.false)

pub returns-then-self-want-clause-takes : goal.returns-then-self-want-clause-takes
returns-then-self-want-clause-takes c =
    let k : Kept = record {
      iova = c.index-want.result.now.iova + c.self.inside.from;
      base = c.in-To.base;
      len = c.in-To.len;
      access = c.index-want.result.now.access;
    } in (
      k,
      c.in-Ok.ensures.items ∙ ap (λ (s : TakingState). s.kept ++ k ∷ []) c.self.view_is,
      c.in-To.ensures.2,
    )

pub returns-else-self-want-clause-takes : goal.returns-else-self-want-clause-takes
returns-else-self-want-clause-takes c =
    let k : Kept = record {
      iova = c.index-want.result.now.iova + c.self.inside.from;
      base = c.in-To.base;
      len = c.in-To.len;
      access = c.index-want.result.now.access;
    } in (
      k,
      c.in-Ok.ensures.items ∙ ap (λ (s : TakingState). s.kept ++ k ∷ []) c.self.view_is,
      c.in-To.ensures.2,
    )
