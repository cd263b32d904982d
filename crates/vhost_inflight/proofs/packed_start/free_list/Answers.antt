use Rattle.std.proofs.Common.{◌≡◌, ◌-◌, ◌++◌, ◌∷◌, ◌∙◌, [], List, ℕ, Option, ap, arith, inr, refl}
use Rattle.vhost_inflight.proofs.PackedStartLemmas.{free_end, free_more, free_past, in_front_all}
use Rattle.vhost_inflight.proofs.packed_start.free_list.Goals as goal

pub loop-i-preserved : goal.loop-i-preserved
loop-i-preserved c =
    let pushed : c.push.new.self.items ≡ c.loop-i.free.items ++ c.loop-i.next ∷ [] = c.in_default.ensures.items in
    rw pushed
    (c.loop-i.invariant
    ∙ free_more c.args.entries.now c.loop-i.free.items c.args.descriptors c.loop-i.i c.loop-i.next (omega arith)
    (omega arith))

pub returns-then-next-descriptors-clause-ok : goal.returns-then-next-descriptors-clause-ok
returns-then-next-descriptors-clause-ok c =
    c.loop-i.invariant
    ∙ free_end c.args.entries.now c.loop-i.free.items (c.args.descriptors - c.loop-i.i) c.loop-i.next (omega arith)

pub returns-then-next-descriptors-2-clause-err : goal.returns-then-next-descriptors-2-clause-err
returns-then-next-descriptors-2-clause-err c =
    inr (
      refl,
      c.loop-i.invariant
          ∙ ap (λ (o : Option (List ℕ)). in_front_all c.loop-i.free.items o)
          (free_past c.args.entries.now (c.args.descriptors - c.loop-i.i) c.loop-i.next (omega arith)),
    )
