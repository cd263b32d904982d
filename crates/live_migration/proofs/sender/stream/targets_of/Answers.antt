use Rattle.std.proofs.Common.{◌≡◌, ◌++◌, ◌∷◌, [], ◌∙◌, List, ap, map, refl, sym, subst, arith}
use Rattle.std.proofs.lemmas.Grind.{common_steps}
use Rattle.live_migration.specs.Targets.{AreTargets, IsOther, asked, place_of}
use Rattle.live_migration.specs.declared.sender.pages.Target.{Target}
use Rattle.live_migration.proofs.SenderLemmas.{asked_more, place_is, targets_more}
use Rattle.live_migration.proofs.sender.stream.targets_of.Goals as goal

pub loop-block-preserved : goal.loop-block-preserved
loop-block-preserved g c =
    let pages = g.B.ExactBitmap.pages in
    let t = c.in_ok-target.target in
    let pushed : c.push.new.self.items ≡ c.loop-block.targets.items ++ t ∷ [] = grind (arith, common_steps) in
    let other : IsOther c.loop-block.targets.items t =
    subst (λ (ts : List Target). IsOther ts t) c.as_slice.ensures.value (c.if-not-is_new.ensures refl) in
    let there = c.in_ok-target.ensures.block in
    record {
      are = subst (λ (ts : List Target). AreTargets pages c.args.host.now ts) (sym pushed)
          (targets_more pages c.args.host.now c.loop-block.targets.items t c.loop-block.invariant.are
          c.in_ok-target.ensures.tracked c.in_ok-target.ensures.there other);
      named = ap (map place_of) pushed
          ∙ asked_more place_of asked c.loop-block.targets.items c.args.blocks.now t c.loop-block.block-index _
          c.loop-block-test.true c.loop-block.invariant.named (place_is t _ _ there.0 there.1);
    }
