use Rattle.std.proofs.Common.{◌≡◌, ◌++◌, ◌∷◌, [], ◌∙◌, List, ap, map, refl, sym, subst, arith}
use Rattle.std.proofs.lemmas.Grind.{common_steps}
use Rattle.live_migration.specs.Targets.{AreBlocks, IsOther, sized_asked, sized_place_of}
use Rattle.live_migration.specs.declared.sender.pages.Target.{Target}
use Rattle.live_migration.proofs.SenderLemmas.{asked_more, blocks_more}
use Rattle.live_migration.proofs.sender.tracked.blocks_of.Goals as goal

pub loop-place-preserved : goal.loop-place-preserved
loop-place-preserved g c =
    let t = c.in_ok-target.target in
    let pushed : c.push.new.self.items ≡ c.loop-place.targets.items ++ t ∷ [] = grind (arith, common_steps) in
    let other : IsOther c.loop-place.targets.items t =
    subst (λ (ts : List Target). IsOther ts t) c.as_slice.ensures.value (c.if-not-is_new.ensures refl) in
    record {
      are = subst (λ (ts : List Target). AreBlocks c.args.host.now ts) (sym pushed)
          (blocks_more c.args.host.now c.loop-place.targets.items t c.loop-place.invariant.are
          c.in_ok-target.ensures.there other);
      named = ap (map sized_place_of) pushed
          ∙ asked_more sized_place_of sized_asked c.loop-place.targets.items c.args.blocks.now t
          c.loop-place.place-index _ c.loop-place-test.true c.loop-place.invariant.named
          (c.in_ok-target.ensures.asked ∙ ap sized_asked c.place-item.is);
    }
