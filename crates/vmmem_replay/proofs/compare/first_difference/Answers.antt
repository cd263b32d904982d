use Rattle.std.proofs.Common.{rules, ◌∙◌, [], map, sym, arith}
use Rattle.std.proofs.lemmas.List.{length-map}
use Rattle.vmmem_replay.proofs.Parting.{same_so_far, parts_here, parts_at_end}
use Rattle.vmmem_replay.proofs.compare.first_difference.Goals as goal

pub returns-then-not-is_same-clause-parts : goal.returns-then-not-is_same-clause-parts
returns-then-not-is_same-clause-parts c = (
  c.loop-place.invariant,
  parts_here (λ line. line.now) c.args.wanted.now c.args.came.now c.loop-place.place
      (record { ref_ptr = (0, 0); now = [] }) (omega arith) (omega arith) (search rules),
)

pub loop-place-preserved : goal.loop-place-preserved
loop-place-preserved c =
    same_so_far (λ line. line.now) c.args.wanted.now c.args.came.now c.loop-place.place
    (record { ref_ptr = (0, 0); now = [] }) (omega arith) (omega arith) c.loop-place.invariant (search rules)

pub returns-clause-parts : goal.returns-clause-parts
returns-clause-parts c =
    let wanted = length-map c.args.wanted.now (λ line. line.now) in
    let came = length-map c.args.came.now (λ line. line.now) in (
      search rules,
      parts_at_end (map (λ line. line.now) c.args.wanted.now) (map (λ line. line.now) c.args.came.now)
          c.min-both.result (omega (arith, wanted, came)) (λ e. c.if-wanted-came.false (sym wanted ∙ e ∙ came)),
    )
