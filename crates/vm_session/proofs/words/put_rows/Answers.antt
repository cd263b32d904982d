use Rattle.std.proofs.Common.{◌∙◌, ◌++◌, ◌+◌, take, drop, ap₂, arith, refl}
use Rattle.vm_session.specs.Words.{row_bytes}
use Rattle.vm_session.proofs.WordLemmas.{item_put}
use Rattle.vm_session.proofs.words.put_rows.Goals as goal

pub loop-row-preserved : goal.loop-row-preserved
loop-row-preserved g c =
    let at = c.loop-row.at in
    let row = c.row-item.result in
    let invariant = c.loop-row.invariant in
    let told = ap₂ row_bytes c.base.ensures c.length.ensures in
    let i = c.loop-row.row-index in
    let base = g.T.Row.base in
    let size = g.T.Row.length in (
      omega (arith, invariant.0),
      c.put_row.ensures
          ∙ ap₂ (λ o b. take at o ++ (b ++ drop (at + 16) o)) invariant.1 told
          ∙ item_put (λ r. row_bytes (base r) (size r)) 16 (λ x. refl) c.args.rows.now c.args.output.now i at row
          c.loop-row-test.true invariant.0 c.row-item.is,
    )
