use Rattle.std.proofs.Common.{◌≡◌, ◌*◌, ◌++◌, take, drop, flat_map}
use Rattle.vm_session.specs.Words.{row_bytes}
use Rattle.vm_session.proofs.words.put_rows.Given as goal

abbrev pub invariant-loop-row : goal.invariant-loop-row
invariant-loop-row g l = (l.at ≡ l.row-index * 16)
    × (l.output ≡ flat_map (λ r. row_bytes (g.T.Row.base r) (g.T.Row.length r)) (take l.row-index l.rows)
    ++ drop l.at l.fn.output)
