use Rattle.std.proofs.Common.{◌≡◌, ◌∙◌, ◌++◌, ◌+◌, take, drop, ap₂, arith, refl}
use Rattle.std.specs.Int.{w64, to_le_bytes}
use Rattle.vm_session.proofs.WordLemmas.{two_put}
use Rattle.vm_session.proofs.words.put_row.Goals as goal

pub returns : goal.returns
returns c =
    let next = c.args.at + 8 in
    let size = to_le_bytes w64 c.args.size in
    let last : next + 8 ≡ c.args.at + 16 = omega arith in
    c.put_word-2.ensures
    ∙ ap₂ (λ o e. take next o ++ (size ++ drop e o)) c.put_word.ensures last
    ∙ two_put c.args.output.now (to_le_bytes w64 c.args.base) size c.args.at next (c.args.at + 16) refl refl
    (omega arith) (omega (arith, c.requires))
