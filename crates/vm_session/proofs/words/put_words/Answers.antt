use Rattle.std.proofs.Common.{◌∙◌, ◌++◌, ◌+◌, take, drop, get_or, ap, arith, refl}
use Rattle.std.proofs.lemmas.List.{get_or_default}
use Rattle.std.specs.Int.{w64, to_le_bytes}
use Rattle.vm_session.proofs.WordLemmas.{item_put}
use Rattle.vm_session.proofs.words.put_words.Goals as goal

pub loop-word-preserved : goal.loop-word-preserved
loop-word-preserved c =
    let at = c.loop-word.at in
    let words = c.args.words.now in
    let i = c.loop-word.word-index in
    let word = get_or words i 0 in
    let invariant = c.loop-word.invariant in (
      omega (arith, invariant.0),
      c.put_word.ensures
          ∙ ap (λ o. take at o ++ (to_le_bytes w64 word ++ drop (at + 8) o)) invariant.1
          ∙ item_put (to_le_bytes w64) 8 (λ x. refl) words c.args.output.now i at word c.loop-word-test.true invariant.0
          (get_or_default words i 0 word c.loop-word-test.true),
    )
