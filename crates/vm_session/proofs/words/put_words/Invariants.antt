use Rattle.std.proofs.Common.{◌≡◌, ◌*◌, ◌++◌, take, drop, flat_map}
use Rattle.std.specs.Int.{w64, to_le_bytes}
use Rattle.vm_session.proofs.words.put_words.Given as goal

abbrev pub invariant-loop-word : goal.invariant-loop-word
invariant-loop-word l = (l.at ≡ l.word-index * 8)
    × (l.output ≡ flat_map (to_le_bytes w64) (take l.word-index l.words) ++ drop l.at l.fn.output)
