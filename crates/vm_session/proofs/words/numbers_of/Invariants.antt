use Rattle.std.proofs.Common.{◌≡◌, take, map}
use Rattle.std.specs.Int.{w64, from_le_bytes}
use Rattle.vm_session.proofs.words.numbers_of.Given as goal

abbrev pub invariant-loop-word : goal.invariant-loop-word
invariant-loop-word l = l.numbers.items ≡ map (from_le_bytes w64) (take l.word-index l.words)
