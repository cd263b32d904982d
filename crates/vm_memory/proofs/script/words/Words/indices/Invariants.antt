-- What was read so far stands before what is left.
use Rattle.std.proofs.Common.{◌≡◌, length}
use Rattle.vm_memory.specs.Reading.{after_front, each, number_of}
use Rattle.vm_memory.proofs.script.words.Words.indices.Given as goal

abbrev pub invariant-loop-word : goal.invariant-loop-word
invariant-loop-word l = each number_of l.initial.self ≡ after_front l.indices.items (each number_of l.self)

abbrev pub decreases-loop-word : goal.decreases-loop-word
decreases-loop-word l = length l.self
