-- What was read so far stands before what is left.
use Rattle.std.proofs.Common.{◌≡◌, length}
use Rattle.vm_memory.specs.Reading.{after_front, each, sink_step_of}
use Rattle.vm_memory.proofs.script.words.sink.Given as goal

abbrev pub invariant-loop-part : goal.invariant-loop-part
invariant-loop-part l = each sink_step_of l.initial.parts ≡ after_front l.steps.items (each sink_step_of l.parts)

abbrev pub decreases-loop-part : goal.decreases-loop-part
decreases-loop-part l = length l.parts
