use Rattle.std.proofs.Common.{◌≡◌, false, drop}
use Rattle.vm_session.specs.Words.{sinks_in}
use Rattle.vm_session.proofs.StepLemmas.{prepend}
use Rattle.vm_session.proofs.steps.sinks_of.Given as goal

abbrev pub invariant-loop-word : goal.invariant-loop-word
invariant-loop-word l =
    sinks_in false l.fn.words ≡ prepend l.steps.items (sinks_in l.taking (drop l.word-index l.fn.words))
