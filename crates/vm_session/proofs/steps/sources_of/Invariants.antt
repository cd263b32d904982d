use Rattle.std.proofs.Common.{◌≡◌, [], drop}
use Rattle.vm_session.specs.Words.{sources_in}
use Rattle.vm_session.proofs.StepLemmas.{prepend}
use Rattle.vm_session.proofs.steps.sources_of.Given as goal

abbrev pub invariant-loop-word : goal.invariant-loop-word
invariant-loop-word l =
    sources_in [] l.fn.words ≡ prepend l.steps.items (sources_in l.bytes.items (drop l.word-index l.fn.words))
