use Rattle.linux_loader.proofs.NoteLemmas.{Passed}
use Rattle.linux_loader.proofs.elf.notes.entry_in.Given as goal

abbrev pub invariant-loop-place : goal.invariant-loop-place
invariant-loop-place l = Passed l.align l.notes l._place l.at
