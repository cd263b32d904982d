use Rattle.linux_loader.proofs.PvhLemmas.{Sought}
use Rattle.linux_loader.proofs.elf.notes.pvh_entry.Given as goal

abbrev pub invariant-loop-header : goal.invariant-loop-header
invariant-loop-header g l = Sought (g.F.KernelImage.bytes l.initial.image) (g.F.KernelImage.bytes l.image) l.size
    l.headers
    l.header-index
