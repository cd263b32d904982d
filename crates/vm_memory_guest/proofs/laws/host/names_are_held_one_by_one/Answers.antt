use Rattle.vm_memory_guest.proofs.HoldsLemmas.{Holds-all, Holds-append, Holds-parts}
use Rattle.vm_memory_guest.proofs.laws.host.names_are_held_one_by_one.Goals as goal

pub returns : goal.returns
returns c = record {
  each = Holds-all;
  joined = λ shape xs ys. (Holds-parts shape xs ys, λ h. Holds-append shape xs ys h.0 h.1);
}
