use Rattle.std.proofs.Common.{[], ◌∷◌, ◌++◌}
use Rattle.vm_memory_guest.proofs.HoldsLemmas.{Holds-space, Holds-made}
use Rattle.vm_memory_guest.proofs.host.HostMemory.new_space.Goals as goal

pub returns-clause-kept : goal.returns-clause-kept
returns-clause-kept g c =
    let old = c.args.self.now in
    let made = c.add_space.ensures in
    Holds-made old c.add_space.new.self (record old { spaces = old.spaces ++ c.args.bitmap ∷ [] })
    (Holds-space old c.args.bitmap) c.add_space.result made.ok made.err
