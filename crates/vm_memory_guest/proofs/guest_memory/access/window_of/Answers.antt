use Rattle.std.proofs.Common.{◌≡◌}
use Rattle.vm_memory_guest.specs.Host.{Holds, shape_of}
use Rattle.vm_memory_guest.specs.Walk.{GivesAccess, alone}
use Rattle.vm_memory_guest.specs.Window.{window_names}
use Rattle.vm_memory_guest.proofs.OneWindow.{held-alone, of_found, size-alone}
use Rattle.vm_memory_guest.proofs.guest_memory.access.window_of.Goals as goal

pub returns-clause-size : goal.returns-clause-size
returns-clause-size g c =
    let m = g.M.GuestMemory.memory c.args.memory.now in
    let tables = c.args.host.now.tables in
    of_found c.find_window.result.0
    (λ w. GivesAccess m tables c.args.addr.0 c.args.count c.args.access (alone w)) (λ w. w.size ≡ c.args.count)
    c.find_window.ensures (size-alone m tables c.args.addr.0 c.args.count c.args.access)

pub returns-clause-held : goal.returns-clause-held
returns-clause-held g c =
    let m = g.M.GuestMemory.memory c.args.memory.now in
    let tables = c.args.host.now.tables in
    let shape = shape_of c.args.host.now in
    of_found c.find_window.result.0
    (λ w. GivesAccess m tables c.args.addr.0 c.args.count c.args.access (alone w)) (λ w. Holds shape (window_names w))
    c.find_window.ensures
    (λ w gives. held-alone m tables c.args.addr.0 c.args.count c.args.access w gives shape
    (g.M.Named.names c.args.memory.now) (g.met.M.GuestMemory.each_fits c.args.memory.now)
    (g.met.M.GuestMemory.names_memory c.args.memory.now) c.requires)
