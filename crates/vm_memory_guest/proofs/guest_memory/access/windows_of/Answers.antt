use Rattle.std.proofs.Common.{◌≤◌}
use Rattle.std.specs.List.{AllByRecursion}
use Rattle.vm_memory_guest.specs.Host.{Holds, shape_of}
use Rattle.vm_memory_guest.specs.Walk.{GivesAccess}
use Rattle.vm_memory_guest.specs.Window.{span, window_names}
use Rattle.vm_memory_guest.proofs.AccessLemmas.{of_given, walk-held, walk-fits}
use Rattle.vm_memory_guest.proofs.guest_memory.access.windows_of.Goals as goal

pub returns-clause-held : goal.returns-clause-held
returns-clause-held g c =
    let m = g.M.GuestMemory.memory c.args.memory.now in
    let host = c.args.host.now in
    let a = c.args.addr.0 in
    of_given (GivesAccess m host.tables a c.args.count c.args.access)
    (λ walk. AllByRecursion (λ w. Holds (shape_of host) (window_names w)) walk.windows) _ c.get_slices.result
    c.get_slices.ensures.answer
    (λ walk gives. walk-held m host.tables a c.args.count c.args.access walk gives (shape_of host)
    (g.M.Named.names c.args.memory.now) (g.met.M.GuestMemory.each_fits c.args.memory.now)
    (g.met.M.GuestMemory.names_memory c.args.memory.now) c.requires)

pub returns-clause-fits : goal.returns-clause-fits
returns-clause-fits g c =
    let m = g.M.GuestMemory.memory c.args.memory.now in
    let tables = c.args.host.now.tables in
    let a = c.args.addr.0 in
    of_given (GivesAccess m tables a c.args.count c.args.access) (λ walk. span walk.windows ≤ c.args.count) _
    c.get_slices.result c.get_slices.ensures.answer (walk-fits m tables a c.args.count c.args.access)
