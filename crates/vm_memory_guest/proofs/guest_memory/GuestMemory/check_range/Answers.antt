use Rattle.std.proofs.Common.{◌∙◌, ap}
use Rattle.std.specs.Prelude.{is_none}
use Rattle.vm_memory_guest.specs.Memory.{route}
use Rattle.vm_memory_guest.proofs.OneWindow.{whole-alone}
use Rattle.vm_memory_guest.proofs.QueryLemmas.{whole-access}
use Rattle.vm_memory_guest.proofs.guest_memory.GuestMemory.check_range.Goals as goal

pub returns-in-Ok : goal.returns-in-Ok
returns-in-Ok g c =
    let memory = g.Self.GuestMemory.memory c.args.self.now in
    c.ends_well.ensures
    ∙ ap (λ walk. is_none walk.fault) c.in-Ok.ensures.answer.1
    ∙ whole-access memory.regions (route memory c.args.host.now.tables) c.args.addr.0 c.args.count c.args.access

pub returns-in-Some-default : goal.returns-in-Some-default
returns-in-Some-default g c =
    let memory = g.Self.GuestMemory.memory c.args.self.now in
    let gives = rw c.in-Some-default.is-0 at c.find_window.ensures in
    whole-alone memory c.args.host.now.tables c.args.addr.0 c.args.count c.args.access c.in-Some-default.field-0-0 gives
