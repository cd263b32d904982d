use Rattle.std.proofs.Common.{subst, Some}
use Rattle.vm_memory_guest.proofs.AccessLemmas.{windows_before-more}
use Rattle.vm_memory_guest.proofs.guest_memory.stop_on_error.GuestMemorySliceIterator.stop_on_error.Goals as goal

pub returns-in-Some-Ok : goal.returns-in-Some-Ok
returns-in-Some-Ok g c =
    let left = g.Self.GuestMemorySliceIterator.left in
    let new = c.next.new.self in
    let steps = subst (λ item. g.Self.Iterator.next_gives c.args.self (Some item) new)
    c.in-Some-Ok.field-0-is c.in-Some-Ok.ensures.steps in
    windows_before-more (left c.args.self) (left new) c.in-Some-Ok.window
    (g.met.Self.GuestMemorySliceIterator.gives c.args.self _ new steps)
