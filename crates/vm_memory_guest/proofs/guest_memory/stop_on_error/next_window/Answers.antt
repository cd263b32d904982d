use Rattle.std.proofs.Common.{subst, Some}
use Rattle.vm_memory_guest.proofs.AccessLemmas.{gave-window, gave-error, gave-none}
use Rattle.vm_memory_guest.proofs.guest_memory.stop_on_error.next_window.Goals as goal

pub returns-in-Some-Ok : goal.returns-in-Some-Ok
returns-in-Some-Ok g c =
    let left = g.I.GuestMemorySliceIterator.left in
    let new = c.next.new.self in
    let steps = subst (λ item. g.I.Iterator.next_gives c.args.walk.now (Some item) new)
    c.in-Some-Ok.field-0-is c.in-Some-Ok.ensures.steps in
    gave-window (left c.args.walk.now) (left new) c.in-Some-Ok.window
    (g.met.I.GuestMemorySliceIterator.gives c.args.walk.now _ new steps)

pub returns-in-Some-Err : goal.returns-in-Some-Err
returns-in-Some-Err g c =
    let left = g.I.GuestMemorySliceIterator.left in
    let new = c.next.new.self in
    let steps = subst (λ item. g.I.Iterator.next_gives c.args.walk.now (Some item) new)
    c.in-Some-Err.field-0-is c.in-Some-Err.ensures.steps in
    gave-error (left c.args.walk.now) (left new) c.in-Some-Err.field-0-0
    (g.met.I.GuestMemorySliceIterator.gives c.args.walk.now _ new steps)

pub returns-in-None : goal.returns-in-None
returns-in-None g c =
    let left = g.I.GuestMemorySliceIterator.left in
    gave-none (left c.args.walk.now)
    (g.met.I.GuestMemorySliceIterator.gives c.args.walk.now _ c.next.new.self c.in-None.ensures.steps).0
