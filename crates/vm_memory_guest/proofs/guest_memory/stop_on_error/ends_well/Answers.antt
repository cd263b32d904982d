use Rattle.std.proofs.Common.{◌∙◌}
use Rattle.vm_memory_guest.specs.Walk.{items_of}
use Rattle.vm_memory_guest.proofs.AccessLemmas.{gave, ends_in, ends_whole, stops-told, ends-told}
use Rattle.vm_memory_guest.proofs.guest_memory.stop_on_error.ends_well.Goals as goal

pub returns-in-Err : goal.returns-in-Err
returns-in-Err g c =
    let left = g.I.GuestMemorySliceIterator.left in
    let walk = c.loop-item.item-iterator in
    let new = c.next.new.self in
    let steps = g.met.I.GuestMemorySliceIterator.gives walk _ new c.in-Some.ensures.steps in
    let end = ends_in (left walk) c.in-Some.item c.in-Err.field-0 (items_of (left new)) steps c.in-Err.is in
    stops-told (left c.args.walk).fault c.in-Err.field-0 (c.loop-item.invariant.2 ∙ end.fault)

pub loop-item-preserved : goal.loop-item-preserved
loop-item-preserved g c =
    let left = g.I.GuestMemorySliceIterator.left in
    let walk = c.loop-item.item-iterator in
    let new = c.next.new.self in
    let steps = g.met.I.GuestMemorySliceIterator.gives walk _ new c.in-Some.ensures.steps in
    let next = gave (left walk) (left new) c.in-Some.item c.in-Ok.field-0 steps c.in-Ok.is in (
      g.met.I.GuestMemorySliceIterator.can new,
      g.met.I.GuestMemorySliceIterator.ends new,
      c.loop-item.invariant.2 ∙ next.fault,
    )

pub returns : goal.returns
returns g c =
    let left = g.I.GuestMemorySliceIterator.left in
    let walk = c.loop-item.item-iterator in
    let steps = g.met.I.GuestMemorySliceIterator.gives walk _ c.next.new.self c.in-None.ensures.steps in
    ends-told (left c.args.walk).fault (c.loop-item.invariant.2 ∙ (ends_whole (left walk) steps.0).fault)
