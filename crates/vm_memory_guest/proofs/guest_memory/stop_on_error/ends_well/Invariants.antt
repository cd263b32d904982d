use Rattle.std.proofs.Common.{◌≡◌, option_map}
use Rattle.vm_memory_guest.specs.Error.{error_of}
use Rattle.vm_memory_guest.proofs.guest_memory.stop_on_error.ends_well.Given as goal

-- what stops the walk is still to come
abbrev pub invariant-loop-item : goal.invariant-loop-item
invariant-loop-item g l =
    let left = g.I.GuestMemorySliceIterator.left in
    (goal.iterator-loop-item g).can_next l.item-iterator
    × (goal.iterator-loop-item g).is_finite l.item-iterator
    × (option_map error_of (left l.fn.walk).fault ≡ option_map error_of (left l.item-iterator).fault)
