use Rattle.std.proofs.Common.{◌≡◌, length}
use Rattle.vm_memory_base.specs.Markers.{AreNew}
use Rattle.vm_memory_base.specs.Tracked.{after_deals}
use Rattle.vm_memory_base.proofs.bitmap.tracked.Marker.deal.Given as goal

abbrev pub invariant-loop : goal.invariant-loop
invariant-loop l =
    (l.seat.table_id ≡ l.initial.seat.table_id) × (l.seat.id ≡ l.initial.seat.id)
    × (l.seat.me ≡ (after_deals l.counter l.initial.seat.me.0, l.initial.seat.me.1))
    × (length l.markers.items ≡ l.counter) × AreNew (l.shared.table_id, l.initial.seat.me.0.count) l.markers.items
