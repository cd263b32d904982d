use Rattle.std.proofs.Common.{ℕ, inl, sym, ap, ◌∙◌, subst, arith}
use Rattle.atomic_table.specs.Seated.{TableId}
use Rattle.vm_memory_base.specs.declared.bitmap.tracked.view.View.{View}
use Rattle.vm_memory_base.specs.Tracked.{AreHarvested, AreSeen}
use Rattle.vm_memory_base.proofs.TrackedSeats.{joins_allowed, still_harvested}
use Rattle.vm_memory_base.proofs.bitmap.tracked.TrackedBitmap.join.Goals as goal

pub join_seat-requires : goal.join_seat-requires
join_seat-requires c =
    let fits = c.args.self.now.fits in
    let plain = c.args.marker.marks_only in (
      ap (λ t. t.0) c.requires.own.0,
      ap (λ t. t.0) c.requires.own.1,
      plain.0,
      omega (arith, fits.1),
      joins_allowed c.args.self.now.table.shared.key c.args.harvester.now.seat.id c.args.marker.seat.id
          c.args.harvester.now.seat.me.0 c.args.marker.seat.me.0 plain.1 (inl c.args.harvester.now.harvests_all.0)
          (λ none_there. absurd (omega (arith, none_there, plain.2))),
    )

pub invariant_of-harvester : goal.invariant_of-harvester
invariant_of-harvester c =
    let was = c.args.harvester.now.harvests_all in
    let j = c.join_seat.ensures in
    let round : ℕ = c.args.harvester.now.round in
    let harvester = c.args.harvester.now.seat in
    let still =
    subst (λ (y : TableId × View). AreHarvested y.0.words round y.1.harvests × AreSeen y.0.words round y.1)
    (λ i. (sym j.0 i, ap (λ m. m.0) (sym j.2) i))
    (still_harvested harvester.table_id.words round harvester.me.0 c.args.marker.seat.me.0 was.2 was.3) in
    record { harvests_all = (j.1 ∙ was.0, was.1, still.0, still.1) }
