use Rattle.std.proofs.Common.{inr, ap, ◌∙◌, arith}
use Rattle.vm_memory_base.specs.Tracked.{both}
use Rattle.vm_memory_base.proofs.TrackedSeats.{notes_allowed, joins_allowed}
use Rattle.vm_memory_base.proofs.bitmap.tracked.TrackedBitmap.tell.Goals as goal

pub split_seat-told-requires : goal.split_seat-told-requires
split_seat-told-requires c =
    let bitmap = c.args.self.now in
    let teller = c.args.teller.now in
    (c.requires.own.0, omega (arith, bitmap.fits.1), notes_allowed bitmap.table.shared.key teller.id teller.me.0)

pub join_seat-requires : goal.join_seat-requires
join_seat-requires c =
    let bitmap = c.args.self.now in
    let hearer = c.args.hearer.now in
    let told = c.split_seat-told.result in
    let note = c.split_seat-told.ensures in (
      c.requires.own.1,
      note.3 ∙ c.requires.own.0,
      ap (λ m. m.1) note.4,
      omega (arith, bitmap.fits.1),
      joins_allowed bitmap.table.shared.key hearer.id told.id hearer.me.0 told.me.0 (ap (λ m. m.0.harvests) note.4)
          (inr (ap (λ m. m.0.count) note.4, ap (λ m. m.0.dealt) note.4)) (λ _. ap (λ m. m.0.marks) note.4),
    )

pub returns-clause-hears : goal.returns-clause-hears
returns-clause-hears c =
    let hearer = c.args.hearer.now in
    let joined = c.join_seat.ensures in
    (joined.0, joined.1, joined.2 ∙ ap (λ m. (both hearer.me.0 m.0, hearer.me.1)) c.split_seat-told.ensures.4)
