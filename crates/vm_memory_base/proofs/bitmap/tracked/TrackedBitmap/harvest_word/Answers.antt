use Rattle.std.proofs.Common.{◌≡◌, ℕ, ◌+◌, ◌*◌, ◌%◌, ◌^◌, length, ap, sym, ◌∙◌, subst, arith}
use Rattle.vm_memory_base.specs.Notes.{rounds_of}
use Rattle.vm_memory_base.specs.Tracked.{IsWordBelow, after_harvest}
use Rattle.vm_memory_base.proofs.TrackedRule.{harvests_allowed}
use Rattle.vm_memory_base.proofs.bitmap.tracked.TrackedBitmap.harvest_word.Goals as goal

pub swap-found-requires : goal.swap-found-requires
swap-found-requires c =
    let bitmap = c.args.self.now in
    let seat = c.args.seat.now in
    let round = c.requires.round in
    let next : (c.args.round + 1) * 2 ^ 32 % 2 ^ 64 ≡ (length (rounds_of c.args.word seat.me.0.harvests) + 1) * 2 ^ 32 =
    omega (arith, round.0, round.1) in (
      ap (λ t. t.0) c.requires.own,
      c.requires.inside,
      harvests_allowed bitmap.table.shared.key bitmap.table.shared.table_id.slots seat.id c.args.word c.requires.first
          (omega (arith, bitmap.fits.0, bitmap.fits.1, c.requires.inside)) seat.me.0 seat.me.1
          ((c.args.round + 1) * 2 ^ 32 % 2 ^ 64) next,
    )

pub returns-clause-within : goal.returns-clause-within
returns-clause-within c =
    subst (λ (y : ℕ × ℕ). IsWordBelow y.0 c.args.word y.1)
    (λ i. (ap (λ t. t.1) c.requires.own i, sym c.set_pages.ensures i)) c.swap-found.ensures.2.1

pub returns-clause-takes : goal.returns-clause-takes
returns-clause-takes c =
    let told = c.swap-found.ensures.2 in
    let round = sym told.0 ∙ sym c.requires.round.0 in
    let pages = sym c.set_pages.ensures in
    ap (λ m. m.0) told.2
    ∙ ap (λ (y : ℕ × ℕ). after_harvest c.args.word y.0 y.1 c.args.seat.now.me.0) (λ i. (round i, pages i))
