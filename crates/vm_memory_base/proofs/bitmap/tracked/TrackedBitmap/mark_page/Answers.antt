use Rattle.std.proofs.Common.{ℕ, ◌*◌, ◌/◌, ◌%◌, ◌^◌, ◌<◌, ap, arith}
use Rattle.std.proofs.Math.Pow.{pow-lt}
use Rattle.vm_memory_base.proofs.TrackedRule.{marks_allowed, one_page}
use Rattle.vm_memory_base.proofs.bitmap.tracked.TrackedBitmap.mark_page.Goals as goal

pub fetch_or-requires : goal.fetch_or-requires
fetch_or-requires c =
    let page : ℕ = c.args.page in
    let table = c.args.self.now.table.shared in
    let seat = c.args.marker.now.seat in
    let bit : ℕ = 1 * 2 ^ (page % 32) % 2 ^ 64 in
    let fits = c.args.self.now.fits in
    let shift : page % 32 < 32 = omega arith in
    let small : 2 ^ (page % 32) < 2 ^ 32 = pow-lt shift in (
      ap (λ t. t.0) c.requires.own,
      omega (arith, fits.1, c.requires.inside),
      marks_allowed table.key table.table_id.slots seat.id (page / 32)
          (omega (arith, fits.0, fits.1, c.requires.inside)) seat.me.0 seat.me.1 bit (omega (arith, small))
          (one_page table.key page bit (omega (arith, fits.0, c.requires.inside)) (omega (arith, small)))
          (omega (arith, c.args.marker.now.marks_only.2)),
    )
