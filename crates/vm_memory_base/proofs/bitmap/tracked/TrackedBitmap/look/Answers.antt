use Rattle.std.proofs.Common.{◌≡◌, ℕ, ◌/◌, ◌%◌, ◌^◌, ap, sym, ◌∙◌, arith}
use Rattle.std.specs.Int.{bit_at}
use Rattle.std.proofs.lemmas.Nat.Bits.{shr_and_one}
use Rattle.std.proofs.lemmas.Bool.{true≢false}
use Rattle.std.specs.Prelude.{nat_eq, ◌==◌, bit_and}
use Rattle.vm_memory_base.specs.Tracked.{set_pages}
use Rattle.vm_memory_base.proofs.TrackedRule.{looks_allowed}
use Rattle.vm_memory_base.proofs.bitmap.tracked.TrackedBitmap.look.Goals as goal

pub load-found-requires : goal.load-found-requires
load-found-requires c =
    let table = c.args.self.now.table.shared in
    let seat = c.args.marker.now.seat in
    let fits = c.args.self.now.fits in (
      ap (λ t. t.0) c.requires.own,
      omega (arith, fits.1, c.requires.inside),
      looks_allowed table.key table.table_id.slots seat.id (c.args.page / 32)
          (omega (arith, fits.0, fits.1, c.requires.inside)) seat.me.0 seat.me.1,
    )

pub returns-clause-sees : goal.returns-clause-sees
returns-clause-sees c =
    let told = c.load-found.ensures.2 in
    let k : ℕ = c.args.page % 32 in
    let same : nat_eq (bit_and (c.set_pages.result / 2 ^ k) 1) 1 ≡ (bit_at (set_pages c.load-found.result) k == 1) =
    ap (λ (n : ℕ). nat_eq n 1) (shr_and_one c.set_pages.result k ∙ ap (λ (n : ℕ). bit_at n k) c.set_pages.ensures) in (
      c.load-found.result,
      told.0,
      ap (λ m. m.0) told.2,
      same,
      λ clean noted. true≢false (sym (ap (λ (n : ℕ). n == 1) (told.1 k noted)) ∙ (sym same ∙ clean)),
    )
