use Rattle.std.proofs.Common.{◌≡◌, ℕ, ◌-◌, subst, arith}
use Rattle.vm_memory_base.specs.Markers.{known_to}
use Rattle.vm_memory_base.specs.Tracked.{MarksPages}
use Rattle.vm_memory_base.proofs.bitmap.tracked.TrackedBitmap.mark.Goals as goal

pub returns-clause-marks : goal.returns-clause-marks
returns-clause-marks c =
    let range : ℕ × ℕ = c.pages_in-first.result in
    let whole : c.loop-page.page - range.0 ≡ range.1 - range.0 =
    let most = c.loop-page.invariant.2 in let least = c.loop-page-test.false in omega (arith, most, least) in
    subst (λ (t : ℕ × ℕ). MarksPages (t.1 - t.0) t.0 (known_to c.args.marker.now) (known_to c.loop-page.marker))
    c.pages_in-first.ensures.pages
    (subst (λ n. MarksPages n range.0 (known_to c.args.marker.now) (known_to c.loop-page.marker)) whole
    c.loop-page.invariant.1)
