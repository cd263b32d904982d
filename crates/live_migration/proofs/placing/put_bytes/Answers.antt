use Rattle.std.proofs.Common.{[], ◌∷◌, length, refl, subst}
use Rattle.vm_memory_guest.specs.Host as names
use Rattle.vm_memory_guest.specs.Host.{IsHeld, Shape}
use Rattle.vm_memory_guest.specs.Window.{Window, Writes}
use Rattle.live_migration.proofs.PlacingLemmas.{bytes_placed, window_marked}
use Rattle.live_migration.proofs.placing.put_bytes.Goals as goal

pub returns-clause-ok : goal.returns-clause-ok
returns-clause-ok g c =
    let marks = g.B.Bitmap.marks in
    let bytes = c.args.bytes.now in
    let old = c.args.host.now in
    let new = c.write.new.self in
    bytes_placed marks c.args.block.0 c.args.start bytes old new
    (subst (λ (s : Shape). IsHeld s (names.Place c.args.block.0 c.args.start (length bytes))) c.shape.ensures.value
    (c.if-not-has_place.ensures.0 refl))
    (subst (λ (w : Window). Writes marks (w ∷ []) bytes old new) c.window-window.ensures.value c.write.ensures.bytes)
    c.write.ensures.shape

pub returns-clause-marked : goal.returns-clause-marked
returns-clause-marked g c = λ some.
    let marks = g.B.Bitmap.marks in
    let bytes = c.args.bytes.now in
    let old = c.args.host.now in
    let new = c.write.new.self in
    window_marked marks c.args.block.0 c.args.start bytes old new
    (subst (λ (w : Window). Writes marks (w ∷ []) bytes old new) c.window-window.ensures.value c.write.ensures.bytes)
    some
