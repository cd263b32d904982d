use Rattle.std.proofs.Common.{inl, inr, refl}
use Rattle.vm_memory_guest.specs.Dealt.{dealt}
use Rattle.vm_memory_guest.specs.Dirt.{with_pages}
use Rattle.vm_memory_guest.specs.Error.{of_window}
use Rattle.vm_memory_guest.specs.Transfer.{Fills, filling}
use Rattle.vm_memory_guest.proofs.DealtLaws.{IsDealt, fills_does}
use Rattle.vm_memory_guest.specs.lemmas.Orders.{order_does}
use Rattle.vm_memory_guest.proofs.laws.transfers.transfers_in_are_computed.Goals as goal

pub returns : goal.returns
returns g c until_full fault ws total next source after old new answer tells so =
    let tells_next = g.S.ReadVolatile.source in
    let reads = g.S.ReadVolatile.reads in
    let known = g.S.ReadVolatile.known_left in
    let marks = g.B.Bitmap.marks in
    let pages = g.B.ExactBitmap.pages in
    let exact = g.met.B.ExactBitmap.marks_pages in
    let empty = c.mark_is_by_bytes.ensures.empty in
    elim (order_does of_window fault (IsDealt tells_next reads marks pages exact empty) (λ x. ⊥)
    (Fills tells_next reads known marks (filling until_full)) (dealt until_full)
    (fills_does tells_next reads marks pages exact empty known until_full) (λ w x z moved m no. no) ws total
    (source, old) answer (after, new)
    (next, with_pages pages old) (tells, refl) so) [
      | inl wanted ↦ absurd wanted.1
      | inr does ↦ (does.0, does.1.0, does.1.1)
    ]
