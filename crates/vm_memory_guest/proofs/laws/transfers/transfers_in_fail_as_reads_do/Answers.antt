use Rattle.vm_memory_guest.specs.Error.{of_window}
use Rattle.vm_memory_guest.specs.Transfer.{Fills, filling}
use Rattle.vm_memory_guest.proofs.FilledLaws.{fails_as_moves, fills_told}
use Rattle.vm_memory_guest.proofs.laws.transfers.transfers_in_fail_as_reads_do.Goals as goal

pub returns : goal.returns
returns g c test fault until_full ws source after old new e each failed =
    let r = g.S.ReadVolatile in
    let marks = g.B.Bitmap.marks in
    fails_as_moves test of_window fault (Fills r.source r.reads r.known_left marks (filling until_full))
    (fills_told test r.source r.reads marks (λ s t lent left a h. each s t lent left a h) r.known_left until_full) ws 0
    (source, old) (after, new) e failed
