use Rattle.std.proofs.Common.{◌≡◌, ◌+◌, ◌≤◌, arith}
use Rattle.vm_memory_guest.specs.Window.{span}
use Rattle.vm_memory_guest.specs.Error.{of_window}
use Rattle.vm_memory_guest.specs.Transfer.{Fills, UntilWhole}
use Rattle.vm_memory_guest.proofs.FilledLaws.{fills_within, whole_if_all}
use Rattle.vm_memory_guest.proofs.laws.transfers.whole_transfers_in_fill_each_window.Goals as goal

pub returns : goal.returns
returns g c fault ws n source after old new moved enough =
    let r = g.S.ReadVolatile in
    let all : 0 + span ws ≤ n = omega (arith, enough) in
    let told = whole_if_all of_window fault (Fills r.source r.reads r.known_left g.B.Bitmap.marks UntilWhole)
    (fills_within r.source r.reads g.B.Bitmap.marks r.known_left) ws 0 n (source, old) (after, new) moved all in
    let count : n ≡ 0 + span ws = told.0 in
    (omega (arith, count), told.1)
