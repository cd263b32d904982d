use Rattle.std.proofs.Common.{◌≡◌, ◌⊎◌, refl, subst, arith}
use Rattle.std.proofs.lemmas.Result.{err_from_is_err_and}
use Rattle.vm_memory_base.specs.declared.iotlb.Permissions.TheVariants.{Write}
use Rattle.vm_memory_guest.specs.Transfer.{all_of, ended}
use Rattle.vm_memory_guest.specs.Walk.{RefusesAccess, WantsMemory}
use Rattle.vm_memory_guest.specs.Window.{Writes, span}
use Rattle.vm_memory_guest.specs.declared.region.error.GuestMemoryError.TheVariants.{PartialBuffer}
use Rattle.vm_memory_guest.proofs.MarkLaws.{shape_of-Writes}
use Rattle.vm_memory_guest.proofs.TypedWalk.{value-refused}
use Rattle.vm_memory_guest.proofs.guest_memory.access.AnyBytesGuestAddress.write_obj.Goals as goal

pub returns-in_err-windows-clause-answer : goal.returns-in_err-windows-clause-answer
returns-in_err-windows-clause-answer g c short =
    let p = err_from_is_err_and c.from_residual.result c.from_residual.ensures.1 in
    let memory = g.T.GuestMemory.memory c.args.self.now in
    let host = c.args.host.now in
    let e = c.in_err-windows.field-0.0 in
    let width : c.size-size.result ≡ g.V.ByteSized.width = omega (arith, c.size-size.ensures) in
    let why = subst (λ n. WantsMemory memory host.tables c.args.addr.0 n Write e
    ⊎ RefusesAccess memory host.tables c.args.addr.0 n Write e) width c.in_err-windows.ensures.answer in
    rw (p.1, p.2) (value-refused memory host.tables c.args.addr.0 g.V.ByteSized.width Write
    (λ r. all_of PartialBuffer g.V.ByteSized.width (ended (span r.windows) r.fault)) (host ≡ host)
    (λ ws. Writes g.B.Bitmap.marks ws (g.V.ByteValued.bytes c.args.val) host host) e why
    refl refl refl)

pub returns-in_err-completed-clause-shape : goal.returns-in_err-completed-clause-shape
returns-in_err-completed-clause-shape g c =
    shape_of-Writes g.B.Bitmap.marks c.in_ok-windows.windows.windows
    (g.V.ByteValued.bytes c.args.val) c.args.host.now c.write_value-2.new.host c.write_value-2.ensures.bytes

pub returns-clause-shape : goal.returns-clause-shape
returns-clause-shape g c =
    shape_of-Writes g.B.Bitmap.marks c.in_ok-windows.windows.windows
    (g.V.ByteValued.bytes c.args.val) c.args.host.now c.write_value-2.new.host c.write_value-2.ensures.bytes
