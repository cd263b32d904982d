use Rattle.std.proofs.Common.{◌≡◌, length, refl}
use Rattle.std.proofs.lemmas.Result.{err_from_is_err_and}
use Rattle.vm_memory_base.specs.declared.iotlb.Permissions.TheVariants.{Write}
use Rattle.vm_memory_guest.specs.Window.{Writes}
use Rattle.vm_memory_guest.proofs.MarkLaws.{shape_of-Writes}
use Rattle.vm_memory_guest.proofs.AccessLemmas.{outcome-walk, at_most-walk, outcome-refused}
use Rattle.vm_memory_guest.proofs.guest_memory.access.AnyBytesGuestAddress.write.Goals as goal

pub returns-in_err-walk-clause-answer : goal.returns-in_err-walk-clause-answer
returns-in_err-walk-clause-answer g c =
    let p = err_from_is_err_and c.from_residual.result c.from_residual.ensures.1 in
    rw (p.1, p.2) (outcome-refused (g.T.GuestMemory.memory c.args.self.now) c.args.host.now.tables c.args.addr.0
    (length c.args.buf.now) Write (c.args.host.now ≡ c.args.host.now)
    (λ ws. Writes g.B.Bitmap.marks ws c.args.buf.now c.args.host.now c.args.host.now) c.in_err-walk.field-0.0
    c.in_err-walk.ensures.answer refl refl)

pub returns-clause-answer : goal.returns-clause-answer
returns-clause-answer g c =
    outcome-walk (g.T.GuestMemory.memory c.args.self.now) c.args.host.now.tables c.args.addr.0
    (length c.args.buf.now) Write c.in_ok-walk.walk c.in_ok-walk.ensures.answer c.write_windows.result
    (c.write_windows.new.host ≡ c.args.host.now)
    (λ ws. Writes g.B.Bitmap.marks ws c.args.buf.now c.args.host.now c.write_windows.new.host)
    c.write_windows.ensures.answer c.write_windows.ensures.bytes

pub returns-clause-at_most : goal.returns-clause-at_most
returns-clause-at_most g c =
    at_most-walk (g.T.GuestMemory.memory c.args.self.now) c.args.host.now.tables c.args.addr.0
    (length c.args.buf.now) Write c.in_ok-walk.walk c.in_ok-walk.ensures.answer c.write_windows.result
    c.write_windows.ensures.answer

pub returns-clause-shape : goal.returns-clause-shape
returns-clause-shape g c =
    shape_of-Writes g.B.Bitmap.marks c.in_ok-walk.walk.windows c.args.buf.now c.args.host.now c.write_windows.new.host
    c.write_windows.ensures.bytes
