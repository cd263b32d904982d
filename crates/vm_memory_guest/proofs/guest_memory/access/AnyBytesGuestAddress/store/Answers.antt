use Rattle.std.proofs.Common.{◌≡◌, ◌⊎◌, option_map, refl, subst, arith}
use Rattle.std.proofs.lemmas.Result.{err_from_is_err_and}
use Rattle.vm_memory_base.specs.declared.iotlb.Permissions.TheVariants.{Write}
use Rattle.vm_memory_guest.specs.Error.{error_of}
use Rattle.vm_memory_guest.specs.Host.{Holds, shape_of}
use Rattle.vm_memory_guest.specs.Walk.{RefusesAccess, WantsMemory}
use Rattle.vm_memory_guest.specs.Window.{Writes, window_names}
use Rattle.vm_memory_guest.proofs.TypedWalk.{first-held, typed-refused}
use Rattle.vm_memory_guest.proofs.guest_memory.access.AnyBytesGuestAddress.store.Goals as goal

pub returns-in_err-walk-clause-answer : goal.returns-in_err-walk-clause-answer
returns-in_err-walk-clause-answer g c =
    let p = err_from_is_err_and c.from_residual.result c.from_residual.ensures.1 in
    let memory = g.T.GuestMemory.memory c.args.self.now in
    let host = c.args.host.now in
    let e = c.in_err-walk.field-0.0 in
    let width : c.size-size.result ≡ g.V.ByteSized.width =
    omega (arith, c.size-size.ensures, g.met.V.AtomicAccess.fits_word.1) in
    let why = subst (λ n. WantsMemory memory host.tables c.args.addr.0 n Write e
    ⊎ RefusesAccess memory host.tables c.args.addr.0 n Write e) width c.in_err-walk.ensures.answer in
    rw (p.1, p.2) (typed-refused memory host.tables c.args.addr.0 g.V.ByteSized.width Write (λ w. tt {0}) (host ≡ host)
    (λ ws. Writes g.B.Bitmap.marks ws (g.V.ByteValued.bytes c.args.val) host host) e why refl refl)

pub write_value-requires-2-clause-held : goal.write_value-requires-2-clause-held
write_value-requires-2-clause-held g c =
    let walk = c.in_ok-walk.walk in
    first-held (λ w. Holds (shape_of c.args.host.now) (window_names w)) c.size-size.result walk.windows
    (option_map error_of walk.fault)
    c.in_ok-window.window c.in_ok-window.ensures c.in_ok-walk.ensures.held
