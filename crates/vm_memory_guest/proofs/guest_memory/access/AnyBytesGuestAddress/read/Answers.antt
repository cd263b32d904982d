use Rattle.std.proofs.Common.{◌≡◌, ◌∙◌, ap, length, refl, sym}
use Rattle.std.proofs.lemmas.Result.{err_from_is_err_and}
use Rattle.vm_memory_base.specs.declared.iotlb.Permissions.TheVariants.{Read}
use Rattle.vm_memory_guest.proofs.AccessLemmas.{FilledBy, outcome-walk, at_most-walk, outcome-refused}
use Rattle.vm_memory_guest.proofs.HostLemmas.{length-bytes}
use Rattle.vm_memory_guest.proofs.guest_memory.access.AnyBytesGuestAddress.read.Goals as goal

pub returns-in_err-walk-clause-answer : goal.returns-in_err-walk-clause-answer
returns-in_err-walk-clause-answer g c =
    let p = err_from_is_err_and c.from_residual.result c.from_residual.ensures.1 in
    rw (p.1, p.2) (outcome-refused (g.T.GuestMemory.memory c.args.self.now) c.args.host.now.tables c.args.addr.0
    (length c.args.buf.now) Read (c.args.buf.now ≡ c.args.buf.now)
    (FilledBy c.args.host.now c.args.buf.now c.args.buf.now) c.in_err-walk.field-0.0 c.in_err-walk.ensures.answer refl
    refl)

pub returns-clause-answer : goal.returns-clause-answer
returns-clause-answer g c =
    outcome-walk (g.T.GuestMemory.memory c.args.self.now) c.args.host.now.tables c.args.addr.0
    (length c.args.buf.now) Read c.in_ok-walk.walk c.in_ok-walk.ensures.answer c.read_windows.result
    (c.read_windows.new.buf ≡ c.args.buf.now)
    (FilledBy c.args.host.now c.args.buf.now c.read_windows.new.buf) c.read_windows.ensures.answer
    c.read_windows.ensures.bytes

pub returns-clause-at_most : goal.returns-clause-at_most
returns-clause-at_most g c =
    at_most-walk (g.T.GuestMemory.memory c.args.self.now) c.args.host.now.tables c.args.addr.0
    (length c.args.buf.now) Read c.in_ok-walk.walk c.in_ok-walk.ensures.answer c.read_windows.result
    c.read_windows.ensures.answer

pub copy_from_slice-requires : goal.copy_from_slice-requires
copy_from_slice-requires g c =
    sym (ap length c.bytes.ensures ∙ (length-bytes c.args.host.now.blocks c.in-Some.window ∙ c.in-Some.ensures.size))
