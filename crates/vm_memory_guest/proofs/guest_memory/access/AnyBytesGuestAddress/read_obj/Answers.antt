use Rattle.std.proofs.Common.{◌≡◌, ◌⊎◌, ◌∙◌, refl, ap, sym, subst, arith, length}
use Rattle.std.proofs.lemmas.Result.{err_from_is_err_and}
use Rattle.std.proofs.lemmas.List.{length-replicate}
use Rattle.vm_memory_base.specs.declared.iotlb.Permissions.TheVariants.{Read}
use Rattle.vm_memory_guest.specs.Host.{bytes_at}
use Rattle.vm_memory_guest.specs.Transfer.{all_of, ended}
use Rattle.vm_memory_guest.specs.Typed.{answered}
use Rattle.vm_memory_guest.specs.Walk.{GivesAccess, RefusesAccess, WantsMemory}
use Rattle.vm_memory_guest.specs.Window.{cells, span}
use Rattle.vm_memory_guest.specs.declared.region.error.GuestMemoryError.TheVariants.{PartialBuffer}
use Rattle.vm_memory_guest.proofs.TypedWalk.{completed-whole, value-read, value-refused}
use Rattle.vm_memory_guest.proofs.guest_memory.access.AnyBytesGuestAddress.read_obj.Goals as goal

pub returns-in_err-walk : goal.returns-in_err-walk
returns-in_err-walk g c short =
    let p = err_from_is_err_and c.from_residual.result c.from_residual.ensures.1 in
    let memory = g.T.GuestMemory.memory c.args.self.now in
    let host = c.args.host.now in
    let e = c.in_err-walk.field-0.0 in
    let width : c.size-size.result ≡ g.V.ByteSized.width = omega (arith, c.size-size.ensures) in
    let why = subst (λ n. WantsMemory memory host.tables c.args.addr.0 n Read e
    ⊎ RefusesAccess memory host.tables c.args.addr.0 n Read e) width c.in_err-walk.ensures.answer in
    rw (p.1, p.2) (value-refused memory host.tables c.args.addr.0 g.V.ByteSized.width Read
    (λ r. answered (λ done. g.V.ByteValued.value_of (bytes_at host.blocks (cells r.windows)))
    (all_of PartialBuffer g.V.ByteSized.width (ended (span r.windows) r.fault))) (Unit {0}) (λ ws. Unit {0}) e why
    refl tt tt)

pub returns : goal.returns
returns g c short =
    let memory = g.T.GuestMemory.memory c.args.self.now in
    let host = c.args.host.now in
    let walk = c.in_ok-walk.walk in
    let width : c.size-size.result ≡ g.V.ByteSized.width = omega (arith, c.size-size.ensures) in
    let gives = subst (λ n. GivesAccess memory host.tables c.args.addr.0 n Read walk) width
    c.in_ok-walk.ensures.answer in
    let all : c.in_ok-completed.completed ≡ g.V.ByteSized.width =
    completed-whole c.in_ok-completed.completed c.size-size.result c.in_ok-whole.field-0 c.in_ok-whole.ensures
    ∙ (c.size-size.ensures ∙ sym c.size-size.ensures ∙ width) in
    let zeros = ap length c.zeroed-value.ensures ∙ length-replicate g.V.ByteSized.width 0 in
    let value = g.met.V.ByteValued.laws.from_bytes c.read_value.new.value c.recall_law.ensures in (
      value-read memory host.tables c.args.addr.0 g.V.ByteSized.width Read walk gives host.blocks
          c.read_value.new.value g.V.ByteValued.value_of (g.V.ByteValued.bytes c.zeroed-value.result)
          (g.V.ByteValued.bytes c.read_value.new.value) c.in_ok-completed.completed c.in_ok-completed.ensures.answer all
          zeros c.in_ok-completed.ensures.bytes value,
      tt,
    )
