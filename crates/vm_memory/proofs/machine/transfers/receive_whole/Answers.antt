use Rattle.std.proofs.Common.{Ok, Err, true, map, option_map, ap, inl, inr, refl}
use Rattle.vm_memory_base.specs.Script.{next_of}
use Rattle.vm_memory_base.specs.declared.iotlb.Permissions.TheVariants as permissions
use Rattle.vm_memory_guest.specs.Access.{windows}
use Rattle.vm_memory_guest.specs.Dirt.{with_pages}
use Rattle.vm_memory_guest.specs.Error.{error_of}
use Rattle.vm_memory_device.specs.Reach.{reached_by}
use Rattle.vm_memory.specs.Reply.{all_moved, as_done}
use Rattle.vm_memory.specs.declared.machine.refusal.Refusal.{Refusal}
use Rattle.vm_memory.proofs.TransferLemmas.{received_is, whole_so}
use Rattle.vm_memory.proofs.machine.transfers.receive_whole.Goals as goal

pub returns-in-Ok-clause-moved : goal.returns-in-Ok-clause-moved
returns-in-Ok-clause-moved g c = (Ok tt, refl, c.in-Ok.ensures.answer)

pub returns-in-Err-clause-moved : goal.returns-in-Err-clause-moved
returns-in-Err-clause-moved g c =
    (Err c.in-Err.error, ap (λ (r : Refusal). Err r) c.from.ensures, c.in-Err.ensures.answer)

pub returns-in-Ok-clause-step : goal.returns-in-Ok-clause-step
returns-in-Ok-clause-step g c = λ steps tells.
    let m = g.M.GuestMemory.memory c.args.memory.now in
    let host = c.args.host.now in
    let new = c.read_exact_volatile_from.new.host in
    let pages = g.B.ExactBitmap.pages in
    let a = c.args.addr.0 in
    let n = c.args.count in
    let reached = reached_by m host.tables a n permissions.Write in
    let fault = option_map error_of reached.fault in
    (received_is true m (with_pages pages host) a n (λ r. all_moved n r) as_done (whole_so n) (Ok tt)
    steps (with_pages pages new)
    (elim c.in-Ok.ensures.answer [
      | inl wanted ↦ inl (wanted.0, wanted.1, ap (λ p. with_pages pages p.1) wanted.2)
      | inr so ↦
          (let is = c.transfers_in_are_computed.ensures true fault (windows reached.path) 0 (map next_of steps)
          c.args.src.now c.read_exact_volatile_from.new.src host new so.0 tells so.2 in
          inr (so.0, so.1, is.0, is.2))
    ]))

pub returns-in-Err-clause-step : goal.returns-in-Err-clause-step
returns-in-Err-clause-step g c = λ steps tells.
    let m = g.M.GuestMemory.memory c.args.memory.now in
    let host = c.args.host.now in
    let new = c.read_exact_volatile_from.new.host in
    let pages = g.B.ExactBitmap.pages in
    let a = c.args.addr.0 in
    let n = c.args.count in
    let reached = reached_by m host.tables a n permissions.Write in
    let fault = option_map error_of reached.fault in
    rw c.from.ensures
    (received_is true m (with_pages pages host) a n (λ r. all_moved n r) as_done (whole_so n) (Err c.in-Err.error)
    steps (with_pages pages new)
    (elim c.in-Err.ensures.answer [
      | inl wanted ↦ inl (wanted.0, wanted.1, ap (λ p. with_pages pages p.1) wanted.2)
      | inr so ↦
          (let is = c.transfers_in_are_computed.ensures true fault (windows reached.path) 0 (map next_of steps)
          c.args.src.now c.read_exact_volatile_from.new.src host new so.0 tells so.2 in
          inr (so.0, so.1, is.0, is.2))
    ]))
