use Rattle.std.proofs.Common.{[], Ok, Err, true, map, option_map, ap, ◌∙◌, inl, inr, refl, Some}
use Rattle.vm_memory_base.specs.Script.{taking_of}
use Rattle.vm_memory_base.specs.Transfer.{Sink}
use Rattle.vm_memory_base.specs.declared.iotlb.Permissions.TheVariants as permissions
use Rattle.vm_memory_guest.specs.Access.{windows}
use Rattle.vm_memory_guest.specs.Dirt.{with_pages}
use Rattle.vm_memory_guest.specs.Error.{error_of}
use Rattle.vm_memory_device.specs.Reach.{reached_by}
use Rattle.vm_memory.specs.Reply.{all_moved, as_done}
use Rattle.vm_memory.specs.declared.machine.refusal.Refusal.{Refusal}
use Rattle.vm_memory.proofs.TransferLemmas.{sent_is, whole_so}
use Rattle.vm_memory.proofs.machine.transfers.send_whole.Goals as goal

pub returns-in-Ok-clause-moved : goal.returns-in-Ok-clause-moved
returns-in-Ok-clause-moved g c = (Ok tt, refl, c.in-Ok.ensures.answer)

pub returns-in-Err-clause-moved : goal.returns-in-Err-clause-moved
returns-in-Err-clause-moved g c =
    (Err c.in-Err.error, ap (λ (r : Refusal). Err r) c.from.ensures, c.in-Err.ensures.answer)

pub returns-in-Ok-clause-step : goal.returns-in-Ok-clause-step
returns-in-Ok-clause-step g c = λ steps sink.
    let m = g.M.GuestMemory.memory c.args.memory.now in
    let host = c.args.host.now in
    let a = c.args.addr.0 in
    let n = c.args.count in
    let reached = reached_by m host.tables a n permissions.Read in
    let fault = option_map error_of reached.fault in
    let ws = windows reached.path in
    let each = g.met.M.GuestMemory.each_fits c.args.memory.now in
    let state : Sink = record { next = map taking_of steps; room = Some n } in
    let old = c.args.dst.now in
    let new = c.write_all_volatile_to.new.dst in
    (sent_is true m (with_pages g.B.ExactBitmap.pages host) a n (λ r. all_moved n r) as_done (whole_so n) (Ok tt)
    each steps
    (g.F.WriteVolatile.taken new)
    (elim c.in-Ok.ensures.answer [
      | inl wanted ↦ inl (wanted.0, wanted.1, ap (λ s. g.F.WriteVolatile.taken s) wanted.2 ∙ sink.empty)
      | inr so ↦
          elim (c.transfers_out_are_computed.ensures fault ws 0 state old new host.blocks so.0 sink.does so.2) [
            | inl wanted ↦ absurd (sink.needs_none wanted.1)
            | inr is ↦
                elim (c.sinks_take_what_is_computed.ensures fault ws 0 state [] old new host.blocks so.0 sink.does
                sink.empty so.2) [
                  | inl wanted ↦ absurd (sink.needs_none wanted.1)
                  | inr took ↦ inr (so.0, so.1, is.0, took)
                ]
          ]
    ]))

pub returns-in-Err-clause-step : goal.returns-in-Err-clause-step
returns-in-Err-clause-step g c = λ steps sink.
    let m = g.M.GuestMemory.memory c.args.memory.now in
    let host = c.args.host.now in
    let a = c.args.addr.0 in
    let n = c.args.count in
    let reached = reached_by m host.tables a n permissions.Read in
    let fault = option_map error_of reached.fault in
    let ws = windows reached.path in
    let each = g.met.M.GuestMemory.each_fits c.args.memory.now in
    let state : Sink = record { next = map taking_of steps; room = Some n } in
    let old = c.args.dst.now in
    let new = c.write_all_volatile_to.new.dst in
    rw c.from.ensures
    (sent_is true m (with_pages g.B.ExactBitmap.pages host) a n (λ r. all_moved n r) as_done
    (whole_so n) (Err c.in-Err.error)
    each steps
    (g.F.WriteVolatile.taken new)
    (elim c.in-Err.ensures.answer [
      | inl wanted ↦ inl (wanted.0, wanted.1, ap (λ s. g.F.WriteVolatile.taken s) wanted.2 ∙ sink.empty)
      | inr so ↦
          elim (c.transfers_out_are_computed.ensures fault ws 0 state old new host.blocks so.0 sink.does so.2) [
            | inl wanted ↦ absurd (sink.needs_none wanted.1)
            | inr is ↦
                elim (c.sinks_take_what_is_computed.ensures fault ws 0 state [] old new host.blocks so.0 sink.does
                sink.empty so.2) [
                  | inl wanted ↦ absurd (sink.needs_none wanted.1)
                  | inr took ↦ inr (so.0, so.1, is.0, took)
                ]
          ]
    ]))
