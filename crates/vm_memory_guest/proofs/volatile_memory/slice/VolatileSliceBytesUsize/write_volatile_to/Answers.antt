use Rattle.std.proofs.Common.{◌≡◌, ◌≤◌, ◌∙◌, length, refl, sym, ap, subst}
use Rattle.std.proofs.lemmas.Result.{err_from_is_err_and}
use Rattle.vm_memory_guest.specs.Transfer.{only}
use Rattle.vm_memory_guest.proofs.HostLemmas.{length-bytes}
use Rattle.vm_memory_guest.proofs.TransferLemmas.{offers_of}
use Rattle.vm_memory_guest.proofs.OrderLemmas.{at_most-all, part_refused, part_moved}
use Rattle.vm_memory_guest.proofs.volatile_memory.slice.VolatileSliceBytesUsize.write_volatile_to.Goals as goal

pub returns-in_err-window-clause-answer : goal.returns-in_err-window-clause-answer
returns-in_err-window-clause-answer g c =
    let p = err_from_is_err_and c.from_residual.result c.from_residual.ensures.1 in
    rw (p.1, p.2) (part_refused _ _ _ c.args.dst.now c.in_err-window.field-0.0
    (sym c.cut.ensures.cut ∙ ap only c.in_err-window.was) refl)

pub returns-clause-answer : goal.returns-clause-answer
returns-clause-answer g c =
    let offer = c.offer_again in
    let offers = offers_of g.F.WriteVolatile.sink g.F.WriteVolatile.taken g.F.WriteVolatile.may_want
    g.F.WriteVolatile.writes c.args.host.now.blocks c.in_ok-window.window c.args.dst.now offer.new.sink
    c.bytes.result.now c.bytes.ensures offer.result offer.ensures.count offer.ensures.writes in
    part_moved _ _ _ c.in_ok-window.window c.args.dst.now offer.new.sink offer.result offer.result
    (sym c.cut.ensures.cut ∙ ap only c.in_ok-window.was) offers refl

pub returns-clause-at_most : goal.returns-clause-at_most
returns-clause-at_most g c =
    let long : length c.bytes.result.now ≡ c.in_ok-window.window.size =
    ap length c.bytes.ensures ∙ length-bytes c.args.host.now.blocks c.in_ok-window.window in
    at_most-all c.offer_again.result (length c.bytes.result.now) c.args.count c.offer_again.ensures.count
    (subst (λ n. n ≤ c.args.count) (sym long) c.in_ok-window.ensures.at_most)
