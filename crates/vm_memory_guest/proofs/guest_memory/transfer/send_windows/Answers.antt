use Rattle.std.proofs.Common.{◌≡◌, ◌∙◌, ℕ, Ok, sym, ap, arith}
use Rattle.std.proofs.lemmas.Result.{err_from_is_err_and}
use Rattle.vm_memory_guest.specs.Host.{Holds, shape_of}
use Rattle.vm_memory_guest.specs.Transfer.{Takes, UntilWhole}
use Rattle.vm_memory_guest.specs.Typed.{answered}
use Rattle.vm_memory_guest.specs.Window.{span, window_names}
use Rattle.vm_memory_guest.proofs.AccessLemmas.{Gave, gave, ends_in, ends_whole, next_all, next_fits}
use Rattle.vm_memory_guest.proofs.OrderLemmas.{moved_first, moved_next, moved_fails, moved_ends, moved_whole}
use Rattle.vm_memory_guest.proofs.TransferLemmas.{sends_of}
use Rattle.vm_memory_guest.proofs.guest_memory.transfer.send_windows.Given.{Over}
use Rattle.vm_memory_guest.proofs.guest_memory.transfer.send_windows.Goals as goal
use Rattle.vm_memory_guest.proofs.guest_memory.transfer.send_windows.Goals.{In-Ok, After-write_all_volatile}

gives : (g : Over) (c : In-Ok g) → Gave c.loop-item.item-iterator c.next.new.self c.in-Ok.window
gives g c = gave c.loop-item.item-iterator c.next.new.self _ _ c.in-Some.ensures.steps c.in-Ok.is

-- what the sink was sent of the window
sent : (g : Over) (c : After-write_all_volatile g) → let w = c.in-Ok.window in let call = c.write_all_volatile in
    Takes g.S.WriteVolatile.sink g.S.WriteVolatile.taken g.S.WriteVolatile.may_want g.S.WriteVolatile.writes
    c.args.host.now.blocks UntilWhole w
    c.loop-item.sink (answered (λ all. w.size) call.result) call.new.self
sent g c =
    let call = c.write_all_volatile in
    sends_of g.S.WriteVolatile.sink g.S.WriteVolatile.taken g.S.WriteVolatile.may_want g.S.WriteVolatile.writes
    c.args.host.now.blocks c.in-Ok.window
    c.loop-item.sink call.new.self c.bytes.result.now c.bytes.ensures call.result call.ensures.sends

pub loop-item-init : goal.loop-item-init
loop-item-init g c = rw c.into_iter-item-iterator.ensures.into_iter_gives
    (moved_first (Takes g.S.WriteVolatile.sink g.S.WriteVolatile.taken g.S.WriteVolatile.may_want
    g.S.WriteVolatile.writes c.args.host.now.blocks UntilWhole) c.args.walk c.args.sink.now)

pub bytes-requires : goal.bytes-requires
bytes-requires g c =
    next_all c.loop-item.invariant.came c.in-Some.ensures.steps c.in-Ok.is
    (λ v. Holds (shape_of c.args.host.now) (window_names v)) c.requires.held

pub returns-in_err-write_all_volatile-in-Ok-clause-answer :
    goal.returns-in_err-write_all_volatile-in-Ok-clause-answer
returns-in_err-write_all_volatile-in-Ok-clause-answer g c =
    let w = c.in-Ok.window in
    let call = c.write_all_volatile in
    let next = gives g (goal.at.returns-in_err-write_all_volatile-in-Ok-clause-answer g c).In-Ok in
    let sends = sent g (goal.at.returns-in_err-write_all_volatile-in-Ok-clause-answer g c).After-write_all_volatile in
    let p = err_from_is_err_and c.from_residual.result c.from_residual.ensures.1 in
    rw (p.1, p.2) (moved_fails _ c.loop-item.invariant next call.new.self
    (answered (λ all. w.size) call.result) sends c.in_err-write_all_volatile-in-Ok.field-0.0
    (ap (answered (λ all. w.size)) c.in_err-write_all_volatile-in-Ok.was))

pub overflow_add-total : goal.overflow_add-total
overflow_add-total g c =
    let fits = next_fits c.loop-item.invariant.came c.in-Some.ensures.steps c.in-Ok.is (span c.args.walk.windows)
    (omega arith) in
    let size : c.len-total.result ≡ c.in-Ok.window.size = c.len-total.ensures in
    omega (arith, c.requires.fits)

pub loop-item-preserved : goal.loop-item-preserved
loop-item-preserved g c =
    let w = c.in-Ok.window in
    let call = c.write_all_volatile in
    let next = gives g (goal.at.loop-item-preserved g c).In-Ok in
    let sends = sent g (goal.at.loop-item-preserved g c).After-write_all_volatile in
    moved_next _ c.loop-item.invariant next call.new.self
    (answered (λ all. w.size) call.result) sends c.len-total.result
    (ap (answered (λ all. w.size)) c.in_ok-write_all_volatile-in-Ok.was
    ∙ ap (λ (n : ℕ). Ok n) (sym c.len-total.ensures)) c.len-total.ensures

pub returns-in-Err-clause-answer : goal.returns-in-Err-clause-answer
returns-in-Err-clause-answer g c =
    rw c.ended.ensures (moved_ends _ c.loop-item.invariant
    (ends_in c.loop-item.item-iterator _ _ _ c.in-Some.ensures.steps c.in-Err.is))

pub returns-clause-answer : goal.returns-clause-answer
returns-clause-answer g c =
    moved_whole _ c.loop-item.invariant (ends_whole c.loop-item.item-iterator c.in-None.ensures.steps.0)
