use Rattle.std.proofs.Common.{Some, None, Ok, Err}
use Rattle.std.proofs.lemmas.Result.{err_from_is_err_and}
use Rattle.virtio_queue.specs.PackedPopping.{Taken}
use Rattle.virtio_queue.specs.declared.error.QueueError.TheVariants as errors
use Rattle.virtio_queue.proofs.PackedLookLemmas.{chain_follows, chain_refused, last_refused, last_taken}
use Rattle.virtio_queue.proofs.packed.chain.next_chain.Goals as goal

pub returns-in_err-last-clause-chain : goal.returns-in_err-last-clause-chain
returns-in_err-last-clause-chain g c =
    let q = c.args.state.now in
    let p = err_from_is_err_and c.from_residual.result c.from_residual.ensures.1 in
    let lists = rw (c.slots_out.ensures.out, c.clear.ensures.items) at c.in_err-last.ensures.lists in
    rw (p.1, p.2)
    (chain_refused g.L.Looks.looks q c.args.flags c.args.looks.now c.list.new.looks c.in_err-last.field-0.0 lists)

pub returns-in_err-add_last-clause-chain : goal.returns-in_err-add_last-clause-chain
returns-in_err-add_last-clause-chain g c =
    let q = c.args.state.now in
    let e = c.in_err-add_last.field-0.0 in
    let r = c.from_residual-in_err-add_last in
    let p = err_from_is_err_and r.result r.ensures.1 in
    let lists = rw (c.slots_out.ensures.out, c.clear.ensures.items) at c.in_ok-last.ensures.lists in
    let t : Taken = record { segments = c.list.new.segments.items; last = c.in_ok-last.last; slots = c.in_ok-last.slots } in
    rw (p.1, p.2)
    (chain_follows g.L.Looks.looks q c.args.flags c.args.looks.now c.list.new.looks c.add_last.new.looks t (Err e) lists
    (last_refused g.L.Looks.looks t c.list.new.looks c.add_last.new.looks e c.in_err-add_last.ensures))

pub returns-in-Ok-clause-chain : goal.returns-in-Ok-clause-chain
returns-in-Ok-clause-chain g c =
    let q = c.args.state.now in
    let lists = rw (c.slots_out.ensures.out, c.clear.ensures.items) at c.in_ok-last.ensures.lists in
    let t : Taken = record { segments = c.list.new.segments.items; last = c.in_ok-last.last; slots = c.in_ok-last.slots } in
    let ss = c.add_last.new.segments.items in
    rw (c.in-Ok.ensures.0, c.replace.ensures.value)
    (chain_follows g.L.Looks.looks q c.args.flags c.args.looks.now c.list.new.looks c.add_last.new.looks t
    (Ok (record { id = t.last.id; slots = t.slots }, ss)) lists
    (last_taken g.L.Looks.looks t c.list.new.looks c.add_last.new.looks ss None c.in_ok-add_last.ensures
    (rw c.replace.ensures.value at c.in-Ok.ensures.1)))

pub returns-in-Err-clause-chain : goal.returns-in-Err-clause-chain
returns-in-Err-clause-chain g c =
    let q = c.args.state.now in
    let lists = rw (c.slots_out.ensures.out, c.clear.ensures.items) at c.in_ok-last.ensures.lists in
    let t : Taken = record { segments = c.list.new.segments.items; last = c.in_ok-last.last; slots = c.in_ok-last.slots } in
    let ss = c.add_last.new.segments.items in
    chain_follows g.L.Looks.looks q c.args.flags c.args.looks.now c.list.new.looks c.add_last.new.looks t
    (Err (errors.InvalidChain c.in-Err.fault)) lists
    (last_taken g.L.Looks.looks t c.list.new.looks c.add_last.new.looks ss (Some c.in-Err.fault)
    c.in_ok-add_last.ensures (rw c.replace.ensures.value at c.in-Err.ensures))
