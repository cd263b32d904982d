use Rattle.std.proofs.Common.{Some, None}
use Rattle.std.proofs.lemmas.Result.{err_from_is_err_and}
use Rattle.virtio_queue.proofs.PackedLookLemmas.{copies_made, copies_refused}
use Rattle.virtio_queue.proofs.packed.PackedQueue.chain_of_copies_from.Goals as goal

pub returns-in_err-put_all : goal.returns-in_err-put_all
returns-in_err-put_all g c =
    let q = c.self.inside.state in
    let p = err_from_is_err_and c.from_residual.result c.from_residual.ensures.1 in
    rw (p.1, p.2) (rw (← c.self.view_is)
    (copies_refused g.L.Looks.looks q c.args.descriptors.now c.args.looks.now c.put_all.new.looks
    c.if-not-self.false c.in_err-put_all.field-0.0 c.in_err-put_all.ensures))

pub returns-in-Ok : goal.returns-in-Ok
returns-in-Ok g c =
    let q = c.self.inside.state in
    rw (c.in-Ok.ensures.0, c.replace.ensures.value) (rw (← c.self.view_is)
    (copies_made g.L.Looks.looks q c.args.descriptors.now c.args.looks.now c.put_all.new.looks c.if-not-self.false
    c.put_all.new.segments.items None c.in_ok-put_all.ensures (rw c.replace.ensures.value at c.in-Ok.ensures.1)))

pub returns-in-Err : goal.returns-in-Err
returns-in-Err g c =
    let q = c.self.inside.state in
    rw (← c.self.view_is)
    (copies_made g.L.Looks.looks q c.args.descriptors.now c.args.looks.now c.put_all.new.looks c.if-not-self.false
    c.put_all.new.segments.items (Some c.in-Err.fault) c.in_ok-put_all.ensures
    (rw c.replace.ensures.value at c.in-Err.ensures))
