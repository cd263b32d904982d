use Rattle.std.proofs.Common.{Some, None}
use Rattle.std.proofs.lemmas.Result.{err_from_is_err_and}
use Rattle.virtio_queue.proofs.LookLemmas.{chain_made, chain_refused}
use Rattle.virtio_queue.proofs.chain.chain_at.Goals as goal

pub returns-in_err-put_segments : goal.returns-in_err-put_segments
returns-in_err-put_segments g c =
    let p = err_from_is_err_and c.from_residual.result c.from_residual.ensures.1 in
    rw (p.1, p.2)
    (chain_refused g.L.Looks.looks c.args.state.now c.args.head c.args.looks.now c.put_segments.new.looks
    c.in_err-put_segments.field-0.0 c.in_err-put_segments.ensures)

pub returns-in-Ok : goal.returns-in-Ok
returns-in-Ok g c =
    rw (c.in-Ok.ensures.0, c.replace.ensures.value)
    (chain_made g.L.Looks.looks c.args.state.now c.args.head c.args.looks.now c.put_segments.new.looks
    c.put_segments.new.segments.items None c.in_ok-put_segments.ensures (rw c.replace.ensures.value at c.in-Ok.ensures.1))

pub returns-in-Err : goal.returns-in-Err
returns-in-Err g c =
    chain_made g.L.Looks.looks c.args.state.now c.args.head c.args.looks.now c.put_segments.new.looks
    c.put_segments.new.segments.items (Some c.in-Err.fault) c.in_ok-put_segments.ensures (rw c.replace.ensures.value at c.in-Err.ensures)
