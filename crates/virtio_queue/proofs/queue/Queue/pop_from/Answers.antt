use Rattle.std.proofs.lemmas.Result.{err_from_is_err_and}
use Rattle.virtio_queue.proofs.LookLemmas.{pop_found, pop_refused, then_fails}
use Rattle.virtio_queue.specs.Popping.{chain_after, next_head}
use Rattle.virtio_queue.proofs.queue.Queue.pop_from.Goals as goal

pub returns-in_err-head-clause-looks : goal.returns-in_err-head-clause-looks
returns-in_err-head-clause-looks g c =
    let q = c.self.inside.state in
    let p = err_from_is_err_and c.from_residual.result c.from_residual.ensures.1 in
    rw (p.1, p.2) (rw (← c.self.view_is)
    (then_fails g.L.Looks.looks (next_head q) (chain_after q) c.args.looks.now c.next_head.new.looks
    c.in_err-head.field-0.0 c.in_err-head.ensures.head))

pub returns-in_err-chain-clause-looks : goal.returns-in_err-chain-clause-looks
returns-in_err-chain-clause-looks g c =
    let q = c.self.inside.state in
    let r = c.from_residual-in_err-chain in
    let p = err_from_is_err_and r.result r.ensures.1 in
    rw (p.1, p.2) (rw (← c.self.view_is)
    (pop_refused g.L.Looks.looks q c.in-Some.head c.args.looks.now c.next_head.new.looks c.chain_at.new.looks
    (rw c.in-Some.is at c.in_ok-head.ensures.head) c.in_err-chain.field-0.0 c.in_err-chain.ensures))

pub returns-clause-looks : goal.returns-clause-looks
returns-clause-looks g c =
    let q = c.self.inside.state in
    rw (← c.self.view_is)
    (pop_found g.L.Looks.looks q c.in-Some.head c.args.looks.now c.next_head.new.looks c.chain_at.new.looks
    (rw c.in-Some.is at c.in_ok-head.ensures.head) c.in_ok-chain.chain c.in_ok-chain.ensures)
