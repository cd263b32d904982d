use Rattle.std.proofs.Common.{sym, ◌∙◌}
use Rattle.virtio_queue.proofs.PackedLookLemmas.{pop_found, pop_refused}
use Rattle.virtio_queue.proofs.packed.PackedQueue.pop_from.Goals as goal

pub returns-in-Err-next_chain-clause-looks : goal.returns-in-Err-next_chain-clause-looks
returns-in-Err-next_chain-clause-looks g c =
    let q = c.self.inside.state in
    rw (← c.self.view_is)
    (pop_refused g.L.Looks.looks q c.in-Ok.flags c.args.looks.now c.word.new.self c.next_chain.new.looks
    c.if-not-self.false (sym c.is_available.ensures ∙ c.if-not-is_available.false)
    (rw c.from.ensures at c.in-Ok.ensures) c.in-Err-next_chain.error c.in-Err-next_chain.ensures.chain)

pub returns-in-Ok-next_chain-clause-looks : goal.returns-in-Ok-next_chain-clause-looks
returns-in-Ok-next_chain-clause-looks g c =
    let q = c.self.inside.state in
    rw (← c.self.view_is)
    (pop_found g.L.Looks.looks q c.in-Ok.flags c.args.looks.now c.word.new.self c.next_chain.new.looks
    c.if-not-self.false (sym c.is_available.ensures ∙ c.if-not-is_available.false)
    (rw c.from.ensures at c.in-Ok.ensures) (c.in-Ok-next_chain.buffer, c.in-Ok-next_chain.chain)
    c.in-Ok-next_chain.ensures.chain)
