use Rattle.std.proofs.Common.{sym, ◌∙◌}
use Rattle.virtio_queue.proofs.PackedCopyLemmas.{copying_found, copying_refused}
use Rattle.virtio_queue.proofs.packed.PackedQueue.next_copies_from.Goals as goal

pub returns-in-Ok-add_copies-clause-looks : goal.returns-in-Ok-add_copies-clause-looks
returns-in-Ok-add_copies-clause-looks g c =
    let q = c.self.inside.state in
    rw (← c.self.view_is)
    (copying_found g.L.Looks.looks q c.in-Ok.flags c.args.looks.now c.word.new.self c.add_copies.new.looks
    c.if-not-self.false (sym c.is_available.ensures ∙ c.if-not-is_available.false)
    (rw c.from.ensures at c.in-Ok.ensures) c.add_copies.new.list.items
    (rw (c.slots_out.ensures.out, c.clear.ensures.items) at c.in-Ok-add_copies.ensures.copies))

pub returns-in-Err-add_copies-clause-looks : goal.returns-in-Err-add_copies-clause-looks
returns-in-Err-add_copies-clause-looks g c =
    let q = c.self.inside.state in
    rw (← c.self.view_is)
    (copying_refused g.L.Looks.looks q c.in-Ok.flags c.args.looks.now c.word.new.self c.add_copies.new.looks
    c.if-not-self.false (sym c.is_available.ensures ∙ c.if-not-is_available.false)
    (rw c.from.ensures at c.in-Ok.ensures) c.in-Err-add_copies.error
    (rw (c.slots_out.ensures.out, c.clear.ensures.items) at c.in-Err-add_copies.ensures.copies))
