use Rattle.std.proofs.Common.{arith}
use Rattle.vm_memory_device.proofs.TextLemmas.{none_next, some_next}
use Rattle.vm_memory_device.proofs.chain.text.Text.next_access.Goals as goal

pub returns-then-most-eq0 : goal.returns-then-most-eq0
returns-then-most-eq0 c =
    let t = c.self.inside in
    rw (← c.self.view_is) (none_next t.addr t.rest c.args.room t.later.now c.self.invariant.0 (omega arith))

pub returns : goal.returns
returns c =
    let t = c.self.inside in
    rw (c.min-most.ensures, ← c.self.view_is)
    (some_next t.addr t.rest c.args.room t.later.now c.self.invariant.0 (omega arith))
