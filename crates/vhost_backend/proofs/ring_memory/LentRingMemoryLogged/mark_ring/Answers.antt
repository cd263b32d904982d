use Rattle.std.proofs.Common.{◌+◌, ◌^◌, ◌≤◌, arith, refl, slice_get, sym}
use Rattle.vm_memory_guest.specs.Memory.{says_of}
use Rattle.vhost_backend.proofs.RingMarkLemmas.{none_marked}
use Rattle.vhost_backend.proofs.ring_memory.LentRingMemoryLogged.mark_ring.Goals as goal

pub returns-in_default-checked_add-clause-step : goal.returns-in_default-checked_add-clause-step
returns-in_default-checked_add-clause-step g c =
    let past : 2 ^ 64 ≤ c.args.base + c.args.offset = omega (arith, c.in_default-checked_add.ensures) in
    let f = says_of (slice_get c.args.logged.now.host.tables c.in-Some.table.0) in
    let none = none_marked f c.args.logged.now.pages (c.args.base + c.args.offset) c.args.len past in
    rw c.in-Some.is (refl {a = c.args.logged.now.host}, sym none, refl {a = c.args.logged.now.region})
