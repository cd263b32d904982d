use Rattle.std.proofs.Common.{length, Ok, Err}
use Rattle.vm_memory_base.specs.declared.iotlb.Permissions.TheVariants as permissions
use Rattle.vm_memory_guest.specs.Dirt.{with_pages}
use Rattle.vm_memory_guest.specs.Memory.{route}
use Rattle.vm_memory.proofs.AccessLemmas.{read_is}
use Rattle.vm_memory.proofs.machine.accesses.read_any.Goals as goal

pub returns-in-Ok-clause-answer : goal.returns-in-Ok-clause-answer
returns-in-Ok-clause-answer g c =
    let m = g.M.GuestMemory.memory c.args.memory.now in
    let host = c.args.host.now in
    let a = c.args.addr.0 in
    let buffer = c.args.buf.now in
    let way = route m host.tables in
    let by_bytes = c.accesses_are_by_bytes.ensures in
    let each = g.met.M.GuestMemory.each_fits c.args.memory.now in
    let given = rw (by_bytes.count m.regions way a (length buffer) permissions.Read) at c.in-Ok.ensures.answer in
    read_is m (with_pages g.B.ExactBitmap.pages host) a buffer each
    (by_bytes.reads m.regions way a (length buffer) permissions.Read host.blocks buffer each) c.read.new.buf
    (Ok c.in-Ok.count) given

pub returns-in-Err-clause-answer : goal.returns-in-Err-clause-answer
returns-in-Err-clause-answer g c =
    let m = g.M.GuestMemory.memory c.args.memory.now in
    let host = c.args.host.now in
    let a = c.args.addr.0 in
    let buffer = c.args.buf.now in
    let way = route m host.tables in
    let by_bytes = c.accesses_are_by_bytes.ensures in
    let each = g.met.M.GuestMemory.each_fits c.args.memory.now in
    let given = rw (by_bytes.count m.regions way a (length buffer) permissions.Read) at c.in-Err.ensures.answer in
    rw (c.from.ensures)
    (read_is m (with_pages g.B.ExactBitmap.pages host) a buffer each
    (by_bytes.reads m.regions way a (length buffer) permissions.Read host.blocks buffer each) c.read.new.buf
    (Err c.in-Err.error) given)
