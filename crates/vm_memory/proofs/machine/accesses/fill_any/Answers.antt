use Rattle.std.proofs.Common.{arith, length, Ok, Err}
use Rattle.vm_memory_base.specs.declared.iotlb.Permissions.TheVariants as permissions
use Rattle.vm_memory_guest.specs.Dirt.{with_pages}
use Rattle.vm_memory_guest.specs.Memory.{route}
use Rattle.vm_memory.proofs.AccessLemmas.{fill_is}
use Rattle.vm_memory.proofs.machine.accesses.fill_any.Goals as goal

pub returns-in-Ok : goal.returns-in-Ok
returns-in-Ok g c =
    let m = g.M.GuestMemory.memory c.args.memory.now in
    let host = c.args.host.now in
    let a = c.args.addr.0 in
    let buffer = c.args.buf.now in
    let way = route m host.tables in
    let by_bytes = c.accesses_are_by_bytes.ensures in
    let each = g.met.M.GuestMemory.each_fits c.args.memory.now in
    let given = rw (by_bytes.count m.regions way a (length buffer) permissions.Read) at c.in-Ok.ensures.answer in
    fill_is m (with_pages g.B.ExactBitmap.pages host) a buffer each
    (by_bytes.reads m.regions way a (length buffer) permissions.Read host.blocks buffer each)
    c.read_slice.new.buf (omega arith)
    (Ok tt) given

pub returns-in-Err : goal.returns-in-Err
returns-in-Err g c =
    let m = g.M.GuestMemory.memory c.args.memory.now in
    let host = c.args.host.now in
    let a = c.args.addr.0 in
    let buffer = c.args.buf.now in
    let way = route m host.tables in
    let by_bytes = c.accesses_are_by_bytes.ensures in
    let each = g.met.M.GuestMemory.each_fits c.args.memory.now in
    let given = rw (by_bytes.count m.regions way a (length buffer) permissions.Read) at c.in-Err.ensures.answer in
    rw (c.from.ensures)
    (fill_is m (with_pages g.B.ExactBitmap.pages host) a buffer each
    (by_bytes.reads m.regions way a (length buffer) permissions.Read host.blocks buffer each)
    c.read_slice.new.buf (omega arith)
    (Err c.in-Err.error) given)
