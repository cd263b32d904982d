use Rattle.std.proofs.Common.{Ok, Err, arith}
use Rattle.vm_memory_base.specs.declared.iotlb.Permissions.TheVariants as permissions
use Rattle.vm_memory_guest.specs.Memory.{route}
use Rattle.virtio_queue.proofs.FieldLemmas.{descriptor_answers}
use Rattle.virtio_queue.proofs.fields.descriptor_at.Goals as goal

pub returns-in-Ok : goal.returns-in-Ok
returns-in-Ok g c =
    let m = g.M.GuestMemory.memory c.args.mem.now in
    let host = c.args.host.now in
    let each = g.met.M.GuestMemory.each_fits c.args.mem.now in
    let a = c.in_ok-place.field-0 in
    let placed = rw c.from.ensures at c.place.ensures in
    let way = route m host.tables in
    let count = c.accesses_are_by_bytes.ensures.count m.regions way a 16 permissions.Read in
    let cells = c.windows_of_accesses_are_their_paths.ensures.cells m.regions way a 16 permissions.Read each in
    descriptor_answers m host c.args.table c.args.index a c.place.result (Ok c.in-Ok.descriptor) placed
    c.in_ok-place.was (count, cells) (c.in-Ok.ensures (omega arith))

pub returns-in-Err : goal.returns-in-Err
returns-in-Err g c =
    let m = g.M.GuestMemory.memory c.args.mem.now in
    let host = c.args.host.now in
    let each = g.met.M.GuestMemory.each_fits c.args.mem.now in
    let a = c.in_ok-place.field-0 in
    let placed = rw c.from.ensures at c.place.ensures in
    let way = route m host.tables in
    let count = c.accesses_are_by_bytes.ensures.count m.regions way a 16 permissions.Read in
    let cells = c.windows_of_accesses_are_their_paths.ensures.cells m.regions way a 16 permissions.Read each in
    rw c.of_access.ensures
    (descriptor_answers m host c.args.table c.args.index a c.place.result (Err c.in-Err.error) placed
    c.in_ok-place.was (count, cells) (c.in-Err.ensures (omega arith)))
