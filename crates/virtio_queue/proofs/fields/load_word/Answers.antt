use Rattle.std.proofs.Common.{Ok, Err}
use Rattle.vm_memory_base.specs.declared.iotlb.Permissions.TheVariants as permissions
use Rattle.vm_memory_guest.specs.Memory.{route}
use Rattle.virtio_queue.proofs.FieldLemmas.{word_answers}
use Rattle.virtio_queue.proofs.fields.load_word.Goals as goal

pub returns-in-Ok : goal.returns-in-Ok
returns-in-Ok g c =
    let m = g.M.GuestMemory.memory c.args.mem.now in
    let host = c.args.host.now in
    let each = g.met.M.GuestMemory.each_fits c.args.mem.now in
    let a = c.in_ok-place.field-0 in
    let way = route m host.tables in
    let laws = c.loads_and_stores_are_by_bytes.ensures in
    let bytes = laws.loads m.regions way a 2 permissions.Read host.blocks each in
    word_answers m host c.args.base c.args.offset a c.place.result (Ok c.in-Ok.word) c.place.ensures
    c.in_ok-place.was bytes c.in-Ok.ensures

pub returns-in-Err : goal.returns-in-Err
returns-in-Err g c =
    let m = g.M.GuestMemory.memory c.args.mem.now in
    let host = c.args.host.now in
    let each = g.met.M.GuestMemory.each_fits c.args.mem.now in
    let a = c.in_ok-place.field-0 in
    let way = route m host.tables in
    let laws = c.loads_and_stores_are_by_bytes.ensures in
    let bytes = laws.loads m.regions way a 2 permissions.Read host.blocks each in
    rw c.of_access.ensures
    (word_answers m host c.args.base c.args.offset a c.place.result (Err c.in-Err.error) c.place.ensures
    c.in_ok-place.was bytes c.in-Err.ensures)
