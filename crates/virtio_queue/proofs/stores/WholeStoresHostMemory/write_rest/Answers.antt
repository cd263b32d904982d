use Rattle.std.proofs.Common.{◌++◌}
use Rattle.std.specs.Int.{w16, w32, to_le_bytes}
use Rattle.virtio_queue.proofs.StepLemmas.{bytes_step, is_at_stays, room_whole, tables_stay}
use Rattle.virtio_queue.proofs.stores.WholeStoresHostMemory.write_rest.Goals as goal

pub write_rest-requires-clause-whole : goal.write_rest-requires-clause-whole
write_rest-requires-clause-whole g c =
    rw c.near-hinted.ensures
    (room_whole (g.M.GuestMemory.memory c.args.self.now.mem.now) c.args.host.now c.args.base c.args.offset 6 c.args.addr
    c.requires.found)

pub returns-clause-step : goal.returns-clause-step
returns-clause-step g c =
    let bytes = to_le_bytes w32 c.args.len ++ to_le_bytes w16 c.args.id in
    bytes_step g.B.Bitmap.marks (g.M.GuestMemory.memory c.args.self.now.mem.now) c.args.addr bytes c.args.host.now
    c.write_rest.new.host c.args.base c.args.offset c.requires.found c.write_rest.result
    (rw c.near-hinted.ensures at c.write_rest.ensures.written) c.write_rest.ensures.shape

pub returns-clause-stay : goal.returns-clause-stay
returns-clause-stay g c =
    let m = g.M.GuestMemory.memory c.args.self.now.mem.now in
    let bytes = to_le_bytes w32 c.args.len ++ to_le_bytes w16 c.args.id in
    is_at_stays m c.args.host.now c.write_rest.new.host
    (tables_stay g.B.Bitmap.marks m c.args.addr bytes c.args.host.now c.write_rest.new.host c.writes_keep_shapes.ensures.tables
    c.write_rest.result (rw c.near-hinted.ensures at c.write_rest.ensures.written)) c.write_rest.ensures.shape
