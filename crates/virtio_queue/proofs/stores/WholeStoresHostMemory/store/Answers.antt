use Rattle.std.proofs.Common.{◌<◌, ◌^◌, [], ◌∷◌, refl, rules}
use Rattle.std.specs.Int.{w16, to_le_bytes}
use Rattle.virtio_queue.proofs.RingLemmas.{word_size}
use Rattle.virtio_queue.proofs.StepLemmas.{is_at_stays}
use Rattle.virtio_queue.proofs.StoreLemmas.{stored_lies}
use Rattle.virtio_queue.proofs.stores.WholeStoresHostMemory.store.Goals as goal

pub returns-clause-step : goal.returns-clause-step
returns-clause-step g c =
    let m = g.M.GuestMemory.memory c.args.self.now.mem.now in
    let old = c.args.host.now in
    let new = c.store_in.new.host in
    let w = c.args.window.now in
    let value = c.args.value in
    let (is, held, word) = c.requires.found in
    let wrote = c.store_in.ensures.written in
    let tables = c.writes_keep_shapes.ensures.tables (w ∷ []) (to_le_bytes w16 value) old new wrote in
    let small : value < 2 ^ 16 = search rules in
    let lies = stored_lies g.B.Bitmap.marks m c.args.base c.args.offset value old new c.written_is_read_back.ensures small
    w is held (word_size w word) tables wrote in
    (refl, (w, is, wrote), lies, c.store_in.ensures.shape)

pub returns-clause-stay : goal.returns-clause-stay
returns-clause-stay g c =
    let m = g.M.GuestMemory.memory c.args.self.now.mem.now in
    let old = c.args.host.now in
    let new = c.store_in.new.host in
    let tables = c.writes_keep_shapes.ensures.tables (c.args.window.now ∷ []) (to_le_bytes w16 c.args.value) old new
    c.store_in.ensures.written in
    is_at_stays m old new tables c.store_in.ensures.shape
