use Rattle.std.proofs.Common.{◌≡◌, ◌+◌, ◌-◌, ◌*◌, ◌/◌, arith, length, min, refl, take}
use Rattle.std.proofs.lemmas.List.{length-take-le}
use Rattle.virtio_blk.proofs.LentFacts.{placed_then}
use Rattle.virtio_blk.proofs.ServeFacts.{has_sectors, piece_ends, piece_whole, stored_more, stored_none, stored_stop}
use Rattle.virtio_blk.proofs.device.pieces.store.Goals as goal

pub loop-moved-init : goal.loop-moved-init
loop-moved-init g c =
    stored_none g.D.Disk.bytes g.D.Disk.sectors g.D.Disk.calls (g.M.GuestMemory.memory c.args.mem.now)
    c.args.host.now c.args.reader.now c.args.sector c.args.disk.now

pub store_piece-requires-clause-placed : goal.store_piece-requires-clause-placed
store_piece-requires-clause-placed g c =
    let l = c.loop-moved in
    placed_then c.args.start c.data_from-here.result c.args.reader.now l.reader l.moved c.requires.placed
    c.data_from-here.ensures l.invariant.place l.invariant.most

pub returns-in-Err : goal.returns-in-Err
returns-in-Err g c =
    let l = c.loop-moved in
    let n = c.min-count.result in
    let e : length (take n l.buffer) ≡ n =
    length-take-le n l.buffer (omega (arith, c.min-count.ensures, l.auto.buffer, c.requires.room)) in
    let p = rw e at c.in-Err.ensures.stored in
    stored_stop g.D.Disk.bytes g.D.Disk.sectors g.D.Disk.calls (g.M.GuestMemory.memory c.args.mem.now)
    c.args.host.now c.args.reader.now c.args.sector c.args.disk.now (length c.args.reader.now) l.moved n
    c.in-Err.stop.wanted l.disk c.store_piece.new.disk l.reader refl l.invariant (omega (arith, c.loop-moved-test.true, c.left-len.ensures))
    (rw (← c.left-len.ensures) c.min-count.ensures) p.0 c.in-Err.ensures.sectors p.1

pub loop-moved-preserved : goal.loop-moved-preserved
loop-moved-preserved g c =
    let l = c.loop-moved in
    let n = c.min-count.result in
    let e : length (take n l.buffer) ≡ n =
    length-take-le n l.buffer (omega (arith, c.min-count.ensures, l.auto.buffer, c.requires.room)) in
    let at : 512 * (c.args.sector + l.moved / 512) ≡ 512 * c.args.sector + l.moved =
    omega (arith, l.invariant.whole) in
    let p = rw (e, at) at c.in-Ok.ensures.stored in
    let old = c.args.disk.now in
    let len = length c.args.reader.now in
    let is : n ≡ min (len - l.moved) 65536 = rw (← c.left-len.ensures) c.min-count.ensures in
    stored_more g.D.Disk.bytes g.D.Disk.sectors g.D.Disk.calls (g.M.GuestMemory.memory c.args.mem.now)
    c.args.host.now c.args.reader.now c.args.sector old l.moved n l.disk c.store_piece.new.disk l.reader
    c.store_piece.new.reader l.invariant
    (has_sectors (g.D.Disk.bytes old) (512 * g.D.Disk.sectors old) (512 * c.args.sector + l.moved)
    (λ bytes told. g.met.D.Disk.whole old bytes told) (omega (arith, c.requires.inside, l.invariant.most)))
    (piece_whole len l.moved n is c.requires.whole l.invariant.whole) is
    (omega (arith, c.loop-moved-test.true, c.left-len.ensures))
    (piece_ends len l.moved n is (omega (arith, c.loop-moved-test.true, c.left-len.ensures)) l.invariant.ends)
    p.0 p.1 p.2 p.3 p.4 c.in-Ok.ensures.sectors
