use Rattle.std.proofs.Common.{◌≡◌, ◌∙◌, ◌+◌, ◌-◌, ◌*◌, ◌/◌, ◌<◌, ◌≤◌, true, arith, length, min, take, take_all, sym, subst}
use Rattle.std.proofs.lemmas.List.{length-take-le}
use Rattle.virtio_blk.specs.Disk.{reads}
use Rattle.virtio_blk.proofs.ServeFacts.{loaded_ends, loaded_more, loaded_none, gave_all, piece_ends-before, piece_whole, LoadedPiece}
use Rattle.virtio_blk.proofs.device.pieces.load.Goals as goal

pub loop-moved-init : goal.loop-moved-init
loop-moved-init g c =
    loaded_none g.B.Bitmap.marks g.D.Disk.bytes g.D.Disk.sectors g.D.Disk.calls
    (g.M.GuestMemory.memory c.args.mem.now) c.args.host.now c.args.writer.now c.args.sector c.args.disk.now
    c.requires.some

pub returns-then-done-count-clause-loaded : goal.returns-then-done-count-clause-loaded
returns-then-done-count-clause-loaded g c =
    let l = c.loop-moved in
    let n = c.min-count.result in
    let e : length (take n l.buffer) ≡ n =
    length-take-le n l.buffer (omega (arith, c.min-count.ensures, l.auto.buffer, c.requires.room)) in
    let at : 512 * (c.args.sector + l.moved / 512) ≡ 512 * c.args.sector + l.moved =
    omega (arith, l.invariant.whole) in
    let gave = c.load_piece-done.ensures.gave in
    let got = gave.0 in
    let done = c.load_piece-done.result.count in
    let most : done ≤ n = rw e at c.load_piece-done.ensures.most in
    let given : length got ≡ n = gave.1 ∙ e in
    let fits : done ≤ length got = omega (arith, most, given) in
    let few : done < length got = omega (arith, c.if-done-count.true, given) in
    let len = length c.args.writer.now - 1 in
    let size : length got ≡ min (len - l.moved) 65536 = omega (arith, given, c.min-count.ensures, c.left-len.ensures) in
    let short : l.moved + done < len =
    omega (arith, c.if-done-count.true, c.min-count.ensures, c.left-len.ensures) in
    let all : len + 1 ≡ length c.args.writer.now = omega (arith, c.requires.some) in
    let came : LoadedPiece g.B.Bitmap.marks g.D.Disk.bytes g.D.Disk.sectors g.D.Disk.calls
    (g.M.GuestMemory.memory c.args.mem.now) c.args.host.now c.args.writer.now c.args.sector c.args.disk.now
    l.moved done (take done got) l.disk c.load_piece-done.new.disk l.host c.load_piece-done.new.host l.writer
    c.load_piece-done.new.writer = record {
      lie = rw at at gave.2;
      count = length-take-le done got fits;
      written = gave.3;
      place = c.load_piece-done.ensures.place;
      disk = (c.load_piece-done.ensures.bytes, c.load_piece-done.ensures.sectors);
      tables = c.load_piece-done.ensures.tables;
      shape = c.load_piece-done.ensures.shape;
    } in
    loaded_ends g.B.Bitmap.marks g.D.Disk.bytes g.D.Disk.sectors g.D.Disk.calls
    (g.M.GuestMemory.memory c.args.mem.now) c.args.host.now c.args.writer.now c.args.sector c.args.disk.now
    len l.moved done c.load_piece-done.result.wanted got l.disk c.load_piece-done.new.disk l.host
    c.load_piece-done.new.host l.writer c.load_piece-done.new.writer all l.invariant few size came short
    (rw (e, ← given) at gave.4)

pub loop-moved-preserved : goal.loop-moved-preserved
loop-moved-preserved g c =
    let l = c.loop-moved in
    let n = c.min-count.result in
    let e : length (take n l.buffer) ≡ n =
    length-take-le n l.buffer (omega (arith, c.min-count.ensures, l.auto.buffer, c.requires.room)) in
    let at : 512 * (c.args.sector + l.moved / 512) ≡ 512 * c.args.sector + l.moved =
    omega (arith, l.invariant.whole) in
    let done = c.load_piece-done.result.count in
    let gave = c.load_piece-done.ensures.gave in
    let got = gave.0 in
    let given : length got ≡ n = gave.1 ∙ e in
    let bs = take done got in
    let most : done ≤ n = rw e at c.load_piece-done.ensures.most in
    let all : done ≡ n = omega (arith, most, c.if-done-count.false) in
    let len = length c.args.writer.now - 1 in
    let size = c.left-len.ensures in
    let is : n ≡ min (len - l.moved) 65536 = rw (← size) c.min-count.ensures in
    let same : bs ≡ got = take_all done got (omega (arith, all, given)) in
    let came : LoadedPiece g.B.Bitmap.marks g.D.Disk.bytes g.D.Disk.sectors g.D.Disk.calls
    (g.M.GuestMemory.memory c.args.mem.now) c.args.host.now c.args.writer.now c.args.sector c.args.disk.now
    l.moved done bs l.disk c.load_piece-done.new.disk l.host c.load_piece-done.new.host l.writer
    c.load_piece-done.new.writer = record {
      lie = rw at at gave.2;
      count = length-take-le done got (omega (arith, most, given));
      written = gave.3;
      place = c.load_piece-done.ensures.place;
      disk = (c.load_piece-done.ensures.bytes, c.load_piece-done.ensures.sectors);
      tables = c.load_piece-done.ensures.tables;
      shape = c.load_piece-done.ensures.shape;
    } in
    loaded_more g.B.Bitmap.marks g.D.Disk.bytes g.D.Disk.sectors g.D.Disk.calls
    (g.M.GuestMemory.memory c.args.mem.now) c.args.host.now c.args.writer.now c.args.sector c.args.disk.now
    l.moved done bs l.disk c.load_piece-done.new.disk l.host c.load_piece-done.new.host
    l.writer c.load_piece-done.new.writer l.invariant came
    (rw all (piece_whole len l.moved n is c.requires.whole l.invariant.whole)) (rw all is)
    (omega (arith, c.loop-moved-test.true, size))
    (omega (arith, all, is, c.requires.some, c.loop-moved-test.true, size))
    (rw all (piece_ends-before len l.moved n (length c.args.writer.now) is
    (omega (arith, c.loop-moved-test.true, size)) (omega (arith, c.requires.some)) l.invariant.ends))
    (subst (λ xs. g.D.Disk.calls l.disk (reads (c.args.sector + l.moved / 512) xs) true c.load_piece-done.new.disk)
    (sym same)
    (gave_all (rw e at gave.4) (omega (arith, all, is, c.loop-moved-test.true, size))))
