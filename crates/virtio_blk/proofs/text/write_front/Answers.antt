use Rattle.std.proofs.Common.{Fits, arith, length, refl, rules, w64}
use Rattle.virtio_blk.proofs.TextFacts.{wrote_more, wrote_none, wrote_stop}
use Rattle.virtio_blk.proofs.text.write_front.Goals as goal

pub loop-done-init : goal.loop-done-init
loop-done-init g c =
    wrote_none g.B.Bitmap.marks (g.M.GuestMemory.memory c.args.mem.now) c.args.writer.now c.args.buf.now
    c.args.host.now

pub overflow_add-done : goal.overflow_add-done
overflow_add-done g c =
    let l = c.loop-done in
    let more = wrote_more g.B.Bitmap.marks (g.M.GuestMemory.memory c.args.mem.now) c.args.writer.now c.args.buf.now
    c.args.host.now l.done l.host l.writer c.write.new.self c.write.new.host c.requires.enough l.invariant
    c.loop-done-test.true c.in-Ok.count c.in-Ok.ensures.wrote c.in-Ok.ensures.shape in
    let small : Fits w64 (length c.args.buf.now) = search rules in
    omega (arith, more.1.most, small)

pub loop-done-smaller : goal.loop-done-smaller
loop-done-smaller g c =
    let l = c.loop-done in
    let more = wrote_more g.B.Bitmap.marks (g.M.GuestMemory.memory c.args.mem.now) c.args.writer.now c.args.buf.now
    c.args.host.now l.done l.host l.writer c.write.new.self c.write.new.host c.requires.enough l.invariant
    c.loop-done-test.true c.in-Ok.count c.in-Ok.ensures.wrote c.in-Ok.ensures.shape in
    omega (arith, more.0, c.loop-done-test.true)

pub loop-done-preserved : goal.loop-done-preserved
loop-done-preserved g c =
    let l = c.loop-done in
    let more = wrote_more g.B.Bitmap.marks (g.M.GuestMemory.memory c.args.mem.now) c.args.writer.now c.args.buf.now
    c.args.host.now l.done l.host l.writer c.write.new.self c.write.new.host c.requires.enough l.invariant
    c.loop-done-test.true c.in-Ok.count c.in-Ok.ensures.wrote c.in-Ok.ensures.shape in
    more.1

pub returns-in-Err : goal.returns-in-Err
returns-in-Err g c =
    let l = c.loop-done in
    let (stops, so_far) = wrote_stop g.B.Bitmap.marks (g.M.GuestMemory.memory c.args.mem.now) c.args.writer.now
    c.args.buf.now c.args.host.now l.done l.host l.writer c.write.new.self c.write.new.host c.requires.enough
    l.invariant c.loop-done-test.true c.in-Err.error c.in-Err.ensures.wrote c.in-Err.ensures.shape in
    record {
      most = so_far.most;
      written = so_far.written;
      stopped = λ short. rw c.is_memory.ensures stops;
      all = λ full. absurd (omega (arith, full, c.loop-done-test.true));
      place = so_far.place;
      tables = so_far.tables;
      shape = so_far.shape;
    }

pub returns : goal.returns
returns g c =
    let l = c.loop-done in
    record {
      most = l.invariant.most;
      written = l.invariant.written;
      stopped = λ short. absurd (omega (arith, short, c.loop-done-test.false));
      all = λ full. refl;
      place = l.invariant.place;
      tables = l.invariant.tables;
      shape = l.invariant.shape;
    }
