use Rattle.std.proofs.Common.{arith, length}
use Rattle.virtio_blk.proofs.TextFacts.{read_full, read_more, read_none, read_stop}
use Rattle.virtio_blk.proofs.text.read_all.Goals as goal

pub loop-filled-init : goal.loop-filled-init
loop-filled-init g c =
    read_none (g.M.GuestMemory.memory c.args.mem.now) c.args.host.now c.args.reader.now c.args.buf.now

pub loop-filled-smaller : goal.loop-filled-smaller
loop-filled-smaller g c =
    let l = c.loop-filled in
    let more = read_more (g.M.GuestMemory.memory c.args.mem.now) c.args.host.now c.args.reader.now
    (length c.args.buf.now) l.filled l.buf c.read.new.buf l.reader c.read.new.self c.requires.enough l.invariant
    c.loop-filled-test.true c.in-Ok.count c.in-Ok.ensures in
    omega (arith, more.0, c.loop-filled-test.true)

pub loop-filled-preserved : goal.loop-filled-preserved
loop-filled-preserved g c =
    let l = c.loop-filled in
    let more = read_more (g.M.GuestMemory.memory c.args.mem.now) c.args.host.now c.args.reader.now
    (length c.args.buf.now) l.filled l.buf c.read.new.buf l.reader c.read.new.self c.requires.enough l.invariant
    c.loop-filled-test.true c.in-Ok.count c.in-Ok.ensures in
    more.1

pub returns-in-Err : goal.returns-in-Err
returns-in-Err g c =
    let l = c.loop-filled in
    rw c.is_memory.ensures (
    read_stop (g.M.GuestMemory.memory c.args.mem.now) c.args.host.now c.args.reader.now
    (length c.args.buf.now) l.filled l.buf c.read.new.buf l.reader c.read.new.self c.requires.enough l.invariant
    c.loop-filled-test.true c.in-Err.error c.in-Err.ensures)

pub returns : goal.returns
returns g c =
    let l = c.loop-filled in
    read_full (g.M.GuestMemory.memory c.args.mem.now) c.args.host.now c.args.reader.now (length c.args.buf.now)
    l.filled l.buf l.reader l.invariant c.loop-filled-test.false
