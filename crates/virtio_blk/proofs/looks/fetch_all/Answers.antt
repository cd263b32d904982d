use Rattle.std.proofs.Common.{arith, length, refl}
use Rattle.virtio_blk.proofs.LookFacts.{fetched_all, fetched_failed, fetched_more, fetched_none, rest_fits, rest_some}
use Rattle.virtio_blk.proofs.looks.fetch_all.Goals as goal

pub loop-filled-init : goal.loop-filled-init
loop-filled-init g c =
    fetched_none g.F.Fetches.fetches c.args.reader.now (length c.args.buf.now) c.args.guest.now c.args.buf.now refl

pub fetch-requires-clause-some : goal.fetch-requires-clause-some
fetch-requires-clause-some g c =
    let l = c.loop-filled in
    rest_some g.F.Fetches.fetches c.args.reader.now (length c.args.buf.now) c.args.guest.now l.filled l.buf l.reader l.guest
    l.invariant c.loop-filled-test.true

pub fetch-requires-clause-enough : goal.fetch-requires-clause-enough
fetch-requires-clause-enough g c =
    let l = c.loop-filled in
    rest_fits g.F.Fetches.fetches c.args.reader.now (length c.args.buf.now) c.args.guest.now l.filled l.buf l.reader l.guest
    l.invariant c.loop-filled-test.true c.requires

pub loop-filled-smaller : goal.loop-filled-smaller
loop-filled-smaller g c = omega (arith, c.in-Ok.ensures.count.0, c.loop-filled-test.true)

pub loop-filled-preserved : goal.loop-filled-preserved
loop-filled-preserved g c =
    let l = c.loop-filled in
    fetched_more g.F.Fetches.fetches c.args.reader.now (length c.args.buf.now) c.args.guest.now l.filled l.buf
    c.fetch.new.buf l.reader l.guest c.fetch.new.self l.invariant c.loop-filled-test.true c.in-Ok.count
    c.fetch.new.reader c.in-Ok.ensures.fetched c.fetch.ensures.size c.in-Ok.ensures.count.1 c.in-Ok.ensures.count.2

pub returns-in-Err : goal.returns-in-Err
returns-in-Err g c =
    let l = c.loop-filled in
    fetched_failed g.F.Fetches.fetches c.args.reader.now (length c.args.buf.now) c.args.guest.now l.filled l.buf
    c.fetch.new.buf l.reader l.guest c.fetch.new.self l.invariant c.loop-filled-test.true c.in-Err.error
    c.in-Err.ensures.fetched

pub returns : goal.returns
returns g c =
    let l = c.loop-filled in
    fetched_all g.F.Fetches.fetches c.args.reader.now (length c.args.buf.now) c.args.guest.now l.filled l.buf l.reader
    l.guest l.invariant c.loop-filled-test.false
