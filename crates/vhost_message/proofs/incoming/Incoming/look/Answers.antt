use Rattle.std.proofs.Common.{◌≡◌, arith}
use Rattle.std.proofs.lemmas.Result.{err_from_is_err_and}
use Rattle.vhost_message.proofs.ChannelLemmas.{finds_error, finds_last, finds_message, finds_nothing, looked_more, looked_none}
use Rattle.vhost_message.proofs.incoming.Incoming.look.Goals as goal

pub loop-read-init : goal.loop-read-init
loop-read-init g c = looked_none g.R.Receive.gives c.args.self.now c.args.reader.now

pub returns-in-Some-clause-looks : goal.returns-in-Some-clause-looks
returns-in-Some-clause-looks g c =
    let l = c.loop-read in
    finds_message g.R.Receive.gives c.args.self.now c.args.reader.now l.self l.reader l._read l.invariant
    c.in-Some.message c.take.new.self l.auto._read-end c.in-Some.ensures.takes

pub returns-in_err-read_on-clause-looks : goal.returns-in_err-read_on-clause-looks
returns-in_err-read_on-clause-looks g c =
    let l = c.loop-read in
    let p = err_from_is_err_and c.from_residual.result c.from_residual.ensures.1 in
    rw (p.1, p.2) (finds_error g.R.Receive.gives c.args.self.now c.args.reader.now l.self l.reader l._read l.invariant
    c.take.new.self c.in_default.ensures.takes c.in_err-read_on.field-0.0 c.read_on.new.self c.read_on.new.reader
    c.loop-read-test.true c.in_err-read_on.ensures)

pub returns-then-not-branch-clause-looks : goal.returns-then-not-branch-clause-looks
returns-then-not-branch-clause-looks g c =
    let l = c.loop-read in
    finds_nothing g.R.Receive.gives c.args.self.now c.args.reader.now l.self l.reader l._read l.invariant
    c.take.new.self c.in_default.ensures.takes c.in_ok-read_on.field-0 c.read_on.new.self c.read_on.new.reader
    c.loop-read-test.true c.if-not-branch.true c.in_ok-read_on.ensures

pub loop-read-preserved : goal.loop-read-preserved
loop-read-preserved g c =
    let l = c.loop-read in
    looked_more g.R.Receive.gives c.args.self.now c.args.reader.now l.self l.reader l._read l.invariant
    c.take.new.self c.in_default.ensures.takes c.in_ok-read_on.field-0 c.read_on.new.self c.read_on.new.reader
    c.if-not-branch.false c.in_ok-read_on.ensures

pub returns-clause-looks : goal.returns-clause-looks
returns-clause-looks g c =
    let l = c.loop-read in
    let two : l._read ≡ 2 = omega (arith, l.auto._read-end, c.loop-read-test.false) in
    finds_last g.R.Receive.gives c.args.self.now c.args.reader.now l.self l.reader l._read l.invariant c.take-2.result
    c.take-2.new.self two c.take-2.ensures.takes
