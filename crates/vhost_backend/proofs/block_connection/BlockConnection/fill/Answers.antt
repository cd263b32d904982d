use Rattle.std.proofs.Common.{arith, drop}
use Rattle.vhost_backend.specs.Run.{course_of, output_of}
use Rattle.vhost_backend.proofs.MoveLemmas.{goes_more}
use Rattle.vhost_backend.proofs.block_connection.BlockConnection.fill.Goals as goal

pub loop-preserved : goal.loop-preserved
loop-preserved c =
    let (ms, moves, puts, many) = c.loop.invariant.made in
    let t = goes_more
    (course_of c.args.self.now (drop c.args.counts.now.ends c.args.ends.now) c.args.turns.now)
    (course_of c.loop.self (drop c.loop.counts.ends c.args.ends.now) c.loop.turns)
    (course_of c.go_on.new.self (drop c.go_on.new.counts.ends c.args.ends.now) c.go_on.new.turns)
    (output_of c.args.counts.now c.args.actions.now c.args.pieces.now c.args.output.now)
    (output_of c.loop.counts c.loop.actions c.loop.pieces c.loop.output)
    (output_of c.go_on.new.counts c.go_on.new.actions c.go_on.new.pieces c.go_on.new.output) ms moves puts
    c.in-Something.ensures.goes in
    record { taken = c.go_on.ensures.taken; made = (t.0, t.1, t.2, omega (arith, t.3, many)) }
