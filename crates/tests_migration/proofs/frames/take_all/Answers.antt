use Rattle.std.proofs.Common.{refl, ◌∙◌}
use Rattle.tests_migration.proofs.frames.take_all.Goals as goal

pub loop-init : goal.loop-init
loop-init g c = record {
  came = c.frames_add_up.ensures.none (g.R.Read.remaining c.args.reader.now) c.args.receiver.now.seen.base
      c.args.receiver.now.seen.entries.items c.args.host.now;
  base = refl;
  entries = refl;
}

pub loop-preserved : goal.loop-preserved
loop-preserved g c =
    let was = c.loop.invariant in
    let took = c.in_ok-stage.ensures.taken.1 in
    record {
      came = c.frames_add_up.ensures.more (g.R.Read.remaining c.args.reader.now) (g.R.Read.remaining c.loop.reader)
          (g.R.Read.remaining c.take.new.reader) c.args.receiver.now.seen.base
          c.args.receiver.now.seen.entries.items c.loop.receiver.seen c.take.new.self.seen c.args.host.now
          c.loop.host c.take.new.host was.base was.entries was.came took;
      base = took.base ∙ was.base;
      entries = took.entries ∙ was.entries;
    }

pub returns-then-eq : goal.returns-then-eq
returns-then-eq g c =
    let was = c.loop.invariant in
    c.frames_add_up.ensures.more (g.R.Read.remaining c.args.reader.now) (g.R.Read.remaining c.loop.reader)
    (g.R.Read.remaining c.take.new.reader) c.args.receiver.now.seen.base c.args.receiver.now.seen.entries.items
    c.loop.receiver.seen c.take.new.self.seen c.args.host.now c.loop.host c.take.new.host was.base was.entries was.came
    c.in_ok-stage.ensures.taken.1
