use Rattle.std.proofs.Common.{[], ◌∙◌, ◌||◌, Bool, ap, drop, length, nat_lt, refl}
use Rattle.vhost_backend.specs.Run.{begun, course_of, output_of}
use Rattle.vhost_backend.specs.Given.{no_counts}
use Rattle.vhost_backend.specs.Rows.{flag_of}
use Rattle.vhost_backend.proofs.LeadLemmas.{fills_lead}
use Rattle.vhost_backend.proofs.MoveLemmas.{from_nothing}
use Rattle.vhost_backend.proofs.block_connection.BlockConnection.run.Goals as goal

pub returns-clause-runs : goal.returns-clause-runs
returns-clause-runs c =
    let d = course_of c.fill-is_full.new.self (drop c.fill-is_full.new.counts.ends c.args.ends.now)
    c.fill-is_full.new.turns in
    let o = output_of c.fill-is_full.new.counts c.fill-is_full.new.actions c.fill-is_full.new.pieces
    c.fill-is_full.new.output in (
      c.fill-is_full.result,
      d,
      from_nothing c.args.self.now c.args.ends.now c.args.turns c.no_counts-counts.result c.args.actions.now
          c.args.pieces.now c.args.output.now c.fill-is_full.result d o c.no_counts-counts.ensures
          c.fill-is_full.ensures.fills,
      refl,
      refl,
      c.fill-is_full.ensures.taken,
      c.more_of.ensures ∙ ap (λ (v : Bool). flag_of (c.fill-is_full.result
          || (nat_lt c.fill-is_full.new.counts.ends (length c.args.ends.now) || v))) c.has_next.ensures,
      c.state.ensures,
    )

pub returns-clause-leads : goal.returns-clause-leads
returns-clause-leads c =
    let d = course_of c.fill-is_full.new.self (drop c.fill-is_full.new.counts.ends c.args.ends.now)
    c.fill-is_full.new.turns in
    let o = output_of c.fill-is_full.new.counts c.fill-is_full.new.actions c.fill-is_full.new.pieces
    c.fill-is_full.new.output in
    fills_lead (begun c.args.self.now c.args.ends.now c.args.turns) d (output_of no_counts [] [] []) o
    c.fill-is_full.result (from_nothing c.args.self.now c.args.ends.now c.args.turns c.no_counts-counts.result
    c.args.actions.now c.args.pieces.now c.args.output.now c.fill-is_full.result d o c.no_counts-counts.ensures
    c.fill-is_full.ensures.fills)
