use Rattle.std.proofs.Common.{inl, sym, ◌∙◌, ap, arith, Ok, Option}
use Rattle.std.proofs.lemmas.Grind.{common_steps}
use Rattle.std.proofs.lemmas.Result.{err_from_is_err_and}
use Rattle.linux_loader.specs.declared.segment.Segment.{Segment}
use Rattle.linux_loader.proofs.ElfLemmas.{comes_on_at, comes_over_at, comes_wrong_at, comes_last_at}
use Rattle.linux_loader.proofs.elf.header.segments_of.Goals as goal
use Rattle.linux_loader.proofs.elf.header.segments_of.Goals.{in-None, in-Some+else-is_err}

pub returns-in_err-segment_of-clause-listed : goal.returns-in_err-segment_of-clause-listed
returns-in_err-segment_of-clause-listed c =
    let l = c.loop-header in
    let p = err_from_is_err_and c.from_residual.result c.from_residual.ensures.1 in
    rw (p.1, p.2)
    (inl (comes_wrong_at c.args.size c.args.kernel_offset c.args.headers.now l.segments.items l.header-index _
    c.in_err-segment_of.field-0.0 l.invariant.0 c.loop-header-test.true c.in_err-segment_of.ensures.is))

pub loop-header-preserved : goal.loop-header-preserved
loop-header-preserved c =
    let l = c.loop-header in
    elim c.match-branch-2.branch [
      | in-None w ↦ rw w.segments-is (
        comes_over_at c.args.size c.args.kernel_offset c.args.headers.now l.segments.items l.header-index _
            l.invariant.0 c.loop-header-test.true (ap (λ (o : Option Segment). Ok o) (sym w.in-None.is)
            ∙ c.in_ok-segment_of.ensures.is),
        l.invariant.1,
      )
      | in-Some+else-is_err w ↦ (let p = rw w.if-is_err.ensures.negation at w.push.ensures.items in
          let more = rw w.in-Some.is at c.in_ok-segment_of.ensures.some in
          rw w.segments-is (rw p (
            comes_on_at c.args.size c.args.kernel_offset c.args.headers.now l.segments.items l.header-index _
                w.in-Some.segment
                l.invariant.0 c.loop-header-test.true (ap (λ (o : Option Segment). Ok o) (sym w.in-Some.is)
                ∙ c.in_ok-segment_of.ensures.is),
            grind (arith, common_steps, more, l.invariant.1),
          )))
    ]

pub returns-clause-listed : goal.returns-clause-listed
returns-clause-listed c =
    let l = c.loop-header in
    comes_last_at c.args.size c.args.kernel_offset c.args.headers.now l.segments.items l.header-index l.invariant.0
    c.loop-header-test.false
