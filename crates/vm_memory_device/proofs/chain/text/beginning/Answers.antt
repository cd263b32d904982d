use Rattle.std.proofs.Common.{◌∙◌, arith}
use Rattle.vm_memory_device.proofs.TextLemmas.{entries-none, fit_after, place_first, text-others}
use Rattle.vm_memory_device.proofs.chain.text.beginning.Goals as goal

pub returns-then-first-ne0-clause-place : goal.returns-then-first-ne0-clause-place
returns-then-first-ne0-clause-place c =
    let l = c.loop-first in
    place_first l.later.now c.in-Some.others.now c.in-Some.first.now c.in-Some.ensures.cases.0 l.invariant.fit
    (omega (arith, c.if-first-ne0.true))

pub loop-first-preserved : goal.loop-first-preserved
loop-first-preserved c =
    let l = c.loop-first in
    let first = c.in-Some.first.now in
    let is = c.in-Some.ensures.cases.0 in
    record {
      text = text-others l.later.now c.in-Some.others.now first is c.if-first-ne0.false ∙ l.invariant.text;
      fit = fit_after l.later.now c.in-Some.others.now first is l.invariant.fit;
    }

pub returns-clause-text : goal.returns-clause-text
returns-clause-text c = entries-none 0 c.loop-first.later.now ∙ c.loop-first.invariant.text
