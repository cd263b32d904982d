use Rattle.std.proofs.Common.{◌∙◌, ◌≤◌, ◌*◌, length, ap, inr, subst}
use Rattle.vm_memory.specs.ScriptMachine.{state_made}
use Rattle.vm_session.proofs.HarvestLemmas.{harvest_short, harvested}
use Rattle.vm_session.proofs.lists.harvest.Goals as goal

pub returns-then-output-needed : goal.returns-then-output-needed
returns-then-output-needed c =
    let old = state_made c.args.machine.now in
    inr (harvest_short old old c.args.bitmap c.dirty.new.pages.items c.args.output.now c.short.result
    c.bytes_for-needed.result c.in_default.ensures.answer
    (c.bytes_for-needed.ensures ∙ ap (λ ps. length ps * 8) c.as_slice.ensures.value)
    c.if-output-needed.true c.short.ensures)

pub returns-in-Ok : goal.returns-in-Ok
returns-in-Ok c =
    let old = state_made c.args.machine.now in
    let pages = c.dirty.new.pages.items in
    let size = c.bytes_for-needed.ensures ∙ ap (λ ps. length ps * 8) c.as_slice.ensures.value in
    harvested old old (state_made c.harvest.new.self) c.args.bitmap pages c.as_slice-in-Ok.result.now
    c.harvest.new.pages.items c.args.output.now c.list_pages.result c.list_pages.new.output
    c.in_default.ensures.answer c.in-Ok.ensures.answer c.as_slice-in-Ok.ensures.value
    (subst (λ n. n ≤ length c.args.output.now) size c.if-output-needed.false) c.list_pages.ensures
