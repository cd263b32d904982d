use Rattle.std.proofs.Common.{◌+◌, ◌<◌, ◌^◌, length, Err, subst, arith}
use Rattle.std.proofs.lemmas.Result.{err_from_is_err_and}
use Rattle.vm_memory.specs.Told.{TellsAll, stage_of}
use Rattle.vm_memory.specs.Words.{parts_of}
use Rattle.vm_memory.proofs.ScriptLemmas.{Progress, none_begun, progress-start, progress-more, progress-err, next-number}
use Rattle.vm_memory.proofs.script.answer_lines.Goals as goal

-- Nothing was begun.
pub returns-in_err-session : goal.returns-in_err-session
returns-in_err-session g c =
    let p = err_from_is_err_and c.from_residual.result c.from_residual.ensures.1 in
    rw (p.1, p.2)
    (none_begun (parts_of 10 c.args.text.now) _ (g.W.Write.contents c.args.output.now) c.args.waiting.now.items
    c.in_err-session.ensures.refused c.requires)

-- No line is answered yet.
pub loop-line-init : goal.loop-line-init
loop-line-init g c =
    progress-start (g.W.Write.contents c.args.output.now) c.new-lines.result _ c.args.waiting.now.items
    c.in_ok-session.ensures.begins c.requires

-- One line more is answered.
pub loop-line-preserved : goal.loop-line-preserved
loop-line-preserved g c =
    let contents = g.W.Write.contents in
    let before = contents c.args.output.now in
    let lines = c.new-lines.result in
    let l = c.loop-line in
    let now = contents l.output in
    let stage = stage_of l.session.commanded l.session.machine in
    let answer = c.answer.new in
    let progress = subst (λ left. Progress before lines left stage l.number now l.waiting.items) c.in-Some.ensures
    l.invariant in
    let short : length c.args.text.now + 1 < 2 ^ 64 = omega arith in
    let number = next-number before now c.args.text.now lines c.next.new.self c.in-Some.line.now stage l.number
    c.saturating_add-number.result l.waiting.items progress c.new-lines.ensures short
    c.saturating_add-number.ensures in
    progress-more before now (contents answer.output) lines c.next.new.self c.in-Some.line.now stage
    (stage_of answer.self.commanded answer.self.machine) l.number c.saturating_add-number.result l.waiting.items
    answer.waiting.items c.in_ok-answer.field-0 progress number c.in_ok-answer.ensures

-- Where a line ends the script, the lines before it are answered.
pub returns-in_err-answer : goal.returns-in_err-answer
returns-in_err-answer g c =
    let contents = g.W.Write.contents in
    let before = contents c.args.output.now in
    let lines = c.new-lines.result in
    let l = c.loop-line in
    let now = contents l.output in
    let stage = stage_of l.session.commanded l.session.machine in
    let answer = c.answer.new in
    let progress = subst (λ left. Progress before lines left stage l.number now l.waiting.items) c.in-Some.ensures
    l.invariant in
    let short : length c.args.text.now + 1 < 2 ^ 64 = omega arith in
    let number = next-number before now c.args.text.now lines c.next.new.self c.in-Some.line.now stage l.number
    c.saturating_add-number.result l.waiting.items progress c.new-lines.ensures short
    c.saturating_add-number.ensures in
    let e = c.in_err-answer.field-0.0 in
    let told = progress-err before now (contents answer.output) lines c.next.new.self c.in-Some.line.now stage
    (stage_of answer.self.commanded answer.self.machine) l.number c.saturating_add-number.result l.waiting.items
    answer.waiting.items e progress number c.in_err-answer.ensures in
    let p = err_from_is_err_and c.from_residual-in_err-answer.result c.from_residual-in_err-answer.ensures.1 in
    rw (p.1, p.2)
    (subst (λ all. TellsAll all (Err e) before (contents answer.output) answer.waiting.items) c.new-lines.ensures told)
