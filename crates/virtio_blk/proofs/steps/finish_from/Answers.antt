use Rattle.std.proofs.Common.{◌≡◌, ◌-◌, ◌∙◌, Ok, Err, ap, arith, length, min, sym}
use Rattle.vm_memory_device.specs.Chain.{text, writable}
use Rattle.virtio_blk.specs.Looks.{failed}
use Rattle.virtio_blk.specs.Steps.{gapless}
use Rattle.virtio_blk.proofs.StepFacts.{finished_by, finished_none, gapless_gap, gapless_next, last_place, last_size}
use Rattle.virtio_blk.proofs.steps.finish_from.Goals as goal

pub put-requires-clause-enough : goal.put-requires-clause-enough
put-requires-clause-enough g c =
    last_size (text (writable c.args.chain.now)) c.writer-writer.result c.skip.new.self c.left-len.result c.skip.result
    c.writer-writer.ensures.text c.left-len.ensures c.if-len-eq0.false c.skip.ensures.passed c.skip.ensures.place

pub returns-then-len-eq0 : goal.returns-then-len-eq0
returns-then-len-eq0 g c =
    finished_none g.P.Puts.puts (text (writable c.args.chain.now)) c.args.status c.args.moved c.args.guest.now
    (sym (c.left-len.ensures ∙ ap length c.writer-writer.ensures.text) ∙ c.if-len-eq0.true)

pub returns-in-Ok : goal.returns-in-Ok
returns-in-Ok g c =
    let es = text (writable c.args.chain.now) in
    let len : c.left-len.result ≡ length es = c.left-len.ensures ∙ ap length c.writer-writer.ensures.text in
    let front : c.min-moved.result ≡ min c.args.moved (length es - 1) = omega (arith, c.min-moved.ensures, len) in
    finished_by g.P.Puts.puts es c.args.status c.args.moved c.args.guest.now c.put.new.self (Ok c.left-len.result)
    (Ok c.in-Ok.field-0) (λ none. c.if-len-eq0.false (len ∙ none))
    (rw (last_place es c.writer-writer.result c.skip.new.self c.left-len.result c.skip.result
    c.writer-writer.ensures.text c.left-len.ensures c.if-len-eq0.false c.skip.ensures.passed c.skip.ensures.place)
    at c.in-Ok.ensures)
    (ap Ok (gapless_next es c.min-moved.result c.left-len.result c.if-moved-len.true len ∙ ap (gapless es) front))

pub returns-in-Ok-2 : goal.returns-in-Ok-2
returns-in-Ok-2 g c =
    let es = text (writable c.args.chain.now) in
    let len : c.left-len.result ≡ length es = c.left-len.ensures ∙ ap length c.writer-writer.ensures.text in
    let front : c.min-moved.result ≡ min c.args.moved (length es - 1) = omega (arith, c.min-moved.ensures, len) in
    finished_by g.P.Puts.puts es c.args.status c.args.moved c.args.guest.now c.put.new.self (Ok c.min-moved.result)
    (Ok c.in-Ok.field-0) (λ none. c.if-len-eq0.false (len ∙ none))
    (rw (last_place es c.writer-writer.result c.skip.new.self c.left-len.result c.skip.result
    c.writer-writer.ensures.text c.left-len.ensures c.if-len-eq0.false c.skip.ensures.passed c.skip.ensures.place)
    at c.in-Ok.ensures)
    (ap Ok (gapless_gap es c.min-moved.result c.left-len.result c.if-moved-len.false len ∙ ap (gapless es) front))

pub returns-in-Err : goal.returns-in-Err
returns-in-Err g c =
    let es = text (writable c.args.chain.now) in
    let len : c.left-len.result ≡ length es = c.left-len.ensures ∙ ap length c.writer-writer.ensures.text in
    let front : c.min-moved.result ≡ min c.args.moved (length es - 1) = omega (arith, c.min-moved.ensures, len) in
    finished_by g.P.Puts.puts es c.args.status c.args.moved c.args.guest.now c.put.new.self c.failed.result
    (Err c.in-Err.error) (λ none. c.if-len-eq0.false (len ∙ none))
    (rw (last_place es c.writer-writer.result c.skip.new.self c.left-len.result c.skip.result
    c.writer-writer.ensures.text c.left-len.ensures c.if-len-eq0.false c.skip.ensures.passed c.skip.ensures.place)
    at c.in-Err.ensures)
    (c.failed.ensures ∙ ap (failed c.in-Err.error) front)
