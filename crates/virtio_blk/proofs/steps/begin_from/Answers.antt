use Rattle.std.proofs.Common.{◌≡◌, ◌-◌, ◌∙◌, inl, inr, Ok, Err, ap, arith, length, subst, sym}
use Rattle.vm_memory_device.specs.Chain.{readable, text, writable}
use Rattle.virtio_blk.specs.Request.{request_of}
use Rattle.virtio_blk.specs.Steps.{FitsOn, breaks_limits}
use Rattle.virtio_blk.proofs.ChainFacts.{fits_of, fits_failed}
use Rattle.virtio_blk.proofs.StepFacts.{begun_by, begun_refused, begun_unserved}
use Rattle.virtio_blk.proofs.steps.begin_from.Goals as goal

pub returns-then-room-eq0-clause-begun : goal.returns-then-room-eq0-clause-begun
returns-then-room-eq0-clause-begun g c =
    begun_unserved g.F.Fetches.fetches c.args.limits (breaks_limits c.args.limits c.args.chain.now)
    (text (readable c.args.chain.now)) (text (writable c.args.chain.now)) c.args.guest.now
    (sym (c.left-room.ensures ∙ ap length c.writer.ensures.text) ∙ c.if-room-eq0.true)

pub returns-then-breaks_limits-clause-begun : goal.returns-then-breaks_limits-clause-begun
returns-then-breaks_limits-clause-begun g c =
    let given = text (readable c.args.chain.now) in
    let room = text (writable c.args.chain.now) in
    let len : c.left-len.result ≡ length given = c.left-len.ensures ∙ ap length c.reader.ensures.text in
    let space : c.left-room.result ≡ length room = c.left-room.ensures ∙ ap length c.writer.ensures.text in
    begun_refused g.F.Fetches.fetches c.args.limits (breaks_limits c.args.limits c.args.chain.now) given room
    c.args.guest.now (λ none. c.if-room-eq0.false (space ∙ none))
    (elim c.then-breaks_limits.either [
      | inl broken ↦
          inl (sym (c.breaks_limits.ensures ∙ ap (breaks_limits c.args.limits) c.segments.ensures) ∙ broken)
      | inr short ↦ inr (omega (arith, len, short.1))
    ])

pub returns-in-Ok-clause-begun : goal.returns-in-Ok-clause-begun
returns-in-Ok-clause-begun g c =
    let given = text (readable c.args.chain.now) in
    let room = text (writable c.args.chain.now) in
    let len : c.left-len.result ≡ length given = c.left-len.ensures ∙ ap length c.reader.ensures.text in
    let space : c.left-room.result ≡ length room = c.left-room.ensures ∙ ap length c.writer.ensures.text in
    let fetched = rw c.reader-reader.ensures.text at c.in-Ok.ensures in
    begun_by g.F.Fetches.fetches c.args.limits (breaks_limits c.args.limits c.args.chain.now) given room c.args.guest.now
    c.fetch_all.new.guest (Ok c.request_of.result) (Ok c.fetch_all.new.buf) (λ none. c.if-room-eq0.false (space ∙ none))
    (sym (c.breaks_limits.ensures ∙ ap (breaks_limits c.args.limits) c.segments.ensures) ∙ c.if-breaks_limits.false)
    (omega (arith, len, c.if-len-lt16.false)) fetched
    (ap Ok (c.request_of.ensures
    ∙ ap (λ n. request_of c.args.limits c.fetch_all.new.buf (n - 16) (c.left-room.result - 1)) len
    ∙ ap (λ n. request_of c.args.limits c.fetch_all.new.buf (length given - 16) (n - 1)) space))

pub returns-in-Ok-clause-fits : goal.returns-in-Ok-clause-fits
returns-in-Ok-clause-fits g c =
    subst (FitsOn c.args.limits.sectors) (sym c.request_of.ensures)
    (fits_of c.args.limits c.fetch_all.new.buf (c.left-len.result - 16) (c.left-room.result - 1))

pub returns-in-Err-clause-begun : goal.returns-in-Err-clause-begun
returns-in-Err-clause-begun g c =
    let given = text (readable c.args.chain.now) in
    let room = text (writable c.args.chain.now) in
    let len : c.left-len.result ≡ length given = c.left-len.ensures ∙ ap length c.reader.ensures.text in
    let space : c.left-room.result ≡ length room = c.left-room.ensures ∙ ap length c.writer.ensures.text in
    let fetched = rw c.reader-reader.ensures.text at c.in-Err.ensures in
    begun_by g.F.Fetches.fetches c.args.limits (breaks_limits c.args.limits c.args.chain.now) given room c.args.guest.now
    c.fetch_all.new.guest c.failed.result (Err c.in-Err.error) (λ none. c.if-room-eq0.false (space ∙ none))
    (sym (c.breaks_limits.ensures ∙ ap (breaks_limits c.args.limits) c.segments.ensures) ∙ c.if-breaks_limits.false)
    (omega (arith, len, c.if-len-lt16.false)) fetched c.failed.ensures

pub returns-in-Err-clause-fits : goal.returns-in-Err-clause-fits
returns-in-Err-clause-fits g c = fits_failed c.args.limits c.in-Err.error c.failed.result c.failed.ensures
