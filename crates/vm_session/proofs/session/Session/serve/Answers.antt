use Rattle.std.proofs.Common.{refl}
use Rattle.vm_session.specs.Retries.{WholeSession}
use Rattle.vm_session.proofs.CodeLemmas.{access_answers, work_answers}
use Rattle.vm_session.proofs.RetryLemmas.{access_served, work_served}
use Rattle.vm_session.proofs.session.Session.serve.Goals as goal

pub returns-in-Some : goal.returns-in-Some
returns-in-Some c =
    let s = c.self.inside in
    let old : WholeSession = record { parts = s.parts; limits = s.limits.items; retry = s.retry } in
    let new : WholeSession = record { parts = c.access.new.self; limits = s.limits.items; retry = s.retry } in
    rw (← c.self.view_is) (access_served old new c.args.call.now c.args.input.now c.args.output.now
    c.access.new.answer c.access.new.output c.in-Some.kind c.in-Some.ensures.0 refl refl c.in-Some.ensures.1
    (access_answers s.parts c.in-Some.kind c.args.call.now c.args.input.now c.args.output.now c.access.new.answer
    c.access.new.output c.access.new.self c.in-Some.ensures.0 c.in-Some.ensures.1 c.access.ensures.served
    c.access.ensures.queues))

pub returns-in-Some-work_kind : goal.returns-in-Some-work_kind
returns-in-Some-work_kind c =
    let s = c.self.inside in
    let old : WholeSession = record { parts = s.parts; limits = s.limits.items; retry = s.retry } in
    let new : WholeSession = record { parts = c.work.new.self; limits = s.limits.items; retry = s.retry } in
    let k = c.in-Some-work_kind in
    rw (← c.self.view_is) (work_served old new c.args.call.now c.args.input.now c.args.output.now
    c.work.new.answer c.work.new.output k.kind k.ensures.0 refl refl k.ensures.1
    (work_answers s.parts k.kind c.args.call.now c.args.input.now c.args.output.now c.work.new.answer
    c.work.new.output c.work.new.self k.ensures.0 k.ensures.1 c.work.ensures))
