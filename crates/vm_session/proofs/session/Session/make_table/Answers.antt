use Rattle.std.proofs.Common.{refl}
use Rattle.vm_session.specs.Retries.{WholeSession}
use Rattle.vm_session.proofs.RetryLemmas.{table_answers, table_refused}
use Rattle.vm_session.proofs.session.Session.make_table.Goals as goal

pub returns-then-is_err : goal.returns-then-is_err
returns-then-is_err c =
    let s = c.self.inside in
    let old : WholeSession = record { parts = s.parts; limits = s.limits.items; retry = s.retry } in
    let new : WholeSession = record { parts = s.parts; limits = c.reserve.new.self.items; retry = s.retry } in
    rw (← c.self.view_is) (table_refused old new c.args.call.now c.args.input.now c.args.output.now c.no_room.result
    c.args.output.now c.args.kind c.requires.is c.requires.table
    (table_answers s.parts s.parts c.args.call.now c.args.input.now c.args.output.now c.no_room.result c.args.kind
    c.requires.is c.requires.table (c.no_room.ensures.answers s.parts.machine) refl)
    c.no_room.ensures.refused c.reserve.ensures.items refl)
