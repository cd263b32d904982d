use Rattle.std.proofs.Common.{◌∙◌, ◌++◌, ◌*◌, drop, flat_map, length, ap, ap₂, subst, sym}
use Rattle.vm_session.specs.Words.{row_bytes}
use Rattle.vm_session.specs.Lists.{ListsIf}
use Rattle.vm_memory.specs.declared.machine.command.Reply.TheVariants as reply
use Rattle.vm_session.proofs.ListLemmas.{fails_listed, fails_short}
use Rattle.vm_session.proofs.lists.list_fails.Goals as goal

pub returns-then-output-needed : goal.returns-then-output-needed
returns-then-output-needed c =
    fails_short c.args.fails.now c.as_slice-misses.result.now c.as_slice-access_fails.result.now c.args.output.now
    c.short.result c.as_slice-misses.ensures c.as_slice-access_fails.ensures c.if-output-needed.true c.short.ensures

pub returns : goal.returns
returns c =
    let xs = c.as_slice-misses.result.now in
    let ys = c.as_slice-access_fails.result.now in
    let out = c.args.output.now in
    let front = length xs * 16 in
    let head = c.put_rows.ensures
    ∙ ap (λ h. flat_map (λ r. row_bytes r.base.0 r.length) xs ++ drop front h) c.split_at_mut-head.ensures.front in
    let tail = c.put_rows-2.ensures
    ∙ ap (λ t. flat_map (λ r. row_bytes r.base.0 r.length) ys ++ drop (length ys * 16) t)
    c.split_at_mut-head.ensures.back in
    subst (λ o. ListsIf (reply.Fails c.args.fails.now) out
    (record { code = 4; count = length xs; value = length ys; address = 0 }) o) (sym (ap₂ (λ h t. h ++ t) head tail))
    (fails_listed c.args.fails.now xs ys out c.as_slice-misses.ensures c.as_slice-access_fails.ensures
    c.if-output-needed.false)
