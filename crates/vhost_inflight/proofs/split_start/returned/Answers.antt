use Rattle.std.proofs.Common.{Some, inl, inr, ap, ◌∙◌, sym}
use Rattle.std.proofs.lemmas.Result.{IfErr-weaker, IfOk-weaker}
use Rattle.vhost_inflight.proofs.StartLemmas.{returned_err, returned_ok}
use Rattle.vhost_inflight.proofs.split_start.returned.Goals as goal

pub returns-clause-ok : goal.returns-clause-ok
returns-clause-ok c =
    IfOk-weaker c.batch.result _ _
    (λ heads is. returned_ok c.args.header c.args.entries.now c.args.descriptors c.args.size c.args.used_idx heads.items
    c.in-1.is c.if-header-descriptors.false c.if-count-size.false c.requires is.0 is.1)
    c.batch.ensures.ok

pub returns-clause-err : goal.returns-clause-err
returns-clause-err c =
    IfErr-weaker c.batch.result _ _
    (λ e is. elim is [
      | inl memory ↦ inl memory
      | inr head ↦ inr (returned_err c.args.header c.args.entries.now c.args.descriptors c.args.size c.args.used_idx
          c.in-1.is c.if-header-descriptors.false c.if-count-size.false head.1 ∙ ap Some (sym head.0))
    ])
    c.batch.ensures.err
