use Rattle.std.proofs.Common.{◌∙◌}
use Rattle.std.proofs.lemmas.Result.{err_from_is_err_and}
use Rattle.vhost_user.proofs.ConnectionLemmas.{refused_when_served}
use Rattle.vhost_user.proofs.backend_req_handler.BackendReqHandler.handle.Goals as goal

pub returns-in_err-serve : goal.returns-in_err-serve
returns-in_err-serve c =
    let r = c.from_residual-in_err-serve in
    let p = err_from_is_err_and r.result r.ensures.1 in
    let refused = c.in_err-serve.ensures in
    rw (p.1, p.2) (refused_when_served c.args.self.now c.serve.new.self c.args.header.now c.args.payload.now
    c.args.descriptors c.in_ok-request.request c.in_err-serve.field-0.0 c.in_ok-request.ensures
    (c.if-descriptors.false ∙ c.descriptors.ensures) refused.0 refused.1)
