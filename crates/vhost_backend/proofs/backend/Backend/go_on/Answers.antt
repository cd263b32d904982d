use Rattle.std.proofs.Common.{◌∙◌, [], ap, sym}
use Rattle.vhost_backend.specs.Backend.{BackendState, begun_or_waits, is_due}
use Rattle.vhost_backend.specs.declared.backend.Taken.TheVariants as taken
use Rattle.vhost_backend.proofs.BackendLemmas.{same_waits}
use Rattle.vhost_backend.proofs.backend.Backend.go_on.Goals as goal

pub returns-in-Waits : goal.returns-in-Waits
returns-in-Waits c =
    let waits = sym c.replace.ensures.value ∙ c.in-Waits.is in
    let h = c.in-Waits.header in
    let request = c.in-Waits.request in
    let until = c.in-Waits.until in
    let b : BackendState = record {
      connection = c.self.inside.connection;
      rings = c.self.inside.rings;
      placings = c.self.inside.placings.items;
      taken = c.self.inside.taken;
    } in
    rw (← c.self.view_is, waits) (c.begin_or_wait.ensures
    ∙ same_waits b taken.Nothing h request [] until (is_due until c.args.done.now)
    ∙ ap (λ b. begun_or_waits b h request [] until (is_due until c.args.done.now)) c.self.view_is)
