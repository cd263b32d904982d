use Rattle.std.proofs.Common.{refl, Ok, Err}
use Rattle.vhost_backend.proofs.reach.Reach.forget_both.Goals as goal

pub returns-in-Ok-clause-forgets : goal.returns-in-Ok-clause-forgets
returns-in-Ok-clause-forgets g c = rw (← c.self.view_is) (
  Ok tt,
  c.forget_all.new.host,
  rw c.as_slice.ensures.lent at c.in-Ok.ensures.forgets,
  rw c.as_slice-in-Ok.ensures.lent at c.forget_all-in-Ok.ensures.forgets,
)

pub returns-in-Err-clause-forgets : goal.returns-in-Err-clause-forgets
returns-in-Err-clause-forgets g c = rw (← c.self.view_is) (
  Err c.in-Err.error,
  c.forget_all.new.host,
  rw c.as_slice.ensures.lent at c.in-Err.ensures.forgets,
  (refl, refl),
)
