use Rattle.vhost_backend.proofs.reach.Reach.change_others.Goals as goal

pub returns-clause-changes : goal.returns-clause-changes
returns-clause-changes g c = rw (← c.if-not-uses_rows.ensures) (
  c.forget_rows.result,
  rw c.set_fetch.ensures at c.forget_rows.ensures.forgets,
  rw (← c.is_fetching-had.ensures) c.changed_by.ensures,
  rw c.set_fetch.ensures at c.forget_rows.ensures.after,
)
