use Rattle.vhost_backend.proofs.reach.Reach.change.Goals as goal

pub returns-clause-changes : goal.returns-clause-changes
returns-clause-changes g c = rw (← c.if-not-uses_areas.ensures) (
  c.forget.result,
  rw c.drop_all.ensures at c.forget.ensures.forgets,
  rw (← c.is_fetching-had.ensures) c.changed_by.ensures,
  rw c.drop_all.ensures at c.forget.ensures.after,
)
