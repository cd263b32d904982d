use Rattle.vhost_backend.proofs.FetchLemmas.{came}
use Rattle.vhost_backend.proofs.fetch_laws.what_came_is_taken.Goals as goal

pub returns : goal.returns
returns c f most old new awaits on = came c.a_mapping_that_comes_is_taken.ensures f most old new on awaits
