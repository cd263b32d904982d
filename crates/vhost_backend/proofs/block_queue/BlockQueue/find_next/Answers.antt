use Rattle.std.proofs.Common.{Some, Ok}
use Rattle.vhost_backend.proofs.block_queue.BlockQueue.find_next.Goals as goal

pub returns-in-Ok-Some-clause-finds : goal.returns-in-Ok-Some-clause-finds
returns-in-Ok-Some-clause-finds g c = (
  Ok (Some c.in-Ok-Some.found),
  c.find.new.host,
  rw c.in-Ok-Some.field-0-is at c.in-Ok-Some.ensures.finds,
  rw c.find.ensures.stays at c.fetch_chain.ensures.fetches,
)
