use Rattle.std.proofs.Common.{◌≡◌, refl, Ok, Err}
use Rattle.vhost_backend.specs.Behind.{or_empty}
use Rattle.vhost_backend.specs.Fetch.{guest_chain}
use Rattle.vhost_backend.proofs.block_queue.BlockQueue.take_fetched.Goals as goal

pub returns-in-Ok-clause-takes : goal.returns-in-Ok-clause-takes
returns-in-Ok-clause-takes g c =
    let is : c.in-Ok.chain ≡ or_empty (guest_chain c.args.kept.items) = rw c.as_slice.ensures.value at c.in-Ok.ensures in
    (Ok tt, rw is at c.begin_fetched.ensures.begins)

pub returns-in-Err-clause-takes : goal.returns-in-Err-clause-takes
returns-in-Err-clause-takes g c = (Err c.in-Err.field-0, (refl, refl, refl))
