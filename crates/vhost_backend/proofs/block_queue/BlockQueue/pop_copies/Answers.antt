use Rattle.std.proofs.Common.{[], Ok, Err, true, false, ap, ◌∙◌}
use Rattle.virtio_queue.specs.PackedCopies.{copied}
use Rattle.vhost_backend.specs.BlockQueue.{BlockQueueState, FlightState}
use Rattle.vhost_backend.specs.Flight.{found_in}
use Rattle.vhost_backend.specs.Sight.{sight_of}
use Rattle.vhost_backend.proofs.FlightLemmas.{waits_anyhow}
use Rattle.vhost_backend.proofs.block_queue.BlockQueue.pop_copies.Goals as goal

pub returns-in-Ok-true-clause-pops : goal.returns-in-Ok-true-clause-pops
returns-in-Ok-true-clause-pops g c u k is packed = let find = c.find_copies in (
  copied (Ok true) (found_in find.new.self.flight.packed),
  find.new.self,
  find.new.host,
  (rw c.in-Ok-true.field-0-test at c.in-Ok-true.ensures.finds u k is packed),
  c.after_copies.ensures.after,
)

pub returns-in-Ok-false-clause-pops : goal.returns-in-Ok-false-clause-pops
returns-in-Ok-false-clause-pops g c u k is packed = let find = c.find_copies in
    let found = (rw c.in-Ok-false.field-0-test at c.in-Ok-false.ensures.finds u k is packed) in (
      copied (Ok false) (found_in find.new.self.flight.packed),
      find.new.self,
      find.new.host,
      found,
      waits_anyhow (g.D.RingMemory.steps c.args.mem.now) c.args.terms (sight_of c.args.way) u k [] find.new.self
          find.new.host c.wait_for_copies.result c.wait_for_copies.new.self c.wait_for_copies.new.host
          (c.wait_for_copies.ensures.waits u (record k { found = [] })
          (ap (λ (v : BlockQueueState). v.queue) found.1 ∙ is) (ap (λ (f : FlightState). f.packed) found.0.1)),
    )

pub returns-in-Err-clause-pops : goal.returns-in-Err-clause-pops
returns-in-Err-clause-pops g c u k is packed = let find = c.find_copies in (
  Err c.in-Err.error,
  find.new.self,
  find.new.host,
  c.in-Err.ensures.finds u k is packed,
  c.after_copies-in-Err.ensures.after,
)
