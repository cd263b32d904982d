use Rattle.std.proofs.Common.{◌≡◌, ◌∙◌, List, ap, subst}
use Rattle.virtio_queue.specs.Any.{next_avail_of, past}
use Rattle.virtio_queue.specs.declared.packed.descriptor.PackedDescriptor.{PackedDescriptor}
use Rattle.virtio_queue.specs.declared.packed.state.PackedBuffer.{PackedBuffer}
use Rattle.vhost_backend.specs.Flight.{PopsAgain, found_in}
use Rattle.vhost_backend.specs.PackedFlight.{buffer_of}
use Rattle.vhost_backend.specs.Sight.{sight_of}
use Rattle.vhost_backend.proofs.block_queue.BlockQueue.pop_found.Goals as goal

pub returns-clause-pops : goal.returns-clause-pops
returns-clause-pops g c = let ds : List PackedDescriptor = found_in c.args.self.now.flight.packed in
    let found : c.found.result.now ≡ ds = rw (← c.self.view_is) c.found.ensures in
    let again : c.found-found.result.now ≡ ds = rw (← c.self.view_is) c.found-found.ensures in
    let P : PackedBuffer → List PackedDescriptor → Type 0 = λ b ds.
    PopsAgain (g.D.RingMemory.steps c.args.mem.now) c.args.terms (sight_of c.args.way) c.args.self.now b
    (next_avail_of (past c.args.self.now.queue b)) ds c.args.host.now c.pop_known.result c.pop_known.new.self
    c.pop_known.new.host in
    subst (λ (b : PackedBuffer). P b ds) (c.buffer_of-buffer.ensures ∙ ap buffer_of found)
    (subst (λ (xs : List PackedDescriptor). P c.buffer_of-buffer.result xs) again (rw (← c.self.view_is) (
      c.pop_again-chain.result,
      c.pop_again-chain.new.host,
      c.pop_again-chain.ensures.step,
      (rw (c.found_as.ensures, c.next_after-after.ensures c.buffer_of-buffer.result.id) at c.pop_known.ensures.pops),
    )))
