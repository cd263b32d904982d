use Rattle.std.proofs.Common.{◌∙◌, List, subst}
use Rattle.virtio_queue.specs.Any.{next_avail_of}
use Rattle.virtio_queue.specs.declared.packed.descriptor.PackedDescriptor.{PackedDescriptor}
use Rattle.virtio_queue.specs.declared.packed.state.PackedBuffer.{PackedBuffer}
use Rattle.vhost_backend.specs.Flight.{PopsAgain}
use Rattle.vhost_backend.specs.Sight.{sight_of}
use Rattle.vhost_backend.proofs.PackedFlightLemmas.{same_some}
use Rattle.vhost_backend.proofs.block_queue.BlockQueue.pop_again.Goals as goal

pub returns-clause-pops : goal.returns-clause-pops
returns-clause-pops g c p is = subst (λ (x : PackedBuffer × List PackedDescriptor).
    PopsAgain (g.D.RingMemory.steps c.args.mem.now) c.args.terms (sight_of c.args.way) c.args.self.now x.0
    (next_avail_of c.args.self.now.queue) x.1 c.args.host.now c.pop_known.result c.pop_known.new.self
    c.pop_known.new.host) (same_some (c.in-Some.ensures ∙ (rw (← c.self.view_is) at is)))
    (rw (← c.self.view_is) (
      c.pop_again-chain.result,
      c.pop_again-chain.new.host,
      c.pop_again-chain.ensures.step,
      (rw (c.found_as.ensures, c.next_avail-after.ensures.next) at c.pop_known.ensures.pops),
    ))
