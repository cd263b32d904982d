use Rattle.vm_memory_device.specs.Chain.{readable, text, writable}
use Rattle.virtio_blk.specs.Steps.{breaks_limits}
use Rattle.virtio_blk.proofs.StepFacts.{begins_still, goes-text}
use Rattle.virtio_blk.proofs.steps.begin.Goals as goal

pub returns-clause-begun : goal.returns-clause-begun
returns-clause-begun g c =
    let chain = c.args.chain.now in
    begins_still _ c.args.limits (breaks_limits c.args.limits chain) (text (readable chain)) (text (writable chain)) _
    c.begin_from.new.guest c.begin_from.result c.begin_from.ensures.begun (g.M.GuestMemory.memory c.args.mem.now)
    c.args.host.now (λ ls n found after looked. looked) (goes-text (readable chain))
