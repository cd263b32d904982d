use Rattle.std.proofs.Common.{refl}
use Rattle.virtio_blk.proofs.ChainFacts.{can_serve, served_of}
use Rattle.virtio_blk.proofs.StepFacts.{goes-text}
use Rattle.virtio_blk.proofs.device.BlockDevice.serve.Goals as goal
use Rattle.virtio_blk.specs.Config.{limits_of}
use Rattle.vm_memory_device.specs.Chain.{readable, text, writable}

pub act-status-requires-clause-can : goal.act-status-requires-clause-can
act-status-requires-clause-can g c =
    let chain = c.args.chain.now in
    (can_serve (g.M.GuestMemory.memory c.args.mem.now) c.args.host.now
    (limits_of g.D.Disk.sectors c.args.self.now) c.limits.result chain (text (readable chain)) (text (writable chain))
    c.begin.result c.asked_of-request.result (goes-text (readable chain)) c.limits.ensures.limits refl
    c.begin.ensures.begun c.asked_of-request.ensures c.limits.ensures.small).1

pub returns-clause-served : goal.returns-clause-served
returns-clause-served g c =
    let chain = c.args.chain.now in
    let m = g.M.GuestMemory.memory c.args.mem.now in
    let D = g.D.Disk in
    let p = c.act-status in
    let asked = c.asked_of-request.result in
    let both = can_serve m c.args.host.now (limits_of D.sectors c.args.self.now) c.limits.result
    chain (text (readable chain)) (text (writable chain)) c.begin.result asked
    (goes-text (readable chain)) c.limits.ensures.limits refl c.begin.ensures.begun c.asked_of-request.ensures
    c.limits.ensures.small in
    served_of g.B.Bitmap.marks D.bytes D.sectors D.calls m (text (readable chain)) (text (writable chain))
    c.args.self.now c.args.host.now asked p.result.0 p.result.1.count p.result.1.wanted p.new.self p.new.host
    c.finish-finished.result c.length_of-len.result c.count.new.self c.finish-finished.new.host both.0 p.ensures.did
    p.ensures.rest c.finish-finished.ensures.finished c.length_of-len.ensures c.count.ensures
