use Rattle.std.proofs.Common.{◌≡◌, rules}
use Rattle.vm_memory_device.specs.Chain.{text, writable}
use Rattle.vm_memory_guest.specs.Host.{Host, shape_of}
use Rattle.virtio_blk.specs.Steps.{Finishes}
use Rattle.virtio_blk.proofs.StepFacts.{finishes_still, keeps_name, left_after}
use Rattle.virtio_blk.proofs.steps.finish.Goals as goal

pub returns-clause-finished : goal.returns-clause-finished
returns-clause-finished g c =
    let marks = g.B.Bitmap.marks in
    let m = g.M.GuestMemory.memory c.args.mem.now in
    let es = text (writable c.args.chain.now) in
    let lent = c.finish_from.new.guest in
    let answer = c.finish_from.result in
    left_after lent.host.now
    (keeps_name _ es c.args.status c.args.moved _ lent answer c.finish_from.ensures (λ s. s.host.ghost_name)
    (λ ls bytes stored put. put.0))
    (λ (h : Host g.row.B.Denot). Finishes marks m es c.args.status c.args.moved c.args.host.now answer h) (search rules)
    (finishes_still _ es c.args.status c.args.moved _ lent answer c.finish_from.ensures (λ s. s.host.now) marks m
    (λ ls bytes stored put. put.1)).0

pub returns-clause-shape : goal.returns-clause-shape
returns-clause-shape g c =
    let marks = g.B.Bitmap.marks in
    let m = g.M.GuestMemory.memory c.args.mem.now in
    let es = text (writable c.args.chain.now) in
    let lent = c.finish_from.new.guest in
    let answer = c.finish_from.result in
    left_after {x = c.host-1.given.0} lent.host.now
    (keeps_name _ es c.args.status c.args.moved _ lent answer c.finish_from.ensures (λ s. s.host.ghost_name)
    (λ ls bytes stored put. put.0))
    (λ (h : Host g.row.B.Denot). shape_of h ≡ shape_of c.args.host.now) (search rules)
    (finishes_still _ es c.args.status c.args.moved _ lent answer c.finish_from.ensures (λ s. s.host.now) marks m
    (λ ls bytes stored put. put.1)).1
