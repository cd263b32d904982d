use Rattle.virtio_blk.proofs.LentFacts.{lent_then, stored_piece}
use Rattle.virtio_blk.proofs.device.pieces.store_piece.Goals as goal
use Rattle.std.proofs.Common.{◌≡◌, ◌∙◌, ap, arith, drop, length}

pub returns-in-Some-clause-stored : goal.returns-in-Some-clause-stored
returns-in-Some-clause-stored g c =
    let m = g.M.GuestMemory.memory c.args.mem.now in
    let n = length c.args.piece.now in
    let es = c.args.reader.now in
    let lent = lent_then m c.args.host.now es c.args.start n c.in-Some.bytes.now c.requires.some
    c.requires.enough c.requires.placed c.in-Some.ensures.lent in
    let passed : c.skip.result ≡ n = omega (arith, c.skip.ensures.passed, c.requires.enough) in
    stored_piece g.D.Disk.bytes g.D.Disk.calls m c.args.host.now es c.skip.new.self c.args.sector n
    c.in-Some.bytes.now c.args.disk.now c.put.new.disk c.put.result lent.0 lent.1 lent.2
    (c.skip.ensures.place ∙ ap (λ k. drop k es) passed)
    c.put.ensures.took
