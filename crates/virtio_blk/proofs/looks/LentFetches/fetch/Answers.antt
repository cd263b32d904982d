use Rattle.virtio_blk.proofs.TextFacts.{read_some}
use Rattle.virtio_blk.proofs.looks.LentFetches.fetch.Goals as goal

pub returns-clause-count : goal.returns-clause-count
returns-clause-count g c =
    read_some (g.M.GuestMemory.memory c.args.self.now.mem.now) c.args.self.now.host.now c.args.reader.now
    c.read.new.self c.args.buf.now c.read.new.buf c.read.result c.requires.some c.requires.enough c.read.ensures
