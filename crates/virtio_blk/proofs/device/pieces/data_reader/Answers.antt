use Rattle.std.proofs.Common.{ap, drop, ◌∙◌}
use Rattle.virtio_blk.proofs.ChainFacts.{after_header}
use Rattle.virtio_blk.proofs.device.pieces.data_reader.Goals as goal

pub returns : goal.returns
returns c =
    after_header c.reader-reader.result c.skip.new.self c.skip.result c.skip.ensures.passed
    c.skip.ensures.place ∙ ap (drop 16) c.reader-reader.ensures.text
