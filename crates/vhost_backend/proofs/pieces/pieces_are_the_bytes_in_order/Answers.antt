use Rattle.vhost_backend.proofs.PieceLemmas.{bytes, none, some}
use Rattle.vhost_backend.proofs.pieces.pieces_are_the_bytes_in_order.Goals as goal

pub returns : goal.returns
returns c = record { bytes = bytes; some = some; none = none }
