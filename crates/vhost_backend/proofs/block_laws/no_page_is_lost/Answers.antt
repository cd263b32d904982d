use Rattle.vhost_backend.proofs.MarkLemmas.{asking_covered, data_covered, return_covered}
use Rattle.vhost_backend.proofs.PieceLemmas.{piece_covered}
use Rattle.vhost_backend.proofs.block_laws.no_page_is_lost.Goals as goal

pub returns : goal.returns
returns c = record { requests = data_covered; pieces = piece_covered; returns = return_covered; waits = asking_covered }
