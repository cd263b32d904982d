use Rattle.vhost_backend.proofs.RightLemmas.{bytes, failed}
use Rattle.vhost_backend.proofs.laws.chains_are_returned_with_what_their_parts_did.Goals as goal

pub returns : goal.returns
returns c = record { bytes = bytes; failed = failed }
