use Rattle.vhost_backend.proofs.RingUseLemmas.{asks_wanted, returns_wanted, split_reads, waits_wanted}
use Rattle.vhost_backend.proofs.fetch_laws.what_a_ring_uses_is_fetched.Goals as goal

pub returns : goal.returns
returns c =
    record { returns = returns_wanted; waits = waits_wanted; asks = asks_wanted; begins = split_reads }
