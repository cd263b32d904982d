use Rattle.virtio_queue.proofs.PackedBridgeLemmas.{chain_listed, moves_alike, pops_none, pops_some}
use Rattle.virtio_queue.proofs.packed_laws.packed_queues_pop_as_histories_do.Goals as goal

pub returns : goal.returns
returns g c = record {
  none = λ m host q r flags at found marks is. pops_none m host q r flags at found marks is;
  some = λ m host q r flags buffer at found marks is. pops_some m host q r flags at found marks buffer is;
  chain = chain_listed;
  moved = moves_alike;
}
