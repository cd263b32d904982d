use Rattle.virtio_queue.proofs.PackedCopyLawLemmas.{copies_pop_still, same_trees}
use Rattle.virtio_queue.proofs.packed_laws.packed_chains_are_made_of_their_copies.Goals as goal

pub returns : goal.returns
returns g c = record {
  looks = λ q. same_trees q;
  still = λ m host q. copies_pop_still m host q;
}
