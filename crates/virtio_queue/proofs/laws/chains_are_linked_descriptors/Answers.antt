use Rattle.virtio_queue.proofs.LinkedLemmas.{followed_are_linked, linked_are_followed}
use Rattle.virtio_queue.proofs.laws.chains_are_linked_descriptors.Goals as goal

pub returns : goal.returns
returns c = record { followed = followed_are_linked; linked = linked_are_followed }
