use Rattle.virtio_queue.proofs.PackedLawLemmas.{lies_listed, listed_lies}
use Rattle.virtio_queue.proofs.packed_laws.packed_chains_lie_slot_by_slot.Goals as goal

pub returns : goal.returns
returns c = record {
  listed = listed_lies;
  found = λ descriptor size most i j l slots there ends few.
      lies_listed descriptor size most i j l.front l.last slots there ends few;
}
