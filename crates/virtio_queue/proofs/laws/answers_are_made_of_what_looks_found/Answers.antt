use Rattle.virtio_queue.specs.Any.{asking, popping}
use Rattle.virtio_queue.proofs.SeenLemmas.{same_seen, seen_of}
use Rattle.virtio_queue.proofs.laws.answers_are_made_of_what_looks_found.Goals as goal

pub returns : goal.returns
returns g c = record {
  popped = λ q old new result h. seen_of g.L.Looks.looks (popping q) old new result h;
  asked = λ q old new result h. seen_of g.L.Looks.looks (asking q) old new result h;
  once = λ q seen one other. same_seen (popping q) seen one other;
}
