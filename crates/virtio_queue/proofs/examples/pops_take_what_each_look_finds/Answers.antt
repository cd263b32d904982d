use Rattle.std.proofs.Common.{[], ◌∷◌, Ok, inl, refl}
use Rattle.virtio_queue.specs.Looks.{row, saw, word}
use Rattle.virtio_queue.specs.Popping.{following}
use Rattle.virtio_queue.specs.declared.descriptor.Descriptor.{Descriptor}
use Rattle.virtio_queue.proofs.examples.pops_take_what_each_look_finds.Goals as goal

pub returns : goal.returns
unfolding following
returns c table avail used =
    let first : Descriptor = record { addr = 64; len = 7; flags = 1; next = 0 } in
    let later : Descriptor = record { addr = 64; len = 9; flags = 0; next = 0 } in (
      (Ok 1, saw (word avail 4) (Ok 0) ∷ [], refl, (Ok 0, [], refl, (refl, refl))),
      (Ok first, saw (row table 0) (Ok later) ∷ [], refl, inl (Ok later, [], refl, inl (refl, refl))),
    )
