use Rattle.std.proofs.Common.{drop, inl, length, refl, subst, sym, take}
use Rattle.vm_memory_guest.specs.Host as names
use Rattle.vm_memory_guest.specs.Host.{IsHeld, Shape, block_at}
use Rattle.live_migration.proofs.PlacingLemmas.{place_bytes, zeros_there}
use Rattle.live_migration.proofs.ZeroLemmas.{marked_or_zero, some_written}
use Rattle.live_migration.proofs.placing.put_new_zeros.Goals as goal

pub returns-then-has_zeros-clause-ok : goal.returns-then-has_zeros-clause-ok
returns-then-has_zeros-clause-ok g c =
    let zeros = c.args.zeros.now in
    let held = subst (λ (s : Shape). IsHeld s (names.Place c.args.block.0 c.args.start (length zeros)))
    c.shape.ensures.value (c.if-not-has_place.ensures.0 refl) in
    zeros_there c.args.block.0 c.args.start zeros c.args.host.now
    (place_bytes c.args.block.0 c.args.start (length zeros) c.args.host.now held).0 c.requires
    (sym c.if-has_zeros.ensures)

pub returns-then-has_zeros-clause-marked : goal.returns-then-has_zeros-clause-marked
returns-then-has_zeros-clause-marked g c = inl (sym c.if-has_zeros.ensures)

pub returns-clause-marked : goal.returns-clause-marked
returns-clause-marked g c =
    let n = length c.args.zeros.now in
    let bytes = drop c.args.start (block_at c.args.host.now.blocks c.args.block.0) in
    marked_or_zero _ _ c.put_bytes.result (take n bytes) c.put_bytes.ensures.marked (some_written n bytes)
