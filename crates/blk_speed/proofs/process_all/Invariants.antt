use Rattle.std.proofs.Common.{◌≡◌}
use Rattle.vm_memory_guest.specs.Host.{shape_of}
use Rattle.blk_speed.proofs.process_all.Given as goal

abbrev pub invariant-loop : goal.invariant-loop
invariant-loop g l = shape_of l.host ≡ shape_of l.initial.host
