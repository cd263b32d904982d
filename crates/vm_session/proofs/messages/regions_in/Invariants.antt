use Rattle.std.proofs.Common.{◌≡◌, take, map}
use Rattle.vm_session.specs.Messages.{region_in}
use Rattle.vm_session.proofs.messages.regions_in.Given as goal

abbrev pub invariant-loop-chunk : goal.invariant-loop-chunk
invariant-loop-chunk l = l.regions.items ≡ map region_in (take l.chunk-index l.chunks)
