use Rattle.std.proofs.Common.{◌≡◌}
use Rattle.std.specs.List.{fold}
use Rattle.vm_memory_base.specs.Lookup.{mapped_ranges}
use Rattle.vhost_backend.proofs.RingMarkLemmas.{item_marked}
use Rattle.vhost_backend.proofs.ring_memory.mark_ranges.Given as goal

-- what is marked from here is what is marked from the first range
abbrev pub invariant-loop-range : goal.invariant-loop-range
invariant-loop-range l = fold item_marked l.pages (mapped_ranges l.range-iterator)
    ≡ fold item_marked l.fn.pages (mapped_ranges l.fn.found)
