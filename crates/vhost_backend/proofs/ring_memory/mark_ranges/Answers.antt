use Rattle.std.proofs.Common.{◌≡◌, ◌∙◌, []}
use Rattle.std.specs.List.{fold}
use Rattle.vm_memory_base.specs.Lookup.{mapped_ranges}
use Rattle.vhost_backend.proofs.RingMarkLemmas.{item_marked, items_marked}
use Rattle.vhost_backend.proofs.ring_memory.mark_ranges.Goals as goal

pub returns : goal.returns
returns c =
    let marked : fold item_marked c.loop-range.pages (mapped_ranges c.loop-range.range-iterator)
    ≡ fold item_marked c.args.pages.now (mapped_ranges c.args.found) = c.loop-range.invariant in
    let none : mapped_ranges c.loop-range.range-iterator ≡ [] = c.in-None.ensures.steps.0 in
    rw none at marked ∙ items_marked c.args.found c.args.pages.now
