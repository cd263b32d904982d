use Rattle.std.proofs.Common.{◌≡◌, ap, ◌∙◌, rules}
use Rattle.vm_memory_base.specs.Table.{Table, TableEvent, changed, Invalidate}
use Rattle.vm_memory_base.proofs.ChangeLemmas.{empty_invalidate}
use Rattle.vm_memory_base.proofs.EvictLemmas.{called, call_done, says_then, table_stays}
use Rattle.vm_memory_base.proofs.iotlb.table.Iotlb.invalidate_mapping.Goals as goal

pub returns-then-length-eq0-clause-ok : goal.returns-then-length-eq0-clause-ok
returns-then-length-eq0-clause-ok c =
    let call : TableEvent = Invalidate c.args.iova.0 c.args.length in
    let table : Table = record { limit = c.self.inside.limit; ranges = c.self.inside.ranges } in
    table_stays call table c.self.invariant.0 c.self.invariant.1
    (empty_invalidate c.args.iova.0 c.args.length c.if-length-eq0.true)
    ∙ ap (changed call) c.self.view_is

pub returns-clause-ok : goal.returns-clause-ok
returns-clause-ok c =
    let call : TableEvent = Invalidate c.args.iova.0 c.args.length in
    let table : Table = record { limit = c.self.inside.limit; ranges = c.self.inside.ranges } in
    let set : c.clear_range.new.self ≡ called call table = search rules in
    call_done call table c.clear_range.new.self c.keep_within.new.self set c.keep_within.ensures.gone
    ∙ ap (changed call) c.self.view_is

pub returns-clause-says : goal.returns-clause-says
returns-clause-says c = says_then (Invalidate c.args.iova.0 c.args.length) c.args.self.now _ (returns-clause-ok c)

pub returns-then-length-eq0-clause-says : goal.returns-then-length-eq0-clause-says
returns-then-length-eq0-clause-says c =
    says_then (Invalidate c.args.iova.0 c.args.length) c.args.self.now _ (returns-then-length-eq0-clause-ok c)
