use Rattle.std.proofs.Common.{◌≡◌, ap, sym, ◌∙◌, rules}
use Rattle.vm_memory_base.specs.Table.{Table, TableEvent, says, changed, evictions, Set}
use Rattle.vm_memory_base.proofs.ChangeLemmas.{empty_set}
use Rattle.vm_memory_base.proofs.EvictLemmas.{called, call_done, evicted_count, evicts_nothing, says_then, set_stays, table_stays}
use Rattle.vm_memory_base.proofs.iotlb.table.Iotlb.set_mapping_counted.Goals as goal

pub returns-then-length-eq0-clause-ok : goal.returns-then-length-eq0-clause-ok
returns-then-length-eq0-clause-ok c =
    let call : TableEvent = Set c.args.iova.0 c.args.map_to.0 c.args.length c.args.perm in
    let table : Table = record { limit = c.self.inside.limit; ranges = c.self.inside.ranges } in
    table_stays call table c.self.invariant.0 c.self.invariant.1
    (empty_set c.args.iova.0 c.args.map_to.0 c.args.length c.args.perm c.if-length-eq0.true)
    ∙ ap (changed call) c.self.view_is

pub returns-clause-ok : goal.returns-clause-ok
returns-clause-ok c =
    let call : TableEvent = Set c.args.iova.0 c.args.map_to.0 c.args.length c.args.perm in
    let table : Table = record { limit = c.self.inside.limit; ranges = c.self.inside.ranges } in
    let set : c.set_run.new.self ≡ called call table = search rules in
    call_done call table c.set_run.new.self c.keep_within.new.self set c.keep_within.ensures.gone
    ∙ ap (changed call) c.self.view_is

pub returns-clause-says : goal.returns-clause-says
returns-clause-says c =
    says_then (Set c.args.iova.0 c.args.map_to.0 c.args.length c.args.perm) c.args.self.now _
    (returns-clause-ok c)

pub returns-clause-set : goal.returns-clause-set
returns-clause-set c x h =
    ap (λ (t : Table). says t x) (returns-clause-ok c)
    ∙ set_stays c.args.iova.0 c.args.map_to.0 c.args.length x c.args.perm c.args.self.now c.requires h

pub returns-then-length-eq0-clause-says : goal.returns-then-length-eq0-clause-says
returns-then-length-eq0-clause-says c =
    says_then (Set c.args.iova.0 c.args.map_to.0 c.args.length c.args.perm) c.args.self.now _
    (returns-then-length-eq0-clause-ok c)

pub returns-then-length-eq0-clause-count : goal.returns-then-length-eq0-clause-count
returns-then-length-eq0-clause-count c =
    let call : TableEvent = Set c.args.iova.0 c.args.map_to.0 c.args.length c.args.perm in
    let table : Table = record { limit = c.self.inside.limit; ranges = c.self.inside.ranges } in
    sym (evicts_nothing call table c.self.invariant.0 c.self.invariant.1
    (empty_set c.args.iova.0 c.args.map_to.0 c.args.length c.args.perm c.if-length-eq0.true))
    ∙ ap (evictions call) c.self.view_is

pub returns-clause-count : goal.returns-clause-count
returns-clause-count c =
    let call : TableEvent = Set c.args.iova.0 c.args.map_to.0 c.args.length c.args.perm in
    let table : Table = record { limit = c.self.inside.limit; ranges = c.self.inside.ranges } in
    let set : c.set_run.new.self ≡ called call table = search rules in
    let counted = evicted_count call table c.set_run.new.self c.keep_within.new.self set c.keep_within.ensures.gone in
    rw (c.len-count.ensures, c.len.ensures) (counted ∙ ap (evictions call) c.self.view_is)
