use Rattle.std.proofs.Common.{List, ap, ◌∙◌, insert, map}
use Rattle.std.specs.declared.alloc.Global.{Global}
use Rattle.std.specs.declared.sync.Arc.{Arc}
use Rattle.vm_memory_guest.proofs.LayoutLemmas.{map-insert}
use Rattle.vm_memory_guest.proofs.collection.with_region.Goals as goal

pub returns : goal.returns
returns g c =
    let X = g.row.R.Denot in
    let value = λ (r : Arc X Global). r.value in
    let at = c.args.place in
    ap (λ (rs : List (Arc X Global)). map value rs) c.in_ok-insert.ensures.items
    ∙ map-insert value c.in_ok-copy.copy.items at c.args.region
    ∙ ap (λ (xs : List X). insert xs at c.args.region.value) c.in_ok-copy.ensures
