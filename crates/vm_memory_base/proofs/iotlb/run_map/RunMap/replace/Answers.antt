use Rattle.std.proofs.Common.{◌≡◌, ◌+◌, ◌++◌, ◌∷◌, [], List, ap, ◌∙◌}
use Rattle.vm_memory_base.specs.Change.{if_any, runs_below, runs_from, with_reset}
use Rattle.vm_memory_base.specs.Runs.{AddressRun}
use Rattle.vm_memory_base.specs.Table.{Mapping}
use Rattle.vm_memory_base.proofs.StoredLemmas.{reset_last}
use Rattle.vm_memory_base.proofs.StartLemmas.{below_starts}
use Rattle.vm_memory_base.proofs.iotlb.run_map.RunMap.replace.Goals as goal

pub returns-then-not-site-clause-ok : goal.returns-then-not-site-clause-ok
returns-then-not-site-clause-ok c =
    let rs = c.args.self.now in
    let site = c.args.site.now in
    let l = c.in-Some.front in
    let front : (d : AddressRun Mapping) × (d.start ≡ l.start)
    × (runs_below site.start rs ≡ runs_below l.start rs ++ d ∷ []) = rw c.in-Some.is at c.requires.site.front.there in
    let rest = if_any c.args.run ++ (if_any site.back.run ++ runs_from (site.end + 1) rs) in
    let put : c.put.new.self ≡ (runs_below l.start rs ++ front.0 ∷ []) ++ rest =
    c.in_ok-put.ensures.ok ∙ ap (λ (ys : List (AddressRun Mapping)). ys ++ rest) front.2 in
    let done : c.reset.new.self ≡ runs_below l.start rs ++ (l ∷ rest) =
    c.reset.ensures ∙ ap (with_reset l) put
    ∙ reset_last l front.0 (runs_below l.start rs) rest (below_starts l.start rs) front.1 in
    rw c.in-Some.is done
