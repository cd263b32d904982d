use Rattle.vm_memory_base.specs.declared.iotlb.mapped_run.RunTail.{RunTail}
use Rattle.std.specs.BTreeMap.{is_at}
use Rattle.std.specs.Map.{lookup, set_value}
use Rattle.std.proofs.Common.{nat_cmp, BTreeMap, ℕ, ◌≡◌, List, None, sym, ap, subst, ◌∙◌}
use Rattle.vm_memory_base.specs.Change.{AreAscending, with_reset}
use Rattle.vm_memory_base.specs.Runs.{AddressRun}
use Rattle.vm_memory_base.specs.Stored.{run_in, runs_in}
use Rattle.vm_memory_base.specs.Table.{Mapping}
use Rattle.vm_memory_base.proofs.StoredLemmas.{is_reset, ascending_reset, reset_absent}
use Rattle.vm_memory_base.proofs.iotlb.run_map.RunMap.reset.Goals as goal

pub returns-in_default : goal.returns-in_default
returns-in_default c =
    let es = c.self.inside.tails.entries in
    let stays : c.get_mut.follows.lender-at-none ≡ c.self.inside.tails = c.get_mut.follows.holds-at-none in
    let none : lookup (is_at (nat_cmp c.start-start.result)) es ≡ None = sym c.in_default.ensures.value in
    let none' : lookup (is_at (nat_cmp c.args.run.start)) es ≡ None = rw c.start-start.ensures at none in
    subst (λ (rs : List (AddressRun Mapping)). runs_in c.get_mut.follows.lender-at-none.entries
    ≡ with_reset c.args.run rs) c.self.view_is
    (ap (λ (m : BTreeMap ℕ RunTail). runs_in m.entries) stays ∙ sym (reset_absent c.args.run es none'))

put : (es new : List (ℕ × RunTail)) (k : ℕ) (v : RunTail) (r : AddressRun Mapping)
    → new ≡ set_value (is_at (nat_cmp k)) es v → k ≡ r.start → run_in (r.start, v) ≡ r
    → runs_in new ≡ with_reset r (runs_in es)
put es new k v r e s is =
    let told = ap runs_in e ∙ is_reset k v es in
    let told' : runs_in new ≡ with_reset (run_in (r.start, v)) (runs_in es) = rw s at told in
    told' ∙ ap (λ (x : AddressRun Mapping). with_reset x (runs_in es)) is

pub invariant_of-self-2 : goal.invariant_of-self-2
invariant_of-self-2 c =
    let es = c.self.inside.tails.entries in
    let told = put es (c.get_mut.follows.lender c.tail.result).entries c.start-start.result c.tail.result c.args.run
    (c.get_mut.follows.holds c.tail.result).0 c.start-start.ensures c.tail.ensures.value in
    subst AreAscending (sym told) (ascending_reset c.args.run (runs_in es) c.tail.ensures.some c.self.invariant)

pub returns : goal.returns
returns c =
    let es = c.self.inside.tails.entries in
    let told = put es (c.get_mut.follows.lender c.tail.result).entries c.start-start.result c.tail.result c.args.run
    (c.get_mut.follows.holds c.tail.result).0 c.start-start.ensures c.tail.ensures.value in
    subst (λ (rs : List (AddressRun Mapping)). runs_in (c.get_mut.follows.lender c.tail.result).entries
    ≡ with_reset c.args.run rs) c.self.view_is told
