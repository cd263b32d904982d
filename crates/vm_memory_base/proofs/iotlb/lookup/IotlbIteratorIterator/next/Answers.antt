use Rattle.std.proofs.Common.{◌≡◌, ℕ, ◌+◌, ◌-◌, ◌<◌, ◌∷◌, [], List, map, min, refl, sym, ap, subst, ◌∙◌, arith}
use Rattle.vm_memory_base.specs.Lookup.{mapped_ranges}
use Rattle.vm_memory_base.specs.Runs.{AddressRun, cut_to}
use Rattle.vm_memory_base.specs.Table.{Mapping, piece_of}
use Rattle.vm_memory_base.specs.Walk.{IsWalk}
use Rattle.vm_memory_base.proofs.LookupLemmas.{walk_on, walk_ends, first_goes}
use Rattle.vm_memory_base.proofs.iotlb.lookup.IotlbIteratorIterator.next.Goals as goal

pub returns-then-self-clause-steps : goal.returns-then-self-clause-steps
returns-then-self-clause-steps c =
    let done = ap (λ (rs : List (AddressRun Mapping)). mapped_ranges (map piece_of rs))
    (walk_ends c.self.inside.at c.self.inside.end c.self.inside.runs c.if-self.true) in
    let none : mapped_ranges c.args.self.now ≡ [] = ap mapped_ranges (sym c.self.view_is) ∙ done in (none, none)

-- the first piece, with the end of its run as it was computed
first : (runs later : List (AddressRun Mapping)) (r : AddressRun Mapping) (at end next : ℕ) → runs ≡ r ∷ later
    → IsWalk at end runs → at < end → next ≡ min (r.start + r.len) end
    → cut_to at (end - at) runs
    ≡ record { start = at; len = next - at; value = r.value } ∷ cut_to next (end - next) later
first runs later r at end next is w l e =
    ap (cut_to at (end - at)) is ∙ (walk_on at end next r later (subst (IsWalk at end) is w) l e).0

pub returns-clause-steps : goal.returns-clause-steps
returns-clause-steps c =
    let next : c.min-end.result ≡ min (c.in_ok-run.run'.start + c.in_ok-run.run'.len) c.self.inside.end =
    c.min-end.ensures ∙ ap (λ (n : ℕ). min n c.self.inside.end) c.end.ensures.value in
    let cut = first c.self.inside.runs c.next.new.self c.in_ok-run.run' c.self.inside.at c.self.inside.end
    c.min-end.result c.in_ok-run.ensures.steps c.self.invariant (omega arith) next in
    ap mapped_ranges (sym c.self.view_is) ∙ rw (cut, ← c.target.ensures) refl

pub returns-clause-goes : goal.returns-clause-goes
returns-clause-goes c = first_goes _ _ _ _ (returns-clause-steps c)
