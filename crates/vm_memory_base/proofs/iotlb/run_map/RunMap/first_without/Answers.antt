use Rattle.std.proofs.Common.{◌≡◌, ℕ, ◌+◌, ◌++◌, ◌∷◌, List, true, false, Option, sym, ap, subst, ◌∙◌}
use Rattle.vm_memory_base.specs.declared.iotlb.mapped_run.RunTail.{RunTail}
use Rattle.vm_memory_base.specs.Change.{runs_below, runs_from, without_first}
use Rattle.vm_memory_base.specs.Runs.{AddressRun, IsCanonical}
use Rattle.vm_memory_base.specs.Stored.{run_in, runs_in}
use Rattle.vm_memory_base.specs.Table.{Mapping, has_any, same_mapping}
use Rattle.vm_memory_base.proofs.EvictLemmas.{first_goes, second_goes}
use Rattle.vm_memory_base.proofs.iotlb.run_map.RunMap.first_without.Goals as goal

-- the run that starts at an address is the first of those that do not have one
abbrev IsFirst : Option ℕ → ℕ → List (AddressRun Mapping) → Type 0
IsFirst x start rs = runs_below start rs ++ runs_from (start + 1) rs ≡ without_first (has_any x) 1 rs

first : (x : Option ℕ) (rs : List (AddressRun Mapping)) (all left : List (ℕ × RunTail)) (e : ℕ × RunTail)
    → runs_in all ≡ rs → all ≡ e ∷ left → IsCanonical same_mapping rs → has_any x (run_in e) ≡ false
    → IsFirst x e.0 rs
first x rs all left e view is h t =
    let all_is : run_in e ∷ runs_in left ≡ rs = sym (ap runs_in is) ∙ view in
    subst (IsFirst x e.0) all_is
    (first_goes x (run_in e) (runs_in left) (subst (IsCanonical same_mapping) (sym all_is) h) t)

second : (x : Option ℕ) (rs : List (AddressRun Mapping)) (all left last : List (ℕ × RunTail)) (e f : ℕ × RunTail)
    → runs_in all ≡ rs → all ≡ e ∷ left → left ≡ f ∷ last → IsCanonical same_mapping rs
    → has_any x (run_in e) ≡ true → IsFirst x f.0 rs
second x rs all left last e f view is next h t =
    let all_is : run_in e ∷ run_in f ∷ runs_in last ≡ rs =
    sym (ap runs_in (is ∙ ap (λ (es : List (ℕ × RunTail)). e ∷ es) next)) ∙ view in
    subst (IsFirst x f.0) all_is
    (second_goes x (run_in e) (run_in f) (runs_in last) (subst (IsCanonical same_mapping) (sym all_is) h) t)

pub returns-then-not-has_any-clause-gone : goal.returns-then-not-has_any-clause-gone
returns-then-not-has_any-clause-gone c =
    let e : ℕ × RunTail = (c.in-Some.start.now, c.in-Some.tail.now) in
    let f : has_any c.args.spared (run_in e) ≡ false =
    ap (has_any c.args.spared) (sym c.of_tail-first.ensures) ∙ sym c.has_any.ensures ∙ c.if-not-has_any.true in
    rw (c.start.ensures, c.of_tail-first.ensures)
    (first c.args.spared c.args.self.now c.iter-runs.result c.next.new.self e
    (ap runs_in c.iter-runs.ensures.rest ∙ c.self.view_is) c.in-Some.ensures.steps c.requires.canonical f)

pub returns-clause-gone : goal.returns-clause-gone
returns-clause-gone c =
    let e : ℕ × RunTail = (c.in-Some.start.now, c.in-Some.tail.now) in
    let t : has_any c.args.spared (run_in e) ≡ true =
    ap (has_any c.args.spared) (sym c.of_tail-first.ensures) ∙ sym c.has_any.ensures ∙ c.if-not-has_any.false in
    second c.args.spared c.args.self.now c.iter-runs.result c.next.new.self c.next-2.new.self e
    (c.in-Some-next.start.now, c.in-Some-next.field-0-1.now) (ap runs_in c.iter-runs.ensures.rest ∙ c.self.view_is)
    c.in-Some.ensures.steps c.in-Some-next.ensures.steps c.requires.canonical t
