use Rattle.std.proofs.Common.{◌≡◌, List, [], ◌∷◌, map, refl, ap₂}
use Rattle.std.proofs.lemmas.Result.{MatchResult-weaker}
use Rattle.std.specs.List.{AllZip}
use Rattle.std.specs.declared.alloc.Global.{Global}
use Rattle.std.specs.declared.sync.Arc.{Arc}
use Rattle.vm_memory_guest.proofs.collection.shared.Goals as goal

values_stay : {X : Type 0} (xs ys : List (Arc X Global)) → AllZip (λ (r s : Arc X Global). s.value ≡ r.value) xs ys
    → map (λ (s : Arc X Global). s.value) ys ≡ map (λ (r : Arc X Global). r.value) xs
values_stay [] [] e = refl
values_stay [] (s ∷ ys) e = absurd e
values_stay (r ∷ xs) [] e = absurd e
values_stay {X} (r ∷ xs) (s ∷ ys) e = ap₂ (λ (v : X) (vs : List X). v ∷ vs) e.0 (values_stay xs ys e.1)

pub returns : goal.returns
returns g c =
    MatchResult-weaker c.clone.result c.clone.ensures.cases
    (λ copy e. values_stay c.args.regions.now.items copy.items e.0) (λ e none. tt)
