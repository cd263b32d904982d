use Rattle.std.proofs.Common.{◌≡◌, ℕ, suc, ◌+◌, ◌-◌, ◌<◌, ◌≤◌, List, length, get_or}
use Rattle.std.proofs.Common.{Some, None, Result, Ok, Err, sym, subst, ◌∙◌, refl, inl, inr, arith}
use Rattle.std.proofs.lemmas.Bool.{cases_lt}
use Rattle.std.proofs.lemmas.Bool.Decides.{nat_tests}
use Rattle.std.proofs.lemmas.Result.{err_from_is_err_and}
use Rattle.std.specs.declared.alloc.Global.{Global}
use Rattle.std.specs.declared.sync.Arc.{Arc}
use Rattle.vm_memory_guest.specs.declared.region.error.GuestRegionCollectionError.{GuestRegionCollectionError}
use Rattle.vm_memory_guest.specs.Region.{Region, neighbours_of, layout_error, fault_of, IsLayout}
use Rattle.vm_memory_guest.proofs.RegionLaws.{neighbours_error-none, neighbours_error-some, layout_error-some}
use Rattle.vm_memory_guest.proofs.RegionLaws.{fault_of-neighbours, IsLayout-from_none}
use Rattle.vm_memory_guest.proofs.RegionLaws.{regions, region-at, length-regions, starts-regions}
use Rattle.vm_memory_guest.proofs.collection.GuestRegionCollection.from_arc_regions.Goals as goal

-- neighbours of shared values, of which those before the n-th pass
module _ {X : Type 0} (f : X → Region) (rs : List (Arc X Global)) (n : ℕ) (some : 0 < n)
    (before : (k : ℕ) (d : Region) → suc k < n →
    neighbours_of (get_or (regions f rs) k d) (get_or (regions f rs) (suc k) d) ≡ Ok tt) where
  all_pass : length rs ≤ n → 0 < length rs → layout_error (regions f rs) ≡ None
  all_pass l m =
      let e = length-regions f rs in
      layout_error-some (regions f rs) None (omega arith)
      (neighbours_error-none (regions f rs) (λ k d h. before k d (omega arith)))

  layout_made : length rs ≤ n → IsLayout (regions f rs)
  layout_made l =
      let e = length-regions f rs in
      IsLayout-from_none (regions f rs)
      (neighbours_error-none (regions f rs) (λ k d h. before k d (omega arith)))

  -- what the call answered for the next two, at the values that it read
  module _ (q r : Arc X Global) (within : n < length rs)
      (at : q ≡ get_or rs (n - 1) q) (next : r ≡ get_or rs n r)
      (t : Result (Unit {0}) GuestRegionCollectionError) (u v : X) (answer : t ≡ neighbours_of (f u) (f v))
      (first : u ≡ q.value) (second : v ≡ r.value) where
    read : (k : ℕ) (d : Region) → suc k ≡ n
        → neighbours_of (get_or (regions f rs) k d) (get_or (regions f rs) (suc k) d) ≡ t
    read k d e =
        let same : n - 1 ≡ k = omega arith in
        let here : get_or (regions f rs) k d ≡ f q.value =
        subst (λ (i : ℕ). get_or (regions f rs) i d ≡ f q.value) same
        (region-at f rs (n - 1) q d (omega arith) at) in
        let there : get_or (regions f rs) (suc k) d ≡ f r.value =
        subst (λ (i : ℕ). get_or (regions f rs) i d ≡ f r.value) (sym e) (region-at f rs n r d within next) in
        rw (here, there, ← first, ← second) (sym answer)

    one_passes : t ≡ Ok tt → (k : ℕ) (d : Region) → suc k < n + 1
        → neighbours_of (get_or (regions f rs) k d) (get_or (regions f rs) (suc k) d) ≡ Ok tt
    one_passes h k d l =
        elim (cases_lt (suc k) n) [ inl m ↦ before k d m | inr m ↦ read k d (omega arith) ∙ h ]

    one_fails : (e : GuestRegionCollectionError) → t ≡ Err e → layout_error (regions f rs) ≡ fault_of e
    one_fails e h =
        let same = length-regions f rs in
        let d = f q.value in
        let fails = neighbours_error-some (regions f rs) (n - 1) e d (omega arith)
        (λ k m. before k d (omega arith)) (read (n - 1) d (omega arith) ∙ h) in
        layout_error-some (regions f rs) (Some e) (omega arith) fails
        ∙ sym (fault_of-neighbours (f u) (f v) e (sym answer ∙ h))

pub returns-in_err-neighbours : goal.returns-in_err-neighbours
returns-in_err-neighbours g c =
    let fault = one_fails g.R.GuestMemoryRegion.region c.args.regions.items c.loop-next.next (omega arith)
    c.loop-next.invariant c.index.result.now c.index-in-loop-next.result.now (omega arith)
    c.index.ensures c.index-in-loop-next.ensures c.neighbours.result
    c.deref.result.now c.deref-in-loop-next.result.now c.neighbours.ensures
    c.deref.ensures c.deref-in-loop-next.ensures c.in_err-neighbours.field-0.0 c.in_err-neighbours.was in
    let p = err_from_is_err_and c.from_residual.result c.from_residual.ensures.1 in
    rw (p.1, p.2) fault

pub loop-next-preserved : goal.loop-next-preserved
loop-next-preserved g c =
    one_passes g.R.GuestMemoryRegion.region c.args.regions.items c.loop-next.next (omega arith)
    c.loop-next.invariant c.index.result.now c.index-in-loop-next.result.now (omega arith)
    c.index.ensures c.index-in-loop-next.ensures c.neighbours.result
    c.deref.result.now c.deref-in-loop-next.result.now c.neighbours.ensures
    c.deref.ensures c.deref-in-loop-next.ensures c.in_ok-neighbours.was

pub returns-in_default : goal.returns-in_default
returns-in_default g c =
    all_pass g.R.GuestMemoryRegion.region c.args.regions.items c.loop-next.next (omega arith)
    c.loop-next.invariant (omega arith) (grind (arith, nat_tests))

pub invariant_of-result : goal.invariant_of-result
invariant_of-result g c =
    let region = g.R.GuestMemoryRegion.region in
    let rs = c.args.regions.items in
    record {
      layout = layout_made region rs c.loop-next.next (omega arith) c.loop-next.invariant (omega arith);
      starts = c.in-Ok.ensures ∙ starts-regions region rs;
    }

pub returns : goal.returns
returns g c = (
  all_pass g.R.GuestMemoryRegion.region c.args.regions.items c.loop-next.next (omega arith)
      c.loop-next.invariant (omega arith) (grind (arith, nat_tests)),
  refl,
)
