use Rattle.std.proofs.Common.{◌≡◌, ◌∙◌, ℕ, length, refl, sym, subst, inr, arith}
use Rattle.vm_memory_base.specs.Markers.{known_by, paging_of}
use Rattle.vm_memory_base.specs.Notes.{IsNoted, rounds_of}
use Rattle.vm_memory_base.specs.Paging.{count_of}
use Rattle.vm_memory_base.specs.Tracked.{HasAllMarkers, both, new_harvester, new_marker}
use Rattle.vm_memory_base.specs.declared.bitmap.tracked.view.View.{View}
use Rattle.tests_base_bitmaps.proofs.tracked.left_unmarked.Goals as goal

pub returns-in-Ok : goal.returns-in-Ok
returns-in-Ok c word page set =
    let v : View = known_by c.join.new.harvester in
    let count : ℕ = count_of (paging_of c.in_ok-bitmap.bitmap) in
    let joined : View = both (new_harvester count 1) (new_marker count) in
    let is : v ≡ joined =
    c.join.ensures.joins ∙ (λ i. both (c.in_ok-bitmap.ensures.harvester.1 i) (c.in-Some.ensures.1 i)) in
    let whole : HasAllMarkers joined = omega arith in
    let all : HasAllMarkers v = subst HasAllMarkers (sym is) whole in
    let round : ℕ = length (rounds_of word v.harvests) in
    subst (λ (x : View). IsNoted word round page x.marks) is
    (c.in-Ok.ensures.marked all word round page (inr (refl, set)))
