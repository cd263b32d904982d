use Rattle.std.proofs.Common.{◌≡◌, ℕ, List, ◌-◌, ◌+◌, ◌≤◌, ◌<◌, ◌^◌, min, map, [], ◌∷◌, Some, refl, sym, ap, ◌∙◌, arith, Ok}
use Rattle.vm_memory_guest.specs.Region.{Region, containing_region}
use Rattle.vm_memory_guest.proofs.PathWalk.{direct_items, walk-none, containing_region-within, is_within-bounds}
use Rattle.vm_memory_guest.proofs.WalkLemmas.{first_goes, containing_region-found, containing_region-missed, walk-ends, walk-gives, walk-refuses}
use Rattle.vm_memory_guest.proofs.guest_memory.backend.GuestMemoryBackendSliceIteratorIterator.next.Given.{Over}
use Rattle.vm_memory_guest.proofs.guest_memory.backend.GuestMemoryBackendSliceIteratorIterator.next.Goals as goal
use Rattle.vm_memory_guest.proofs.guest_memory.backend.GuestMemoryBackendSliceIteratorIterator.next.Goals.{In-Some, After-get_slice}

-- what the backend means
abbrev regions_of : (g : Over) (m : g.row.M.Denot) → List Region
regions_of g m = map g.M.R.GuestMemoryRegion.region (g.M.GuestMemoryBackend.regions m)

found : (g : Over) (c : In-Some g) → let it = c.self.inside in
    containing_region (regions_of g it.mem.now) it.addr.0 ≡ Some (g.M.R.GuestMemoryRegion.region c.in-Some.region.now)
found g c =
    let it = c.self.inside in
    containing_region-found g.M.R.GuestMemoryRegion.region
    (g.M.GuestMemoryBackend.regions it.mem.now) it.addr.0 c.in-Some.region.now
    (sym c.in-Some.ensures.found.0)

pub returns-then-self-eq0-clause-steps : goal.returns-then-self-eq0-clause-steps
returns-then-self-eq0-clause-steps g c =
    let it = c.self.inside in
    let regions = regions_of g it.mem.now in
    let a = it.addr.0 in
    let none : direct_items regions a it.count ≡ [] = rw c.if-self-eq0.true (walk-none regions a) in
    rw (← c.self.view_is) (none, none)

pub returns-in_default-clause-steps : goal.returns-in_default-clause-steps
returns-in_default-clause-steps g c =
    let it = c.self.inside in
    let region = g.M.R.GuestMemoryRegion.region in
    let a = it.addr.0 in
    let below : a < 2 ^ 64 = omega arith in
    let more : 0 < it.count = omega arith in
    rw (← c.self.view_is)
    (walk-ends (regions_of g it.mem.now) a it.count below
    (containing_region-missed region (g.M.GuestMemoryBackend.regions it.mem.now) a (sym c.in_default.ensures.found)) more)

pub returns-in_default-clause-goes : goal.returns-in_default-clause-goes
returns-in_default-clause-goes g c = first_goes _ _ _ _ (returns-in_default-clause-steps g c)

-- it lies in the region
bounds : (g : Over) (c : In-Some g) → let r = g.M.R.GuestMemoryRegion.region c.in-Some.region.now in
    let a = c.self.inside.addr.0 in (r.start ≤ a) × (a < r.start + r.len)
bounds g c =
    let it = c.self.inside in
    let r = g.M.R.GuestMemoryRegion.region c.in-Some.region.now in
    is_within-bounds r.start r.len it.addr.0
    (containing_region-within (regions_of g it.mem.now) it.addr.0 r (found g c))

pub overflow_sub-len : goal.overflow_sub-len
overflow_sub-len g c =
    let within = bounds g (goal.at.overflow_sub-len g c).In-Some in
    omega (arith, within.0, within.1, c.in-Some.ensures.found.1, c.len.ensures)

offset_is : (g : Over) (c : After-get_slice g) → c.in-Some.offset.0
    ≡ c.self.inside.addr.0 - (g.M.R.GuestMemoryRegion.region c.in-Some.region.now).start
offset_is g c = c.in-Some.ensures.found.1

len_is : (g : Over) (c : After-get_slice g) → let it = c.self.inside in
    c.min-len.result
    ≡ min ((g.M.R.GuestMemoryRegion.region c.in-Some.region.now).len - c.in-Some.offset.0) it.count
len_is g c =
    let it = c.self.inside in
    c.min-len.ensures ∙ ap (λ n. min (n - c.in-Some.offset.0) it.count) c.len.ensures

pub returns-in-Ok-clause-steps : goal.returns-in-Ok-clause-steps
returns-in-Ok-clause-steps g c =
    let it = c.self.inside in
    let regions = regions_of g it.mem.now in
    let a = it.addr.0 in
    let r = g.M.R.GuestMemoryRegion.region c.in-Some.region.now in
    let here = goal.at.returns-in-Ok-clause-steps g c in
    let more : 0 < it.count = omega arith in
    let below : a < 2 ^ 64 = omega arith in
    rw (← c.self.view_is)
    (walk-gives regions a it.count r c.to_region_addr.ensures.layout (found g here.In-Some)
    (g.met.M.R.GuestMemoryRegion.fits c.in-Some.region.now) more below
    c.in-Some.offset.0 c.min-len.result c.in-Ok.window (offset_is g here.After-get_slice)
    (len_is g here.After-get_slice) r.place refl (sym c.in-Ok.ensures)
    ∙ ap (λ (b : ℕ). Ok c.in-Ok.window ∷ direct_items regions b (it.count - c.min-len.result))
    (sym c.overflowing_add.ensures.wrapped))

pub returns-in-Ok-clause-goes : goal.returns-in-Ok-clause-goes
returns-in-Ok-clause-goes g c = first_goes _ _ _ _ (returns-in-Ok-clause-steps g c)

pub returns-in-Err-clause-steps : goal.returns-in-Err-clause-steps
returns-in-Err-clause-steps g c =
    let it = c.self.inside in
    let a = it.addr.0 in
    let r = g.M.R.GuestMemoryRegion.region c.in-Some.region.now in
    let here = goal.at.returns-in-Err-clause-steps g c in
    let more : 0 < it.count = omega arith in
    let below : a < 2 ^ 64 = omega arith in
    rw (← c.self.view_is)
    (walk-refuses (regions_of g it.mem.now) a it.count r c.to_region_addr.ensures.layout (found g here.In-Some)
    (g.met.M.R.GuestMemoryRegion.fits c.in-Some.region.now) more below
    c.in-Some.offset.0 c.min-len.result c.in-Err.error (offset_is g here.After-get_slice)
    (len_is g here.After-get_slice) r.place refl (sym c.in-Err.ensures))

pub returns-in-Err-clause-goes : goal.returns-in-Err-clause-goes
returns-in-Err-clause-goes g c = first_goes _ _ _ _ (returns-in-Err-clause-steps g c)
