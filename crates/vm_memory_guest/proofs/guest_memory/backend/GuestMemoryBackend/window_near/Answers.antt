use Rattle.std.proofs.Common.{◌≡◌, ℕ, ◌-◌, ◌+◌, ◌≤◌, ◌<◌, ◌^◌, List, [], ◌∷◌, map, min, Ok, Some, refl, sym, ap, ◌∙◌, arith}
use Rattle.std.proofs.lemmas.Bool.Decides.{nat_tests}
use Rattle.vm_memory_base.specs.Address.{step}
use Rattle.vm_memory_guest.specs.Region.{Region, containing_region}
use Rattle.vm_memory_guest.specs.Walk.{walk_of}
use Rattle.vm_memory_guest.proofs.OneWindow.{alone-items}
use Rattle.vm_memory_guest.proofs.PathWalk.{direct_items, walk-none, containing_region-within, is_within-bounds}
use Rattle.vm_memory_guest.proofs.WalkLemmas.{containing_region-found, walk-gives}
use Rattle.vm_memory_guest.proofs.guest_memory.backend.GuestMemoryBackend.window_near.Given.{Over}
use Rattle.vm_memory_guest.proofs.guest_memory.backend.GuestMemoryBackend.window_near.Goals as goal
use Rattle.vm_memory_guest.proofs.guest_memory.backend.GuestMemoryBackend.window_near.Goals.{In-Some}

-- what the backend means
abbrev regions_of : (g : Over) (m : g.row.Self.Denot) → List Region
regions_of g m = map g.Self.R.GuestMemoryRegion.region (g.Self.GuestMemoryBackend.regions m)

found : (g : Over) (c : In-Some g)
    → containing_region (regions_of g c.args.self.now) c.args.addr.0
    ≡ Some (g.Self.R.GuestMemoryRegion.region c.in-Some.region.now)
found g c =
    let here = rw c.in-Some.is at c.find_near-next.ensures.found in
    containing_region-found g.Self.R.GuestMemoryRegion.region
    (g.Self.GuestMemoryBackend.regions c.args.self.now) c.args.addr.0 c.in-Some.region.now (sym here.0)

offset_is : (g : Over) (c : In-Some g)
    → c.in-Some.offset.0 ≡ c.args.addr.0 - (g.Self.R.GuestMemoryRegion.region c.in-Some.region.now).start
offset_is g c = let here = rw c.in-Some.is at c.find_near-next.ensures.found in here.1

bounds : (g : Over) (c : In-Some g) → let r = g.Self.R.GuestMemoryRegion.region c.in-Some.region.now in
    (r.start ≤ c.args.addr.0) × (c.args.addr.0 < r.start + r.len)
bounds g c =
    let r = g.Self.R.GuestMemoryRegion.region c.in-Some.region.now in
    is_within-bounds r.start r.len c.args.addr.0
    (containing_region-within (regions_of g c.args.self.now) c.args.addr.0 r (found g c))

pub overflow_sub-len : goal.overflow_sub-len
overflow_sub-len g c =
    let here = (goal.at.overflow_sub-len g c).In-Some in
    let within = bounds g here in
    let at = offset_is g here in
    omega (arith, within.0, within.1, at, c.len.ensures)

pub returns-in-Ok : goal.returns-in-Ok
returns-in-Ok g c =
    let here = (goal.at.returns-in-Ok g c).In-Some in
    let regions = regions_of g c.args.self.now in
    let a = c.args.addr.0 in
    let n = c.args.count in
    let r = g.Self.R.GuestMemoryRegion.region c.in-Some.region.now in
    let more : 0 < n = omega arith in
    let below : a < 2 ^ 64 = c.known_address.ensures in
    let at = offset_is g here in
    let len : n ≡ min (r.len - c.in-Some.offset.0) n = omega (arith, c.len.ensures) in
    let gives : direct_items regions a n ≡ Ok c.in-Ok.window ∷ direct_items regions (step a n) (n - n) =
    walk-gives regions a n r c.find_near-next.ensures.layout (found g here)
    (g.met.Self.R.GuestMemoryRegion.fits c.in-Some.region.now) more below c.in-Some.offset.0 n c.in-Ok.window at len
    r.place refl (sym c.in-Ok.ensures) in
    let left : n - n ≡ 0 = omega arith in
    let none : direct_items regions (step a n) (n - n) ≡ [] =
    ap (direct_items regions (step a n)) left ∙ walk-none regions (step a n) in
    let walk = walk_of regions a n in
    alone-items walk.windows walk.fault c.in-Ok.window
    (gives ∙ ap (λ items. Ok c.in-Ok.window ∷ items) none)
