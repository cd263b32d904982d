use Rattle.std.proofs.Common.{◌≡◌, ℕ, ◌<◌, List, IsSome, take, length, map, get_or, Some, arith, refl, Vec}
use Rattle.std.proofs.lemmas.List.{take_more, map-append, length-map}
use Rattle.std.proofs.lemmas.Option.{slice_get-map, slice_get_read}
use Rattle.std.specs.List.{slice_get}
use Rattle.std.specs.declared.alloc.Global.{Global}
use Rattle.std.specs.declared.sync.Arc.{Arc}
use Rattle.vm_memory_guest.specs.Collection.{regions_of}
use Rattle.vm_memory_guest.specs.Region.{Region}
use Rattle.vm_memory.specs.State.{named}
use Rattle.vm_memory.proofs.NamedLemmas.{named-push, below_named}
use Rattle.vm_memory.proofs.machine.layouts.shared.Goals as goal

module _ {R : Type 0} (region : R → Region) (pool : Vec (Arc R Global) Global) where
  -- a number that names a region is that of a share, which has this region
  below : (numbers : List ℕ) (i : ℕ) → IsSome (named (map region (regions_of pool)) numbers)
      → i < length numbers → get_or numbers i 0 < length pool.items
  below numbers i there within =
      let count : length (map region (regions_of pool)) ≡ length pool.items = simp length-map in
      rw (← count) (below_named (map region (regions_of pool)) numbers there i 0 within)

  region_at : (n : ℕ) (share : Arc R Global) → n < length pool.items → share ≡ get_or pool.items n share
      → slice_get (map region (regions_of pool)) n ≡ Some (region share.value)
  region_at n share within at =
      simp slice_get-map (rw (slice_get_read pool.items (length pool.items) n share refl within at))

pub index-requires : goal.index-requires
index-requires g c =
    let pool = c.args.pool.now in
    let i = c.loop-number.number-index in
    let bound = below g.R.GuestMemoryRegion.region pool c.args.numbers.now i c.requires (omega arith) in
    omega (arith, bound, pool.ok.0)

pub loop-number-preserved : goal.loop-number-preserved
loop-number-preserved g c =
    let region = g.R.GuestMemoryRegion.region in
    let pool = c.args.pool.now in
    let i = c.loop-number.number-index in
    let numbers = c.args.numbers.now in
    let within : i < length numbers = omega arith in
    let x = c.index.result.now in
    let bound = below region pool numbers i c.requires within in
    let there = region_at region pool (get_or numbers i 0) x bound c.index.ensures in
    let made = map region (regions_of c.loop-number.regions) in
    let step =
    named-push (map region (regions_of pool)) (take i numbers) made (get_or numbers i 0) (region x.value)
    c.loop-number.invariant there in
    rw (c.in_ok-push.ensures.items, take_more numbers i 0 within)
    (simp map-append (rw c.in_ok-clone.ensures.cases step))
