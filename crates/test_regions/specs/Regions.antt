-- What the regions of the tests are.
use Rattle.std.specs.Prelude.{None}
use Rattle.std.proofs.Common.{arith}
use Rattle.vm_memory_guest.specs.Region.{Region, IsRegion}
use Rattle.vm_memory_guest.specs.Mmap.{mmap_region, mmap_fits}
use Rattle.test_regions.specs.declared.regions.MovedRegion.{MovedRegion}
use Rattle.test_regions.specs.declared.regions.BareRegion.{BareRegion}
use Rattle.test_regions.specs.declared.regions.TestRegion.{TestRegion}
use Rattle.test_regions.specs.declared.regions.TestRegion.TheVariants.{Moved, Bare}

abbrev pub moved_region : MovedRegion → Region
moved_region r = record (mmap_region r.bytes) { start = r.start.0 }

abbrev pub bare_region : BareRegion → Region
bare_region r = record { start = r.start.0; len = r.len; place = None }

abbrev pub test_region : TestRegion → Region
test_region (Moved r) = moved_region r
test_region (Bare r) = bare_region r

moved_fits : (r : MovedRegion) → IsRegion (moved_region r)
moved_fits r =
    let bytes = mmap_fits r.bytes in
    let fits = r.fits in
    record { some = bytes.some; short = bytes.short; fits = omega arith; offsets = bytes.offsets }

bare_fits : (r : BareRegion) → IsRegion (bare_region r)
bare_fits r =
    let some = r.some in
    let fits = r.fits in
    let short = r.short in
    record { some = some; short = omega arith; fits = omega arith; offsets = omega arith }

pub test_fits : (r : TestRegion) → IsRegion (test_region r)
test_fits (Moved r) = moved_fits r
test_fits (Bare r) = bare_fits r
