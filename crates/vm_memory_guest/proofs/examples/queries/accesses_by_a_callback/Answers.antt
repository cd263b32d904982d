use Rattle.std.proofs.Common.{refl, ◌-◌, ◌^◌, Ok}
use Rattle.vm_memory_guest.specs.examples.Fixtures.{backed_region}
use Rattle.vm_memory_guest.specs.TryAccess.{Nowhere, Last, More}
use Rattle.vm_memory_guest.proofs.examples.queries.accesses_by_a_callback.Goals as goal

pub returns : goal.returns
returns c = record {
  before_a_hole = More (backed_region 0 4 0 0) 4 refl refl refl (Nowhere refl);
  all = Last (backed_region 8 4 1 0) (Ok 2) refl refl refl;
  out_of_range = Last (backed_region 0 4 0 0) (Ok 9) refl refl refl;
  nothing = Last (backed_region 0 4 0 0) (Ok 0) refl (refl, refl, refl, refl) refl;
  nowhere = Nowhere refl;
  past_all = Last (backed_region (2 ^ 64 - 16) 15 0 0) (Ok 17) refl refl refl;
  over_the_greatest = More (backed_region (2 ^ 64 - 4) 4 1 0) 1 refl refl refl
      (Last (backed_region 0 4 0 0) (Ok 1) refl refl refl);
}
