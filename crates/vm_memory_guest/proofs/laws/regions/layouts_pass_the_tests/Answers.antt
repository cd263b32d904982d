use Rattle.vm_memory_guest.proofs.RegionLaws.{layout_error-none, layout-apart, IsLayout-from_apart, layout_error-first}
use Rattle.vm_memory_guest.proofs.laws.regions.layouts_pass_the_tests.Goals as goal

pub returns : goal.returns
returns c = record {
  passes = layout_error-none;
  apart = λ rs each. (layout-apart rs each, IsLayout-from_apart rs);
  first_fault = layout_error-first;
}
