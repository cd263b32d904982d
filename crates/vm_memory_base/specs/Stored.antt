-- How a run is stored. No public clause cites this module.
use Rattle.std.specs.Prelude.{ℕ, ◌-◌, List, [], map, Option, Some, None}
use Rattle.vm_memory_base.specs.Runs.{AddressRun}
use Rattle.vm_memory_base.specs.Table.{Mapping}
use Rattle.vm_memory_base.specs.declared.iotlb.mapped_run.RunTail.{RunTail}

-- the run of a first address and what is stored there
abbrev pub run_in : ℕ × RunTail → AddressRun Mapping
run_in e = record {
  start = e.0;
  len = e.1.end - e.0;
  value = record { difference = e.1.difference; permissions = e.1.permissions };
}

abbrev pub runs_in : List (ℕ × RunTail) → List (AddressRun Mapping)
runs_in es = map run_in es

-- the runs of the entries that are left, if there are any
abbrev pub runs_in_if_any : Option (List (ℕ × RunTail)) → List (AddressRun Mapping)
runs_in_if_any None = []
runs_in_if_any (Some es) = runs_in es
