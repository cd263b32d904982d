-- What is to be done with mappings of guest memory by a request.
use Rattle.std.specs.Prelude.{ℕ, ◌-◌, ◌==◌, if◌then◌else◌, List, slice_get, Option, Some, None, option_map}
use Rattle.vhost_message.specs.declared.frontend_req.FrontendReq.{FrontendReq}
use Rattle.vhost_message.specs.declared.frontend_req.FrontendReq.TheVariants.{SetMemTable}
use Rattle.vhost_message.specs.declared.regions.MemoryRegion.{MemoryRegion}
use Rattle.vhost_backend.specs.declared.mapping.Mapping.{Mapping}
use Rattle.vhost_backend.specs.declared.mapping.Mapping.TheVariants.{UnmapAll, Map}

-- what was mapped goes, and then the regions of a table are mapped in order
abbrev pub mapping_in : List MemoryRegion → ℕ → Option Mapping
mapping_in table number = if number == 0 then Some UnmapAll
    else option_map (λ region. Map region (number - 1)) (slice_get table (number - 1))

abbrev pub mapping_of : FrontendReq → ℕ → Option Mapping
mapping_of (SetMemTable table) number = mapping_in table number
mapping_of _ number = None
