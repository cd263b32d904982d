-- How a message on the device's I/O table changes that.
use Rattle.std.specs.Prelude.{List, Option, Some, None, Result, Ok}
use Rattle.vm_memory_base.specs.Table.{TableEvent, Set, Invalidate}
use Rattle.vhost_iotlb.specs.Changes.{call_of}
use Rattle.vhost_iotlb.specs.declared.kept.Change.{Change}
use Rattle.vhost_iotlb.specs.declared.kept.Change.TheVariants.{Map, Unmap}
use Rattle.vhost_iotlb.specs.declared.table.Refusal as iotlb
use Rattle.vhost_message.specs.declared.frontend_req.FrontendReq.{FrontendReq}
use Rattle.vhost_message.specs.declared.frontend_req.FrontendReq.TheVariants.{IotlbMsg}
use Rattle.vhost_message.specs.declared.refusal.Refusal.{Refusal}
use Rattle.vhost_message.specs.declared.regions.MemoryRegion.{MemoryRegion}

-- a call of a table as a change
abbrev pub change_by : Result TableEvent iotlb.Refusal → Option Change
change_by (Ok (Set iova to len permissions)) = Some (Map iova to len permissions)
change_by (Ok (Invalidate iova len)) = Some (Unmap iova len)
change_by _ = None

-- what a message on the table asks for, by these regions of memory
abbrev pub change_in : List MemoryRegion → Result FrontendReq Refusal → Option Change
change_in regions (Ok (IotlbMsg message)) = change_by (call_of regions message)
change_in regions _ = None
