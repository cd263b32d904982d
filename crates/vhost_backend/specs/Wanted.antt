-- What a message that took effect asks for beyond the protocol's state.
use Rattle.std.specs.Prelude.{true}
use Rattle.vhost_message.specs.declared.frontend_req.FrontendReq.{FrontendReq}
use Rattle.vhost_message.specs.declared.frontend_req.FrontendReq.TheVariants.{GetInflightFd, GetVringBase, IotlbMsg, SetBackendReqFd, SetInflightFd, SetLogBase, SetLogFd, SetMemTable, SetVringCall, SetVringErr, SetVringKick}
use Rattle.vhost_backend.specs.declared.backend.Taken.{Taken}
use Rattle.vhost_backend.specs.declared.backend.Taken.TheVariants.{Begun}
use Rattle.vhost_backend.specs.declared.wanted.Purpose.TheVariants.{Call, Channel, Error, Kick, LogCall}
use Rattle.vhost_backend.specs.declared.wanted.Wanted.{Wanted}
use Rattle.vhost_backend.specs.declared.wanted.Wanted.TheVariants.{Base, Descriptor, File, Finish, Log, Memory, Nothing, Region, Table}

abbrev pub wanted_of : FrontendReq → Wanted
wanted_of (SetMemTable table) = Memory
wanted_of (SetLogBase size offset) = Log size offset
wanted_of (GetInflightFd asked) = File asked
wanted_of (SetInflightFd region) = Region region.mmap_size region.mmap_offset
wanted_of (SetVringKick index descriptor) = Descriptor (Kick index) descriptor
wanted_of (SetVringCall index descriptor) = Descriptor (Call index) descriptor
wanted_of (SetVringErr index descriptor) = Descriptor (Error index) descriptor
wanted_of SetBackendReqFd = Descriptor Channel true
wanted_of SetLogFd = Descriptor LogCall true
wanted_of (GetVringBase index) = Base index
wanted_of (IotlbMsg message) = Table
wanted_of _ = Finish

-- by the message that was taken
abbrev pub wanted_at : Taken → Wanted
wanted_at (Begun h request) = wanted_of request
wanted_at _ = Nothing
