-- What a machine replies to transfers from sources and to sinks that follow a script, and what these leave.
use Rattle.std.specs.Prelude.{ℕ, Bool, List, map, take, Some, option_map}
use Rattle.vm_memory_base.specs.Pages.{PageSet}
use Rattle.vm_memory_base.specs.Script.{next_of, taking_of}
use Rattle.vm_memory_base.specs.declared.io.scripted.SinkStep.{SinkStep}
use Rattle.vm_memory_base.specs.declared.io.scripted.SourceStep.{SourceStep}
use Rattle.vm_memory_base.specs.declared.iotlb.Permissions.TheVariants as permissions
use Rattle.vm_memory_guest.specs.Access.{Access, windows}
use Rattle.vm_memory_guest.specs.Dealt.{Dealt, Given, received, given_out}
use Rattle.vm_memory_guest.specs.Dirt.{bytes_read}
use Rattle.vm_memory_guest.specs.Error.{error_of, of_window}
use Rattle.vm_memory_guest.specs.Host.{Host}
use Rattle.vm_memory_guest.specs.Memory.{Memory}
use Rattle.vm_memory_guest.specs.declared.region.error.GuestMemoryError.{GuestMemoryError}
use Rattle.vm_memory_device.specs.Reach.{reached_by}
use Rattle.vm_memory.specs.Reply.{moved_as}
use Rattle.vm_memory.specs.declared.machine.command.Ending.TheVariants as ending
use Rattle.vm_memory.specs.declared.machine.command.Reply.{Reply}
use Rattle.vm_memory.specs.declared.machine.command.Reply.TheVariants.{Count, Done, Fault, Sent}

-- what a source does is dealt to the windows of an access of n bytes at a: each is lent until it is full, or for
-- one try
abbrev pub dealt_to : Bool → Memory → Host PageSet → ℕ → ℕ → List SourceStep → Dealt GuestMemoryError
dealt_to until_full m host a n source =
    let reached = reached_by m host.tables a n permissions.Write in
    received of_window (option_map error_of reached.fault) until_full (windows reached.path) 0
    (map next_of source) host

-- a transfer in, of all bytes or of those that come
abbrev pub receives : Bool → Memory → Host PageSet → ℕ → ℕ → List SourceStep → Reply × Host PageSet
receives whole m host a n source = let d = dealt_to whole m host a n source in (moved_as whole n d.answer, d.host)

-- the bytes of windows are offered to a sink that has room for n
abbrev pub given_by : Access → ℕ → List SinkStep → Given GuestMemoryError
given_by reached n sink =
    given_out of_window (option_map error_of reached.fault) (windows reached.path) 0
    (record { next = map taking_of sink; room = Some n })

-- the reply has how a transfer out ended, and the bytes that the sink took. A failed allocation stays one
abbrev pub beside_taken : List ℕ → Reply → Reply
beside_taken taken (Count n) = Sent (ending.Count n) taken
beside_taken taken Done = Sent ending.Done taken
beside_taken taken (Fault f) = Sent (ending.Fault f) taken
beside_taken taken r = r

-- a transfer out, of all bytes or of those that the sink takes: these are the first of the access, and are replied
abbrev pub sends : Bool → Memory → Host PageSet → ℕ → ℕ → List SinkStep → Reply
sends whole m host a n sink =
    let reached = reached_by m host.tables a n permissions.Read in
    let g = given_by reached n sink in
    beside_taken (take g.taken (bytes_read reached.path host)) (moved_as whole n g.answer)
