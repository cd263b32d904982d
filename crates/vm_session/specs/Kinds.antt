-- What the numbers of a call stand for.
use Rattle.std.specs.Prelude.{◌==◌, ℕ, Bool, true, false, not, ◌||◌, if◌then◌else◌, List, [], ◌∷◌, Option, Some, None}
use Rattle.vm_memory_base.specs.declared.iotlb.Permissions.{Permissions}
use Rattle.vm_memory_base.specs.declared.iotlb.Permissions.TheVariants as permissions
use Rattle.vm_memory.specs.declared.machine.command.Width.{Width}
use Rattle.vm_memory.specs.declared.machine.command.Width.TheVariants as widths
use Rattle.vm_session.specs.declared.call.Kind.{Kind}
use Rattle.vm_session.specs.declared.call.Kind.TheVariants as kind
use Rattle.vm_session.specs.declared.call.QueuePart.{QueuePart}
use Rattle.vm_session.specs.declared.call.QueuePart.TheVariants as part

-- the kinds of calls, by number
abbrev pub kinds : List Kind
kinds = kind.Block ∷ kind.Space ∷ kind.Table ∷ kind.LimitedTable ∷ kind.Region ∷ kind.Translator
    ∷ kind.Layout ∷ kind.Insert ∷ kind.Remove ∷ kind.Plain ∷ kind.Memory ∷ kind.Replace ∷ kind.Enable
    ∷ kind.Read ∷ kind.Write ∷ kind.ReadSlice ∷ kind.WriteSlice ∷ kind.Store ∷ kind.Load
    ∷ kind.ReadFrom ∷ kind.ReadExactFrom ∷ kind.WriteTo ∷ kind.WriteAllTo ∷ kind.CheckRange ∷ kind.Copy
    ∷ kind.Set ∷ kind.Invalidate ∷ kind.InvalidateAll ∷ kind.Lookup
    ∷ kind.DirtyBlock ∷ kind.DirtySpace ∷ kind.HarvestBlock ∷ kind.HarvestSpace
    ∷ kind.MarkBlock ∷ kind.MarkReached
    ∷ kind.Queue ∷ kind.SetQueue ∷ kind.ResetQueue ∷ kind.QueueState ∷ kind.Forget
    ∷ kind.QueueIsValid ∷ kind.AvailIdx ∷ kind.UsedIdx ∷ kind.Pop ∷ kind.ReadChain ∷ kind.WriteChain ∷ kind.AddUsed
    ∷ kind.NeedsNotification ∷ kind.EnableNotification ∷ kind.DisableNotification
    ∷ kind.BeginRequest ∷ kind.FinishRequest ∷ kind.IotlbMessage ∷ kind.CompleteChain ∷ kind.PackedQueue
    ∷ kind.ListSegments ∷ []

-- an access by its number
abbrev pub access_at : ℕ → Option Permissions
access_at n =
    if n == 0 then Some permissions.No
    else if n == 1 then Some permissions.Read
    else if n == 2 then Some permissions.Write
    else if n == 3 then Some permissions.ReadWrite
    else None

-- whether a disk that may be accessed so is only read
abbrev pub read_only_at : ℕ → Option Bool
read_only_at n = if n == 1 then Some true else if n == 3 then Some false else None

-- a limit by its number, which is 0 for none
abbrev pub limit_at : ℕ → Option ℕ
limit_at n = if n == 0 then None else Some n

-- a switch by its number
abbrev pub switch_at : ℕ → Option Bool
switch_at n = if n == 0 then Some false else if n == 1 then Some true else None

-- a width by its number of bytes
abbrev pub width_at : ℕ → Option Width
width_at n =
    if n == 1 then Some widths.One
    else if n == 2 then Some widths.Two
    else if n == 4 then Some widths.Four
    else if n == 8 then Some widths.Eight
    else None

-- the parts of a queue that a transport sets, by number
abbrev pub part_at : ℕ → Option QueuePart
part_at n =
    if n == 0 then Some part.Size
    else if n == 1 then Some part.DescTable
    else if n == 2 then Some part.AvailRing
    else if n == 3 then Some part.UsedRing
    else if n == 4 then Some part.Ready
    else if n == 5 then Some part.EventIdx
    else if n == 6 then Some part.NextAvail
    else if n == 7 then Some part.NextUsed
    else if n == 8 then Some part.VringBase
    else None

-- whether a call of a kind is one on queues alone, or on a queue and a memory
abbrev pub is_queue : Kind → Bool
is_queue kind.Queue = true
is_queue kind.SetQueue = true
is_queue kind.ResetQueue = true
is_queue kind.QueueState = true
is_queue kind.Forget = true
is_queue kind.PackedQueue = true
is_queue kind.ListSegments = true
is_queue k = false

-- whether it is one on a queue that there is
abbrev pub is_on_queue : Kind → Bool
is_on_queue kind.SetQueue = true
is_on_queue kind.ResetQueue = true
is_on_queue kind.QueueState = true
is_on_queue kind.Forget = true
is_on_queue kind.ListSegments = true
is_on_queue k = false

abbrev pub is_work : Kind → Bool
is_work kind.QueueIsValid = true
is_work kind.AvailIdx = true
is_work kind.UsedIdx = true
is_work kind.Pop = true
is_work kind.ReadChain = true
is_work kind.WriteChain = true
is_work kind.AddUsed = true
is_work kind.NeedsNotification = true
is_work kind.EnableNotification = true
is_work kind.DisableNotification = true
is_work kind.BeginRequest = true
is_work kind.FinishRequest = true
is_work kind.CompleteChain = true
is_work k = false

-- whether it is one that takes and gives no bytes and leaves the queue as it is
abbrev pub keeps_queue : Kind → Bool
keeps_queue kind.QueueIsValid = true
keeps_queue kind.AvailIdx = true
keeps_queue kind.UsedIdx = true
keeps_queue kind.EnableNotification = true
keeps_queue kind.DisableNotification = true
keeps_queue kind.BeginRequest = true
keeps_queue kind.FinishRequest = true
keeps_queue k = false

-- whether a call of a kind sets up
abbrev pub sets_up : Kind → Bool
sets_up kind.Block = true
sets_up kind.Space = true
sets_up kind.Table = true
sets_up kind.LimitedTable = true
sets_up kind.Region = true
sets_up kind.Translator = true
sets_up k = false

-- whether a call of a kind makes a table
abbrev pub is_table : Kind → Bool
is_table kind.Table = true
is_table kind.LimitedTable = true
is_table k = false

-- whether a call of a kind marks pages
abbrev pub marks : Kind → Bool
marks kind.MarkBlock = true
marks kind.MarkReached = true
marks k = false

-- whether a call of a kind is a message on an I/O table
abbrev pub is_message : Kind → Bool
is_message kind.IotlbMessage = true
is_message k = false

-- whether a call of a kind stands for a command, if for anything
abbrev pub is_command : Kind → Bool
is_command k = not (sets_up k || (marks k || (is_message k || (is_queue k || is_work k))))

-- whether the input of a call of a kind is a list
abbrev pub takes_list : Kind → Bool
takes_list kind.Layout = true
takes_list kind.ReadFrom = true
takes_list kind.ReadExactFrom = true
takes_list kind.WriteTo = true
takes_list kind.WriteAllTo = true
takes_list k = false

-- the kinds of calls that access bytes of a memory
abbrev pub is_access : Kind → Bool
is_access kind.Read = true
is_access kind.Write = true
is_access kind.ReadSlice = true
is_access kind.WriteSlice = true
is_access kind.Store = true
is_access kind.Load = true
is_access k = false

-- the kinds of calls that make layouts and memories, that move bytes or change tables, and whose replies are listed
abbrev pub is_making : Kind → Bool
is_making kind.Layout = true
is_making kind.Insert = true
is_making kind.Remove = true
is_making kind.Plain = true
is_making kind.Memory = true
is_making kind.Replace = true
is_making kind.Enable = true
is_making k = false

abbrev pub is_moving : Kind → Bool
is_moving kind.ReadFrom = true
is_moving kind.ReadExactFrom = true
is_moving kind.CheckRange = true
is_moving kind.Copy = true
is_moving kind.Set = true
is_moving kind.Invalidate = true
is_moving kind.InvalidateAll = true
is_moving k = false

abbrev pub is_listing : Kind → Bool
is_listing kind.WriteTo = true
is_listing kind.WriteAllTo = true
is_listing kind.Lookup = true
is_listing kind.DirtyBlock = true
is_listing kind.DirtySpace = true
is_listing kind.HarvestBlock = true
is_listing kind.HarvestSpace = true
is_listing k = false
