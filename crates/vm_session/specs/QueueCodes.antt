-- The answers of calls on queues.
use Rattle.std.specs.Prelude.{ℕ, Bool, if◌then◌else◌, List, length, Result, Ok, Err}
use Rattle.vm_memory.specs.Reply.{refusal_of, reply_of, reply_of_refusal}
use Rattle.vm_memory.specs.declared.machine.command.Reply.TheVariants as reply
use Rattle.vm_memory_device.specs.Chain.{readable, text, writable}
use Rattle.vm_memory_device.specs.declared.chain.ChainFault.{ChainFault}
use Rattle.vm_memory_device.specs.declared.chain.ChainFault.TheVariants as chain_faults
use Rattle.vm_memory_device.specs.declared.chain.Segment.{Segment}
use Rattle.vm_memory_guest.specs.declared.region.error.GuestMemoryError.{GuestMemoryError}
use Rattle.virtio_queue.specs.declared.error.QueueError.{QueueError}
use Rattle.virtio_queue.specs.declared.error.QueueError.TheVariants as errors
use Rattle.virtio_blk.specs.declared.request.Request.{Request}
use Rattle.virtio_blk.specs.declared.request.Request.TheVariants as request
use Rattle.vm_session.specs.Answers.{answer_of, number_of_truth, valued}
use Rattle.vm_session.specs.Codes.{coded, no_memory}
use Rattle.vm_session.specs.declared.call.Answer.{Answer}

-- a number names nothing
abbrev pub no_such : Answer
no_such = coded 1

-- the driver has published no more chains
abbrev pub no_chain : Answer
no_chain = coded 19

-- a head that is in flight came again; the chains in flight would have too many descriptors; no chain of a head is in
-- flight
abbrev pub in_flight : Answer
in_flight = coded 20

abbrev pub too_many : Answer
too_many = coded 21

abbrev pub not_in_flight : Answer
not_in_flight = coded 22

abbrev pub code_of_chain : ChainFault → ℕ
code_of_chain chain_faults.Order = 83
code_of_chain chain_faults.TooLong = 84
code_of_chain chain_faults.Range = 85

-- why a call of a queue was refused
abbrev pub answer_of_queue : QueueError → Answer
answer_of_queue errors.InvalidMaxSize = coded 70
answer_of_queue errors.InvalidSize = coded 71
answer_of_queue errors.InvalidDescTableAlign = coded 72
answer_of_queue errors.InvalidAvailRingAlign = coded 73
answer_of_queue errors.InvalidUsedRingAlign = coded 74
answer_of_queue errors.QueueNotReady = coded 75
answer_of_queue errors.AddressOverflow = coded 76
answer_of_queue errors.InvalidAvailRingIndex = coded 77
answer_of_queue errors.InvalidDescriptorIndex = coded 78
answer_of_queue errors.DescriptorLoop = coded 79
answer_of_queue errors.IndirectWithNext = coded 80
answer_of_queue errors.NestedIndirect = coded 81
answer_of_queue errors.InvalidIndirectTable = coded 82
answer_of_queue (errors.InvalidChain fault) = coded (code_of_chain fault)
answer_of_queue errors.InvalidUsedEntry = coded 86
answer_of_queue (errors.GuestMemory e) = answer_of (reply_of_refusal (refusal_of e))
answer_of_queue errors.Memory = no_memory

-- the answers of calls that give nothing, a number, or yes or no
abbrev pub answer_of_done : Result (Unit {0}) QueueError → Answer
answer_of_done (Ok u) = coded 0
answer_of_done (Err e) = answer_of_queue e

abbrev pub answer_of_number : Result ℕ QueueError → Answer
answer_of_number (Ok n) = valued n
answer_of_number (Err e) = answer_of_queue e

abbrev pub answer_of_truth : Result Bool QueueError → Answer
answer_of_truth (Ok b) = valued (number_of_truth b)
answer_of_truth (Err e) = answer_of_queue e

-- a chain that was popped: its head, and how many readable and writable bytes it has
abbrev pub popped_as : ℕ → List Segment → Answer
popped_as head chain = record {
  code = 0;
  count = length (text (readable chain));
  value = head;
  address = length (text (writable chain));
}

-- how many bytes of a chain were read or written, or why none
abbrev pub answer_of_bytes : Result ℕ GuestMemoryError → Answer
answer_of_bytes r = answer_of (reply_of reply.Count r)

-- what a block request asks for
abbrev pub answer_of_request : Request → Answer
answer_of_request (request.Read sector len) = record { code = 0; count = len; value = 0; address = sector }
answer_of_request (request.Write sector len flush) =
    record { code = 0; count = len; value = (if flush then 2 else 1); address = sector }
answer_of_request request.Flush = valued 4
answer_of_request (request.GetId len) = record { code = 0; count = len; value = 8; address = 0 }
answer_of_request (request.Refused status) = record { code = 0; count = status; value = 16; address = 0 }
answer_of_request request.Unserved = valued 17

-- the same, or why it is not known yet
abbrev pub answer_of_begun : Result Request GuestMemoryError → Answer
answer_of_begun (Ok r) = answer_of_request r
answer_of_begun (Err e) = answer_of (reply_of_refusal (refusal_of e))

-- the length that a chain is returned with, or why its status could not be written
abbrev pub answer_of_length : Result ℕ GuestMemoryError → Answer
answer_of_length (Ok n) = valued n
answer_of_length (Err e) = answer_of (reply_of_refusal (refusal_of e))
