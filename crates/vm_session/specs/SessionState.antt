-- What a session has: a machine, and queues with the chains that are in flight.
use Rattle.std.specs.Prelude.{ℕ, List, [], length, sum_by, slice_index_or, Option, Some, None}
use Rattle.vm_memory.specs.ScriptMachine.{no_parts, state_made}
use Rattle.vm_memory.specs.State.{State}
use Rattle.vm_memory_device.specs.declared.chain.Segment.{Segment}
use Rattle.virtio_queue.specs.declared.any.AnyQueue.{AnyQueue}
use Rattle.virtio_queue.specs.declared.packed.state.PackedBuffer.{PackedBuffer}

-- a queue, how many descriptors its chains in flight may have in all, by head the chain that is in flight, and how many
-- slots it took. The head of a chain of a packed queue is its id
pub record DeviceQueue : Type 0 where
  pub queue : AnyQueue
  pub most : ℕ
  pub flight : List (Option (List Segment))
  pub slots : List ℕ

-- the chain of a head that is in flight
abbrev pub chain_of : DeviceQueue → ℕ → Option (List Segment)
chain_of q head = slice_index_or q.flight head None

-- what it is returned by
abbrev pub buffer_of : DeviceQueue → ℕ → PackedBuffer
buffer_of q head = record { id = head; slots = slice_index_or q.slots head 0 }

abbrev pub descriptors_of : Option (List Segment) → ℕ
descriptors_of None = 0
descriptors_of (Some chain) = length chain

-- how many descriptors are in flight
abbrev pub descriptors_in : List (Option (List Segment)) → ℕ
descriptors_in flight = sum_by descriptors_of flight

pub record SessionState : Type 0 where
  pub machine : State
  pub queues : List DeviceQueue

-- a session that made nothing
abbrev pub no_session : SessionState
no_session = record { machine = state_made no_parts; queues = [] }

-- a session with another machine
abbrev pub with_machine : SessionState → State → SessionState
with_machine s machine = record { machine = machine; queues = s.queues }
