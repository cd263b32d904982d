-- Messages on an I/O table, as the input of a call: 32 bytes, and then a row of three numbers for each part of the
-- memory that the front end announced.
use Rattle.std.specs.Prelude.{◌≡◌, ◌⊎◌, ◌==◌, ◌&&◌, ◌%◌, ◌/◌, nat_le, if◌then◌else◌, ℕ, Bool, true, false, IsTrue, List, length, take, drop, map, Option, Some, None, is_some, slice_get, MatchBool, MatchOption, Result, Ok, Err}
use Rattle.std.specs.Int.{w64, from_le_bytes}
use Rattle.std.specs.Simd.{first_chunks}
use Rattle.vm_memory_base.specs.Pages.{PageSet}
use Rattle.vm_memory_base.specs.Table.{TableEvent}
use Rattle.vm_memory_guest.specs.Host.{Host}
use Rattle.vm_memory_guest.specs.Memory.{Memory}
use Rattle.vm_memory.specs.Memories.{table_of}
use Rattle.vm_memory.specs.State.{State}
use Rattle.vhost_iotlb.specs.Changes.{Applies, call_of, evicted_for}
use Rattle.vhost_message.specs.Iotlb.{fields_in, message_in}
use Rattle.vhost_message.specs.Regions.{guest_of}
use Rattle.vhost_message.specs.declared.refusal.Malformed.{Malformed}
use Rattle.vhost_message.specs.declared.refusal.Malformed.TheVariants as malformed
use Rattle.vhost_message.specs.declared.iotlb.IotlbMessage.{IotlbMessage}
use Rattle.vhost_message.specs.declared.iotlb.IotlbMessage.TheVariants as message
use Rattle.vhost_iotlb.specs.declared.table.Refusal.{Refusal}
use Rattle.vhost_iotlb.specs.declared.table.Refusal.TheVariants as refusal
use Rattle.vhost_message.specs.declared.regions.MemoryRegion.{MemoryRegion}
use Rattle.vm_session.specs.Answers.{valued}
use Rattle.vm_session.specs.Codes.{bad_call, coded, no_memory}
use Rattle.vm_session.specs.QueueCodes.{no_such}
use Rattle.vm_session.specs.Requests.{address}
use Rattle.vm_session.specs.declared.call.Answer.{Answer}
use Rattle.vm_session.specs.declared.call.Call.{Call}

-- ---- the input

-- a region of the front end's memory: where it begins there, where in guest memory, and how long it is
abbrev pub region_in : List ℕ → MemoryRegion
region_in row = record {
  guest_address = address (from_le_bytes w64 (take 8 (drop 8 row)));
  size = from_le_bytes w64 (take 8 (drop 8 (drop 8 row)));
  user_address = from_le_bytes w64 (take 8 row);
  mmap_offset = 0;
}

abbrev pub regions_in : List ℕ → List MemoryRegion
regions_in rows = map region_in (first_chunks 24 (length rows / 24) rows)

-- a message, and rows that are whole
abbrev pub is_whole : List ℕ → Bool
is_whole input = nat_le 32 (length input) && (length (drop 32 input) % 24 == 0)

-- the message of an input that is whole, if it is one
abbrev pub message_if : Result IotlbMessage Malformed → Option IotlbMessage
message_if (Ok m) = Some m
message_if (Err e) = None

abbrev pub message_of : List ℕ → Option IotlbMessage
message_of input = if is_whole input then message_if (message_in (fields_in (take 32 input))) else None

-- ---- the answers

abbrev pub code_of_malformed : Malformed → ℕ
code_of_malformed malformed.Kind = 57
code_of_malformed malformed.EmptyRange = 58
code_of_malformed malformed.Range = 59
code_of_malformed malformed.Permissions = 60

-- a memory lies behind no table
abbrev pub no_table : Answer
no_table = coded 54

abbrev pub answer_of_refusal : Refusal → Answer
answer_of_refusal (refusal.Malformed e) = coded (code_of_malformed e)
answer_of_refusal refusal.UserAddress = coded 61
answer_of_refusal refusal.Memory = no_memory
answer_of_refusal refusal.NoTable = no_such

-- a message that was applied, with the number of ranges that the table evicted for it, or was refused
abbrev pub answer_of_applied : ℕ → Result (Unit {0}) Refusal → Answer
answer_of_applied evicted (Ok u) = valued evicted
answer_of_applied evicted (Err e) = answer_of_refusal e

-- ---- what is done

abbrev pub is_update : IotlbMessage → Bool
is_update (message.Update iova size user permissions) = true
is_update (message.Invalidate iova size) = false
is_update (message.Miss iova access) = false
is_update (message.AccessFail iova access) = false

-- an UPDATE of a range that the announced memory has
abbrev pub is_announced : List MemoryRegion → IotlbMessage → Bool
is_announced regions (message.Update iova size user permissions) = is_some (guest_of regions user size)
is_announced regions (message.Invalidate iova size) = false
is_announced regions (message.Miss iova access) = false
is_announced regions (message.AccessFail iova access) = false

-- a message is applied to the table of this number
abbrev pub IsApplied : ℕ → List MemoryRegion → IotlbMessage → State → Answer → State → Type 0
IsApplied table regions m old a new =
    (r : Result (Unit {0}) Refusal) × (calls : List TableEvent) × (host : Host PageSet)
    × Applies table regions m r calls old.host host
    × (a ≡ answer_of_applied (evicted_for (call_of regions m) (slice_get old.host.tables table)) r)
    × (new ≡ record old { host = host })

-- the table takes a message: it is malformed, or it is applied. The allocation for the rows of an UPDATE may fail, and
-- then nothing changes
abbrev pub Takes : ℕ → List MemoryRegion → Result IotlbMessage Malformed → State → Answer → State → Type 0
Takes table regions (Err e) old a new = (a ≡ coded (code_of_malformed e)) × (new ≡ old)
Takes table regions (Ok m) old a new = IsApplied table regions m old a new
    ⊎ (IsTrue (is_update m) × (a ≡ no_memory) × (new ≡ old))

-- so does the table of a memory, if there is one
abbrev pub TakesAt : Option Memory → List ℕ → State → Answer → State → Type 0
TakesAt None input old a new = (a ≡ no_such) × (new ≡ old)
TakesAt (Some m) input old a new = MatchOption (table_of m) ((a ≡ no_table) × (new ≡ old))
    (λ table. Takes table (regions_in (drop 32 input)) (message_in (fields_in (take 32 input))) old a new)

-- what is answered to a message
abbrev pub AnswersMessage : State → Call → List ℕ → Answer → State → Type 0
AnswersMessage old call input a new = MatchBool (is_whole input)
    (TakesAt (slice_get old.memories call.first) input old a new) ((a ≡ bad_call) × (new ≡ old))
