-- What messages make of a table of a host.
use Rattle.std.specs.Prelude.{◌≡◌, ◌⊎◌, ◌≤◌, ℕ, ◌+◌, ◌-◌, ◌^◌, ◌&&◌, ◌==◌, min, nat_lt, if◌then◌else◌, List, [], ◌∷◌, ◌++◌, length, slice_get, Option, Some, None, Result, Ok, Err}
use Rattle.vm_memory_base.specs.Table as table
use Rattle.vm_memory_base.specs.Table.{Table, TableEvent, changed, evictions, overruns}
use Rattle.vm_memory_base.specs.declared.address.GuestAddress.{GuestAddress}
use Rattle.vm_memory_base.specs.declared.iotlb.Permissions.{Permissions}
use Rattle.vm_memory_guest.specs.Host.{Host, with_table_at}
use Rattle.vhost_message.specs.Regions.{guest_of}
use Rattle.vhost_message.specs.declared.refusal.Malformed.{Malformed}
use Rattle.vhost_message.specs.declared.refusal.Malformed.TheVariants as malformed
use Rattle.vhost_message.specs.declared.iotlb.IotlbMessage.{IotlbMessage}
use Rattle.vhost_message.specs.declared.iotlb.IotlbMessage.TheVariants.{Miss, Update, Invalidate, AccessFail}
use Rattle.vhost_iotlb.specs.declared.table.Refusal.{Refusal}
use Rattle.vhost_iotlb.specs.declared.table.Refusal.TheVariants as refusal
use Rattle.vhost_message.specs.declared.regions.MemoryRegion.{MemoryRegion}

-- a range that is mapped to guest memory
abbrev pub set_to : ℕ → ℕ → Permissions → Option GuestAddress → Result TableEvent Refusal
set_to iova size permissions None = Err refusal.UserAddress
set_to iova size permissions (Some to) = Ok (table.Set iova to.0 size permissions)

-- how many addresses an INVALIDATE names: all of them are 2 ^ 64, whose 64 lowest bits are 0
abbrev pub named : ℕ → ℕ → ℕ
named iova size = if iova == 0 && size == 0 then 2 ^ 64 else size

-- how many of them are invalidated, or what is wrong with them: they may go on to the last address, which no table maps
abbrev pub invalidated : ℕ → ℕ → Result ℕ Malformed
invalidated iova size = if named iova size == 0 then Err malformed.EmptyRange else (
    if nat_lt (2 ^ 64) (iova + named iova size) then Err malformed.Range
    else Ok (min (named iova size) (2 ^ 64 - 1 - iova)))

-- N addresses are invalidated
abbrev pub invalidate : ℕ → Result ℕ Malformed → Result TableEvent Refusal
invalidate iova (Err e) = Err (refusal.Malformed e)
invalidate iova (Ok len) = Ok (table.Invalidate iova len)

-- the call of a table that a message of the front end asks for, or what is wrong with it
abbrev pub call_of : List MemoryRegion → IotlbMessage → Result TableEvent Refusal
call_of regions (Update iova size user permissions) =
    if overruns iova size then Err (refusal.Malformed malformed.Range)
    else set_to iova size permissions (guest_of regions user size)
call_of regions (Invalidate iova size) = invalidate iova (invalidated iova size)
call_of regions (Miss iova access) = Err (refusal.Malformed malformed.Kind)
call_of regions (AccessFail iova access) = Err (refusal.Malformed malformed.Kind)

-- where the range of an UPDATE lies in guest memory
abbrev pub guest_asked : List MemoryRegion → IotlbMessage → Option GuestAddress
guest_asked regions (Update iova size user permissions) = guest_of regions user size
guest_asked regions m = None

-- what may be done for a call: the call, but instead of a range all may be unmapped
abbrev pub DoneFor : TableEvent → TableEvent → Type 0
DoneFor (table.Invalidate iova len) call = (call ≡ table.Invalidate iova len) ⊎ (call ≡ table.InvalidateAll)
DoneFor asked call = call ≡ asked

-- how many ranges a table evicts when it does what is asked: an UPDATE may have it evict some
abbrev pub evicted_for : Result TableEvent Refusal → Option Table → ℕ
evicted_for (Ok (table.Set iova to len permissions)) (Some t) = evictions (table.Set iova to len permissions) t
evicted_for asked t = 0

-- an answer without its number
abbrev pub done_of : Result ℕ Refusal → Result (Unit {0}) Refusal
done_of (Ok n) = Ok tt
done_of (Err e) = Err e

-- a call of the table of this number changed it, and nothing else changed
pub record Changes {B : Type 0} (number : ℕ) (call : TableEvent) (old new : Host B) : Type 0 where
  pub before : Table
  pub there : slice_get old.tables number ≡ Some before
  pub left : new ≡ with_table_at old number (changed call before)

-- a call was asked for, and one that may be made for it changed the table of this number
abbrev pub ChangesFor : {B : Type 0} → ℕ → TableEvent → Host B → Host B → Type 0
ChangesFor number wanted old new = (call : TableEvent) × DoneFor wanted call × Changes number call old new

-- a call was asked for, and one was made for it
pub record Makes {B : Type 0} (number : ℕ) (asked : Result TableEvent Refusal) (calls : List TableEvent)
    (old new : Host B) : Type 0 where
  pub wanted : TableEvent
  pub call : TableEvent
  pub is_asked : asked ≡ Ok wanted
  pub done_for : DoneFor wanted call
  pub made : calls ≡ call ∷ []
  pub changes : Changes number call old new

-- nothing was made of a message
abbrev pub MakesNothing : {B : Type 0} → List TableEvent → Host B → Host B → Type 0
MakesNothing calls old new = (calls ≡ []) × (new ≡ old)

-- what is made of a message that is malformed: nothing, but an INVALIDATE then invalidates everything
abbrev pub MakesOfMalformed : {B : Type 0} → ℕ → IotlbMessage → List TableEvent → Host B → Host B → Type 0
MakesOfMalformed number (Invalidate iova size) calls old new =
    (calls ≡ table.InvalidateAll ∷ []) × Changes number table.InvalidateAll old new
MakesOfMalformed number m calls old new = MakesNothing calls old new

-- what a message that is refused leaves of a host
abbrev pub LeftByRefused : {B : Type 0} → ℕ → IotlbMessage → Host B → Host B → Type 0
LeftByRefused number (Invalidate iova size) old new = Changes number table.InvalidateAll old new
LeftByRefused number m old new = new ≡ old

-- what was asked for may be refused because an allocation fails: that a range is mapped
abbrev pub MayWant : Result TableEvent Refusal → Type 0
MayWant (Ok (table.Set iova to len permissions)) = Unit {0}
MayWant asked = ⊥

-- a message to the table of this number: the calls that it made of it, one or none
abbrev pub Applies : {B : Type 0} → ℕ → List MemoryRegion → IotlbMessage → Result (Unit {0}) Refusal → List TableEvent
    → Host B → Host B → Type 0
Applies number regions m (Ok done) calls old new = Makes number (call_of regions m) calls old new
Applies number regions m (Err (refusal.Malformed e)) calls old new =
    (call_of regions m ≡ Err (refusal.Malformed e)) × MakesOfMalformed number m calls old new
Applies number regions m (Err refusal.UserAddress) calls old new =
    (call_of regions m ≡ Err refusal.UserAddress) × MakesNothing calls old new
Applies number regions m (Err refusal.Memory) calls old new =
    MayWant (call_of regions m) × MakesNothing calls old new
Applies number regions m (Err refusal.NoTable) calls old new =
    (length old.tables ≤ number) × MakesNothing calls old new

-- all of a host may have changed but the table of this number
abbrev pub KeepsTable : {B : Type 0} → ℕ → Host B → Host B → Type 0
KeepsTable number old new = slice_get new.tables number ≡ slice_get old.tables number

-- messages came one after the other, and before, between and after them nothing else changed the table: these calls are
-- what they made of it
abbrev pub Handles : {B : Type 0} → ℕ → List MemoryRegion → List IotlbMessage → List TableEvent → Host B → Host B
    → Type 0
Handles number regions [] calls old new = (calls ≡ []) × KeepsTable number old new
Handles {B} number regions (m ∷ ms) calls old new =
    (answer : Result (Unit {0}) Refusal) × (first later : List TableEvent) × (before after : Host B)
    × KeepsTable number old before × Applies number regions m answer first before after × (calls ≡ first ++ later)
    × Handles number regions ms later after new

-- one of a list
abbrev pub IsAmong : {X : Type 0} → X → List X → Type 0
IsAmong x [] = ⊥
IsAmong x (y ∷ ys) = (y ≡ x) ⊎ IsAmong x ys
