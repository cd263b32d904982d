-- Rings that are to be served.
use Rattle.std.specs.Prelude.{ℕ, Bool, not, ◌&&◌, ◌==◌, if◌then◌else◌, Option, Some, None, slice_get, Result, Ok, Err}
use Rattle.vm_memory_base.specs.declared.address.GuestAddress.{GuestAddress}
use Rattle.vhost_user.specs.Connection.{Connection}
use Rattle.vhost_user.specs.Features as feature
use Rattle.vhost_user.specs.Features.{has}
use Rattle.vhost_message.specs.Regions.{guest_of}
use Rattle.vhost_user.specs.Vring.{available_len, is_started, table_len, used_len}
use Rattle.vhost_message.specs.declared.frontend_req.VringAddr.{VringAddr}
use Rattle.vhost_user.specs.declared.vring.NotRunning.{NotRunning}
use Rattle.vhost_user.specs.declared.vring.NotRunning.TheVariants.{Index, Stopped, Disabled, NoSize, NoAddress, UserAddress}
use Rattle.vhost_user.specs.declared.vring.RunningVring.{RunningVring}
use Rattle.vhost_user.specs.declared.vring.Vring.{Vring}

abbrev pub number_of : Option GuestAddress → Option ℕ
number_of None = None
number_of (Some a) = Some a.0

-- where a part of a ring lies: an address of the front end's own memory is turned into one of guest memory, and an I/O
-- address stays
abbrev pub place : Connection → ℕ → ℕ → Option ℕ
place s address len = if has s.features feature.access_platform then Some address
    else number_of (guest_of s.memory address len)

abbrev pub log_of : VringAddr → Option ℕ
log_of a = if a.flags == 1 then Some a.log else None

abbrev pub with_places : Connection → Vring → VringAddr → Option ℕ → Option ℕ → Option ℕ
    → Result RunningVring NotRunning
with_places s v a (Some descriptor) (Some used) (Some available) = Ok (record {
  num = v.num;
  base = v.base;
  descriptor = descriptor;
  used = used;
  used_len = used_len s.features v.num;
  available = available;
  log = log_of a;
  kick = v.kick;
  call = v.call;
})
with_places s v a _ _ _ = Err UserAddress

abbrev pub placed_vring : Connection → Vring → VringAddr → Result RunningVring NotRunning
placed_vring s v a = with_places s v a (place s a.descriptor (table_len v.num))
    (place s a.used (used_len s.features v.num)) (place s a.available (available_len s.features v.num))

abbrev pub with_address : Connection → Vring → Option VringAddr → Result RunningVring NotRunning
with_address s v None = Err NoAddress
with_address s v (Some a) = placed_vring s v a

-- a ring has to be enabled, and is not
abbrev pub is_disabled : Connection → Vring → Bool
is_disabled s v = has s.features feature.protocol_features && not v.enabled

abbrev pub with_vring : Connection → Option Vring → Result RunningVring NotRunning
with_vring s None = Err Index
with_vring s (Some v) = if not (is_started v) then Err Stopped else (
    if is_disabled s v then Err Disabled else (
    if v.num == 0 then Err NoSize else with_address s v v.address))

-- a ring as it is to be served, or why it is not
abbrev pub running : Connection → ℕ → Result RunningVring NotRunning
running s i = with_vring s (slice_get s.vrings i)
