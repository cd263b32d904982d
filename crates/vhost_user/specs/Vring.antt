-- Rings.
use Rattle.std.specs.Prelude.{ℕ, ◌+◌, ◌*◌, ◌%◌, Bool, true, false, ◌&&◌, ◌==◌, if◌then◌else◌, Option, Some, None}
use Rattle.vhost_user.specs.Features.{event_idx, has, ring_packed}
use Rattle.vhost_message.specs.declared.frontend_req.VringAddr.{VringAddr}
use Rattle.vhost_user.specs.declared.vring.Notifier.{Notifier}
use Rattle.vhost_user.specs.declared.vring.Notifier.TheVariants.{Unset, Polled, Descriptor}
use Rattle.vhost_user.specs.declared.vring.Vring.{Vring}

abbrev pub notifier_of : Bool → Notifier
notifier_of true = Descriptor
notifier_of false = Polled

-- nothing was said of it
abbrev pub new_vring : Vring
new_vring = record {
  num = 0;
  base = 0;
  address = None;
  kick = Unset;
  call = Unset;
  err = Unset;
  enabled = false;
}

abbrev pub is_set : Notifier → Bool
is_set Unset = false
is_set Polled = true
is_set Descriptor = true

-- a ring is started while its kick is set
abbrev pub is_started : Vring → Bool
is_started v = is_set v.kick

-- whether addresses are, except for the log, those that a ring has, if it has some
abbrev pub is_placed_as : Option VringAddr → VringAddr → Bool
is_placed_as None new = true
is_placed_as (Some old) new =
    old.descriptor == new.descriptor && old.used == new.used && old.available == new.available

abbrev pub is_aligned : VringAddr → Bool
is_aligned a = a.descriptor % 16 == 0 && a.available % 2 == 0 && a.used % 4 == 0

-- ---- how many bytes the parts of a ring have, by the features and its size

abbrev pub table_len : ℕ → ℕ
table_len num = 16 * num

-- the index of an event
abbrev pub event_len : ℕ → ℕ
event_len features = if has features event_idx then 2 else 0

-- flags and index, and an entry for each descriptor; a packed ring has only flags and the event
abbrev pub available_len : ℕ → ℕ → ℕ
available_len features num = if has features ring_packed then 4 else 4 + 2 * num + event_len features

abbrev pub used_len : ℕ → ℕ → ℕ
used_len features num = if has features ring_packed then 4 else 4 + 8 * num + event_len features
