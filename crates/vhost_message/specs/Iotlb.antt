-- Messages on a device's I/O table: the fields of their payloads, and what each says by them. All numbers have their
-- lowest byte first.
use Rattle.std.specs.Prelude.{◌≡◌, ℕ, ◌+◌, ◌^◌, ◌<◌, ◌==◌, if◌then◌else◌, List, [], ◌∷◌, ◌++◌, slice_index, Result, Ok, Err}
use Rattle.std.specs.Int.{w64, to_le_bytes}
use Rattle.vm_memory_base.specs.Table.{overruns}
use Rattle.vm_memory_base.specs.declared.iotlb.Permissions.{Permissions}
use Rattle.vm_memory_base.specs.declared.iotlb.Permissions.TheVariants.{No, Read, Write, ReadWrite}
use Rattle.vhost_message.specs.Numbers.{number}
use Rattle.vhost_message.specs.declared.refusal.Malformed.{Malformed}
use Rattle.vhost_message.specs.declared.refusal.Malformed.TheVariants as malformed
use Rattle.vhost_message.specs.declared.iotlb.Fields.{Fields}
use Rattle.vhost_message.specs.declared.iotlb.IotlbMessage.{IotlbMessage}
use Rattle.vhost_message.specs.declared.iotlb.IotlbMessage.TheVariants.{Miss, Update, Invalidate, AccessFail}

-- three numbers of 8 bytes, the permissions, the kind, and 6 bytes that mean nothing
abbrev pub fields_in : List ℕ → Fields
fields_in bytes = record {
  iova = number bytes 0;
  size = number bytes 8;
  user_address = number bytes 16;
  permissions = slice_index bytes 24;
  kind = slice_index bytes 25;
}

abbrev pub payload_bytes : Fields → List ℕ
payload_bytes f = to_le_bytes w64 f.iova ++ (to_le_bytes w64 f.size ++ (to_le_bytes w64 f.user_address
    ++ (f.permissions ∷ f.kind ∷ 0 ∷ 0 ∷ 0 ∷ 0 ∷ 0 ∷ 0 ∷ [])))

abbrev pub number_of : Permissions → ℕ
number_of No = 0
number_of Read = 1
number_of Write = 2
number_of ReadWrite = 3

-- some permissions are spelled by this number
abbrev pub IsAccess : ℕ → Permissions → Type 0
IsAccess number p = (number ≡ number_of p) × (0 < number)

-- the range of an UPDATE has addresses, and its end is one
abbrev pub IsRange : ℕ → ℕ → Type 0
IsRange iova size = (0 < size) × (iova + size < 2 ^ 64)

-- a message says this by the fields of its payload; those that are not named mean nothing
abbrev pub Spells : Fields → IotlbMessage → Type 0
Spells f (Miss iova access) = (f.kind ≡ 1) × (f.iova ≡ iova) × IsAccess f.permissions access
Spells f (Update iova size user permissions) = (f.kind ≡ 2) × (f.iova ≡ iova) × (f.size ≡ size)
    × (f.user_address ≡ user) × IsAccess f.permissions permissions × IsRange iova size
Spells f (Invalidate iova size) = (f.kind ≡ 3) × (f.iova ≡ iova) × (f.size ≡ size)
Spells f (AccessFail iova access) = (f.kind ≡ 4) × (f.iova ≡ iova) × IsAccess f.permissions access

-- what has a spelling
abbrev pub IsMessage : IotlbMessage → Type 0
IsMessage (Miss iova access) = (iova < 2 ^ 64) × (0 < number_of access)
IsMessage (Update iova size user permissions) =
    IsRange iova size × (user < 2 ^ 64) × (0 < number_of permissions)
IsMessage (Invalidate iova size) = (iova < 2 ^ 64) × (size < 2 ^ 64)
IsMessage (AccessFail iova access) = (iova < 2 ^ 64) × (0 < number_of access)

-- the fields of a message, with 0 if a field means nothing
abbrev pub fields_of : IotlbMessage → Fields
fields_of (Miss iova access) =
    record { iova = iova; size = 0; user_address = 0; permissions = number_of access; kind = 1 }
fields_of (Update iova size user permissions) = record {
  iova = iova;
  size = size;
  user_address = user;
  permissions = number_of permissions;
  kind = 2;
}
fields_of (Invalidate iova size) =
    record { iova = iova; size = size; user_address = 0; permissions = 0; kind = 3 }
fields_of (AccessFail iova access) =
    record { iova = iova; size = 0; user_address = 0; permissions = number_of access; kind = 4 }

-- ---- reading, with the first fault that is met

infixl 10 ◌>>=◌
abbrev pub ◌>>=◌ : {A B : Type 0} → Result A Malformed → (A → Result B Malformed) → Result B Malformed
(Ok x) >>= f = f x
(Err e) >>= f = Err e

abbrev pub permissions_in : ℕ → Result Permissions Malformed
permissions_in number = if number == 1 then Ok Read else (
    if number == 2 then Ok Write else (
    if number == 3 then Ok ReadWrite else Err malformed.Permissions))

abbrev pub range_in : ℕ → ℕ → Result (Unit {0}) Malformed
range_in iova size = if size == 0 then Err malformed.EmptyRange else (
    if overruns iova size then Err malformed.Range else Ok tt)

unfoldable pub message_in : Fields → Result IotlbMessage Malformed
message_in f = if f.kind == 1 then (permissions_in f.permissions >>= λ p. Ok (Miss f.iova p)) else (
    if f.kind == 2 then (range_in f.iova f.size >>= λ _. permissions_in f.permissions
    >>= λ p. Ok (Update f.iova f.size f.user_address p)) else (
    if f.kind == 3 then Ok (Invalidate f.iova f.size) else (
    if f.kind == 4 then (permissions_in f.permissions >>= λ p. Ok (AccessFail f.iova p))
    else Err malformed.Kind)))
