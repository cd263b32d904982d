-- Permissions are sets of two bits, reading and writing.
use Rattle.std.specs.Prelude.{Bool, true, false, not, ◌&&◌, ◌||◌}
use Rattle.vm_memory_base.specs.declared.iotlb.Permissions.{Permissions}
use Rattle.vm_memory_base.specs.declared.iotlb.Permissions.TheVariants.{No, Read, Write, ReadWrite}

abbrev pub has_read : Permissions → Bool
has_read No = false
has_read Read = true
has_read Write = false
has_read ReadWrite = true

abbrev pub has_write : Permissions → Bool
has_write No = false
has_write Read = false
has_write Write = true
has_write ReadWrite = true

-- the set of these bits
abbrev pub of_bits : Bool → Bool → Permissions
of_bits false false = No
of_bits true false = Read
of_bits false true = Write
of_bits true true = ReadWrite

abbrev pub union : Permissions → Permissions → Permissions
union a b = of_bits (has_read a || has_read b) (has_write a || has_write b)

abbrev pub intersection : Permissions → Permissions → Permissions
intersection a b = of_bits (has_read a && has_read b) (has_write a && has_write b)

-- an access is allowed if each of its bits is there, so asking for none always is
abbrev pub allow : Permissions → Permissions → Bool
allow a access = (not (has_read access) || has_read a) && (not (has_write access) || has_write a)

-- whether two sets have the same bits
abbrev pub same : Permissions → Permissions → Bool
same No No = true
same Read Read = true
same Write Write = true
same ReadWrite ReadWrite = true
same a b = false
