-- The laws of permissions.
use Rattle.std.proofs.Common.{◌≡◌, Bool, true, false, not, ◌&&◌, ◌||◌, refl, ◌↔◌}
use Rattle.std.proofs.lemmas.Bool.{and_parts, and_from}
use Rattle.vm_memory_base.specs.Permissions.{has_read, has_write, union, intersection, allow, same}
use Rattle.vm_memory_base.specs.Runs.{TestsEquality}
use Rattle.vm_memory_base.specs.declared.iotlb.Permissions.{Permissions}
use Rattle.vm_memory_base.specs.declared.iotlb.Permissions.TheVariants.{No, Read, Write, ReadWrite}

-- ---- permissions

-- a test that passes at each set of permissions
abbrev everywhere : (Permissions → Bool) → Bool
everywhere p = p No && (p Read && (p Write && p ReadWrite))

at : (p : Permissions → Bool) → everywhere p ≡ true → (x : Permissions) → p x ≡ true
at p h No = (and_parts (p No) (p Read && (p Write && p ReadWrite)) h).0
at p h Read = (and_parts (p Read) (p Write && p ReadWrite)
    (and_parts (p No) (p Read && (p Write && p ReadWrite)) h).1).0
at p h Write = (and_parts (p Write) (p ReadWrite)
    (and_parts (p Read) (p Write && p ReadWrite) (and_parts (p No) (p Read && (p Write && p ReadWrite)) h).1).1).0
at p h ReadWrite = (and_parts (p Write) (p ReadWrite)
    (and_parts (p Read) (p Write && p ReadWrite) (and_parts (p No) (p Read && (p Write && p ReadWrite)) h).1).1).1

abbrev alike : Bool → Bool → Bool
alike true b = b
alike false b = not b

from_alike : (b c : Bool) → alike b c ≡ true → b ≡ c
from_alike true true h = refl
from_alike true false h = cc
from_alike false true h = cc
from_alike false false h = refl

implied : (x y : Bool) → (not x || y) ≡ true → x ≡ true → y ≡ true
implied true y h e = h
implied false y h e = cc

implies : (x y : Bool) → (x ≡ true → y ≡ true) → (not x || y) ≡ true
implies true y h = h refl
implies false y h = refl

pub same_decides : (a b : Permissions) → same a b ≡ true → a ≡ b
same_decides No No h = refl
same_decides No Read h = cc
same_decides No Write h = cc
same_decides No ReadWrite h = cc
same_decides Read No h = cc
same_decides Read Read h = refl
same_decides Read Write h = cc
same_decides Read ReadWrite h = cc
same_decides Write No h = cc
same_decides Write Read h = cc
same_decides Write Write h = refl
same_decides Write ReadWrite h = cc
same_decides ReadWrite No h = cc
same_decides ReadWrite Read h = cc
same_decides ReadWrite Write h = cc
same_decides ReadWrite ReadWrite h = refl

pub same_itself : (a : Permissions) → same a a ≡ true
same_itself = at (λ a. same a a) refl

pub same_tests_equality : TestsEquality same
same_tests_equality = (same_decides, same_itself)

pub allow-No : (a : Permissions) → allow a No ≡ true
allow-No = at (λ a. allow a No) refl

pub ReadWrite-allow : (a : Permissions) → allow ReadWrite a ≡ true
ReadWrite-allow = at (λ a. allow ReadWrite a) refl

pub allow-Read : (a : Permissions) → allow a Read ≡ has_read a
allow-Read a = from_alike (allow a Read) (has_read a) (at (λ a. alike (allow a Read) (has_read a)) refl a)

pub allow-Write : (a : Permissions) → allow a Write ≡ has_write a
allow-Write a = from_alike (allow a Write) (has_write a) (at (λ a. alike (allow a Write) (has_write a)) refl a)

pub allow_by_bits : (a b : Permissions) → (allow a b ≡ true)
    ↔ ((has_read b ≡ true → has_read a ≡ true) × (has_write b ≡ true → has_write a ≡ true))
allow_by_bits a b = (
  (λ h. let p = and_parts (not (has_read b) || has_read a) (not (has_write b) || has_write a) h in
      (implied (has_read b) (has_read a) p.0, implied (has_write b) (has_write a) p.1)),
  (λ (r, w). and_from (not (has_read b) || has_read a) (not (has_write b) || has_write a)
      (implies (has_read b) (has_read a) r) (implies (has_write b) (has_write a) w)),
)

pub allow_itself : (a : Permissions) → allow a a ≡ true
allow_itself = at (λ a. allow a a) refl

pub allow_trans : (a b c : Permissions) → allow a b ≡ true → allow b c ≡ true → allow a c ≡ true
allow_trans a b c h g =
    implied (allow a b && allow b c) (allow a c)
    (at (λ c. not (allow a b && allow b c) || allow a c)
    (at (λ b. everywhere (λ c. not (allow a b && allow b c) || allow a c))
    (at (λ a. everywhere (λ b. everywhere (λ c. not (allow a b && allow b c) || allow a c))) refl a) b) c)
    (and_from (allow a b) (allow b c) h g)

pub allow_antisym : (a b : Permissions) → allow a b ≡ true → allow b a ≡ true → a ≡ b
allow_antisym a b h g =
    same_decides a b
    (implied (allow a b && allow b a) (same a b)
    (at (λ b. not (allow a b && allow b a) || same a b)
    (at (λ a. everywhere (λ b. not (allow a b && allow b a) || same a b)) refl a) b)
    (and_from (allow a b) (allow b a) h g))

pub has_read-union : (a b : Permissions) → has_read (union a b) ≡ (has_read a || has_read b)
has_read-union a b = from_alike (has_read (union a b)) (has_read a || has_read b)
    (at (λ b. alike (has_read (union a b)) (has_read a || has_read b))
    (at (λ a. everywhere (λ b. alike (has_read (union a b)) (has_read a || has_read b))) refl a) b)

pub has_write-union : (a b : Permissions) → has_write (union a b) ≡ (has_write a || has_write b)
has_write-union a b = from_alike (has_write (union a b)) (has_write a || has_write b)
    (at (λ b. alike (has_write (union a b)) (has_write a || has_write b))
    (at (λ a. everywhere (λ b. alike (has_write (union a b)) (has_write a || has_write b))) refl a) b)

pub has_read-intersection : (a b : Permissions) → has_read (intersection a b) ≡ (has_read a && has_read b)
has_read-intersection a b =
    from_alike (has_read (intersection a b)) (has_read a && has_read b)
    (at (λ b. alike (has_read (intersection a b)) (has_read a && has_read b))
    (at (λ a. everywhere (λ b. alike (has_read (intersection a b)) (has_read a && has_read b))) refl a) b)

pub has_write-intersection : (a b : Permissions) → has_write (intersection a b) ≡ (has_write a && has_write b)
has_write-intersection a b =
    from_alike (has_write (intersection a b)) (has_write a && has_write b)
    (at (λ b. alike (has_write (intersection a b)) (has_write a && has_write b))
    (at (λ a. everywhere (λ b. alike (has_write (intersection a b)) (has_write a && has_write b))) refl a) b)

pub union_comm : (a b : Permissions) → union a b ≡ union b a
union_comm a b = same_decides (union a b) (union b a)
    (at (λ b. same (union a b) (union b a)) (at (λ a. everywhere (λ b. same (union a b) (union b a))) refl a) b)

pub intersection_comm : (a b : Permissions) → intersection a b ≡ intersection b a
intersection_comm a b =
    same_decides (intersection a b) (intersection b a)
    (at (λ b. same (intersection a b) (intersection b a))
    (at (λ a. everywhere (λ b. same (intersection a b) (intersection b a))) refl a) b)

-- a set allows a union where it allows both
pub allow-union : (a b c : Permissions) → allow c (union a b) ≡ (allow c a && allow c b)
allow-union a b c =
    from_alike (allow c (union a b)) (allow c a && allow c b)
    (at (λ c. alike (allow c (union a b)) (allow c a && allow c b))
    (at (λ b. everywhere (λ c. alike (allow c (union a b)) (allow c a && allow c b)))
    (at (λ a. everywhere (λ b. everywhere (λ c. alike (allow c (union a b)) (allow c a && allow c b)))) refl a) b) c)

-- an intersection allows what both allow
pub intersection-allow : (a b c : Permissions) → allow (intersection a b) c ≡ (allow a c && allow b c)
intersection-allow a b c =
    from_alike (allow (intersection a b) c) (allow a c && allow b c)
    (at (λ c. alike (allow (intersection a b) c) (allow a c && allow b c))
    (at (λ b. everywhere (λ c. alike (allow (intersection a b) c) (allow a c && allow b c)))
    (at (λ a. everywhere (λ b. everywhere
    (λ c. alike (allow (intersection a b) c) (allow a c && allow b c)))) refl a) b) c)
