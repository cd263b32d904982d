-- What calls make of a layout: regions that are put in or taken out, and how long a search takes.
use Rattle.std.specs.Prelude.{◌≡◌, ◌⊎◌, ℕ, zero, suc, ◌+◌, ◌/◌, nat_lt, Bool, ◌&&◌, ◌==◌, if◌then◌else◌, List, [], ◌∷◌, Option, Some, None}
use Rattle.vm_memory_guest.specs.Region.{Region}
use Rattle.vm_memory_guest.specs.declared.region.error.GuestRegionCollectionError.{GuestRegionCollectionError}
use Rattle.vm_memory_guest.specs.declared.region.error.GuestRegionCollectionError.TheVariants as layout

-- one region more, in its place: before the first that starts above it, so after any that starts where it does
abbrev pub inserted : {R : Type 0} → (R → Region) → List R → R → List R
inserted region [] new = new ∷ []
inserted region (r ∷ rs) new =
    if nat_lt (region new).start (region r).start then new ∷ r ∷ rs else r ∷ inserted region rs new

-- an error says what is wrong with regions, or that an allocation failed, which may come first
abbrev pub IsFault : Option GuestRegionCollectionError → GuestRegionCollectionError → Type 0
IsFault fault e = (e ≡ layout.Memory) ⊎ (fault ≡ Some e)

-- whether a region has just these addresses: size of them, from base on
abbrev pub is_exactly : ℕ → ℕ → Region → Bool
is_exactly base size r = r.start == base && r.len == size

-- one region was taken out after another: the others, and it
abbrev pub after_first : {R : Type 0} → R → Option (List R × R) → Option (List R × R)
after_first r None = None
after_first r (Some p) = Some (r ∷ p.0, p.1)

-- the other regions and the one with just these addresses, if there is one
abbrev pub removed : {R : Type 0} → (R → Region) → List R → ℕ → ℕ → Option (List R × R)
removed region [] base size = None
removed region (r ∷ rs) base size =
    if is_exactly base size (region r) then Some (rs, r) else after_first r (removed region rs base size)

-- the number of binary digits of n, none of 0, counted up to k of them
abbrev pub digits_within : ℕ → ℕ → ℕ
digits_within zero n = 0
digits_within (suc k) zero = 0
digits_within (suc k) (suc n) = 1 + digits_within k (suc n / 2)

-- the number of binary digits of a number, none of 0
abbrev pub binary_digits : ℕ → ℕ
binary_digits n = digits_within n n
