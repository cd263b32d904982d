-- Where the first bytes of an I/O range lead, by what is said of its addresses.
use Rattle.std.specs.Prelude.{◌≡◌, ℕ, ◌+◌, ◌<◌, ◌≤◌, true, false, None, IsSomeAnd}
use Rattle.vm_memory_base.specs.Address.{step}
use Rattle.vm_memory_base.specs.Permissions.{allow}
use Rattle.vm_memory_base.specs.Table.{Says, target}
use Rattle.vm_memory_base.specs.declared.iotlb.Permissions.{Permissions}
use Rattle.vhost_iotlb.specs.declared.leads.Lead.{Lead}
use Rattle.vhost_iotlb.specs.declared.leads.Lead.TheVariants.{To, Missed, Forbidden}

-- an address leads to another one, and its mapping permits an access
abbrev pub LeadsTo : Says → ℕ → ℕ → Permissions → Type 0
LeadsTo f x to access = IsSomeAnd (f x) (λ m. (target x m ≡ to) × (allow m.permissions access ≡ true))

-- each of N addresses from one on leads as far on from a target
abbrev pub LeadOn : Says → ℕ → ℕ → ℕ → Permissions → Type 0
LeadOn f a n to access = (i : ℕ) → i < n → LeadsTo f (a + i) (step to i) access

-- an address has a mapping, which forbids an access
abbrev pub Forbids : Says → ℕ → Permissions → Type 0
Forbids f x access = IsSomeAnd (f x) (λ m. allow m.permissions access ≡ false)

-- some of N addresses lead on, the first one among them, or that one is missed, or forbids the access
abbrev pub Leads : Says → ℕ → ℕ → Permissions → Lead → Type 0
Leads f a n access (To to count) = (0 < count) × (count ≤ n) × LeadOn f a count to access
Leads f a n access Missed = f a ≡ None
Leads f a n access Forbidden = Forbids f a access
