-- Ranges of I/O addresses that are kept with what they lead to, and the changes of a table that they do not outlive.
use Rattle.std.specs.Prelude.{◌≡◌, ◌⊎◌, ℕ, ◌+◌, ◌^◌, ◌<◌, Bool, not, ◌&&◌, ◌==◌, nat_lt, None}
use Rattle.vm_memory_base.specs.Address.{difference}
use Rattle.vm_memory_base.specs.Permissions.{allow}
use Rattle.vm_memory_base.specs.Table.{Says, Table, TableEvent, Set, Invalidate, says, says_after}
use Rattle.vhost_iotlb.specs.Leads.{LeadOn}
use Rattle.vhost_iotlb.specs.declared.kept.Change.{Change}
use Rattle.vhost_iotlb.specs.declared.kept.Change.TheVariants.{Map, Unmap}
use Rattle.vhost_iotlb.specs.declared.kept.Kept.{Kept}

abbrev pub event_of : Change → TableEvent
event_of (Map iova to len permissions) = Set iova to len permissions
event_of (Unmap iova len) = Invalidate iova len

-- what the front end says after a change. Nothing is evicted here
abbrev pub after_change : Change → Says → Says
after_change c f x = says_after (event_of c) x (f x)

-- its end is an address
abbrev pub Fits : Change → Type 0
Fits (Map iova to len permissions) = iova + len < 2 ^ 64
Fits (Unmap iova len) = iova + len < 2 ^ 64

-- a kept range leads where it is said to lead
abbrev pub IsCurrent : Says → Kept → Type 0
IsCurrent f k = LeadOn f k.iova k.len k.base k.access

-- N addresses from one on, and a kept range, have one in common
abbrev pub overlap : ℕ → ℕ → Kept → Bool
overlap iova len k = nat_lt iova (k.iova + k.len) && nat_lt k.iova (iova + len)

-- a kept range leads elsewhere after a change, or nowhere
abbrev pub differs : Change → Kept → Bool
differs (Unmap iova len) k = overlap iova len k
differs (Map iova to len permissions) k = overlap iova len k
    && not (difference iova to == difference k.iova k.base && allow permissions k.access)

-- it has bytes, and its end is an address
abbrev pub IsReal : Kept → Type 0
IsReal k = (0 < k.len) × (k.iova + k.len < 2 ^ 64)

-- a table says nothing but what the front end's messages say. It may have evicted some of that
abbrev pub SaysNoMore : Table → Says → Type 0
SaysNoMore t f = (x : ℕ) → x < 2 ^ 64 → (says t x ≡ None) ⊎ (says t x ≡ f x)
