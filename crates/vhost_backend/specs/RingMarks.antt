-- Which pages are marked for what is stored to a ring, whose addresses a table of the host may translate.
use Rattle.std.specs.Prelude.{ℕ, ◌+◌, ◌-◌, ◌^◌, if◌then◌else◌, List, fold, slice_get, Option, Some, None}
use Rattle.vm_memory_base.specs.Table.{Range, Says, Table, is_allowed, pieces}
use Rattle.vm_memory_base.specs.declared.iotlb.Permissions.TheVariants.{Write}
use Rattle.vm_memory_guest.specs.Memory.{says_of}
use Rattle.vm_memory_guest.specs.declared.host.TlbId.{TlbId}
use Rattle.vhost_backend.specs.PageList.{Pages, marked}

-- the pages of a range of guest addresses, which goes on at 0 after the last address
abbrev pub range_marked : Pages → Range → Pages
range_marked l r = let past = r.base + r.len - 2 ^ 64 in marked (marked l r.base 0 (r.len - past)) 0 0 past

-- the pages that N I/O addresses from one on lead to, if each may be written. If not, nothing was stored there
abbrev pub marked_through : Says → Pages → ℕ → ℕ → Pages
marked_through f l a n = if is_allowed f a n Write then fold range_marked l (pieces f a n) else l

-- the pages of N bytes of a ring so far after an address, which is a guest address if no table translates it
abbrev pub ring_marked : Option TlbId → List Table → Pages → ℕ → ℕ → ℕ → Pages
ring_marked None tables l base offset n = marked l base offset n
ring_marked (Some t) tables l base offset n = marked_through (says_of (slice_get tables t.0)) l (base + offset) n
