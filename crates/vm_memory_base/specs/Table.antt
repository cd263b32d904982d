-- What an I/O table says of each address, what the calls that change it make of that, and what a look-up
-- gives.
use Rattle.std.specs.List.{filter}
use Rattle.std.specs.Prelude.{ℕ, zero, suc, ◌+◌, ◌-◌, ◌%◌, ◌^◌, Bool, true, false, not, ◌&&◌, ◌||◌, if◌then◌else◌, ◌==◌, nat_lt, List, [], ◌∷◌, ◌++◌, length, map, take, Option, Some, None, is_some}
use Rattle.vm_memory_base.specs.Address.{step, numbers, difference, is_within}
use Rattle.vm_memory_base.specs.Permissions.{allow, same}
use Rattle.vm_memory_base.specs.Runs.{AddressRun, runs, value_at}
use Rattle.vm_memory_base.specs.declared.iotlb.Permissions.{Permissions}
use Rattle.vm_memory_base.specs.declared.iotlb.Reason.{Reason}
use Rattle.vm_memory_base.specs.declared.iotlb.Reason.TheVariants.{MissingMapping, AccessNotAllowed}

-- of an address that is mapped: how far on its target lies, and which accesses are permitted
pub record Mapping : Type 0 where
  pub difference : ℕ
  pub permissions : Permissions

abbrev pub same_mapping : Mapping → Mapping → Bool
same_mapping m n = m.difference == n.difference && same m.permissions n.permissions

-- the target of an address that has this mapping
abbrev pub target : ℕ → Mapping → ℕ
target x m = (x + m.difference) % 2 ^ 64

-- what a table says of each address
abbrev pub Says : Type 0
Says = ℕ → Option Mapping

-- what befalls a table: a call that changes it, or a run of it is evicted
pub data TableEvent : Type 0 where
  Set : (iova to len : ℕ) (permissions : Permissions) → TableEvent
  Invalidate : (iova len : ℕ) → TableEvent
  InvalidateAll : TableEvent
  Evict : (iova len : ℕ) → TableEvent

-- what is said of x after an event, if old was said before it
abbrev pub says_after : TableEvent → ℕ → Option Mapping → Option Mapping
says_after (Set iova to len permissions) x old =
    if is_within iova len x then Some (record { difference = difference iova to; permissions = permissions })
    else old
says_after (Invalidate iova len) x old = if is_within iova len x then None else old
says_after InvalidateAll x old = None
says_after (Evict iova len) x old = if is_within iova len x then None else old

-- whether an event says something of x
abbrev pub covers : TableEvent → ℕ → Bool
covers (Set iova to len permissions) x = is_within iova len x
covers (Invalidate iova len) x = is_within iova len x
covers InvalidateAll x = true
covers (Evict iova len) x = is_within iova len x

-- what is said of x after events, the earliest first, if old was said before them: the last one that
-- covers x decides
abbrev pub says_after_all : List TableEvent → ℕ → Option Mapping → Option Mapping
says_after_all [] x old = old
says_after_all (call ∷ calls) x old = says_after_all calls x (says_after call x old)

-- a new table says nothing of any address
abbrev pub says_nothing : Says
says_nothing x = None

-- what a new table says after these events
abbrev pub new_table_after : List TableEvent → Says
new_table_after calls x = says_after_all calls x (says_nothing x)

-- a table as it is kept: at most N runs, if there is a limit, and its runs
pub record Table : Type 0 where
  pub limit : Option ℕ
  pub ranges : List (AddressRun Mapping)

-- what a kept table says
abbrev pub says : Table → Says
says table x = value_at table.ranges x

-- the canonical list: the maximal runs of neighbouring addresses with one mapping, ascending
abbrev pub canonical_list : Says → List (AddressRun Mapping)
canonical_list f = runs same_mapping f 0 (2 ^ 64)

-- how many of N runs are too many
abbrev pub excess : Option ℕ → ℕ → ℕ
excess None count = 0
excess (Some limit) count = count - limit

-- the first address that a call sets, if it sets any
abbrev pub first_set : TableEvent → Option ℕ
first_set (Set iova to len permissions) = Some iova
first_set event = None

-- whether a run has an address, if there is one
abbrev pub has_any : Option ℕ → AddressRun Mapping → Bool
has_any None r = false
has_any (Some x) r = is_within r.start r.len x

-- of the runs that a call left, those that are evicted: the first of those that do not have the first address that it
-- set, as many as are too many
abbrev pub evicted : TableEvent → Option ℕ → List (AddressRun Mapping) → List (AddressRun Mapping)
evicted call limit rs = take (excess limit (length rs)) (filter (λ r. not (has_any (first_set call) r)) rs)

abbrev pub eviction : AddressRun Mapping → TableEvent
eviction r = Evict r.start r.len

-- a call of a table, and the evictions that it leads to
abbrev pub events : TableEvent → Table → List TableEvent
events call table =
    call ∷ map eviction (evicted call table.limit (canonical_list (λ x. says_after call x (says table x))))

-- how many ranges a call has a table evict
abbrev pub evictions : TableEvent → Table → ℕ
evictions call table = length (evicted call table.limit (canonical_list (λ x. says_after call x (says table x))))

-- a kept table after a call: the canonical list of what is said once it evicted what was too much
abbrev pub changed : TableEvent → Table → Table
changed call table =
    record table { ranges = canonical_list (λ x. says_after_all (events call table) x (says table x)) }

-- a kept table after calls, the earliest first
abbrev pub changed_by : List TableEvent → Table → Table
changed_by [] table = table
changed_by (call ∷ calls) table = changed_by calls (changed call table)

-- calls of a table, each with the evictions that it led to
abbrev pub events_of : List TableEvent → Table → List TableEvent
events_of [] table = []
events_of (call ∷ calls) table = events call table ++ events_of calls (changed call table)

abbrev pub range_count : Table → ℕ
range_count table = length table.ranges

-- whether what is said of an address grants the access
abbrev pub grants : Permissions → Option Mapping → Bool
grants access None = false
grants access (Some m) = allow m.permissions access

-- whether the test passes at each of the n addresses from a on
unfoldable pub each : (Option Mapping → Bool) → Says → ℕ → ℕ → Bool
each test f a zero = true
each test f a (suc n) = test (f a) && each test f (a + 1) n

-- whether the end of n addresses from a on is not an address
abbrev pub overruns : ℕ → ℕ → Bool
overruns a n = nat_lt (2 ^ 64 - 1) (a + n)

-- an access to n addresses from a on is allowed if each grants it
abbrev pub is_allowed : Says → ℕ → ℕ → Permissions → Bool
is_allowed f a n access = n == 0 || (not (overruns a n) && each (grants access) f a n)

-- whether a mapping forbids the access
abbrev pub forbids : Permissions → Mapping → Bool
forbids access m = not (allow m.permissions access)

-- why an access that is not allowed is refused
abbrev pub reason : Says → ℕ → ℕ → Reason
reason f a n = if overruns a n || not (each is_some f a n) then MissingMapping else AccessNotAllowed

-- N addresses from base on
pub record Range : Type 0 where
  pub base : ℕ
  pub len : ℕ

-- where a run leads: as many addresses, from the target of its first on
abbrev pub piece_of : AddressRun Mapping → Range
piece_of r = record { base = target r.start r.value; len = r.len }

-- the pieces of a look-up: the runs of the asked addresses, each at the target of its first
abbrev pub pieces : Says → ℕ → ℕ → List Range
pieces f a n = map piece_of (runs same_mapping f a n)

-- the addresses of a range, in order
abbrev pub addresses : Range → List ℕ
addresses r = map (step r.base) (numbers 0 r.len)

-- the target of an address, if it is mapped
abbrev pub target_if_any : ℕ → Option Mapping → List ℕ
target_if_any x None = []
target_if_any x (Some m) = target x m ∷ []

abbrev pub range_of : {K : Type 0} → AddressRun K → Range
range_of r = record { base = r.start; len = r.len }

abbrev pub if_missing : Option Mapping → Option (Unit {0})
if_missing None = Some tt
if_missing (Some m) = None

abbrev pub if_forbidden : Permissions → Option Mapping → Option Mapping
if_forbidden access None = None
if_forbidden access (Some m) = if allow m.permissions access then None else Some m

-- what is missed: the runs of the asked addresses that have no mapping, and the whole range if its end
-- is not an address
abbrev pub misses : Says → ℕ → ℕ → List Range
misses f a n =
    if overruns a n then (record { base = a; len = n } ∷ [])
    else map range_of (runs (λ _ _. true) (λ x. if_missing (f x)) a n)

-- what fails: the runs of the asked addresses whose mapping forbids the access
abbrev pub failures : Says → ℕ → ℕ → Permissions → List Range
failures f a n access =
    if overruns a n then [] else map range_of (runs same_mapping (λ x. if_forbidden access (f x)) a n)
