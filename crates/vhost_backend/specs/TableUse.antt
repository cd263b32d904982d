-- What the queues of a back end use of the table that translates their rings' addresses, and what becomes of that by a
-- change of the table.
use Rattle.std.specs.Prelude.{◌≡◌, ℕ, zero, suc, Bool, true, false, List, length, slice_get, slice_set, Option, Some, None, is_some, Result, Ok, Err, IsSomeAnd, MatchOption}
use Rattle.std.specs.List.{list_any}
use Rattle.std.specs.declared.alloc.AllocError.{AllocError}
use Rattle.vm_memory_base.specs.Table.{Says}
use Rattle.vm_memory_base.specs.declared.iotlb.Permissions.{Permissions}
use Rattle.vhost_iotlb.specs.declared.kept.Change.{Change}
use Rattle.vhost_backend.specs.Behind.{uses, with_reach}
use Rattle.vhost_backend.specs.BlockQueue.{BlockQueueState}
use Rattle.vhost_backend.specs.Reach.{Changes, ReachState, ResumesFetch, cleared, refused, waited_for}
use Rattle.vhost_backend.specs.RingMemory.{MemoryStep, Returned}

-- ---- what is under way

-- a request is under way
abbrev pub is_busy : BlockQueueState → Bool
is_busy q = list_any is_some q.asked

-- a change concerns what is under way of a ring: the bytes of a request, or the areas by which that is returned
abbrev pub is_used : Change → BlockQueueState → Bool
is_used c q = uses c (is_busy q) q

-- of one of the rings
abbrev pub in_use : Change → List BlockQueueState → Bool
in_use c qs = list_any (is_used c) qs

-- ---- what is kept

abbrev pub lost_at : List BlockQueueState → ℕ → Option BlockQueueState → List BlockQueueState
lost_at qs n None = qs
lost_at qs n (Some q) = slice_set qs n (with_reach q (cleared q.reach))

-- of the first rings nothing is kept or fetched any more
abbrev pub lost_to : ℕ → List BlockQueueState → List BlockQueueState
lost_to zero qs = qs
lost_to (suc n) qs = let qs' = lost_to n qs in lost_at qs' n (slice_get qs' n)

-- ---- what a ring waits for

-- the address that it needs for an access, if it waits for one
abbrev pub awaited : Option BlockQueueState → Option (ℕ × Permissions)
awaited None = None
awaited (Some q) = waited_for q.reach.fetch

-- the mapping does not come
abbrev pub refused_at : List BlockQueueState → ℕ → Option BlockQueueState → List BlockQueueState
refused_at qs ring None = qs
refused_at qs ring (Some q) = slice_set qs ring (with_reach q (refused q.reach))

-- a ring is looked at
abbrev pub kicked_if : Bool → List Bool → ℕ → List Bool
kicked_if true kicks ring = slice_set kicks ring true
kicked_if false kicks ring = kicks

-- the first rings are looked at that wait
abbrev pub kicked_to : ℕ → List BlockQueueState → List Bool → List Bool
kicked_to zero qs kicks = kicks
kicked_to (suc n) qs kicks = kicked_if (is_some (awaited (slice_get qs n))) (kicked_to n qs kicks) n

-- ---- a mapping came

-- a ring that waits goes on by what the table says, and is looked at if it waits no more
abbrev pub ResumesAt : Says → ℕ → List BlockQueueState → List Bool → List BlockQueueState → List Bool → Type 0
ResumesAt f n qs kicks qs' kicks' = MatchOption (slice_get qs n) ((qs' ≡ qs) × (kicks' ≡ kicks))
    (λ q. (can : Bool) × (r : ReachState) × ResumesFetch f (length q.asked) q.reach can r
    × (qs' ≡ slice_set qs n (with_reach q r)) × (kicks' ≡ kicked_if can kicks n))

-- so the first rings
abbrev pub ResumesTo : Says → ℕ → List BlockQueueState → List Bool → List BlockQueueState → List Bool → Type 0
ResumesTo f zero qs kicks qs' kicks' = (qs' ≡ qs) × (kicks' ≡ kicks)
ResumesTo f (suc n) qs kicks qs' kicks' = (mid : List BlockQueueState) × (mid_kicks : List Bool)
    × ResumesTo f n qs kicks mid mid_kicks × ResumesAt f n mid mid_kicks qs' kicks'

-- ---- a change

module _ {H : Type 0} (step : H → (s : MemoryStep) → Returned s → H → Type 0) where
  -- what is kept and fetched for a ring is dropped if some of it leads elsewhere, and then the ring is looked at
  abbrev pub ChangesAt : Change → ℕ → List BlockQueueState → List Bool → H → Result (Unit {0}) AllocError
      → List BlockQueueState → List Bool → H → Type 0
  ChangesAt c n qs kicks old (Ok done) qs' kicks' new = MatchOption (slice_get qs n)
      ((qs' ≡ qs) × (kicks' ≡ kicks) × (new ≡ old))
      (λ q. (is : Bool) × (r : ReachState) × Changes step c q.reach old (Ok is) r new
      × (qs' ≡ slice_set qs n (with_reach q r)) × (kicks' ≡ kicked_if is kicks n))
  ChangesAt c n qs kicks old (Err e) qs' kicks' new = IsSomeAnd (slice_get qs n)
      (λ q. (r : ReachState) × Changes step c q.reach old (Err e) r new
      × (qs' ≡ slice_set qs n (with_reach q r)) × (kicks' ≡ kicks))

  -- so for the first rings
  abbrev pub ChangesTo : Change → ℕ → List BlockQueueState → List Bool → H → List BlockQueueState → List Bool → H → Type 0
  ChangesTo c zero qs kicks old qs' kicks' new = (qs' ≡ qs) × (kicks' ≡ kicks) × (new ≡ old)
  ChangesTo c (suc n) qs kicks old qs' kicks' new = (mid : List BlockQueueState) × (mid_kicks : List Bool) × (between : H)
      × ChangesTo c n qs kicks old mid mid_kicks between
      × ChangesAt c n mid mid_kicks between (Ok tt) qs' kicks' new

  -- for all of them, or until an allocation fails
  abbrev pub ChangesAll : Change → List BlockQueueState → List Bool → H → Result (Unit {0}) AllocError
      → List BlockQueueState → List Bool → H → Type 0
  ChangesAll c qs kicks old (Ok done) qs' kicks' new = ChangesTo c (length qs) qs kicks old qs' kicks' new
  ChangesAll c qs kicks old (Err e) qs' kicks' new = (n : ℕ) × (mid : List BlockQueueState) × (mid_kicks : List Bool)
      × (between : H) × ChangesTo c n qs kicks old mid mid_kicks between
      × ChangesAt c n mid mid_kicks between (Err e) qs' kicks' new
