-- Crashes of a back end at any store: what it stores, what the guest sees, and every history of the two.
use Rattle.std.specs.Prelude.{◌≡◌, ℕ, ◌+◌, ◌%◌, ◌^◌, Bool, true, false, not, ◌&&◌, ◌==◌, nat_lt, if◌then◌else◌, List, [], ◌∷◌, ◌++◌, All, filter, length, map, take, Option, Some, None}
use Rattle.vhost_inflight.specs.Split.{SplitRegion, after_pop, after_return, begin_return_stores, end_return_stores, pop_stores, put}
use Rattle.vhost_inflight.specs.SplitStart.{Flies, fault, is_among, start_stores, started}
use Rattle.vhost_inflight.specs.declared.split.SplitInFlight.{SplitInFlight}
use Rattle.vhost_inflight.specs.declared.split.SplitStore.{SplitStore}
use Rattle.vhost_inflight.specs.declared.split.SplitStore.TheVariants.{InFlight}

-- one store of a back end: to the region, the head in the ring's next used entry, or the ring's used index
pub data Deed : Type 0 where
  Region : (store : SplitStore) → Deed
  Entry : (head : ℕ) → Deed
  UsedIndex : (used : ℕ) → Deed

pub record World : Type 0 where
  pub region : SplitRegion
  -- of the ring: its used index, and the head in its next used entry
  pub used : ℕ
  pub entry : ℕ
  -- what the guest sees: the heads that were popped and not returned, in the order of their pops. None once a head was
  -- popped twice or returned without a pop
  pub view : Option (List ℕ)
  -- how many heads were popped
  pub popped : ℕ
  -- what the back end keeps. None if it does not run
  pub kept : Option SplitInFlight

-- ---- what the guest sees

abbrev pub popped_too : ℕ → Option (List ℕ) → Option (List ℕ)
popped_too head None = None
popped_too head (Some heads) = if is_among head heads then None else Some (heads ++ head ∷ [])

abbrev pub without : ℕ → List ℕ → List ℕ
without head heads = filter (λ x. not (x == head)) heads

abbrev pub returned_too : ℕ → Option (List ℕ) → Option (List ℕ)
returned_too head None = None
returned_too head (Some heads) = if is_among head heads then Some (without head heads) else None

-- a chain is popped by the store of its mark
abbrev pub stored_too : SplitStore → World → World
stored_too (InFlight head true) w = record w { view = popped_too head w.view; popped = w.popped + 1 }
stored_too s w = w

-- a chain is returned by the store of the used index
abbrev pub done : World → Deed → World
done w (Region s) = stored_too s (record w { region = put w.region s })
done w (Entry head) = record w { entry = head }
done w (UsedIndex used) = record w { used = used; view = returned_too w.entry w.view }

abbrev pub all_done : World → List Deed → World
all_done w [] = w
all_done w (d ∷ ds) = all_done (done w d) ds

-- ---- what the back end does

pub data Call : Type 0 where
  Pop : (head : ℕ) → Call
  Return : (head : ℕ) → Call
  Start : Call

-- what a call stores, in order, and what the back end keeps then
pub record Effect : Type 0 where
  pub deeds : List Deed
  pub kept : SplitInFlight

abbrev pub in_view : ℕ → Option (List ℕ) → Bool
in_view head None = false
in_view head (Some heads) = is_among head heads

abbrev pub next_used : ℕ → ℕ
next_used used = (used + 1) % 2 ^ 16

abbrev pub return_deeds : SplitInFlight → ℕ → ℕ → List Deed
return_deeds kept head used = map Region (begin_return_stores kept head)
    ++ (Entry head ∷ UsedIndex (next_used used) ∷ map Region (end_return_stores head (next_used used)))

-- a back end that does not run can only start. One that runs pops heads that are not out, and returns those that are
abbrev pub effect : ℕ → ℕ → World → Option SplitInFlight → Call → Option Effect
effect descriptors size w None Start =
    Some (record { deeds = map Region (start_stores descriptors w.region w.used); kept = started w.region w.used })
effect descriptors size w None c = None
effect descriptors size w (Some kept) (Pop head) = if nat_lt head size && not (in_view head w.view)
    then Some (record { deeds = map Region (pop_stores kept head); kept = after_pop kept }) else None
effect descriptors size w (Some kept) (Return head) = if in_view head w.view
    then Some (record { deeds = return_deeds kept head w.used; kept = after_return kept head }) else None
effect descriptors size w (Some kept) Start = None

-- a call is made, or it is cut by a crash after so many of its stores
pub data Event : Type 0 where
  Whole : (call : Call) → Event
  Cut : (call : Call) (stores : ℕ) → Event

abbrev pub whole : World → Option Effect → World
whole w None = w
whole w (Some e) = record (all_done w e.deeds) { kept = Some e.kept }

abbrev pub cut : World → ℕ → Option Effect → World
cut w n None = w
cut w n (Some e) = record (all_done w (take n e.deeds)) { kept = None }

-- what cannot be called changes nothing
abbrev pub happens : ℕ → ℕ → World → Event → World
happens descriptors size w (Whole c) = whole w (effect descriptors size w w.kept c)
happens descriptors size w (Cut c n) = cut w n (effect descriptors size w w.kept c)

abbrev pub run : ℕ → ℕ → World → List Event → World
run descriptors size w [] = w
run descriptors size w (e ∷ es) = run descriptors size (happens descriptors size w e) es

-- ---- how it begins

-- a region that no back end has written
pub record IsFresh (descriptors : ℕ) (r : SplitRegion) : Type 0 where
  pub version : r.version ≡ 0
  pub entries : length r.entries ≡ descriptors
  pub marks : All (λ e. e.in_flight ≡ 0) r.entries

-- a back end that has not run, on a ring with this used index
abbrev pub at_first : SplitRegion → ℕ → World
at_first r used = record { region = r; used = used; entry = 0; view = Some []; popped = 0; kept = None }

-- ---- where it goes on

-- a start goes through, and serves again what the guest sees as popped and not returned, and nothing else, in the order
-- of the pops. The ring began at an index, and so many heads were popped since
pub record GoesOn (descriptors size began : ℕ) (w : World) : Type 0 where
  pub heads : List ℕ
  pub seen : w.view ≡ Some heads
  pub again : Flies w.region w.used heads
  pub accepted : fault descriptors size w.region w.used ≡ None
  pub next : (w.used + length heads) % 2 ^ 16 ≡ (began + w.popped) % 2 ^ 16
