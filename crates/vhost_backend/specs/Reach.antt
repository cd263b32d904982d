-- What is kept for a ring whose addresses a table translates, and what is fetched for it.
use Rattle.std.specs.Prelude.{◌≡◌, ℕ, ◌+◌, ◌-◌, Bool, true, false, ◌==◌, List, [], ◌++◌, length, Option, Some, None, is_some, option_map, Result, Ok, Err, MatchBool, MatchResult}
use Rattle.std.specs.List.{list_any}
use Rattle.std.specs.declared.alloc.AllocError.{AllocError}
use Rattle.vm_memory_base.specs.Table.{Says}
use Rattle.vm_memory_base.specs.declared.iotlb.Permissions.{Permissions}
use Rattle.vhost_iotlb.specs.Kept.{differs}
use Rattle.vhost_iotlb.specs.declared.kept.Change.{Change}
use Rattle.vhost_iotlb.specs.declared.kept.Kept.{Kept}
use Rattle.vhost_backend.specs.Fetch.{FetchState, Resumes, after_drop, is_dropped, stopped, waits}
use Rattle.vhost_backend.specs.KeptRanges.{ForgetsAll}
use Rattle.vhost_backend.specs.PageList.{capped}
use Rattle.vhost_backend.specs.RingMemory.{MemoryStep, Returned}
use Rattle.vhost_backend.specs.declared.fetch.Goal.{Goal}
use Rattle.vhost_backend.specs.declared.fetch.Goal.TheVariants as goal
use Rattle.vhost_backend.specs.declared.fetch.State.{State}
use Rattle.vhost_backend.specs.declared.fetch.State.TheVariants.{Waits}

pub record ReachState : Type 0 where
  -- what is fetched, if something is
  pub fetch : Option FetchState
  -- what is kept of the ring's areas, and of rows of indirect tables
  pub pages : List Kept
  pub rows : List Kept
  -- all its areas are kept
  pub is_reached : Bool
  -- where writes to its used ring are logged
  pub log : Option ℕ

abbrev pub unreached : ReachState
unreached = record { fetch = None; pages = []; rows = []; is_reached = false; log = None }

abbrev pub same_log : Option ℕ → Option ℕ → Bool
same_log None None = true
same_log (Some a) (Some b) = a == b
same_log _ _ = false

-- its areas are to be fetched anew, and what was fetched is dropped
abbrev pub moved_to : ReachState → Option ℕ → ReachState
moved_to r log = record r { fetch = None; is_reached = false; log = log }

-- nothing is kept or fetched, since the memory of its table is gone
abbrev pub cleared : ReachState → ReachState
cleared r = record r { fetch = None; pages = []; rows = []; is_reached = false }

-- ---- what is kept

-- how many ranges may be kept for a ring of so many slots: as many, and 1,024
abbrev pub most_of : ℕ → ℕ
most_of slots = capped (slots + 1024)

-- of rows fewer, by those that are kept already
abbrev pub most_for : ReachState → ℕ → Goal → ℕ
most_for r slots goal.Ring = most_of slots
most_for r slots goal.Rows = most_of slots - length r.rows
most_for r slots (goal.Chain found) = most_of slots
most_for r slots (goal.Status found) = most_of slots

-- the areas are kept, all of them unless an allocation failed
abbrev pub areas_kept : ReachState → List Kept → Result (Unit {0}) AllocError → ReachState
areas_kept r areas (Ok done) = record r { pages = areas; is_reached = true }
areas_kept r areas (Err e) = record r { pages = areas; is_reached = false }

abbrev pub rows_added : ReachState → List Kept → Result (Unit {0}) AllocError → ReachState
rows_added r more (Ok done) = record r { rows = r.rows ++ more }
rows_added r more (Err e) = r

-- nothing is kept, unless an allocation failed
abbrev pub forgotten : ReachState → Result (Unit {0}) AllocError → ReachState
forgotten r (Ok done) = record r { pages = []; rows = [] }
forgotten r (Err e) = r

abbrev pub rows_forgotten : ReachState → Result (Unit {0}) AllocError → ReachState
rows_forgotten r (Ok done) = record r { rows = [] }
rows_forgotten r (Err e) = r

-- ---- what is waited for

abbrev pub waited_in : State → Option (ℕ × Permissions)
waited_in (Waits iova access) = Some (iova, access)
waited_in _ = None

-- the I/O address that a ring waits for, and for what
abbrev pub waited_for : Option FetchState → Option (ℕ × Permissions)
waited_for None = None
waited_for (Some f) = waited_in f.state

abbrev pub is_waiting : Option FetchState → Bool
is_waiting None = false
is_waiting (Some f) = waits f.state

-- a mapping that is waited for does not come
abbrev pub refused : ReachState → ReachState
refused r = record r { fetch = option_map stopped r.fetch }

abbrev pub most_at : ReachState → ℕ → Option FetchState → ℕ
most_at r slots None = 0
most_at r slots (Some f) = most_for r slots f.goal

-- what waits goes on, if it can
abbrev pub ResumesFetch : Says → ℕ → ReachState → Bool → ReachState → Type 0
ResumesFetch f slots r can r' = Resumes f (most_at r slots r.fetch) r.fetch can r'.fetch
    × (r' ≡ record r { fetch = r'.fetch })

-- ---- changes of what the front end says

-- what was fetched is dropped, and the areas are to be fetched anew
abbrev pub dropped : ReachState → ReachState
dropped r = record r { fetch = None; is_reached = false }

-- its ring is looked at if something was dropped that was being fetched
abbrev pub changed_by : Bool → Result (Unit {0}) AllocError → Result Bool AllocError
changed_by had (Ok done) = Ok had
changed_by had (Err e) = Err e

module _ {H : Type 0} (step : H → (s : MemoryStep) → Returned s → H → Type 0) where
  abbrev pub ForgetsBoth : ReachState → H → Result (Unit {0}) AllocError → H → Type 0
  ForgetsBoth r old done new = (one : Result (Unit {0}) AllocError) × (mid : H) × ForgetsAll step r.pages old one mid
      × MatchResult one (λ _. ForgetsAll step r.rows mid done new) (λ e. (done ≡ Err e) × (new ≡ mid))

  -- the areas lead on after a change
  abbrev pub ChangesOthers : Change → ReachState → H → Result Bool AllocError → ReachState → H → Type 0
  ChangesOthers c r old done r' new = MatchBool (list_any (differs c) r.rows)
      ((one : Result (Unit {0}) AllocError) × ForgetsAll step r.rows old one new × (done ≡ changed_by (is_some r.fetch) one)
      × (r' ≡ rows_forgotten (record r { fetch = None }) one))
      ((done ≡ Ok (is_dropped c r.fetch)) × (r' ≡ record r { fetch = after_drop c r.fetch }) × (new ≡ old))

  -- what was found that leads elsewhere after a change is dropped and forgotten, with what was found through it: rows
  -- and chains through the areas, and chains through rows
  abbrev pub Changes : Change → ReachState → H → Result Bool AllocError → ReachState → H → Type 0
  Changes c r old done r' new = MatchBool (list_any (differs c) r.pages)
      ((one : Result (Unit {0}) AllocError) × ForgetsBoth r old one new × (done ≡ changed_by (is_some r.fetch) one)
      × (r' ≡ forgotten (dropped r) one))
      (ChangesOthers c r old done r' new)
