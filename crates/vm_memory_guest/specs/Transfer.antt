-- Transfers between windows of a host and sources or sinks of bytes.
use Rattle.std.specs.Prelude.{◌≡◌, ◌⊎◌, ℕ, ◌+◌, ◌-◌, ◌≤◌, ◌==◌, Bool, true, false, if◌then◌else◌, min, List, [], ◌∷◌, length, Option, Some, None, Result, Ok, Err, OnOk, IfOk, MatchBool, MatchResult}
use Rattle.vm_memory_base.specs.Transfer.{Answer, Next, ReadsAs, FillsBy, Sink, TakesOnce, SendsBy, Stop, counted_as, Again, WholeOf}
use Rattle.vm_memory_base.specs.declared.io.ReadExactFault.{ReadExactFault}
use Rattle.vm_memory_base.specs.declared.io.VolatileMemoryError.{VolatileMemoryError}
use Rattle.vm_memory_guest.specs.Answer.{Reach}
use Rattle.vm_memory_guest.specs.Copy.{front}
use Rattle.vm_memory_guest.specs.Host.{Host, bytes_at, written}
use Rattle.vm_memory_guest.specs.Typed.{answered}
use Rattle.vm_memory_guest.specs.Window.{Window, cells_of, part, window_from, subslice_of, MarksWindow}

-- how many of N bytes that were lent to a source are marked: those that it reported, or all after a failure
abbrev pub marked_of : ℕ → Answer → ℕ
marked_of size (Ok count) = count
marked_of size (Err e) = size

-- the same, if the source was to fill all of them by itself
abbrev pub touched_of : ℕ → Result (Unit {0}) ReadExactFault → ℕ
touched_of size (Ok filled) = size
touched_of size (Err fault) = fault.touched

-- and how many it filled
abbrev pub filled_of : ℕ → Result (Unit {0}) ReadExactFault → Answer
filled_of size (Ok filled) = Ok size
filled_of size (Err fault) = Err fault.error

-- how the bytes of a window are moved: by one try, by tries of what is left until none is, or by the source
-- or only the sink
pub data Moving : Type 0 where
  Once : Moving
  UntilWhole : Moving
  Alone : Moving

-- how guest memory fills a window: until it is full, or by one try
abbrev pub filling : Bool → Moving
filling true = UntilWhole
filling false = Once

-- a source with a host
abbrev pub beside : {S B : Type 0} → S → Host B → S × Host B
beside source host = (source, host)

-- a source and a host, before and after a window was lent
module _ {S B : Type 0} (source : S → Option (List Next)) (reads : S → List ℕ → Answer → List ℕ → S → Type 0)
    (marks : B → ℕ → ℕ → B → Type 0) where
  -- for one try: the window's bytes are then these, and what the try filled, or all of the window after a
  -- failure, is marked at once
  pub record LendsWindow (w : Window) (old : S × Host B) (answer : Answer) (new : S × Host B) : Type 0 where
    pub bytes : List ℕ
    pub size : length bytes ≡ w.size
    pub within : IfOk answer (λ count. count ≤ w.size)
    pub tried : ReadsAs (source old.0) (bytes_at old.1.blocks (cells_of w)) answer bytes (source new.0)
    pub read : reads old.0 (bytes_at old.1.blocks (cells_of w)) answer bytes new.0
    pub marked : MarksWindow marks (front w (marked_of w.size answer))
        (record old.1 { blocks = written (cells_of w) bytes old.1.blocks }) new.1

  -- by tries of what is left of it, until it is full or the source gives none
  pub record LendsRest (w : Window) (old : S × Host B) (answer : Answer) (new : S × Host B) : Type 0 where
    pub count : ℕ
    pub stop : Stop
    pub tried : WholeOf (λ filled. Again (LendsWindow (part w filled (w.size - filled)))) w.size old count stop new
    pub told : answer ≡ counted_as count stop

module _ {S B : Type 0} (source : S → Option (List Next)) (reads : S → List ℕ → Answer → List ℕ → S → Type 0)
    (known : S → Option ℕ) (marks : B → ℕ → ℕ → B → Type 0) where
  -- to be filled by the source alone: its bytes are then these, and all of the window, or what the source
  -- touched if it failed, is marked at once
  pub record LendsWhole (w : Window) (old : S × Host B) (answer : Answer) (new : S × Host B) : Type 0 where
    pub bytes : List ℕ
    pub filled : Result (Unit {0}) ReadExactFault
    pub size : length bytes ≡ w.size
    pub read : FillsBy source reads known old.0 (bytes_at old.1.blocks (cells_of w)) filled bytes new.0
    pub told : answer ≡ filled_of w.size filled
    pub marked : MarksWindow marks (front w (touched_of w.size filled))
        (record old.1 { blocks = written (cells_of w) bytes old.1.blocks }) new.1

  abbrev pub Fills : Moving → Window → S × Host B → Answer → S × Host B → Type 0
  Fills Once w old answer new = Again (LendsWindow source reads marks w) old answer new
  Fills UntilWhole w old answer new = LendsRest source reads marks w old answer new
  Fills Alone w old answer new = LendsWhole w old answer new

-- a sink, before and after the bytes of a window were offered
module _ {S : Type 0} (sink : S → Option Sink) (taken : S → Option (List ℕ)) (wants : S → Type 0)
    (writes : S → List ℕ → Answer → S → Type 0) (blocks : List (List ℕ)) where
  -- by one try
  pub record Offers (w : Window) (old : S) (answer : Answer) (new : S) : Type 0 where
    pub within : IfOk answer (λ count. count ≤ w.size)
    pub written_by : Again (TakesOnce sink taken wants writes (bytes_at blocks (cells_of w))) old answer new

  -- until all are taken
  pub record Sends (w : Window) (old : S) (answer : Answer) (new : S) : Type 0 where
    pub count : ℕ
    pub sent : Result (Unit {0}) VolatileMemoryError
    pub within : count ≤ w.size
    pub whole : OnOk sent (count ≡ w.size)
    pub written_by : SendsBy (TakesOnce sink taken wants writes) old (bytes_at blocks (cells_of w)) count sent new
    pub told : answer ≡ answered (λ all. w.size) sent

  abbrev pub Takes : Moving → Window → S → Answer → S → Type 0
  Takes Once = Offers
  Takes UntilWhole = Sends
  Takes Alone = Sends

-- what is returned if a walk ended, after N bytes: the fault that ended it, if N is 0
abbrev pub ended : {E : Type 0} → ℕ → Option E → Result ℕ E
ended total None = Ok total
ended total (Some e) = if total == 0 then Err e else Ok total

-- windows are moved one after the other, up to the first that is not moved whole: how many bytes that were,
-- or the error of the source or the sink
module _ {X E : Type 0} (told : VolatileMemoryError → E) (fault : Option E)
    (Moves : Window → X → Answer → X → Type 0) where
  unfoldable pub InOrder : List Window → ℕ → X → Result ℕ E → X → Type 0
  InOrder [] total old answer new = (answer ≡ ended total fault) × (new ≡ old)
  InOrder (w ∷ ws) total old answer new =
      (moved : Answer) × (mid : X) × Moves w old moved mid
      × MatchResult moved
      (λ count. MatchBool (count == w.size) (InOrder ws (total + count) mid answer new)
      ((answer ≡ Ok (total + count)) × (new ≡ mid)))
      (λ e. (answer ≡ Err (told e)) × (new ≡ mid))

module _ {E : Type 0} where
  -- the result if all n bytes are wanted: the error for a transfer in part, if they are less
  abbrev pub all_of : (ℕ → ℕ → E) → ℕ → Result ℕ E → Result (Unit {0}) E
  all_of partial n (Ok total) = if total == n then Ok tt else Err (partial n total)
  all_of partial n (Err e) = Err e

  -- a transfer moved the windows that are to be moved, and how that ended is returned. Or it returned that
  -- an allocation failed, if it may, and it asked and changed nothing
  abbrev pub Transfers : {T X : Type 0} → E → Type 0 → (VolatileMemoryError → E) → Reach E
      → (Window → X → Answer → X → Type 0) → (Result ℕ E → Result T E) → X → Result T E → X
      → Type 0
  Transfers memory may_want failure r Moves told old answer new = ((answer ≡ Err memory) × may_want × (new ≡ old))
      ⊎ ((total : Result ℕ E) × (answer ≡ told total) × InOrder failure r.fault Moves r.windows 0 old total new)

  -- one window, or why there is none
  abbrev pub only : Result Window E → Reach E
  only (Ok w) = record { windows = w ∷ []; fault = None }
  only (Err e) = record { windows = []; fault = Some e }

-- what a transfer of at most n bytes takes of a window from an offset on, and one of all n bytes
abbrev pub cut_of : Window → ℕ → ℕ → Reach VolatileMemoryError
cut_of w offset n = only (answered (λ v. front v (min n v.size)) (window_from w offset))

abbrev pub exact_of : Window → ℕ → ℕ → Reach VolatileMemoryError
exact_of w offset n = only (subslice_of w offset n)
