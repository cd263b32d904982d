-- Windows that are moved one after the other by a source or to a sink.
use Rattle.std.proofs.Common.{◌≡◌, ◌≢◌, ◌⊎◌, inl, inr, IfOk, MatchBool, Bool, if◌then◌else◌, ℕ, false, true, ◌+◌, ◌≤◌, ◌==◌, List, [], ◌∷◌, ◌++◌, Option, Some, None, option_map, Result, Ok, Err, refl, sym, ap, subst, ◌∙◌, arith}
use Rattle.std.proofs.lemmas.Bool.Decides.{nat_tests}
use Rattle.vm_memory_base.specs.Transfer.{Answer}
use Rattle.vm_memory_base.specs.declared.io.VolatileMemoryError.{VolatileMemoryError}
use Rattle.vm_memory_guest.specs.Access.{AccessFault}
use Rattle.vm_memory_guest.specs.Answer.{Reach, told}
use Rattle.vm_memory_guest.specs.Error.{error_of, of_window}
use Rattle.vm_memory_base.specs.Table.{Table}
use Rattle.vm_memory_base.specs.declared.iotlb.Permissions.{Permissions}
use Rattle.vm_memory_guest.specs.Memory.{Memory}
use Rattle.vm_memory_guest.specs.Transfer.{InOrder, Transfers, all_of, ended, only}
use Rattle.vm_memory_guest.specs.Walk.{reached, GivesAccess, NeedsPieces, RefusesAccess, WantsMemory}
use Rattle.std.specs.Result.{result_map_both}
use Rattle.vm_memory_base.specs.declared.io.VolatileMemoryError.TheVariants.{PartialBuffer}
use Rattle.vm_memory_base.specs.declared.io.VolatileMemoryError.TheVariants as window
use Rattle.vm_memory_guest.specs.RegionBytes.{as_guest, moved_in}
use Rattle.vm_memory_guest.specs.Typed.{answered}
use Rattle.vm_memory_guest.specs.lemmas.TypedFacts.{subslice-sized}
use Rattle.vm_memory_guest.specs.Window.{Window, span, subslice_of}
use Rattle.vm_memory_guest.specs.declared.region.error.GuestMemoryError.{GuestMemoryError}
use Rattle.vm_memory_guest.specs.declared.region.error.GuestMemoryError.TheVariants as errors
use Rattle.vm_memory_guest.proofs.AccessLemmas.{Came, Gave, Ends, came_first, came_more, came-fits, accessed-refused}
use Rattle.vm_memory_guest.specs.lemmas.Orders.{Then}

module _ {X E : Type 0} (failure : VolatileMemoryError → E) (fault : Option E)
    (Moves : Window → X → Answer → X → Type 0) (w : Window) (ws : List Window) (total : ℕ) (old mid : X)
    (moved : Answer)
    (moves : Moves w old moved mid) where
  -- a window was moved whole, and the others follow
  pub order_more : (count : ℕ) (answer : Result ℕ E) (new : X) → moved ≡ Ok count → count ≡ w.size
      → InOrder failure fault Moves ws (total + count) mid answer new
      → InOrder failure fault Moves (w ∷ ws) total old answer new
  unfolding InOrder
  order_more count answer new is all so =
      let whole : (count == w.size) ≡ true = grind (arith, nat_tests) in
      (moved, mid, moves, rw (is, whole) so)

  -- a window was moved in part
  pub order_stops : (count : ℕ) → moved ≡ Ok count → count ≢ w.size
      → InOrder failure fault Moves (w ∷ ws) total old (Ok (total + count)) mid
  unfolding InOrder
  order_stops count is part =
      let short : (count == w.size) ≡ false = grind (arith, nat_tests) in
      (moved, mid, moves, rw (is, short) (refl, refl))

  -- a window was not moved
  pub order_fails : (e : VolatileMemoryError) → moved ≡ Err e
      → InOrder failure fault Moves (w ∷ ws) total old (Err (failure e)) mid
  unfolding InOrder
  order_fails e is = (moved, mid, moves, rw is (refl, refl))

-- no window is left
pub order_ends : {X E : Type 0} (failure : VolatileMemoryError → E) (fault : Option E)
    (Moves : Window → X → Answer → X → Type 0) (total : ℕ) (x : X)
    → InOrder failure fault Moves [] total x (ended total fault) x
unfolding InOrder
order_ends failure fault Moves total x = (refl, refl)

-- the windows of a walk, in order
abbrev pub Walked : {X : Type 0} (Moves : Window → X → Answer → X → Type 0) → Reach AccessFault → List Window → ℕ → X
    → Result ℕ GuestMemoryError → X → Type 0
Walked Moves start ws total old answer new =
    InOrder of_window (option_map error_of start.fault) Moves ws total old answer new

module _ {X : Type 0} (Moves : Window → X → Answer → X → Type 0) where
  -- windows of a walk were moved so far, and what follows makes the whole
  pub record Moved (start left : Reach AccessFault) (initial now : X) (total : ℕ) : Type 0 where
    pub done : List Window
    pub came : Came start left done total
    pub rest : (answer : Result ℕ GuestMemoryError) (new : X) → Walked Moves start left.windows total now answer new
        → Walked Moves start start.windows 0 initial answer new

  pub moved_first : (start : Reach AccessFault) (x : X) → Moved start start x x 0
  moved_first start x = record { done = []; came = came_first start; rest = λ answer new so. so }

  module _ {start left next : Reach AccessFault} {w : Window} {initial now : X} {total : ℕ}
      (m : Moved start left initial now total) (gives : Gave left next w) (mid : X) (moved : Answer)
      (moves : Moves w now moved mid) where
    to_left : (answer : Result ℕ GuestMemoryError) (new : X)
        → Walked Moves start (w ∷ next.windows) total now answer new
        → Walked Moves start start.windows 0 initial answer new
    to_left answer new so =
        m.rest answer new (subst (λ (ws : List Window). Walked Moves start ws total now answer new)
        (sym gives.windows) so)

    pub moved_next : (count : ℕ) → moved ≡ Ok count → count ≡ w.size → Moved start next initial mid (total + count)
    moved_next count is all = record {
      done = m.done ++ w ∷ [];
      came = came_more m.came gives count all;
      rest = λ answer new so. to_left answer new
          (order_more of_window (option_map error_of start.fault) Moves w next.windows total now mid moved moves count
          answer new is all so);
    }

    pub moved_part : (count : ℕ) → moved ≡ Ok count → count ≢ w.size
        → Walked Moves start start.windows 0 initial (Ok (total + count)) mid
    moved_part count is part =
        to_left (Ok (total + count)) mid
        (order_stops of_window (option_map error_of start.fault) Moves w next.windows total now mid moved moves count
        is part)

    pub moved_fails : (e : VolatileMemoryError) → moved ≡ Err e
        → Walked Moves start start.windows 0 initial (Err (of_window e)) mid
    moved_fails e is = to_left (Err (of_window e)) mid
        (order_fails of_window (option_map error_of start.fault) Moves w next.windows total now mid moved moves e is)

    pub moved_within : (count : ℕ) → count ≤ w.size → total + count ≤ span start.windows
    moved_within count within = let a = came-fits m.came gives.windows (span start.windows) (omega arith) in omega arith

  module _ {start left : Reach AccessFault} {initial now : X} {total : ℕ} (m : Moved start left initial now total) where
    pub moved_ends : {error : Option GuestMemoryError} → Ends left error
        → Walked Moves start start.windows 0 initial (ended total error) now
    moved_ends {error} ends =
        let fault : option_map error_of start.fault ≡ error = m.came.fault ∙ ends.fault in
        let here : Walked Moves start [] total now (ended total error) now =
        subst (λ (o : Option GuestMemoryError). Walked Moves start [] total now (ended total o) now) fault
        (order_ends of_window (option_map error_of start.fault) Moves total now) in
        m.rest (ended total error) now
        (subst (λ (ws : List Window). Walked Moves start ws total now (ended total error) now)
        (sym ends.windows) here)

    pub moved_whole : Ends left None → Walked Moves start start.windows 0 initial (Ok total) now
    moved_whole ends = moved_ends ends

-- nothing is moved
order_none : {X E : Type 0} (failure : VolatileMemoryError → E) (Moves : Window → X → Answer → X → Type 0) (x : X)
    (e : E) (r : Reach E) → r ≡ record { windows = []; fault = Some e }
    → InOrder failure r.fault Moves r.windows 0 x (Err e) x
order_none failure Moves x e r is =
    subst (λ (y : Reach _). InOrder failure y.fault Moves y.windows 0 x (Err e) x) (sym is)
    (order_ends failure (Some e) Moves 0 x)

-- transfers of guest memory
module _ (memory : Memory) (tables : List Table) (a n : ℕ) (access : Permissions) {X T : Type 0}
    (Moves : Window → X → Answer → X → Type 0) (how : Result ℕ GuestMemoryError → Result T GuestMemoryError) where
  abbrev pub Moved-all : X → Result T GuestMemoryError → X → Type 0
  Moved-all = Transfers errors.Memory (NeedsPieces memory tables a n access) of_window
      (told error_of (reached memory tables a n access)) Moves how

  -- without a walk nothing was moved
  pub transfers-refused : (x : X) (e : GuestMemoryError) → Err e ≡ how (Err e)
      → (WantsMemory memory tables a n access e ⊎ RefusesAccess memory tables a n access e) → Moved-all x (Err e) x
  transfers-refused x e tells (inl wanted) = inl (ap (λ (f : GuestMemoryError). Err f) wanted.0, wanted.1, refl)
  transfers-refused x e tells (inr refused) =
      inr (Err e, tells, order_none of_window Moves x e _ (accessed-refused memory tables a n access e refused))

  -- the windows of a walk in order are those of its access
  pub transfers-walked : (walk : Reach AccessFault) → GivesAccess memory tables a n access walk → (old new : X)
      (total : Result ℕ GuestMemoryError) (answer : Result T GuestMemoryError)
      → Walked Moves walk walk.windows 0 old total new
      → answer ≡ how total → Moved-all old answer new
  transfers-walked walk gives old new total answer so tells = inr (
    total,
    tells,
    subst (λ (y : Reach AccessFault).
        InOrder of_window (option_map error_of y.fault) Moves y.windows 0 old total new) gives.1 so,
  )

-- what is at most the bytes of windows is at most what they are at most
pub at_most-all : {E : Type 0} (r : Result ℕ E) (k n : ℕ) → IfOk r (λ total. total ≤ k) → k ≤ n
    → IfOk r (λ total. total ≤ n)
at_most-all (Ok total) k n most within = omega arith
at_most-all (Err e) k n most within = tt

-- a window alone: the answer is that of its move
module _ {X : Type 0} (Moves : Window → X → Answer → X → Type 0) (w : Window) (old mid : X) where
  ends_one : (count : ℕ) (b : Bool)
      → MatchBool b (InOrder (λ e. e) None Moves [] (0 + count) mid (Ok count) mid)
      (◌≡◌ {A = Answer} (Ok count) (Ok (0 + count)) × (mid ≡ mid))
  unfolding InOrder
  ends_one count true = (ap (λ (n : ℕ). Ok n) (omega arith), refl)
  ends_one count false = (ap (λ (n : ℕ). Ok n) (omega arith), refl)

  order_one : (moved : Answer) → Moves w old moved mid → InOrder (λ e. e) None Moves (w ∷ []) 0 old moved mid
  unfolding InOrder
  order_one (Ok count) moves = (Ok count, mid, moves, ends_one count (count == w.size))
  order_one (Err e) moves = (Err e, mid, moves, (refl, refl))

-- transfers of a window: one window is moved, or none
module _ {X T : Type 0} (Moves : Window → X → Answer → X → Type 0)
    (how : Answer → Result T VolatileMemoryError) (r : Reach VolatileMemoryError) where
  abbrev pub Moved-part : X → Result T VolatileMemoryError → X → Type 0
  Moved-part = Transfers window.Memory ⊥ (λ e. e) r Moves how

  pub part_refused : (x : X) (e : VolatileMemoryError) → r ≡ only (Err e) → Err e ≡ how (Err e) → Moved-part x (Err e) x
  part_refused x e is tells = inr (Err e, tells, order_none (λ e. e) Moves x e r is)

  pub part_moved : (w : Window) (old new : X) (moved : Answer) (answer : Result T VolatileMemoryError)
      → r ≡ only (Ok w) → Moves w old moved new → answer ≡ how moved → Moved-part old answer new
  part_moved w old new moved answer is moves tells = inr (
    moved,
    tells,
    subst (λ (y : Reach VolatileMemoryError).
        InOrder (λ e. e) y.fault Moves y.windows 0 old moved new) (sym is) (order_one Moves w old new moved moves),
  )

-- an answer of a window alone, where all n bytes are wanted and it has as many
pub all_of_one : (n : ℕ) (w : Window) (moved : Answer) → IfOk moved (λ count. count ≡ w.size) → w.size ≡ n
    → answered (λ all. tt) moved ≡ all_of PartialBuffer n moved
all_of_one n w (Ok count) all size =
    let same : (count == n) ≡ true = let c = all in grind (arith, nat_tests) in
    rw same refl
all_of_one n w (Err e) all size = refl

-- moves of windows in order, with their errors told otherwise
module _ {X E : Type 0} (failure : VolatileMemoryError → E) (fault : Option VolatileMemoryError)
    (Moves : Window → X → Answer → X → Type 0) where
  ended_told : (total : ℕ) (o : Option VolatileMemoryError)
      → result_map_both (λ x. x) failure (ended total o) ≡ ended total (option_map failure o)
  ended_told total None = refl
  ended_told total (Some e) = go (total == 0)
    where
      go : (b : Bool) → result_map_both (λ x. x) failure (if b then Err e else Ok total)
          ≡ (if b then Err (failure e) else Ok total)
      go true = refl
      go false = refl

  told_whole : (ws : List Window) (total : ℕ) (answer : Answer) (new mid : X) (count : ℕ)
      → (InOrder (λ e. e) fault Moves ws (total + count) mid answer new
      → InOrder failure (option_map failure fault) Moves ws (total + count) mid
      (result_map_both (λ x. x) failure answer) new)
      → (b : Bool) → MatchBool b (InOrder (λ e. e) fault Moves ws (total + count) mid answer new)
      ((answer ≡ Ok (total + count)) × (new ≡ mid))
      → MatchBool b (InOrder failure (option_map failure fault) Moves ws (total + count) mid
      (result_map_both (λ x. x) failure answer) new)
      ((result_map_both (λ x. x) failure answer ≡ Ok (total + count)) × (new ≡ mid))
  told_whole ws total answer new mid count more true h = more h
  told_whole ws total answer new mid count more false h = (ap (result_map_both (λ x. x) failure) h.0, h.1)

  told_more : (w : Window) (ws : List Window) (total : ℕ) (answer : Answer) (new mid : X)
      → ((count : ℕ) → InOrder (λ e. e) fault Moves ws (total + count) mid answer new
      → InOrder failure (option_map failure fault) Moves ws (total + count) mid
      (result_map_both (λ x. x) failure answer) new)
      → (moved : Answer) → Then (λ e. e) fault Moves w ws total mid answer new moved
      → Then failure (option_map failure fault) Moves w ws total mid (result_map_both (λ x. x) failure answer) new moved
  told_more w ws total answer new mid more (Ok count) h =
      told_whole ws total answer new mid count (more count) (count == w.size) h
  told_more w ws total answer new mid more (Err e) h = (ap (result_map_both (λ x. x) failure) h.0, h.1)

  pub order_told : (ws : List Window) (total : ℕ) (old : X) (answer : Answer) (new : X)
      → InOrder (λ e. e) fault Moves ws total old answer new
      → InOrder failure (option_map failure fault) Moves ws total old (result_map_both (λ x. x) failure answer) new
  unfolding InOrder
  order_told [] total old answer new so = (ap (result_map_both (λ x. x) failure) so.0 ∙ ended_told total fault, so.1)
  order_told (w ∷ ws) total old answer new so = (
    so.0,
    so.1,
    so.2,
    told_more w ws total answer new so.1
        (λ count h. order_told ws (total + count) so.1 answer new h) so.0 so.3,
  )

-- the answer of a window where all bytes are wanted, as guest memory tells it
pub all_of_told : (n : ℕ) (total : Answer)
    → as_guest (all_of PartialBuffer n total) ≡ all_of errors.PartialBuffer n (as_guest total)
all_of_told n (Err e) = refl
all_of_told n (Ok total) = go (total == n)
  where
    go : (b : Bool) → as_guest (if b then Ok (tt {0}) else Err (PartialBuffer n total))
        ≡ (if b then Ok (tt {0}) else Err (errors.PartialBuffer n total))
    go true = refl
    go false = refl

-- a part of a window has as many bytes as were asked for
pub size-given : (w v : Window) (offset n : ℕ) (r : Result Window VolatileMemoryError) → r ≡ subslice_of w offset n
    → r ≡ Ok v → v.size ≡ n
size-given w v offset n r is ok =
    subst (λ (x : Result Window VolatileMemoryError). IfOk x (λ u. u.size ≡ n)) (sym is ∙ ok)
    (subslice-sized w offset n)

pub all_of_sent : (n : ℕ) (w : Window) (sent : Result (Unit {0}) VolatileMemoryError) → w.size ≡ n
    → sent ≡ all_of PartialBuffer n (answered (λ all. w.size) sent)
all_of_sent n w (Ok all) size =
    let same : (w.size == n) ≡ true = grind (arith, nat_tests) in
    rw same refl
all_of_sent n w (Err e) size = refl

-- transfers of a region are those of its window
module _ {X T : Type 0} (Moves : Window → X → Answer → X → Type 0)
    (how : Answer → Result T VolatileMemoryError) (how-told : Result ℕ GuestMemoryError → Result T GuestMemoryError)
    (tells : (total : Answer) → as_guest (how total) ≡ how-told (as_guest total))
    (f : Window → Reach VolatileMemoryError) (o : Result Window GuestMemoryError) where
  abbrev pub Moved-in : X → Result T GuestMemoryError → X → Type 0
  Moved-in = Transfers errors.Memory ⊥ of_window (moved_in o f) Moves how-told

  pub region_refused : (x : X) (e : GuestMemoryError) → o ≡ Err e → Err e ≡ how-told (Err e) → Moved-in x (Err e) x
  region_refused x e is same =
      inr (
        Err e,
        same,
        order_none of_window Moves x e (moved_in o f)
            (ap (λ (p : Result Window GuestMemoryError). moved_in p f) is),
      )

  pub region_moved : (w : Window) → o ≡ Ok w → (old new : X) (r : Result T VolatileMemoryError)
      → Moved-part Moves how (f w) old r new → Moved-in old (as_guest r) new
  region_moved w is old new r (inl wanted) = absurd wanted.1
  region_moved w is old new r (inr so) = inr (
    as_guest so.0,
    ap (λ (x : Result T VolatileMemoryError). as_guest x) so.1 ∙ tells so.0,
    subst (λ (p : Result Window GuestMemoryError). InOrder of_window (moved_in p f).fault Moves
        (moved_in p f).windows 0 old (as_guest so.0) new)
        (sym is) (order_told of_window (f w).fault Moves (f w).windows 0 old so.0 new so.2),
  )
