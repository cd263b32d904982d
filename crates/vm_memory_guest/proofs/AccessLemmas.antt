-- Moves between a buffer and the windows of a walk, one after the other, and what they answer.
use Rattle.std.specs.List.{AllByRecursion}
use Rattle.std.specs.Prelude.{is_none}
use Rattle.std.proofs.Common.{MatchResult, ◌≡◌, ◌⊎◌, ℕ, Bool, true, false, ◌+◌, ◌-◌, ◌≤◌, List, [], ◌∷◌, ◌++◌, map, take, drop, length, All, Option, Some, None, option_map, Result, Ok, Err, IfOk, refl, sym, ap, ap₂, subst, ◌∙◌, inl, inr, append_assoc, append-nil, take-append-drop, length-take-le, length-drop, arith}
use Rattle.std.proofs.lemmas.Bool.{cond_both}
use Rattle.std.proofs.lemmas.Bool.Decides.{nat_tests}
use borrow.Rule.Slice.PartMut.{put_mid}
use Rattle.vm_memory_base.specs.Table.{Table}
use Rattle.vm_memory_base.specs.declared.iotlb.Permissions.{Permissions}
use Rattle.vm_memory_guest.specs.Access.{AccessFault, Access, path, first_fault, meets, windows, stretches, allowed, refusal, access_of}
use Rattle.vm_memory_guest.specs.Answer.{Reach, Outcome, filled_buffer, told}
use Rattle.vm_memory_guest.specs.Error.{error_of}
use Rattle.vm_memory_guest.specs.Walk.{error_item, items_of, windows_before, reached, GivesAccess, NeedsPieces, RefusesAccess, WantsMemory}
use Rattle.vm_memory_guest.specs.Transfer.{ended}
use Rattle.vm_memory_guest.specs.Host.{Host, Shape, Cell, Name, Holds, shape_of, bytes_at}
use Rattle.vm_memory_guest.specs.Memory.{Memory, Switched, behind_if, behind_of, route, route_behind, switched_names, memory_names}
use Rattle.vm_memory_guest.specs.Region.{IsRegion}
use Rattle.vm_memory_guest.specs.Window.{window_names, span, cells, cells_of, Writes, Window}
use Rattle.vm_memory_guest.specs.declared.region.error.GuestMemoryError.{GuestMemoryError}
use Rattle.vm_memory_guest.specs.declared.region.error.GuestMemoryError.TheVariants as errors
use Rattle.vm_memory_guest.proofs.MarkLaws.{Writes-append, Writes-take, Writes-from_take, shape_of-Writes}
use Rattle.vm_memory_guest.proofs.PathLaws.{route_names, windows-held, span-windows, length-access}
use Rattle.vm_memory_guest.proofs.WrittenLaws.{span-append, span-cons, cells-append, cells-one, length-cells, length-cells_from, filled_more}
use Rattle.vm_memory_guest.proofs.HostLemmas.{span-one}
use Rattle.vm_memory_guest.proofs.HoldsLemmas.{Holds-parts}

-- what items tell: the windows before the first error, and that error
first_told : Result Window GuestMemoryError → Reach GuestMemoryError → Reach GuestMemoryError
first_told (Ok w) rest = record { windows = w ∷ rest.windows; fault = rest.fault }
first_told (Err e) rest = record { windows = []; fault = Some e }

told_in : List (Result Window GuestMemoryError) → Reach GuestMemoryError
told_in [] = record { windows = []; fault = None }
told_in (item ∷ items) = first_told item (told_in items)

-- the items of a walk tell what it has left
told_in-items : (ws : List Window) (o : Option AccessFault)
    → told_in (map (λ w. Ok w) ws ++ error_item o) ≡ told error_of (record { windows = ws; fault = o })
unfolding told_in first_told
told_in-items [] None = refl
told_in-items [] (Some fault) = refl
told_in-items (w ∷ ws) o = ap (first_told (Ok w)) (told_in-items ws o)

told-items : (walk : Reach AccessFault) → told_in (items_of walk) ≡ told error_of walk
told-items walk = told_in-items walk.windows walk.fault

-- a walk gave a window, and has the next one left
pub record Gave (walk next : Reach AccessFault) (w : Window) : Type 0 where
  pub windows : walk.windows ≡ w ∷ next.windows
  pub fault : option_map error_of walk.fault ≡ option_map error_of next.fault

pub gave : (walk next : Reach AccessFault) (item : Result Window GuestMemoryError) (w : Window)
    → items_of walk ≡ item ∷ items_of next → item ≡ Ok w → Gave walk next w
unfolding told_in first_told
gave walk next item w gives is =
    let told_is : told error_of walk ≡ record { windows = w ∷ next.windows; fault = option_map error_of next.fault } =
    sym (told-items walk) ∙ ap told_in gives
    ∙ ap (λ (x : Result Window GuestMemoryError). first_told x (told_in (items_of next))) is
    ∙ ap (first_told (Ok w)) (told-items next) in
    record {
      windows = ap (λ (r : Reach GuestMemoryError). r.windows) told_is;
      fault = ap (λ (r : Reach GuestMemoryError). r.fault) told_is;
    }

-- the window that comes next
next-window : (walk : Reach AccessFault) (item : Result Window GuestMemoryError)
    (items : List (Result Window GuestMemoryError)) (w : Window) → items_of walk ≡ item ∷ items → item ≡ Ok w
    → walk.windows ≡ w ∷ (told_in items).windows
unfolding told_in first_told
next-window walk item items w gives is =
    let told_is : told error_of walk ≡ first_told (Ok w) (told_in items) = sym (told-items walk) ∙ ap told_in gives
    ∙ ap (λ (x : Result Window GuestMemoryError). first_told x (told_in items)) is in
    ap (λ (r : Reach GuestMemoryError). r.windows) told_is

-- a walk has no window left, and this error, if any
pub record Ends (walk : Reach AccessFault) (error : Option GuestMemoryError) : Type 0 where
  pub windows : walk.windows ≡ []
  pub fault : option_map error_of walk.fault ≡ error

ends_told : (walk : Reach AccessFault) (error : Option GuestMemoryError)
    → told error_of walk ≡ record { windows = []; fault = error } → Ends walk error
ends_told walk error told_is =
    record {
      windows = ap (λ (r : Reach GuestMemoryError). r.windows) told_is;
      fault = ap (λ (r : Reach GuestMemoryError). r.fault) told_is;
    }

pub ends_in : (walk : Reach AccessFault) (item : Result Window GuestMemoryError) (e : GuestMemoryError)
    (items : List (Result Window GuestMemoryError)) → items_of walk ≡ item ∷ items → item ≡ Err e → Ends walk (Some e)
unfolding told_in first_told
ends_in walk item e items gives is =
    ends_told walk (Some e)
    (sym (told-items walk) ∙ ap told_in gives
    ∙ ap (λ (x : Result Window GuestMemoryError). first_told x (told_in items)) is)

pub ends_whole : (walk : Reach AccessFault) → items_of walk ≡ [] → Ends walk None
unfolding told_in
ends_whole walk gives = ends_told walk None (sym (told-items walk) ∙ ap told_in gives)

-- a walk came from its start so far: these windows are done
pub record Came (start left : Reach AccessFault) (done : List Window) (total : ℕ) : Type 0 where
  pub windows : start.windows ≡ done ++ left.windows
  pub fault : option_map error_of start.fault ≡ option_map error_of left.fault
  pub count : total ≡ span done

pub came_first : (start : Reach AccessFault) → Came start start [] 0
came_first start = record { windows = refl; fault = refl; count = refl }

pub came_more : {start left next : Reach AccessFault} {done : List Window} {w : Window} {total : ℕ}
    → Came start left done total → Gave left next w → (len : ℕ) → len ≡ w.size
    → Came start next (done ++ w ∷ []) (total + len)
came_more {start} {left} {next} {done} {w} {total} came gives len is = record {
  windows = came.windows ∙ ap (λ (ws : List Window). done ++ ws) gives.windows
      ∙ sym (append_assoc done (w ∷ []) next.windows);
  fault = came.fault ∙ gives.fault;
  count = let a = span-append done (w ∷ []) in let b = span-one w in let c = came.count in omega arith;
}

-- the window that comes next still fits
pub came-fits : {start left : Reach AccessFault} {done rest : List Window} {w : Window} {total : ℕ}
    → Came start left done total → left.windows ≡ w ∷ rest → (n : ℕ) → span start.windows ≤ n → total + w.size ≤ n
came-fits {start} {left} {done} {rest} {w} {total} came gives n fits =
    let all : start.windows ≡ done ++ w ∷ rest = came.windows ∙ ap (λ (ws : List Window). done ++ ws) gives in
    let a : span start.windows ≡ span done + span (w ∷ rest) = ap span all ∙ span-append done (w ∷ rest) in
    let b = span-cons w rest in
    let c = came.count in
    omega arith

all_at : (P : Window → Type 0) (ws vs : List Window) (v : Window) → AllByRecursion P (ws ++ v ∷ vs) → P v
all_at P [] vs v h = h.0
all_at P (w ∷ ws) vs v h = all_at P ws vs v h.1

-- of a walk that came so far, and gives a window next
module _ {start left : Reach AccessFault} {done : List Window} {total : ℕ} {item : Result Window GuestMemoryError}
    {items : List (Result Window GuestMemoryError)} {w : Window} where
  -- that window still fits
  pub next_fits : Came start left done total → items_of left ≡ item ∷ items → item ≡ Ok w → (n : ℕ)
      → span start.windows ≤ n → total + w.size ≤ n
  next_fits came gives is n fits = came-fits came (next-window left item items w gives is) n fits

  -- and what holds of all windows holds of it
  pub next_all : Came start left done total → items_of left ≡ item ∷ items → item ≡ Ok w → (P : Window → Type 0)
      → AllByRecursion P start.windows → P w
  next_all came gives is P each =
      let all = came.windows ∙ ap (λ (ws : List Window). done ++ ws) (next-window left item items w gives is) in
      all_at P done (told_in items).windows w (subst (AllByRecursion P) all each)

-- at the end all windows are done
came-done : {start left : Reach AccessFault} {done : List Window} {total : ℕ} {error : Option GuestMemoryError}
    → Came start left done total → Ends left error → start.windows ≡ done
came-done {start} {left} {done} came ends = came.windows ∙ ap (λ (ws : List Window). done ++ ws) ends.windows
    ∙ append-nil done

-- the answer at the end: all, or what came before an error, or the error where nothing did
module _ {start left : Reach AccessFault} {done : List Window} {total : ℕ} (came : Came start left done total) where
  total_is : {error : Option GuestMemoryError} → Ends left error → total ≡ span start.windows
  total_is ends = came.count ∙ sym (ap span (came-done came ends))

  pub answer-whole : Ends left None → Ok total ≡ ended (span start.windows) (option_map error_of start.fault)
  answer-whole ends = rw (came.fault ∙ ends.fault) (ap (λ (k : ℕ). Ok k) (total_is ends))

  pub answer-ends : {e : GuestMemoryError} → Ends left (Some e)
      → ended total (Some e) ≡ ended (span start.windows) (option_map error_of start.fault)
  answer-ends {e} ends = rw (came.fault ∙ ends.fault) (ap (λ (k : ℕ). ended k (Some e)) (total_is ends))

module _ {B : Type 0} (marks : B → ℕ → ℕ → B → Type 0) where
  -- a write came so far: the windows that are done have their bytes, and are marked
  pub record Wrote (start left : Reach AccessFault) (buf : List ℕ) (old now : Host B) (total : ℕ) : Type 0 where
    pub done : List Window
    pub came : Came start left done total
    pub writes : Writes marks done buf old now

  pub wrote_first : (start : Reach AccessFault) (buf : List ℕ) (host : Host B) → Wrote start start buf host host 0
  wrote_first start buf host = record { done = []; came = came_first start; writes = refl }

  pub wrote_more : {start left next : Reach AccessFault} {w : Window} {buf : List ℕ} {old mid : Host B} {total : ℕ}
      → Wrote start left buf old mid total → Gave left next w → (new : Host B) (len : ℕ) → len ≡ w.size
      → span start.windows ≤ length buf → Writes marks (w ∷ []) (take (total + len - total) (drop total buf)) mid new
      → Wrote start next buf old new (total + len)
  wrote_more {start} {left} {next} {w} {buf} {old} {mid} {total} wrote gives new len len_is fits writes =
      let done = wrote.done in
      let n = span done in
      let count = wrote.came.count in
      let inside = came-fits wrote.came gives.windows (length buf) fits in
      let enough : n ≤ length buf = omega arith in
      let all : take n buf ++ drop n buf ≡ buf = take-append-drop n buf in
      let long : total + len - total ≡ span (w ∷ []) = let one = span-one w in omega arith in
      let taken : take (total + len - total) (drop total buf) ≡ take (span (w ∷ [])) (drop n buf) =
      ap₂ (λ (k t : ℕ). take k (drop t buf)) long count in
      let here : Writes marks (w ∷ []) (drop n buf) mid new =
      Writes-from_take marks (w ∷ []) (drop n buf) mid new
      (subst (λ (bs : List ℕ). Writes marks (w ∷ []) bs mid new) taken writes) in
      let both = Writes-append marks done (w ∷ []) (take n buf) (drop n buf) old mid new (length-take-le n buf enough)
      (Writes-take marks done buf old mid wrote.writes) here in
      record {
        done = done ++ w ∷ [];
        came = came_more wrote.came gives len len_is;
        writes = subst (λ (bs : List ℕ). Writes marks (done ++ w ∷ []) bs old new) all both;
      }

  -- the window that comes next is held
  pub wrote-held : {start left : Reach AccessFault} {w : Window} {item : Result Window GuestMemoryError}
      {items : List (Result Window GuestMemoryError)} {buf : List ℕ} {old now : Host B} {total : ℕ}
      → Wrote start left buf old now total → items_of left ≡ item ∷ items → item ≡ Ok w
      → AllByRecursion (λ v. Holds (shape_of old) (window_names v)) start.windows
      → Holds (shape_of now) (window_names w)
  wrote-held {start} {left} {w} {item} {items} {buf} {old} {now} wrote gives is held =
      subst (λ (shape : Shape). Holds shape (window_names w))
      (sym (shape_of-Writes marks wrote.done buf old now wrote.writes))
      (next_all wrote.came gives is (λ v. Holds (shape_of old) (window_names v)) held)

  -- at the end all windows are written
  pub wrote-ends : {start left : Reach AccessFault} {buf : List ℕ} {old now : Host B} {total : ℕ}
      {error : Option GuestMemoryError} → Wrote start left buf old now total → Ends left error → Writes marks
      start.windows buf old now
  wrote-ends {start} {left} {buf} {old} {now} wrote ends =
      subst (λ (ws : List Window). Writes marks ws buf old now) (sym (came-done wrote.came ends)) wrote.writes

-- a read came so far: the buffer has the bytes of the windows that are done
pub record Filled (start left : Reach AccessFault) (blocks : List (List ℕ)) (old now : List ℕ)
    (total : ℕ) : Type 0 where
  pub done : List Window
  pub came : Came start left done total
  pub fills : now ≡ filled_buffer blocks (cells done) old

pub filled_first : (start : Reach AccessFault) (blocks : List (List ℕ)) (buf : List ℕ)
    → Filled start start blocks buf buf 0
filled_first start blocks buf = record { done = []; came = came_first start; fills = refl }

pub filled-more : {start left next : Reach AccessFault} {w : Window} {blocks : List
    (List ℕ)} {old mid : List ℕ} {total : ℕ} → Filled start left blocks old mid total → Gave left next w
    → (bytes : List ℕ) (len : ℕ) → len ≡ w.size → bytes ≡ bytes_at blocks (cells_of w)
    → Filled start next blocks old (put_mid total (total + len - total) mid bytes) (total + len)
filled-more {start} {left} {next} {w} {blocks} {old} {mid} {total} so_far gives bytes len len_is bytes_are =
    let done = so_far.done in
    let count : total ≡ length (cells done) = so_far.came.count ∙ sym (length-cells done) in
    let all : cells (done ++ w ∷ []) ≡ cells done ++ cells_of w =
    cells-append done (w ∷ []) ∙ ap (λ (cs : List Cell). cells done ++ cs) (cells-one w) in
    let long : total + len - total ≡ length (cells_of w) = let one = length-cells_from w.block.0 w.offset w.size in
    omega arith in
    let placed : put_mid total (total + len - total) mid bytes ≡ take (length (cells done)) mid
    ++ (bytes_at blocks (cells_of w) ++ drop (length (cells_of w)) (drop (length (cells done)) mid)) =
    rw (long, bytes_are, count) refl in
    record {
      done = done ++ w ∷ [];
      came = came_more so_far.came gives len len_is;
      fills = placed ∙ filled_more blocks (cells done) (cells_of w) old mid so_far.fills
          ∙ ap (λ (cs : List Cell). filled_buffer blocks cs old) (sym all);
    }

-- a part of a buffer is as long as the bytes that come into it
pub length-part : (buf bytes : List ℕ) (total len : ℕ) → total + len ≤ length buf → length bytes ≡ len
    → length (take (total + len - total) (drop total buf)) ≡ length bytes
length-part buf bytes total len fits same =
    let rest = length-drop total buf in
    let enough : total + len - total ≤ length (drop total buf) = omega arith in
    let long = length-take-le (total + len - total) (drop total buf) enough in
    omega arith

-- a buffer has the bytes of windows
abbrev pub FilledBy : {B : Type 0} → Host B → List ℕ → List ℕ → List Window → Type 0
FilledBy host old new ws = new ≡ filled_buffer host.blocks (cells ws) old

-- at the end all windows are read
pub filled-ends : {start left : Reach AccessFault} {blocks : List
    (List ℕ)} {old now : List ℕ} {total : ℕ} {error : Option GuestMemoryError} → Filled start left blocks old now total
    → Ends left error → now ≡ filled_buffer blocks (cells start.windows) old
filled-ends {start} {left} {blocks} {old} {now} so_far ends =
    subst (λ (ws : List Window). now ≡ filled_buffer blocks (cells ws) old)
    (sym (came-done so_far.came ends)) so_far.fills

none_reached : windows [] ≡ []
unfolding stretches
none_reached = refl

-- an access that is refused reaches nothing
pub accessed-refused : (memory : Memory) (tables : List Table) (a n : ℕ) (access : Permissions) (e : GuestMemoryError)
    → RefusesAccess memory tables a n access e
    → told error_of (reached memory tables a n access) ≡ record { windows = []; fault = Some e }
accessed-refused memory tables a n access e refused = rw (refused.0, refused.1, none_reached) refl

route_held : (shape : Shape) (iommu : Option Switched) (tables : List Table) → Holds shape (switched_names iommu)
    → Holds shape (route_names (route_behind (behind_of iommu) tables))
route_held shape None tables h = tt
route_held shape (Some s) tables h = go s.on
  where
    go : (on : Bool) → Holds shape (route_names (route_behind (behind_if on s.behind) tables))
    go false = tt
    go true = (h.1.0, tt)

-- a host that holds a memory holds the windows of its accesses
reached-held : (shape : Shape) (memory : Memory) (tables : List Table) (a n : ℕ) (access : Permissions)
    → All IsRegion memory.regions → Holds shape (memory_names memory)
    → AllByRecursion (λ w. Holds shape (window_names w)) (reached memory tables a n access).windows
reached-held shape memory tables a n access each held =
    let way = route memory tables in
    let regions = memory.regions in
    let parts = Holds-parts shape _ (switched_names memory.iommu) held in
    cond_both (allowed way a n access)
    (record { path = path (meets regions way a) 0 n; fault = first_fault (meets regions way a) 0 n })
    (record { path = []; fault = Some (refusal way a n) })
    (λ (x : Access). AllByRecursion (λ w. Holds shape (window_names w)) (windows x.path))
    (λ h. windows-held shape regions way a n each parts.0 (route_held shape memory.iommu tables parts.1))
    (λ h. subst (AllByRecursion (λ w. Holds shape (window_names w))) (sym none_reached) tt)

-- an access reaches at most what was asked
reached-fits : (memory : Memory) (tables : List Table) (a n : ℕ) (access : Permissions)
    → span (reached memory tables a n access).windows ≤ n
reached-fits memory tables a n access =
    let x = access_of memory.regions (route memory tables) a n access in
    let whole = span-windows x.path in
    let most = length-access memory.regions (route memory tables) a n access in
    omega arith

-- a count that is answered is at most what was asked
counted-at_most : {E : Type 0} (k : ℕ) (fault : Option E) (n : ℕ) (r : Result ℕ E) → r ≡ ended k fault → k ≤ n
    → IfOk r (λ count. count ≤ n)
counted-at_most k fault n (Err e) is most = tt
counted-at_most k None n (Ok count) is most = let same : count ≡ k = cc in omega arith
counted-at_most k (Some e) n (Ok count) is most = grind (arith, nat_tests)

-- an outcome that is what was expected, with its effect
pub outcome : {T E : Type 0} (memory : E) (may_want : Type 0) (r expected : Result T E) (unchanged effect : Type 0)
    → r ≡ expected → effect → Outcome memory may_want expected unchanged effect r
outcome memory may_want (Ok value) expected unchanged effect is done = (is, done)
outcome memory may_want (Err e) expected unchanged effect is done = inr (is, done)

-- the walk of an access
module _ (memory : Memory) (tables : List Table) (a n : ℕ) (access : Permissions) (walk : Reach AccessFault)
    (gives : GivesAccess memory tables a n access walk) where
  -- a host that holds the memory holds its windows
  pub walk-held : (shape : Shape) (names : List Name) → All IsRegion memory.regions → names ≡ memory_names memory
      → Holds shape names → AllByRecursion (λ w. Holds shape (window_names w)) walk.windows
  walk-held shape names each is held =
      rw gives.1 (reached-held shape memory tables a n access each (subst (Holds shape) is held))

  -- they have at most the bytes that were asked for
  pub walk-fits : span walk.windows ≤ n
  walk-fits = rw gives.1 (reached-fits memory tables a n access)

  -- what it reached is what the access does
  pub outcome-walk : (r : Result ℕ GuestMemoryError) (unchanged : Type 0) (Effect : List Window → Type 0)
      → r ≡ ended (span walk.windows) (option_map error_of walk.fault) → Effect walk.windows
      → let x = told error_of (reached memory tables a n access) in
      Outcome errors.Memory (NeedsPieces memory tables a n access) (ended (span x.windows) x.fault) unchanged
      (Effect x.windows) r
  outcome-walk r unchanged Effect answer done =
      let x = told error_of (reached memory tables a n access) in
      outcome errors.Memory (NeedsPieces memory tables a n access) r (ended (span x.windows) x.fault) unchanged
      (Effect x.windows)
      (subst (λ (y : Reach AccessFault). r ≡ ended (span y.windows) (option_map error_of y.fault)) gives.1 answer)
      (subst (λ (y : Reach AccessFault). Effect y.windows) gives.1 done)

  -- and the count is at most what was asked
  pub at_most-walk : (r : Result ℕ GuestMemoryError)
      → r ≡ ended (span walk.windows) (option_map error_of walk.fault) → IfOk r (λ count. count ≤ n)
  at_most-walk r answer = counted-at_most (span walk.windows) (option_map error_of walk.fault) n r answer walk-fits

-- the outcome of an access without a walk
pub outcome-refused : (memory : Memory) (tables : List Table) (a n : ℕ) (access : Permissions) (unchanged : Type 0)
    (Effect : List Window → Type 0) (e : GuestMemoryError)
    → (WantsMemory memory tables a n access e ⊎ RefusesAccess memory tables a n access e) → unchanged → Effect []
    → let x = told error_of (reached memory tables a n access) in
    Outcome {T = ℕ} errors.Memory (NeedsPieces memory tables a n access) (ended (span x.windows) x.fault) unchanged
    (Effect x.windows) (Err e)
outcome-refused memory tables a n access unchanged Effect e why kept done = elim why [
  | inl wanted ↦ inl (wanted.0, wanted.1, kept)
  | inr refused ↦
      let x = told error_of (reached memory tables a n access) in
      let is = accessed-refused memory tables a n access e refused in
      inr (
        subst (λ (r : Reach GuestMemoryError). Err e ≡ ended (span r.windows) r.fault) (sym is) refl,
        subst (λ (y : Reach GuestMemoryError). Effect y.windows) (sym is) done,
      )
]

-- what holds of each walk that an access gives holds of the walk in an answer
pub of_given : (G P : Reach AccessFault → Type 0) (R : GuestMemoryError → Type 0)
    (r : Result (Reach AccessFault) GuestMemoryError)
    → MatchResult r G R → ((walk : Reach AccessFault) → G walk → P walk) → IfOk r P
of_given G P R (Ok walk) gives all = all walk gives
of_given G P R (Err e) gives all = tt

-- what a walk gave first
pub gave-window : (walk next : Reach AccessFault) (w : Window) → items_of walk ≡ Ok w ∷ items_of next
    → walk.windows ≡ w ∷ next.windows
gave-window walk next w gives = (gave walk next (Ok w) w gives refl).windows

pub gave-error : (walk next : Reach AccessFault) (e : GuestMemoryError) → items_of walk ≡ Err e ∷ items_of next
    → walk.windows ≡ []
gave-error walk next e gives = (ends_in walk (Err e) e (items_of next) gives refl).windows

pub gave-none : (walk : Reach AccessFault) → items_of walk ≡ [] → walk.windows ≡ []
gave-none walk gives = (ends_whole walk gives).windows

-- the windows that come first are told without the error after them
pub windows_before-more : (walk next : Reach AccessFault) (w : Window) → items_of walk ≡ Ok w ∷ items_of next
    → Ok (w ∷ next.windows) ≡ windows_before walk.windows walk.fault
windows_before-more walk next w gives = rw (gave-window walk next w gives) (before next.windows walk.fault)
  where
    before : (ws : List Window) (o : Option AccessFault) → Ok (w ∷ ws) ≡ windows_before (w ∷ ws) o
    before ws None = refl
    before ws (Some fault) = refl

pub stops-told : (o : Option AccessFault) (e : GuestMemoryError) → option_map error_of o ≡ Some e → false ≡ is_none o
stops-told None e is = absurd (cc)
stops-told (Some fault) e is = refl

pub ends-told : (o : Option AccessFault) → option_map error_of o ≡ None → true ≡ is_none o
ends-told None is = refl
ends-told (Some fault) is = absurd (cc)
