-- Where a queue writes its used ring, and where it finds the driver's index.
use Rattle.std.proofs.Common.{◌≡◌, ◌⊎◌, ◌∙◌, ℕ, ◌%◌, ◌==◌, ◌&&◌, Bool, true, false, if◌then◌else◌, List, [], ◌∷◌, Option, Some, None, option_map, Result, Ok, Err, All, IfOk, ap, inl, inr, refl, sym, subst}
use Rattle.std.proofs.lemmas.Bool.{eqb-true}
use Rattle.std.proofs.lemmas.List.Elements.{All-head}
use Rattle.std.specs.Int.{w16, from_le_bytes}
use Rattle.vm_memory_base.specs.declared.iotlb.Permissions.{Permissions}
use Rattle.vm_memory_base.specs.declared.iotlb.Permissions.TheVariants as permissions
use Rattle.vm_memory_guest.specs.Access.{Access, AccessFault, allowed, first_fault, meets, path, refusal, stretches}
use Rattle.vm_memory_guest.specs.Dirt.{path_cells}
use Rattle.vm_memory_guest.specs.Answer.{Reach}
use Rattle.vm_memory_guest.specs.Error.{error_of}
use Rattle.vm_memory_guest.specs.Host.{Host, bytes_at}
use Rattle.vm_memory_guest.specs.Memory.{Memory, Route, route}
use Rattle.vm_memory_guest.specs.Typed.{answered, first_aligned, place_of, typed_path}
use Rattle.vm_memory_guest.specs.Walk.{GivesAccess, RefusesAccess, WantsMemory, alone, items_of}
use Rattle.vm_memory_guest.specs.Window.{Window, cells_of}
use Rattle.vm_memory_guest.specs.declared.region.error.GuestMemoryError.{GuestMemoryError}
use Rattle.vm_memory_guest.specs.declared.region.error.GuestMemoryError.TheVariants.{InvalidBackendAddress}
use Rattle.virtio_queue.specs.Error.{of_access}
use Rattle.virtio_queue.specs.Fields.{Answers, MayWant, is_word, loaded, place, reached_at, told, window_at, word_at}
use Rattle.virtio_queue.specs.Rings.{and_then}
use Rattle.virtio_queue.specs.declared.error.QueueError.{QueueError}

-- ---- windows of walks

-- the first item of a walk is the first of its windows
pub first_given : (P : Window → Type 0) (ws : List Window) (fault : Option AccessFault) (w : Window)
    (rest : List (Result Window GuestMemoryError)) → items_of (record { windows = ws; fault = fault }) ≡ Ok w ∷ rest
    → All P ws → P w
first_given P [] None w rest is all = absurd (cc)
first_given P [] (Some fault) w rest is all = absurd (cc)
first_given P (v ∷ ws) fault w rest is all = let same : v ≡ w = cc in subst P same (All-head P v ws all)

-- the window of a number is one of those of its walk
pub first_kept : (P : Window → Type 0) (ws : List Window) (fault : Option GuestMemoryError) → All P ws
    → IfOk (told (first_aligned 2 ws fault)) P
first_kept P [] None all = tt
first_kept P [] (Some e) all = tt
first_kept P (w ∷ ws) fault all = go (is_word w)
  where
    go : (b : Bool) → IfOk (told (if b then Ok w else Err InvalidBackendAddress)) P
    go true = All-head P w ws all
    go false = tt

-- an access that is not allowed has no window
none_allowed : (way : Route) (a : ℕ) (b : Bool) (reached : Access) → b ≡ false
    → told (place_of 2 (if b then reached else record { path = []; fault = Some (refusal way a 2) }))
    ≡ Err (of_access (error_of (refusal way a 2)))
unfolding stretches
none_allowed way a true reached is = absurd (cc)
none_allowed way a false reached is = refl

-- the window of a number was refused by the translation, or an allocation failed
pub window_refused : {B : Type 0} (m : Memory) (host : Host B) (base offset a : ℕ) (access : Permissions)
    (p : Result ℕ QueueError) → p ≡ place base offset 2 → p ≡ Ok a → (e : GuestMemoryError)
    → (WantsMemory m host.tables a 2 access e ⊎ RefusesAccess m host.tables a 2 access e)
    → Answers (MayWant m host base offset 2 access) (window_at m host base offset access) (Err (of_access e))
window_refused m host base offset a access p placed at e (inl (is, needs)) =
    inr (ap (λ x. Err (of_access x)) is, (a, sym placed ∙ at, needs))
window_refused m host base offset a access p placed at e (inr (none, is)) =
    let way = route m host.tables in
    let reached : Access = record {
      path = path (meets m.regions way a) 0 2;
      fault = first_fault (meets m.regions way a) 0 2;
    } in
    let refused = none_allowed way a (allowed way a 2 access) reached none in
    let whole : window_at m host base offset access ≡ Err (of_access (error_of (refusal way a 2))) =
    rw (← placed, at) refused in
    inl (ap (λ x. Err (of_access x)) is ∙ sym whole)

-- the window of a number that was found at once
pub window_alone : {B : Type 0} (m : Memory) (host : Host B) (base offset a : ℕ) (access : Permissions)
    (p : Result ℕ QueueError) → p ≡ place base offset 2 → p ≡ Ok a → (w : Window)
    → GivesAccess m host.tables a 2 access (alone w) → is_word w ≡ true
    → Answers (MayWant m host base offset 2 access) (window_at m host base offset access) (Ok w)
window_alone m host base offset a access p placed at w (all, gives) word =
    let one : told (first_aligned 2 (w ∷ []) None) ≡ Ok w =
    ap (λ (b : Bool). told (if b then Ok w else Err InvalidBackendAddress)) word in
    let reached = ap (λ (r : Reach AccessFault).
    told (first_aligned 2 r.windows (option_map error_of r.fault))) gives in
    let whole : window_at m host base offset access ≡ Ok w = rw (← placed, at) (sym reached ∙ one) in
    inl (sym whole)

-- ---- places of rings

-- what was answered is what was expected
pub answer_is : {T : Type 0} (may_want : Type 0) (expected : Result T QueueError) (x : T)
    → Answers may_want expected (Ok x) → expected ≡ Ok x
answer_is may_want expected x (inl is) = sym is
answer_is may_want expected x (inr (is, wants)) = absurd (cc)

-- a window does not depend on bytes
pub window_stays : {B : Type 0} (m : Memory) (old new : Host B) (base offset : ℕ) (w : Window)
    → new.tables ≡ old.tables → (access : _) → window_at m old base offset access ≡ Ok w
    → window_at m new base offset access ≡ Ok w
window_stays m old new base offset w tables access is = rw tables is

-- the number in a window is the one that is loaded there
module _ {B : Type 0} (m : Memory) (host : Host B) (base offset : ℕ) (w : Window)
    (loads : (a : ℕ) → let x = reached_at m host a 2 permissions.Read in
    answered (λ w. bytes_at host.blocks (cells_of w)) (place_of 2 x)
    ≡ answered (λ xs. bytes_at host.blocks (path_cells xs)) (typed_path 2 x)) where
  found : (r : Result Window GuestMemoryError) (s : Result (List ℕ) GuestMemoryError)
      → answered (λ w. bytes_at host.blocks (cells_of w)) r ≡ s → told r ≡ Ok w
      → told (answered (from_le_bytes w16) s) ≡ Ok (from_le_bytes w16 (bytes_at host.blocks (cells_of w)))
  found (Ok v) s same is = let one : v ≡ w = cc in
      ap (λ t. told (answered (from_le_bytes w16) t)) (sym same)
      ∙ ap (λ (u : Window). Ok (from_le_bytes w16 (bytes_at host.blocks (cells_of u)))) one
  found (Err e) s same is = absurd (cc)

  pub word_in_window : window_at m host base offset permissions.Read ≡ Ok w
      → word_at m host base offset ≡ Ok (from_le_bytes w16 (bytes_at host.blocks (cells_of w)))
  word_in_window is = go (place base offset 2) is
    where
      go : (p : Result ℕ QueueError)
          → and_then p (λ a. told (place_of 2 (reached_at m host a 2 permissions.Read))) ≡ Ok w
          → and_then p (λ a. told (answered (from_le_bytes w16) (loaded m host a 2)))
          ≡ Ok (from_le_bytes w16 (bytes_at host.blocks (cells_of w)))
      go (Ok a) is = found (place_of 2 (reached_at m host a 2 permissions.Read)) (loaded m host a 2) (loads a) is
      go (Err e) is = absurd (cc)

pub word_size : (w : Window) → is_word w ≡ true → w.size ≡ 2
word_size w is = go (w.size == 2) refl is
  where
    go : (b : Bool) → (w.size == 2) ≡ b → (b && w.offset % 2 == 0) ≡ true → w.size ≡ 2
    go true e is = eqb-true w.size 2 e
    go false e is = absurd (cc)
