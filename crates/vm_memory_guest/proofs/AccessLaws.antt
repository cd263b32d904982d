-- An access of guest memory, and its bytes one after the other.
use Rattle.std.proofs.Common.{◌≡◌, ℕ, ◌+◌, ◌^◌, ◌<◌, ◌≤◌, ◌↔◌, ◌⊎◌, Bool, true, false, cond, List, [], length, take, Some, inl, inr, refl, sym, ap, ◌∙◌, subst, arith, zero-add}
use Rattle.std.proofs.lemmas.List.Elements.{All-from_recursion, All-nil}
use Rattle.std.proofs.lemmas.Option.{MatchOption-at_some}
use Rattle.std.specs.List.{All, AllByRecursion}
use Rattle.vm_memory_base.specs.Table.{Says, grants, is_allowed}
use Rattle.vm_memory_base.specs.declared.iotlb.Permissions.{Permissions}
use Rattle.vm_memory_guest.specs.Host.{bytes_at}
use Rattle.vm_memory_guest.specs.Region.{Region, IsRegion}
use Rattle.vm_memory_guest.specs.Memory.{Route, Direct, Through}
use Rattle.vm_memory_guest.specs.Access.{Reached, Access, AccessFault, Meets, Stops, meets, path, first_fault, windows, stretches, allowed, refusal, access_of}
use Rattle.vm_memory_guest.specs.Answer.{filled_buffer}
use Rattle.vm_memory_guest.specs.Dirt.{path_cells}
use Rattle.vm_memory_guest.proofs.DirtLaws.{MarksFollow}
use Rattle.vm_memory_guest.specs.Window.{cells}
use Rattle.vm_memory_guest.proofs.PathWalk.{path-none}
use Rattle.vm_memory_guest.proofs.PathLaws.{path-ends, span-windows, cells-windows, marks-windows, windows-bases_direct, windows-bases_through}
use Rattle.vm_memory_guest.proofs.WrittenLaws.{take-filled, length-cells}

-- a path of no byte
follows-none : MarksFollow []
unfolding stretches
follows-none = record { same = refl; fit = All-nil (λ w. w.bitmap.base + w.size ≤ 2 ^ 64) }

cells-none : cells (windows []) ≡ path_cells []
unfolding stretches
cells-none = refl

-- what holds of the paths of either is true of the one that is chosen
chosen : (P : List Reached → Type 0) (b : Bool) (x y : Access)
    → (b ≡ true → P x.path) → (b ≡ false → P y.path) → P (cond b x y).path
chosen P true x y t f = t refl
chosen P false x y t f = f refl

-- what is taken from the laws of tables: an access that is allowed is empty, or it ends at an address and each
-- address grants it
abbrev pub AllowedWhereGranted : Type 0
AllowedWhereGranted = (f : Says) (a n : ℕ) (access : Permissions) → (is_allowed f a n access ≡ true)
    ↔ ((n ≡ 0) ⊎ ((a + n < 2 ^ 64) × ((x : ℕ) → a ≤ x → x < a + n → grants access (f x) ≡ true)))

module _ (regions : List Region) (each : All IsRegion regions) (a n : ℕ) where
  follows_within : (route : Route)
      → AllByRecursion (λ w. w.bitmap.base + w.size ≤ 2 ^ 64) (windows (path (meets regions route a) 0 n))
      → MarksFollow (path (meets regions route a) 0 n)
  follows_within route fit = record {
    same = sym (marks-windows regions route a n each);
    fit = All-from_recursion (λ w. w.bitmap.base + w.size ≤ 2 ^ 64) (windows (path (meets regions route a) 0 n)) fit;
  }

  module _ (granted : AllowedWhereGranted) where
    -- the marks of an allowed access follow its bytes
    follows-path : (route : Route) (access : Permissions) → allowed route a n access ≡ true
        → MarksFollow (path (meets regions route a) 0 n)
    follows-path Direct access ok = follows_within Direct (windows-bases_direct regions a n each)
    follows-path (Through f space) access ok = elim ((granted f a n access).0 ok) [
      | inl none ↦
          let empty = ap (path (meets regions (Through f space) a) 0) none
          ∙ path-none (meets regions (Through f space) a) 0 in
          subst MarksFollow (sym empty) follows-none
      | inr some ↦
          let below : a + n < 2 ^ 64 = some.0 in
          follows_within (Through f space) (windows-bases_through regions f space a n each (omega arith))
    ]

    pub follows-access : (route : Route) (access : Permissions) → MarksFollow (access_of regions route a n access).path
    follows-access route access = chosen MarksFollow (allowed route a n access)
        (record { path = path (meets regions route a) 0 n; fault = first_fault (meets regions route a) 0 n })
        (record { path = []; fault = Some (refusal route a n) })
        (follows-path route access) (λ no. follows-none)

  pub cells-access : (route : Route) (access : Permissions)
      → cells (windows (access_of regions route a n access).path) ≡ path_cells (access_of regions route a n access).path
  cells-access route access = chosen (λ xs. cells (windows xs) ≡ path_cells xs) (allowed route a n access)
      (record { path = path (meets regions route a) 0 n; fault = first_fault (meets regions route a) 0 n })
      (record { path = []; fault = Some (refusal route a n) })
      (λ yes. cells-windows regions route a n each) (λ no. cells-none)

-- what comes to a buffer from the windows of a path are the bytes in its cells
pub take-filled_path : (xs : List Reached) (blocks : List (List ℕ)) (buffer : List ℕ)
    → cells (windows xs) ≡ path_cells xs
    → take (length xs) (filled_buffer blocks (cells (windows xs)) buffer) ≡ bytes_at blocks (path_cells xs)
take-filled_path xs blocks buffer same =
    let count : length xs ≡ length (cells (windows xs)) = sym (length-cells (windows xs) ∙ span-windows xs) in
    ap (λ (k : ℕ). take k (filled_buffer blocks (cells (windows xs)) buffer)) count
    ∙ (take-filled blocks (cells (windows xs)) buffer ∙ ap (bytes_at blocks) same)

-- what stops a path is what its next byte meets
stopped : (m : ℕ → Meets) (n : ℕ) (fault : AccessFault) → first_fault m 0 n ≡ Some fault
    → m (length (path m 0 n)) ≡ Stops fault
stopped m n fault e =
    let ends = MatchOption-at_some (length (path m 0 n) ≡ n)
    (λ f. (length (path m 0 n) < n) × (m (0 + length (path m 0 n)) ≡ Stops f)) fault e (path-ends m 0 n) in
    subst (λ (k : ℕ). m k ≡ Stops fault) (zero-add (length (path m 0 n))) ends.1

pub stopped-access : (regions : List Region) (route : Route) (a n : ℕ) (access : Permissions) (fault : AccessFault)
    → allowed route a n access ≡ true → (access_of regions route a n access).fault ≡ Some fault
    → meets regions route a (length (access_of regions route a n access).path) ≡ Stops fault
stopped-access regions route a n access fault ok e =
    let reached = λ (b : Bool). cond {A = Access} b
    (record { path = path (meets regions route a) 0 n; fault = first_fault (meets regions route a) 0 n })
    (record { path = []; fault = Some (refusal route a n) }) in
    let here : first_fault (meets regions route a) 0 n ≡ Some fault =
    subst (λ (b : Bool). (reached b).fault ≡ Some fault) ok e in
    subst (λ (b : Bool). meets regions route a (length (reached b).path) ≡ Stops fault) (sym ok)
    (stopped (meets regions route a) n fault here)
