-- What accesses reach through a table that calls changed.
use Rattle.std.proofs.Common.{◌≡◌, ◌↔◌, ◌⊎◌, Bool, true, false, cond, ℕ, zero, suc, ◌+◌, ◌-◌, ◌^◌, ◌<◌}
use Rattle.std.proofs.Common.{◌≤◌, List, [], ◌∷◌, ◌++◌, Option, Some, None, All, refl, sym, ap, subst}
use Rattle.std.proofs.Common.{◌∙◌, inl, inr, arith, zero-add, add-zero, slice_get}
use Rattle.std.proofs.lemmas.Bool.{cond-true, leb-true, and_parts}
use Rattle.std.proofs.lemmas.Bool.{true≢false}
use Rattle.std.proofs.lemmas.Option.{none-some, same_Some}
use Rattle.vm_memory_base.specs.Address.{step, difference}
use Rattle.vm_memory_base.specs.Permissions.{allow}
use Rattle.vm_memory_base.specs.Table as table
use Rattle.vm_memory_base.specs.Table.{Mapping, target, Says, TableEvent, covers, says_after, says_after_all, Table}
use Rattle.vm_memory_base.specs.Table.{says, changed_by, events_of, grants, is_allowed}
use Rattle.vm_memory_base.specs.declared.iotlb.Permissions.{Permissions}
use Rattle.vm_memory_guest.specs.Access.{Reached, Meets, Reaches, Stops, meets_at, meets, onto, path, first_fault}
use Rattle.vm_memory_guest.specs.Access.{Access, refusal, access_of}
use Rattle.vm_memory_guest.specs.Memory.{Memory, Translation, behind_of, Route, Through, says_of, route_behind}
use Rattle.vm_memory_guest.specs.Region.{Region, Lies, Backed, Unbacked, Unmapped, cell}
use Rattle.vm_memory_device.specs.Reach.{GoesThrough, IsLast, reached_by}

-- ---- what an access meets behind a table

-- a byte of a path is what its number meets
path_at : (m : ℕ → Meets) (i n k : ℕ) (x : Reached) → slice_get (path m i n) k ≡ Some x
    → (k < n) × (m (i + k) ≡ Reaches x)
unfolding path
path_at m i zero k x there = absurd (none-some x there)
path_at m i (suc n) k x there = go (path_at m (i + 1) n) (m i) refl k there
  where
    shifted : (j : ℕ) → i + 1 + j ≡ i + suc j
    shifted j = omega arith

    go : ((j : ℕ) (y : Reached) → slice_get (path m (i + 1) n) j ≡ Some y → (j < n) × (m (i + 1 + j) ≡ Reaches y))
        → (o : Meets) → m i ≡ o → (k : ℕ) → slice_get (onto o (path m (i + 1) n)) k ≡ Some x
        → (k < suc n) × (m (i + k) ≡ Reaches x)
    go rest (Stops fault) e k there = absurd (none-some x there)
    go rest (Reaches y) e zero there =
        (omega arith, ap m (add-zero i) ∙ e ∙ ap (λ (z : Reached). Reaches z) (same_Some y x there))
    go rest (Reaches y) e (suc k) there =
        let h = rest k x there in (omega (arith, h.0), ap m (sym (shifted k)) ∙ h.1)

-- a byte that is reached behind a table: its mapping, and what lies at its physical address
met : (f : Says) (space y : ℕ) (said : Option Mapping) (p : ℕ) (l : Lies) (x : Reached)
    → meets_at (Through f space) y said p l ≡ Reaches x → (x.mapping ≡ said) × (l ≡ Backed x.region x.cell)
met f space y said p (Backed r c) x e = (cc, cc)
met f space y said p Unbacked x e = absurd (cc)
met f space y said p Unmapped x e = absurd (cc)

granted : (access : Permissions) (said : Option Mapping) → grants access said ≡ true
    → (mapping : Mapping) × (said ≡ Some mapping) × (allow mapping.permissions access ≡ true)
granted access None e = absurd (true≢false (sym e))
granted access (Some mapping) e = (mapping, refl, e)

-- what is taken from the laws of look-ups
abbrev pub GrantsWhereAllowed : Type 0
GrantsWhereAllowed = (f : Says) (a n : ℕ) (access : Permissions)
    → (is_allowed f a n access ≡ true)
    ↔ ((n ≡ 0) ⊎ ((a + n < 2 ^ 64) × ((x : ℕ) → a ≤ x → x < a + n → grants access (f x) ≡ true)))

module _ (grants_where_allowed : GrantsWhereAllowed) where
  -- byte k of an access behind a table
  goes_through : (regions : List Region) (f : Says) (space a n k : ℕ) (access : Permissions) (x : Reached)
      → slice_get (access_of regions (Through f space) a n access).path k ≡ Some x
      → (a + k < 2 ^ 64) × GoesThrough regions (a + k) (f (a + k)) access x
  goes_through regions f space a n k access x there = go (is_allowed f a n access) refl there
    where
      route : Route
      route = Through f space

      through : (k < n) × (meets regions route a k ≡ Reaches x)
          → (a + n < 2 ^ 64) × ((y : ℕ) → a ≤ y → y < a + n → grants access (f y) ≡ true)
          → (a + k < 2 ^ 64) × GoesThrough regions (a + k) (f (a + k)) access x
      through reached each = (
        omega (arith, reached.0, each.0),
        (let g = granted access (f (a + k)) (each.1 (a + k) (omega arith) (omega (arith, reached.0))) in
            let h = met f space (a + k) (f (a + k)) _ _ x reached.1 in
            record {
              mapping = g.0;
              is_said = g.1;
              is_taken = h.0 ∙ g.1;
              permits = g.2;
              lies_there = rw g.1 at h.1;
            }),
      )

      all : Access
      all = record { path = path (meets regions route a) 0 n; fault = first_fault (meets regions route a) 0 n }

      none : Access
      none = record { path = []; fault = Some (refusal route a n) }

      go : (b : Bool) → is_allowed f a n access ≡ b → slice_get (cond b all none).path k ≡ Some x
          → (a + k < 2 ^ 64) × GoesThrough regions (a + k) (f (a + k)) access x
      go false e there = absurd (none-some x there)
      go true e there =
          let reached = path_at (meets regions route a) 0 n k x there in
          let is : meets regions route a k ≡ Reaches x = ap (meets regions route a) (sym (zero-add k)) ∙ reached.1 in
          elim ((grants_where_allowed f a n access).0 e) [
            | inl empty ↦ absurd (omega (arith, reached.0, empty))
            | inr each ↦ through (reached.0, is) each
          ]

-- ---- what decides last

-- what is taken from the laws of calls
pub record CallLaws : Type 0 where
  pub changed : (calls : List TableEvent) (t : Table) (x : ℕ) → x < 2 ^ 64
      → says (changed_by calls t) x ≡ says_after_all (events_of calls t) x (says t x)
  pub last : (earlier later : List TableEvent) (call : TableEvent) (x : ℕ) (old : Option Mapping)
      → covers call x ≡ true → All (λ other. covers other x ≡ false) later
      → says_after_all (earlier ++ call ∷ later) x old ≡ says_after call x None
  pub none : (calls : List TableEvent) (x : ℕ) (old : Option Mapping)
      → All (λ call. covers call x ≡ false) calls → says_after_all calls x old ≡ old

module _ (laws : CallLaws) where
  last_says : (x : ℕ) (cs : List TableEvent) (call : TableEvent) (old : Option Mapping) → IsLast x cs call
      → says_after_all cs x old ≡ says_after call x None
  last_says x cs call old is =
      ap (λ (ds : List TableEvent). says_after_all ds x old) is.is_among
      ∙ laws.last is.earlier is.later call x old is.covers_it is.none_later

  pub changed_last : (calls : List TableEvent) (t : Table) (x : ℕ) (call : TableEvent) → x < 2 ^ 64
      → IsLast x (events_of calls t) call → says (changed_by calls t) x ≡ says_after call x None
  changed_last calls t x call fits is =
      laws.changed calls t x fits ∙ last_says x (events_of calls t) call (says t x) is

  pub unchanged : (calls : List TableEvent) (t : Table) (x : ℕ) → x < 2 ^ 64
      → All (λ call. covers call x ≡ false) (events_of calls t) → says (changed_by calls t) x ≡ says t x
  unchanged calls t x fits uncovered =
      laws.changed calls t x fits ∙ laws.none (events_of calls t) x (says t x) uncovered

  module _ (grants_where_allowed : GrantsWhereAllowed) where
    -- byte i of an access behind a table that these calls made
    pub through_changed : (tables : List Table) (m : Memory) (b : Translation) (t : Table) (calls : List TableEvent)
        (a n i : ℕ) (access : Permissions) (x : Reached) → behind_of m.iommu ≡ Some b
        → slice_get tables b.table ≡ Some (changed_by calls t)
        → slice_get (reached_by m tables a n access).path i ≡ Some x
        → (a + i < 2 ^ 64)
        × GoesThrough m.regions (a + i) (says_after_all (events_of calls t) (a + i) (says t (a + i))) access x
    through_changed tables m b t calls a n i access x on there reached =
        let at : Option Translation → Access = λ o. access_of m.regions (route_behind o tables) a n access in
        let behind = subst (λ (o : Option Translation). slice_get (at o).path i ≡ Some x) on reached in
        let h =
        goes_through grants_where_allowed m.regions (says_of (slice_get tables b.table)) b.space a n i access x behind
        in (
          h.0,
          subst (λ (o : Option Mapping). GoesThrough m.regions (a + i) o access x)
              (ap (λ (p : Option Table). says_of p (a + i)) there ∙ laws.changed calls t (a + i) h.0) h.1,
        )

    pub through_last : (tables : List Table) (m : Memory) (b : Translation) (t : Table) (calls : List TableEvent)
        (a n i : ℕ) (access : Permissions) (x : Reached) (call : TableEvent) → behind_of m.iommu ≡ Some b
        → slice_get tables b.table ≡ Some (changed_by calls t)
        → slice_get (reached_by m tables a n access).path i ≡ Some x → IsLast (a + i) (events_of calls t) call
        → (a + i < 2 ^ 64) × GoesThrough m.regions (a + i) (says_after call (a + i) None) access x
    through_last tables m b t calls a n i access x call on there reached is =
        let h = through_changed tables m b t calls a n i access x on there reached in (
          h.0,
          subst (λ (o : Option Mapping). GoesThrough m.regions (a + i) o access x)
              (last_says (a + i) (events_of calls t) call (says t (a + i)) is) h.1,
        )

-- through a range that was set, a byte is what lies as far after the range's target
pub through_a_set_range : ((iova to x : ℕ) (perm : Permissions) → iova < 2 ^ 64 → iova ≤ x
    → target x (record { difference = difference iova to; permissions = perm }) ≡ step to (x - iova))
    → (regions : List Region) (address iova to len : ℕ) (perm access : Permissions) (x : Reached) → address < 2 ^ 64
    → covers (table.Set iova to len perm) address ≡ true
    → GoesThrough regions address (says_after (table.Set iova to len perm) address None) access x
    → (allow perm access ≡ true) × (cell regions (step to (address - iova)) ≡ Backed x.region x.cell)
through_a_set_range targets regions address iova to len perm access x fits covered through =
    let made : Mapping = record { difference = difference iova to; permissions = perm } in
    let low = leb-true iova address (and_parts _ _ covered).0 in
    let is : through.mapping ≡ made =
    same_Some through.mapping made (sym through.is_said ∙ cond-true _ (Some made) None covered) in (
      ap (λ (q : Mapping). allow q.permissions access) (sym is) ∙ through.permits,
      ap (cell regions) (sym (ap (target address) is ∙ targets iova to address perm (omega (arith, low)) low))
          ∙ through.lies_there,
    )
