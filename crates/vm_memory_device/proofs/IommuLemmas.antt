-- Memory behind an IOMMU: what a host holds of it, and its accesses.
use Rattle.std.proofs.Common.{◌≡◌, ℕ, ◌<◌, length, Bool, true, List, [], ◌∷◌, ◌++◌, map, slice_get, Option, Some, IsSome, refl, sym, ap, subst, inl, inr, ◌⊎◌, ◌∙◌}
use Rattle.vm_memory_base.proofs.TableLaws.{is_allowed-each, same_mapping_tests_equality}
use Rattle.vm_memory_base.specs.Lookup.{Translates, RefusesTranslation}
use Rattle.vm_memory_base.specs.Table.{Table, pieces, says}
use Rattle.vm_memory_base.specs.declared.iotlb.IommuError.{IommuError}
use Rattle.vm_memory_base.specs.declared.iotlb.Permissions.{Permissions}
use Rattle.vm_memory_base.specs.declared.iotlb.lookup.MappedRange.{MappedRange}
use Rattle.vm_memory_guest.specs.Access.{AccessFault, access_of, allowed, refusal}
use Rattle.vm_memory_guest.specs.Answer.{Reach}
use Rattle.vm_memory_guest.specs.Error.{error_of}
use Rattle.vm_memory_guest.specs.Host.{Shape, Name, Space, Holds}
use Rattle.vm_memory_guest.specs.Memory.{Route, Through, behind_if, says_of, route, route_behind}
use Rattle.vm_memory_guest.specs.Pieces.{marking, walk_of_pieces}
use Rattle.vm_memory_guest.specs.Region.{Region}
use Rattle.vm_memory_guest.specs.Walk.{reach_of, GivesAccess, IsSplit, RefusesAccess, WantsMemory}
use Rattle.vm_memory_guest.specs.declared.region.error.GuestMemoryError.{GuestMemoryError}
use Rattle.vm_memory_guest.proofs.HoldsLemmas.{Holds-left, Holds-right}
use Rattle.vm_memory_guest.proofs.PieceLemmas.{pieces-access}
use Rattle.vm_memory_device.specs.Iommu.{behind, of_translation}

-- a host that holds what a memory behind an IOMMU names holds what its backend and its IOMMU name
module _ (shape : Shape) (backend iommu : List Name) (space : ℕ) where
  abbrev AreHeld : Type 0
  AreHeld = Holds shape (backend ++ (iommu ++ Space space ∷ []))

  pub backend-held : AreHeld → Holds shape backend
  backend-held h = Holds-left shape backend (iommu ++ Space space ∷ []) h

  pub iommu-held : AreHeld → Holds shape iommu
  iommu-held h = Holds-left shape iommu (Space space ∷ []) (Holds-right shape backend (iommu ++ Space space ∷ []) h)

module _ {R : Type 0} (region : R → Region) (rs : List R) (table space : ℕ) (on : Bool) (is_on : on ≡ true)
    (tables : List Table) (t : Table) (there : slice_get tables table ≡ Some t) (a n : ℕ) (access : Permissions) where
  route-on : route (behind (map region rs) table space on) tables ≡ Through (says t) space
  route-on =
      ap (λ (b : Bool). route_behind (behind_if b (record { table = table; space = space })) tables) is_on
      ∙ ap (λ (o : Option Table). Through (says_of o) space) there

  split-on : 1 < length (pieces (says t) a n) → IsSplit (route (behind (map region rs) table space on) tables) a n
  unfolding IsSplit
  split-on more = rw route-on more

  pub gives-on : (found : List MappedRange) → Translates (says t) a n access found
      → (walk : Reach AccessFault) → walk ≡ marking space a (walk_of_pieces (map region rs) found)
      → GivesAccess (behind (map region rs) table space on) tables a n access walk
  gives-on found gives walk is = (
    ap (λ (w : Route). allowed w a n access) route-on ∙ gives.0,
    is ∙ (ap (λ (ps : List MappedRange). marking space a (walk_of_pieces (map region rs) ps)) gives.1
        ∙ (pieces-access same_mapping_tests_equality is_allowed-each (map region rs) (says t) space a n access gives.0
        ∙ sym (ap (λ (w : Route). reach_of (access_of (map region rs) w a n access)) route-on))),
  )

  pub fails-on : (e : IommuError) → RefusesTranslation (says t) a n access e
      → (d : GuestMemoryError) → d ≡ of_translation e
      → WantsMemory (behind (map region rs) table space on) tables a n access d
      ⊎ RefusesAccess (behind (map region rs) table space on) tables a n access d
  fails-on e (inl (may, some, want)) d is = inl (
    is ∙ ap of_translation want,
    (
      subst (λ (b : Bool). IsSome (behind_if b (record { table = table; space = space }))) (sym is_on) refl,
      split-on some,
      ap (λ (w : Route). allowed w a n access) route-on ∙ may,
    ),
  )
  fails-on e (inr refused) d is = inr (
    ap (λ (w : Route). allowed w a n access) route-on ∙ refused.0,
    is ∙ ap of_translation refused.1 ∙ sym (ap (λ (w : Route). error_of (refusal w a n)) route-on),
  )
