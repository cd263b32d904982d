-- Accesses that lie in one window.
use Rattle.std.specs.Prelude.{is_none}
use Rattle.std.proofs.Common.{◌≡◌, ℕ, ◌+◌, ◌-◌, ◌%◌, ◌<◌, ◌≤◌, ◌&&◌, ◌==◌, true, List, [], ◌∷◌, ◌++◌, drop, length, All, Option, Some, None, option_map, MatchOption, IfSome, Result, Ok, Err, refl, sym, ap, subst, ◌∙◌, append-nil, arith}
use Rattle.std.proofs.lemmas.Bool.Decides.{nat_tests}
use Rattle.std.proofs.lemmas.List.{drop_all}
use Rattle.vm_memory_base.specs.Table.{Table}
use Rattle.vm_memory_base.specs.declared.iotlb.Permissions.{Permissions}
use Rattle.vm_memory_guest.specs.Access.{AccessFault, Access, access_of, windows}
use Rattle.vm_memory_guest.specs.Answer.{Reach, filled_buffer}
use Rattle.vm_memory_guest.specs.Error.{error_of}
use Rattle.vm_memory_guest.specs.Host.{Shape, Name, Holds, bytes_at}
use Rattle.vm_memory_guest.specs.Memory.{Memory, memory_names, route}
use Rattle.vm_memory_guest.specs.Queries.{is_whole}
use Rattle.vm_memory_guest.specs.Region.{IsRegion}
use Rattle.vm_memory_guest.specs.Transfer.{all_of, ended}
use Rattle.vm_memory_guest.specs.Typed.{first_aligned, place_of}
use Rattle.vm_memory_guest.specs.Walk.{GivesAccess, alone, items_of, reached}
use Rattle.vm_memory_guest.specs.Window.{Window, cells, cells_of, span, window_names}
use Rattle.vm_memory_guest.specs.declared.region.error.GuestMemoryError.{GuestMemoryError}
use Rattle.vm_memory_guest.specs.declared.region.error.GuestMemoryError.TheVariants as errors
use Rattle.vm_memory_guest.proofs.AccessLemmas.{walk-held}
use Rattle.vm_memory_guest.proofs.HostLemmas.{length-bytes, span-one}
use Rattle.vm_memory_guest.proofs.PathLaws.{access-ends, span-windows}
use Rattle.vm_memory_guest.proofs.QueryLemmas.{whole-access}
use Rattle.vm_memory_guest.proofs.WrittenLaws.{cells-one, length-cells_from}

-- a walk that gives one window and nothing else
pub alone-items : (ws : List Window) (o : Option AccessFault) (w : Window)
    → items_of (record { windows = ws; fault = o }) ≡ Ok w ∷ [] → record { windows = ws; fault = o } ≡ alone w
alone-items [] None w is = absurd (cc)
alone-items [] (Some f) w is = absurd (cc)
alone-items (v ∷ []) None w is = let same : v ≡ w = cc in ap alone same
alone-items (v ∷ []) (Some f) w is = absurd (cc)
alone-items (v ∷ u ∷ ws) None w is = absurd (cc)
alone-items (v ∷ u ∷ ws) (Some f) w is = absurd (cc)

-- what reaches all of n bytes, if nothing stops it
none-stops : (o : Option AccessFault) (len n : ℕ) → MatchOption o (len ≡ n) (λ fault. len < n) → None ≡ o → len ≡ n
none-stops None len n ends none = ends
none-stops (Some f) len n ends none = absurd (cc)

module _ (memory : Memory) (tables : List Table) (a n : ℕ) (access : Permissions) (w : Window)
    (gives : GivesAccess memory tables a n access (alone w)) where
  -- it has all bytes of the access
  pub size-alone : w.size ≡ n
  size-alone =
      let x = access_of memory.regions (route memory tables) a n access in
      let none : None ≡ x.fault = ap (λ (r : Reach AccessFault). r.fault) gives.1 in
      let is : w ∷ [] ≡ windows x.path = ap (λ (r : Reach AccessFault). r.windows) gives.1 in
      sym (span-one w) ∙ ap span is ∙ span-windows x.path
      ∙ none-stops x.fault (length x.path) n (access-ends memory.regions (route memory tables) a n access) none

  pub whole-alone : true ≡ is_whole (access_of memory.regions (route memory tables) a n access).path n
  whole-alone =
      let x = access_of memory.regions (route memory tables) a n access in
      let none : None ≡ x.fault = ap (λ (r : Reach AccessFault). r.fault) gives.1 in
      ap (λ (o : Option AccessFault). is_none o) none ∙ whole-access memory.regions (route memory tables) a n access

  pub held-alone : (shape : Shape) (names : List Name) → All IsRegion memory.regions → names ≡ memory_names memory
      → Holds shape names → Holds shape (window_names w)
  held-alone shape names each is held =
      let all = walk-held memory tables a n access (alone w) gives shape names each is held in all.0

  pub answer-alone : (len : ℕ) → len ≡ n → Ok len ≡ ended (span (alone w).windows) (option_map error_of (alone w).fault)
  answer-alone len is = ap (λ (k : ℕ). Ok k) (is ∙ sym size-alone ∙ sym (span-one w))

  -- it is the place of a load or a store, if that is aligned there
  pub place-alone : (w.offset % n == 0) ≡ true
      → Ok w ≡ place_of n (access_of memory.regions (route memory tables) a n access)
  place-alone aligned =
      let is : Ok w ≡ first_aligned n (w ∷ []) None = let same = size-alone in grind (arith, nat_tests) in
      is ∙ ap (λ (r : Reach AccessFault). first_aligned n r.windows (option_map error_of r.fault)) gives.1

-- the buffer or the value that is filled by it
pub filled-alone : (blocks : List (List ℕ)) (w : Window) (old new : List ℕ) → w.size ≡ length old
    → new ≡ bytes_at blocks (cells_of w) → new ≡ filled_buffer blocks (cells (w ∷ [])) old
filled-alone blocks w old new size is =
    let count : length (cells_of w) ≡ w.size = length-cells_from w.block.0 w.offset w.size in
    let none : drop (length (cells_of w)) old ≡ [] = drop_all (length (cells_of w)) old (omega arith) in
    is ∙ sym (ap (λ (bs : List ℕ). bytes_at blocks (cells_of w) ++ bs) none ∙ append-nil (bytes_at blocks (cells_of w)))
    ∙ rw (cells-one w) refl

-- what is found has what follows of it
pub of_found : (o : Option Window) (P Q : Window → Type 0) → IfSome o P → ((w : Window) → P w → Q w) → IfSome o Q
of_found None P Q found follows = tt
of_found (Some w) P Q found follows = follows w found
