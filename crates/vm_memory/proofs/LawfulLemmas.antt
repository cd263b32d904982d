-- Lawful states, and layouts without one of their regions.
use Rattle.std.proofs.Common.{◌≡◌, ◌↔◌, ◌<◌, ℕ, List, [], ◌∷◌, ◌++◌, length, true, false, cond, Some, None, All}
use Rattle.std.proofs.Common.{arith, map, slice_get, slice_set}
use Rattle.std.proofs.lemmas.List.Elements.{All-head, All-tail, All-push, All-set, All-map, All-weaker, All-contains}
use Rattle.std.specs.Prelude.{Contains}
use Rattle.vm_memory_base.specs.Pages.{PageSet}
use Rattle.vm_memory_guest.specs.Collection.{each_is_region}
use Rattle.vm_memory_guest.specs.Host.{Host}
use Rattle.vm_memory_guest.specs.Layout.{is_exactly, after_first, removed}
use Rattle.vm_memory_guest.specs.Memory.{Memory}
use Rattle.vm_memory_guest.specs.Region.{Region, IsRegion, IsLayout, last, layout_error}
use Rattle.vm_memory.specs.Lawful.{IsLaidOut, IsLawful}
use Rattle.vm_memory_device.specs.Memories.{memory_meant, each_fits}
use Rattle.vm_memory.specs.Parts.{Parts, AreHeld, state_of}
use Rattle.vm_memory.specs.State.{State, named}
use Rattle.vm_memory_device.specs.declared.machine_memory.MachineMemory.{MachineMemory}
use Rattle.vm_memory.proofs.LayoutLemmas.{OfLeft, OfLeft-behind}
use Rattle.vm_memory.proofs.ListLemmas.{All-slice_get}
use Rattle.vm_memory.proofs.NamedLemmas.{named-among}

-- ---- a layout without one of its regions

-- without the first
IsLayout-rest : (q : Region) (rs : List Region) → IsLayout (q ∷ rs) → IsLayout rs
IsLayout-rest q [] h = tt
IsLayout-rest q (r ∷ rs) h = h.1

-- without the second
IsLayout-skip : (q r : Region) (rs : List Region) → IsRegion r → IsLayout (q ∷ r ∷ rs) → IsLayout (q ∷ rs)
IsLayout-skip q r [] fits h = tt
IsLayout-skip q r (x ∷ xs) fits h =
    let some : 0 < r.len = fits.some in
    let low : last q < r.start = h.0 in
    let high : last r < x.start = h.1.0 in
    (omega arith, h.1.1)

-- without any one after the first, and without any one
IsLayout-behind : (q : Region) (rs : List Region) (base size : ℕ) → All IsRegion rs → IsLayout (q ∷ rs)
    → OfLeft (λ xs. IsLayout (q ∷ xs)) (removed (λ r. r) rs base size)
IsLayout-behind q [] base size each h = tt
IsLayout-behind q (r ∷ rs) base size each h =
    elim (is_exactly base size r) as (λ b.
    OfLeft (λ xs. IsLayout (q ∷ xs)) (cond b (Some (rs, r)) (after_first r (removed (λ x. x) rs base size)))) [
      | true ↦ IsLayout-skip q r rs (All-head IsRegion r rs each) h
      | false ↦
          OfLeft-behind (λ xs. IsLayout (r ∷ xs)) (λ xs. IsLayout (q ∷ xs)) r (removed (λ x. x) rs base size)
          (λ xs rest. (h.0, rest)) (IsLayout-behind r rs base size (All-tail IsRegion r rs each) h.1)
    ]

pub IsLayout-removed : (rs : List Region) (base size : ℕ) → All IsRegion rs → IsLayout rs
    → OfLeft IsLayout (removed (λ r. r) rs base size)
IsLayout-removed [] base size each h = tt
IsLayout-removed (r ∷ rs) base size each h =
    elim (is_exactly base size r) as (λ b.
    OfLeft IsLayout (cond b (Some (rs, r)) (after_first r (removed (λ x. x) rs base size)))) [
      | true ↦ IsLayout-rest r rs h
      | false ↦
          OfLeft-behind (λ xs. IsLayout (r ∷ xs)) IsLayout r (removed (λ x. x) rs base size) (λ xs rest. rest)
          (IsLayout-behind r rs base size (All-tail IsRegion r rs each) h)
    ]

-- ---- lawful states

-- what is taken from the laws of regions
abbrev pub PassesLaw : Type 0
PassesLaw = (rs : List Region) → All IsRegion rs → (layout_error rs ≡ None) ↔ ((0 < length rs) × IsLayout rs)

-- what is found in a lawful state
module _ (s : State) (h : IsLawful s) where
  pub layout_at : (place : ℕ) (rs : List Region) → slice_get s.layouts place ≡ Some rs → IsLaidOut rs
  layout_at place rs e = All-slice_get IsLaidOut s.layouts place rs e h.layouts

  pub memory_at : (memory : ℕ) (m : Memory) → slice_get s.memories memory ≡ Some m → IsLaidOut m.regions
  memory_at memory m e = All-slice_get (λ (q : Memory). IsLaidOut q.regions) s.memories memory m e h.memories

  pub region_at : (number : ℕ) (r : Region) → slice_get s.regions number ≡ Some r → IsRegion r
  region_at number r e = All-slice_get IsRegion s.regions number r e h.regions

  pub named_fit : (ns : List ℕ) (rs : List Region) → named s.regions ns ≡ Some rs → All IsRegion rs
  named_fit ns rs e =
      All-weaker (Contains s.regions) IsRegion (λ r among. All-contains IsRegion s.regions r h.regions among) rs
      (named-among s.regions ns rs e)

  -- and so is what is made of it
  pub with_layout : (rs : List Region) → IsLaidOut rs → IsLawful (record s { layouts = s.layouts ++ rs ∷ [] })
  with_layout rs out = record {
    regions = h.regions;
    layouts = All-push IsLaidOut s.layouts rs h.layouts out;
    memories = h.memories;
  }

  pub with_memory : (m : Memory) → IsLaidOut m.regions → IsLawful (record s { memories = s.memories ++ m ∷ [] })
  with_memory m out = record {
    regions = h.regions;
    layouts = h.layouts;
    memories = All-push (λ (q : Memory). IsLaidOut q.regions) s.memories m h.memories out;
  }

  pub with_memory_at : (memory : ℕ) (m : Memory) → IsLaidOut m.regions
      → IsLawful (record s { memories = slice_set s.memories memory m })
  with_memory_at memory m out = record {
    regions = h.regions;
    layouts = h.layouts;
    memories = All-set (λ (q : Memory). IsLaidOut q.regions) s.memories memory m out h.memories;
  }

  pub with_other_host : (host : Host PageSet) → IsLawful (record s { host = host })
  with_other_host host = record { regions = h.regions; layouts = h.layouts; memories = h.memories }

-- what a machine stands for is lawful
pub machine_is_lawful : {R I B : Type 0} (region : R → Region) → ((r : R) → IsRegion (region r)) → (number : I → ℕ)
    → (pages : B → PageSet) (m : Parts R I B) → AreHeld region number m → IsLawful (state_of region number pages m)
machine_is_lawful {R} {I} region fits number pages m held = record {
  regions = each_is_region region fits m.regions;
  layouts = All-map IsLaidOut (map region) m.layouts
      (All-weaker (λ (rs : List R). IsLayout (map region rs)) (λ (rs : List R). IsLaidOut (map region rs))
      (λ rs laid. (each_is_region region fits rs, laid)) m.layouts held.laid_out);
  memories = All-map (λ (q : Memory). IsLaidOut q.regions) (memory_meant region number) m.memories
      (All-weaker (λ (x : MachineMemory R I). IsLayout (memory_meant region number x).regions)
      (λ (x : MachineMemory R I). IsLaidOut (memory_meant region number x).regions)
      (λ x laid. (each_fits region fits number x, laid)) m.memories held.memories_laid_out);
}
