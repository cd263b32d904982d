-- Guest memory behind an IOMMU, as rings find it.
use Rattle.std.proofs.Common.{◌≡◌, ◌∙◌, ℕ, Bool, true, false, List, [], ◌∷◌, ◌++◌, map, flat_map, ◌&&◌, Option, Some, None, MatchOption, is_some, refl, ap, subst}
use Rattle.vm_memory_guest.specs.Host.{Holds, Host, Name, Shape, Space, Tlb, shape_of}
use Rattle.vm_memory_guest.specs.Mmap.{PlacedBlock, mmap_region}
use Rattle.vm_memory_guest.specs.Region.{region_names}
use Rattle.vm_memory_device.specs.Iommu.{Behind, behind}
use Rattle.vhost_backend.specs.BlockTable.{can_ask}
use Rattle.vhost_backend.specs.ConnectionMemory.{IsHeldBy, IsIoMemory, MemoryState, marks_nothing, memory_of, memory_step, table_step, way_of}
use Rattle.vhost_backend.specs.RingMemory.{HoldsAll, Logs, MemoryStep, Returned}
use Rattle.vhost_backend.specs.declared.block_backend.BlockBackend.{BlockBackend}
use Rattle.vhost_backend.specs.declared.ring_memory.Logged.{Logged}

last_held : (shape : Shape) (xs ys : List Name) → Holds shape (xs ++ ys) → Holds shape ys
last_held shape [] ys held = held
last_held shape (x ∷ xs) ys held = last_held shape xs ys held.1

pub io_held : (layout : List PlacedBlock) (host : Host (Unit {0})) (on : Bool) (o : Option (Behind (List PlacedBlock) ℕ))
    (b : Behind (List PlacedBlock) ℕ) → IsHeldBy layout host × IsIoMemory layout host on o → o ≡ Some b
    → HoldsAll (shape_of host)
    (flat_map region_names (map mmap_region b.backend) ++ Tlb b.iommu ∷ Space b.space ∷ [])
    (flat_map region_names (map mmap_region layout)) (Some (record { 0 = 0 }))
io_held layout host on o b (held, io) is =
    let there : IsIoMemory layout host on (Some b) = subst (IsIoMemory layout host on) is io in
    let names = flat_map region_names (map mmap_region layout) in
    let last = last_held (shape_of host) names (Tlb 0 ∷ Space 0 ∷ []) there.1 in
    rw there.0 (there.1, held, (last.0, tt))

-- it is there
pub kept_held : (layout : List PlacedBlock) (host : Host (Unit {0})) (on : Bool)
    (o : Option (Behind (List PlacedBlock) ℕ)) → IsIoMemory layout host on o
    → MatchOption o (Unit {0}) (λ b. Holds (shape_of host)
    (flat_map region_names (map mmap_region b.backend) ++ Tlb b.iommu ∷ Space b.space ∷ []))
kept_held layout host on None io = tt
kept_held layout host on (Some b) (is, held) = rw is held

-- what holds of the steps on lent memory holds of those on the connection's
module _ (P : (Logged (Unit {0}) → (s : MemoryStep) → Returned s → Logged (Unit {0}) → Type 0) → Type 0)
    (m : MemoryState) (o : Option (Behind (List PlacedBlock) ℕ)) (joined : m.is_joined ≡ is_some o) where
  pub io_steps : (b : Behind (List PlacedBlock) ℕ) → IsIoMemory m.layout m.logged.host m.is_behind o → o ≡ Some b
      → m.is_behind ≡ true
      → P (Logs marks_nothing (behind (map mmap_region b.backend) b.iommu b.space b.on) (memory_of m)
      (Some (record { 0 = 0 })))
      → P (memory_step m)
  io_steps b io is on p =
      let there : IsIoMemory m.layout m.logged.host m.is_behind (Some b) =
      subst (IsIoMemory m.layout m.logged.host m.is_behind) is io in
      let yes : m.is_joined ≡ true = joined ∙ ap is_some is in
      rw (yes, on) (rw (there.0, on) at p)

  -- also if no ring lies behind it by now
  pub joined_steps : (b : Behind (List PlacedBlock) ℕ) → IsIoMemory m.layout m.logged.host m.is_behind o → o ≡ Some b
      → P (Logs marks_nothing (behind (map mmap_region b.backend) b.iommu b.space b.on) (memory_of m)
      (Some (record { 0 = 0 }))) → P (table_step m)
  joined_steps b io is p =
      let there : IsIoMemory m.layout m.logged.host m.is_behind (Some b) =
      subst (IsIoMemory m.layout m.logged.host m.is_behind) is io in
      let yes : m.is_joined ≡ true = joined ∙ ap is_some is in
      rw yes (rw there.0 at p)

  pub unjoined_steps : o ≡ None → P (Logs marks_nothing (memory_of m) (memory_of m) None) → P (table_step m)
  unjoined_steps is p = let no : m.is_joined ≡ false = joined ∙ ap is_some is in rw no p

  pub plain_steps : (is_some o && m.is_behind) ≡ false → P (Logs marks_nothing (memory_of m) (memory_of m) None)
      → P (memory_step m)
  plain_steps off p =
      let no : (m.is_joined && m.is_behind) ≡ false = ap (λ (j : Bool). j && m.is_behind) joined ∙ off in rw no p

-- what translates the addresses of rings
module _ (m : MemoryState) (o : Option (Behind (List PlacedBlock) ℕ)) (joined : m.is_joined ≡ is_some o)
    (w : BlockBackend) where
  pub io_way : (b : Behind (List PlacedBlock) ℕ) (can : Bool) → o ≡ Some b → m.is_behind ≡ true → can ≡ can_ask w
      → Some (record { table = m.table; can_ask = can }) ≡ way_of m w
  io_way b can is on asks = let yes : m.is_joined ≡ true = joined ∙ ap is_some is in rw (yes, on, asks) refl

  pub no_way : (is_some o && m.is_behind) ≡ false → None ≡ way_of m w
  no_way off =
      let no : (m.is_joined && m.is_behind) ≡ false = ap (λ (j : Bool). j && m.is_behind) joined ∙ off in rw no refl
