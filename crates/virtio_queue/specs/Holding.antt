-- That a host holds what is named is one fact.
use Rattle.std.specs.Prelude.{List, [], ◌∷◌}
use Rattle.std.specs.Coded.{×_prop, Unit-prop, le_prop}
use Rattle.vm_memory_guest.specs.Host.{Block, Holds, IsHeld, Name, Place, Shape, Space, Tlb}

held_prop : (shape : Shape) (name : Name) → IsProp (IsHeld shape name)
held_prop shape (Block block) = le_prop
held_prop shape (Place block offset len) = ×_prop le_prop le_prop
held_prop shape (Space space) = le_prop
held_prop shape (Tlb table) = le_prop

pub holds_prop : (shape : Shape) (names : List Name) → IsProp (Holds shape names)
holds_prop shape [] = Unit-prop
holds_prop shape (name ∷ names) = ×_prop (held_prop shape name) (holds_prop shape names)
