-- Walks over pieces of physical addresses, as a translation gives them.
use Rattle.std.specs.Prelude.{ℕ, List, [], ◌∷◌, ◌++◌, Option, Some, None}
use Rattle.vm_memory_base.specs.Address.{step}
use Rattle.vm_memory_base.specs.declared.bitmap.BitmapId.TheVariants.{Space}
use Rattle.vm_memory_base.specs.declared.iotlb.lookup.MappedRange.{MappedRange}
use Rattle.vm_memory_guest.specs.Access.{AccessFault}
use Rattle.vm_memory_guest.specs.Answer.{Reach}
use Rattle.vm_memory_guest.specs.Region.{Region}
use Rattle.vm_memory_guest.specs.Walk.{walk_of}
use Rattle.vm_memory_guest.specs.Window.{Window}

-- one walk, and after it another, unless something stops the first
abbrev pub unless_stopped : List Window → Option AccessFault → Reach AccessFault → Reach AccessFault
unless_stopped ws None rest = record { windows = ws ++ rest.windows; fault = rest.fault }
unless_stopped ws (Some fault) rest = record { windows = ws; fault = Some fault }

abbrev pub followed_by : Reach AccessFault → Reach AccessFault → Reach AccessFault
followed_by first rest = unless_stopped first.windows first.fault rest

-- the walks over pieces, one after the other, up to the first fault
abbrev pub walk_of_pieces : List Region → List MappedRange → Reach AccessFault
walk_of_pieces regions [] = record { windows = []; fault = None }
walk_of_pieces regions (p ∷ ps) = followed_by (walk_of regions p.base.0 p.length) (walk_of_pieces regions ps)

-- the same windows, whose bytes mark those of a space from an address on, one after the other
abbrev pub marking_from : ℕ → ℕ → List Window → List Window
marking_from space x [] = []
marking_from space x (w ∷ ws) =
    record w { bitmap = record { id = Space space; base = x } } ∷ marking_from space (step x w.size) ws

abbrev pub marking : ℕ → ℕ → Reach AccessFault → Reach AccessFault
marking space x walk = record { windows = marking_from space x walk.windows; fault = walk.fault }

-- what is left of such a walk after the piece that it goes through: pieces, and the space that it marks, from
-- an address on
pub record PiecesLeft : Type 0 where
  pub regions : List Region
  pub pieces : List MappedRange
  pub space : ℕ
  pub iova : ℕ

-- what is left of a walk through one piece, or through pieces of which these are left
abbrev pub left_of : Reach AccessFault → Option PiecesLeft → Reach AccessFault
left_of walk None = walk
left_of walk (Some p) = marking p.space p.iova (followed_by walk (walk_of_pieces p.regions p.pieces))
