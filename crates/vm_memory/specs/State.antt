-- The state of a machine as a model.
use Rattle.std.specs.Prelude.{ℕ, List, [], ◌∷◌, slice_get, Option, Some, None}
use Rattle.vm_memory_base.specs.Pages.{PageSet}
use Rattle.vm_memory_guest.specs.Host.{Host}
use Rattle.vm_memory_guest.specs.Region.{Region}
use Rattle.vm_memory_guest.specs.Memory.{Memory}

-- the pool of regions, the tables of the translators, what was made, and the host
pub record State : Type 0 where
  pub regions : List Region
  pub translators : List ℕ
  pub layouts : List (List Region)
  pub memories : List Memory
  pub host : Host PageSet

-- the elements of these numbers, if there is one of each
abbrev pub put_first : {X : Type 0} → Option X → Option (List X) → Option (List X)
put_first None rest = None
put_first (Some x) None = None
put_first (Some x) (Some xs) = Some (x ∷ xs)

abbrev pub named : {X : Type 0} → List X → List ℕ → Option (List X)
named xs [] = Some []
named xs (number ∷ numbers) = put_first (slice_get xs number) (named xs numbers)
