-- The proofs that a bitmap that may be missing keeps the laws of `ExactBitmap`.
use Rattle.std.specs.Prelude.{◌≡◌, ℕ, Bool, Option, Some, None, option_and_then}
use Rattle.std.proofs.Common.{ap, ◌∙◌}
use Rattle.vm_memory_base.specs.OptionalBitmap.{MarksOption, TellsOption}
use Rattle.vm_memory_base.specs.Pages.{PageSet, marked, is_dirty_at}

pub pages_after_marks : {B : Type 0} (marks : B → ℕ → ℕ → B → Type 0) (pages : B → PageSet)
    → ((old new : B) (offset len : ℕ) → marks old offset len new → pages new ≡ marked offset len (pages old))
    → (old new : Option B) (offset len : ℕ) → MarksOption marks old offset len new
    → option_and_then pages new ≡ marked offset len (option_and_then pages old)
pages_after_marks marks pages exact None new offset len h = ap (option_and_then pages) h
pages_after_marks marks pages exact (Some b) new offset len h =
    ap (option_and_then pages) h.1 ∙ exact b h.0 offset len h.2

pub told_of_pages : {B : Type 0} (tells : B → ℕ → Bool → Type 0) (pages : B → PageSet)
    → ((b : B) (offset : ℕ) (told : Bool) → tells b offset told → told ≡ is_dirty_at (pages b) offset)
    → (b : Option B) (offset : ℕ) (told : Bool) → TellsOption tells b offset told
    → told ≡ is_dirty_at (option_and_then pages b) offset
told_of_pages tells pages exact None offset told h = h
told_of_pages tells pages exact (Some b) offset told h = exact b offset told h
