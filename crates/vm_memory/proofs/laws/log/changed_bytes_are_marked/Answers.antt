use Rattle.std.proofs.Common.{ℕ, List, inl, inr, ap, ◌∙◌}
use Rattle.vm_memory_guest.specs.Dirt.{after_write, path_cells}
use Rattle.vm_memory_guest.specs.Host.{byte_at}
use Rattle.vm_memory.proofs.ChangeLemmas.{changed_cell}
use Rattle.vm_memory.proofs.laws.log.changed_bytes_are_marked.Goals as goal

pub returns : goal.returns
returns c = λ xs bytes host cell p differs short there inside.
    elim (changed_cell (path_cells xs) bytes host.blocks cell) [
      | inl e ↦ absurd (differs (ap (λ (bs : List (List ℕ)). byte_at bs cell)
          (c.dirt_stays.ensures.bytes xs bytes host) ∙ e))
      | inr m ↦ c.marks_change_bitmaps_alone.ensures.dirty (path_cells xs) cell (after_write xs bytes host) p m short
          there inside
    ]
