use Rattle.vm_memory_guest.specs.Memory.{Direct, Through}
use Rattle.vm_memory_guest.proofs.PathLaws.{cells-windows, marks-windows, span-windows, windows-one, windows-all_held}
use Rattle.vm_memory_guest.proofs.laws.paths.windows_are_the_path.Goals as goal

pub returns : goal.returns
returns c = record {
  bytes = cells-windows;
  marks = marks-windows;
  span = span-windows;
  one = windows-one;
  held = λ shape regions a n each held. windows-all_held shape regions Direct a n each held tt;
  held_with_translation = λ shape regions says space a n each held space_held.
      windows-all_held shape regions (Through says space) a n each held space_held;
}
