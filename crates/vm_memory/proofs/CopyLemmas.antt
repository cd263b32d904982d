-- Windows of blocks that are copied.
use Rattle.std.proofs.Common.{◌≡◌, Bool, true, false, if◌then◌else◌, Some, None, refl}
use Rattle.std.proofs.lemmas.Option.{same_Some}
use Rattle.vm_memory_base.specs.Pages.{PageSet}
use Rattle.vm_memory_guest.specs.Host.{Host}
use Rattle.vm_memory_guest.specs.Window.{Window}
use Rattle.vm_memory.specs.Copy.{copied, copies, has_block, ends_inside}
use Rattle.vm_memory.specs.declared.machine.command.BlockRange.{BlockRange}
use Rattle.vm_memory.specs.declared.machine.command.Reply.TheVariants.{Done}

-- a window that is found ends in its block
pub found : (fits : Bool) (w v : Window) → Some w ≡ (if fits then Some v else None) → (fits ≡ true) × (w ≡ v)
found true w v e = (refl, same_Some w v e)
found false w v e = absurd (cc)

-- a copy of a window to another, both of which end in their blocks
pub done : (old new : Host PageSet) (from to : BlockRange) → has_block old from ≡ true → has_block old to ≡ true
    → ends_inside old from ≡ true → ends_inside old to ≡ true → new ≡ copied old from to
    → (Done, new) ≡ copies old from to
done old new from to a b c d same = rw (a, b, c, d, same) refl
