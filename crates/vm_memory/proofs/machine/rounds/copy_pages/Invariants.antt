use Rattle.std.proofs.Common.{◌≡◌, take}
use Rattle.vm_memory_guest.specs.Patch.{patched}
use Rattle.vm_memory.proofs.machine.rounds.copy_pages.Given as goal

abbrev pub invariant-loop-page : goal.invariant-loop-page
invariant-loop-page l = l.image ≡ patched l.page_size (take l.page-index l.pages) l.block l.fn.image
