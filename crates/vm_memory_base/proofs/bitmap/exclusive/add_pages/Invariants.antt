use Rattle.std.proofs.Common.{◌≡◌, ℕ, List, ◌++◌}
use Rattle.vm_memory_base.specs.Flags.{dirty_among}
use Rattle.vm_memory_base.proofs.bitmap.exclusive.add_pages.Given as goal

abbrev pub invariant-bits : goal.invariant-bits
invariant-bits l =
    (done : List ℕ)
    × (l.pages.items ≡ l.fn.pages.items ++ done)
    × (dirty_among l.word l.first ≡ done ++ dirty_among l.left l.first)

abbrev pub decreases-bits : goal.decreases-bits
decreases-bits l = l.left
