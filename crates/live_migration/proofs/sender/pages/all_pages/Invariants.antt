use Rattle.std.proofs.Common.{◌≡◌}
use Rattle.vm_memory_base.specs.Address.{numbers}
use Rattle.live_migration.proofs.sender.pages.all_pages.Given as goal

abbrev pub invariant-loop-page : goal.invariant-loop-page
invariant-loop-page l = l.pages.items ≡ numbers 0 l.page
