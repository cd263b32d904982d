use Rattle.std.proofs.Common.{◌+◌, ◌*◌, ◌^◌, ◌≤◌, length, take}
use Rattle.live_migration.specs.Sending.{CopiesRuns}
use Rattle.live_migration.proofs.sender.pages.copy_pages.Given as goal

abbrev pub invariant-loop : goal.invariant-loop
invariant-loop l = record {
  within : l.at ≤ length l.pages;
  most : l.at * l.page_size ≤ 2 ^ 20;
  copied : CopiesRuns l.page_size l.number l.bytes (take l.at l.pages) l.initial.batch.items l.batch.items;
  short : length l.initial.batch.items ≤ 2 ^ 20 + 20 → length l.batch.items ≤ 2 ^ 20 + 20;
}
