use Rattle.std.proofs.Common.{◌≡◌}
use Rattle.linux_loader.specs.Elf.{program_headers}
use Rattle.linux_loader.proofs.elf.header.program_headers.Given as goal

abbrev pub invariant-loop-place : goal.invariant-loop-place
invariant-loop-place l = l.headers.items ≡ program_headers l.place l.table
