use Rattle.std.proofs.Common.{◌≡◌, ◌++◌, length, take}
use Rattle.std.specs.Int.{w32, w64, to_le_bytes}
use Rattle.std.specs.List.{flat_map}
use Rattle.live_migration.specs.Header.{entry_bytes, option_bits}
use Rattle.live_migration.proofs.header.encode_header.Given as goal

abbrev pub invariant-loop-entry : goal.invariant-loop-entry
invariant-loop-entry l =
    l.out.items ≡ (to_le_bytes w64 0x5441_5247_494d_4d56
    ++ (to_le_bytes w32 2 ++ (to_le_bytes w32 (option_bits l.fn.options.digests) ++ to_le_bytes w32 (length l.entries))))
    ++ flat_map entry_bytes (take l.entry-index l.entries)
