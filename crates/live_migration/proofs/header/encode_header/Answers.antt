use Rattle.std.proofs.Common.{◌≡◌, ◌++◌, ◌∙◌, ap, length, List, ℕ, arith}
use Rattle.std.proofs.lemmas.Grind.{common_steps}
use Rattle.std.specs.Int.{w32, w64, to_le_bytes}
use Rattle.live_migration.specs.Header.{option_bits}
use Rattle.live_migration.proofs.HeaderLemmas.{entry_after}
use Rattle.live_migration.proofs.header.encode_header.Goals as goal

pub loop-entry-preserved : goal.loop-entry-preserved
loop-entry-preserved c =
    let front : List ℕ = to_le_bytes w64 0x5441_5247_494d_4d56
    ++ (to_le_bytes w32 2 ++ (to_le_bytes w32 (option_bits c.args.options.digests)
    ++ to_le_bytes w32 (length c.args.entries.now))) in
    let put : c.extend_from_slice-in-loop-entry.new.self.items ≡ c.loop-entry.out.items ++ c.entry_bytes.result =
    grind (arith, common_steps, c.extend_from_slice-in-loop-entry.ensures.items) in
    entry_after front c.loop-entry.out.items c.extend_from_slice-in-loop-entry.new.self.items c.args.entries.now
    c.loop-entry.entry-index _ c.loop-entry-test.true c.loop-entry.invariant
    (put ∙ ap (λ (x : List ℕ). c.loop-entry.out.items ++ x) c.entry_bytes.ensures)
