-- What blocks and sections cost of a limit.
use Rattle.std.proofs.Common.{◌≡◌, ℕ, ◌+◌, ◌-◌, ◌≤◌, List, [], ◌∷◌, ◌++◌, ap, sym, ◌∙◌, arith}
use Rattle.std.specs.Prelude.{flat_map, sum_by}
use Rattle.std.proofs.lemmas.List.{flat_map_more}
use Rattle.std.proofs.lemmas.List.Sums.{sum_by-append, sum_by-cons}
use Rattle.live_migration.specs.Frame.{Message}
use Rattle.live_migration.specs.Header.{AreEntries, IsHeader}
use Rattle.live_migration.specs.Receiving.{cost_of, memory_of, section_in}
use Rattle.live_migration.specs.declared.header.BlockEntry.{BlockEntry}

blocks_within : (from left : ℕ) (es : List BlockEntry) → AreEntries from left es → memory_of es ≤ left
blocks_within from left [] are = omega arith
blocks_within from left (e ∷ es) are =
    let allowed = are.0.allowed in
    let rest = blocks_within (e.address + e.len) (left - e.len) es are.1 in
    let sum = sum_by-cons (λ (x : BlockEntry). x.len) e es in
    omega arith

-- what the blocks of a header leave of the limit
pub blocks_cost : (limit : ℕ) (es : List BlockEntry) → IsHeader limit es → (limit - memory_of es) + memory_of es ≡ limit
blocks_cost limit es is = let within = blocks_within 0 limit es is.1 in omega arith

-- what one more message costs
pub sections_cost : (ms : List Message) (m : Message) → sum_by cost_of (flat_map section_in (ms ++ m ∷ []))
    ≡ sum_by cost_of (flat_map section_in ms) + sum_by cost_of (section_in m)
sections_cost ms m =
    ap (sum_by cost_of) (sym (flat_map_more section_in [] ms m))
    ∙ sum_by-append cost_of (flat_map section_in ms) (section_in m)
