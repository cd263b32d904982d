use Rattle.std.proofs.Common.{Bool, List, Result, ap, subst, ◌∙◌, arith}
use Rattle.live_migration.specs.Header.{GivesUnlessMemory, header_in, parts_of}
use Rattle.live_migration.specs.declared.header.BlockEntry.{BlockEntry}
use Rattle.live_migration.specs.declared.refusal.Refusal.{Refusal}
use Rattle.live_migration.proofs.HeaderLemmas.{header_found, header_again}
use Rattle.live_migration.proofs.header.decode_header.Goals as goal

pub returns-clause-found : goal.returns-clause-found
returns-clause-found c =
    header_found c.args.limit c.args.bytes.now c.header_in.result (λ i. omega (arith, c.type_inv.bytes i))
    c.header_in.ensures

pub returns-clause-only : goal.returns-clause-only
returns-clause-only c = λ digests es is e.
    subst (λ (read : Result (Bool × List BlockEntry) Refusal).
    GivesUnlessMemory parts_of c.header_in.result read)
    (ap (header_in c.args.limit) e ∙ header_again c.args.limit digests es is) c.header_in.ensures
