use Rattle.std.proofs.Common.{ℕ, List, Result, ap, subst, ◌∙◌, arith}
use Rattle.live_migration.specs.Frame.{Message, message_of, kind_of}
use Rattle.live_migration.specs.declared.refusal.Refusal.{Refusal}
use Rattle.live_migration.specs.Reading.{Gives, message_in}
use Rattle.live_migration.proofs.FrameLemmas.{is_found, message_again}
use Rattle.live_migration.proofs.frame.Frame.decode.Goals as goal

pub returns-clause-found : goal.returns-clause-found
returns-clause-found c =
    is_found c.args.kind c.args.payload.now c.frame_in.result (λ i. omega (arith, c.type_inv.payload i))
    c.frame_in.ensures

pub returns-clause-only : goal.returns-clause-only
returns-clause-only c = λ m is k p.
    subst (λ (read : Result Message Refusal). Gives message_of c.frame_in.result read)
    (ap (λ (kind : ℕ). message_in kind c.args.payload.now) k
    ∙ ap (λ (payload : List ℕ). message_in (kind_of m) payload) p ∙ message_again m is) c.frame_in.ensures
