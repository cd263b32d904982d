use Rattle.std.proofs.Common.{rules, ◌≡◌, ◌+◌, ◌<◌, ◌≤◌, Option, IfSome, subst, sym}
use Rattle.vhost_backend.specs.Given.{len_of_part, place_from}
use Rattle.vhost_backend.specs.declared.connection_memory.RegionPiece.{RegionPiece}
use Rattle.vhost_backend.proofs.GivenLemmas.{from_some}
use Rattle.vhost_backend.proofs.given.place_in.Goals as goal

pub returns-clause-some : goal.returns-clause-some
returns-clause-some c =
    let is : c.place_of.result ≡ place_from c.args.memory.now c.args.chain.now c.args.step c.args.given = search rules in
    subst (λ (o : Option RegionPiece). IfSome o (λ p. (0 < p.len) × (c.args.given + p.len ≤ len_of_part c.args.step)))
    (sym is) (from_some c.args.memory.now c.args.chain.now c.args.step c.args.given c.requires)
