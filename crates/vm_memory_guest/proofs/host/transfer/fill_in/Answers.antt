use Rattle.std.proofs.Common.{ℕ, List, arith, subst, ◌∙◌}
use Rattle.std.proofs.lemmas.Grind.{common_steps}
use Rattle.vm_memory_base.specs.Transfer.{FillsBy}
use Rattle.vm_memory_guest.proofs.TypedLemmas.{place}
use Rattle.vm_memory_guest.proofs.host.transfer.fill_in.Goals as goal

pub returns-clause-tried : goal.returns-clause-tried
returns-clause-tried g c =
    let p = place c.args.blocks.now c.args.at.block c.args.at.offset c.args.at.len c.index_mut-all.result.now
    c.as_mut_slice.result.now (grind (arith, common_steps)) (grind (arith, common_steps)) c.as_mut_slice.ensures.value
    c.requires.within in
    let source = g.S.ReadVolatile.source in
    let new = c.read_exact_volatile.new.buf in (
      new,
      c.read_exact_volatile.auto.buf ∙ p.long,
      subst (λ (bytes : List ℕ). FillsBy source g.S.ReadVolatile.reads g.S.ReadVolatile.known_left
          c.args.source.now bytes c.read_exact_volatile.result new c.read_exact_volatile.new.self)
          p.lent c.read_exact_volatile.ensures.reads,
      p.put new c.read_exact_volatile.auto.buf,
    )
