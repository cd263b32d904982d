use Rattle.std.proofs.Common.{◌<◌, ◌≤◌, ℕ, Bool, ◌∷◌, [], ◌++◌, ap, arith, sym}
use Rattle.vhost_backend.specs.Given.{len_of_part}
use Rattle.vhost_backend.proofs.GivenLemmas.{lays_more, whole_lies}
use Rattle.vhost_backend.proofs.given.lies_in_memory.Goals as goal

pub loop-given-preserved : goal.loop-given-preserved
loop-given-preserved c =
    let below : c.loop-given.given < len_of_part c.args.step =
    omega (arith, ap (λ (t : Bool × ℕ × ℕ). t.2) c.bytes_of-len.ensures.bytes) in (
      c.loop-given.invariant.0 ++ c.in-Some.place ∷ [],
      lays_more c.args.memory.now c.args.chain.now c.args.step 0 c.loop-given.given c.loop-given.invariant.0
          c.in-Some.place c.loop-given.invariant.1 below (sym c.in-Some.ensures.place),
    )

pub returns : goal.returns
returns c =
    let past : len_of_part c.args.step ≤ c.loop-given.given =
    omega (arith, ap (λ (t : Bool × ℕ × ℕ). t.2) c.bytes_of-len.ensures.bytes) in (
      c.loop-given.invariant.0,
      whole_lies c.args.memory.now c.args.chain.now c.args.step c.loop-given.given c.loop-given.invariant.0
          c.loop-given.invariant.1 past,
    )
