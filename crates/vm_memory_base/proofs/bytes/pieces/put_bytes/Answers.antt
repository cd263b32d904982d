use Rattle.std.proofs.Common.{◌<◌, ◌+◌, length, arith}
use Rattle.std.proofs.lemmas.Grind.{common_steps}
use Rattle.vm_memory_base.proofs.PieceLemmas.{take-more_set, drop-more_set}
use Rattle.vm_memory_base.proofs.bytes.pieces.put_bytes.Goals as goal

pub loop-i-preserved : goal.loop-i-preserved
loop-i-preserved g c =
    let xs = g.T.ByteValued.bytes c.loop-i.value in
    let inside : c.args.from + c.loop-i.i < length xs = omega (arith, c.loop-i.invariant.count) in
    record {
      count = grind (arith, common_steps);
      before = grind (arith, common_steps);
      put = take-more_set _ _ c.args.data.now c.args.from c.loop-i.i inside c.loop-i-test.true c.loop-i.invariant.put
          c.set_byte.ensures;
      after = drop-more_set _ _ _ c.args.from c.loop-i.i _ c.loop-i.invariant.after c.set_byte.ensures;
    }
