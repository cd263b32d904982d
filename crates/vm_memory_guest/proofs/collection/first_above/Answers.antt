use Rattle.std.proofs.Common.{length, rules, arith}
use Rattle.vm_memory_guest.proofs.LayoutLemmas.{binary_digits-step, binary_digits-few}
use Rattle.vm_memory_guest.proofs.collection.first_above.Goals as goal

pub overflow_add-probes : goal.overflow_add-probes
overflow_add-probes c =
    let step = binary_digits-step c.loop-size.size c.loop-size.invariant.some in
    let few = binary_digits-few (length c.args.starts.now) in
    let so_far = c.loop-size.invariant.probes in
    omega (arith, step, few, so_far)

pub overflow_add-probes-2 : goal.overflow_add-probes-2
overflow_add-probes-2 c =
    let step = binary_digits-step c.loop-size.size c.loop-size.invariant.some in
    let few = binary_digits-few (length c.args.starts.now) in
    let so_far = c.loop-size.invariant.probes in
    omega (arith, step, few, so_far)

pub loop-size-preserved : goal.loop-size-preserved
loop-size-preserved c =
    let step = binary_digits-step c.loop-size.size c.loop-size.invariant.some in
    let so_far = c.loop-size.invariant.probes in
    record {
      some = omega (arith, c.loop-size-test.true);
      within = search rules;
      below = search rules;
      above = search rules;
      start = search rules;
      probes = omega (arith, step, so_far);
    }
