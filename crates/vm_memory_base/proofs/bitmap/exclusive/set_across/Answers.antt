use Rattle.std.proofs.Common.{◌+◌, ◌-◌, ◌*◌, ◌/◌, arith}
use Rattle.vm_memory_base.proofs.FlagsLemmas.{Gets-both, Gets-at}
use Rattle.vm_memory_base.proofs.bitmap.exclusive.set_across.Goals as goal

pub returns-clause-flags : goal.returns-clause-flags
returns-clause-flags c =
    let first = c.args.first in
    let end = c.args.end in
    let behind = 64 * (first / 64 + 1) in
    let last = 64 * ((end - 1) / 64) in
    let low = Gets-at _ _ first behind _ _ _ (omega arith) (omega arith) c.set_in_word.ensures.flags in
    let high = Gets-at _ _ last end _ _ _ (omega arith) (omega arith) c.set_in_word-2.ensures.flags in
    Gets-both _ _ _ first behind end _ (omega arith) (omega arith) low
    (Gets-both _ _ _ behind last end _ (omega arith) (omega arith) c.set_words.ensures.flags high)
