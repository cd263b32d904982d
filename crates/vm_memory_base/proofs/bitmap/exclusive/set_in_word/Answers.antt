use Rattle.std.proofs.Common.{get_or}
use Rattle.vm_memory_base.proofs.FlagsLemmas.{Gets-word, GetsBits-or, GetsBits-and}
use Rattle.vm_memory_base.proofs.bitmap.exclusive.set_in_word.Goals as goal

pub returns-then-dirty-clause-flags : goal.returns-then-dirty-clause-flags
returns-then-dirty-clause-flags c =
    let words = c.args.words.now in
    rw c.if-dirty.true
    (Gets-word words c.args.k c.args.first c.args.end _ _ c.requires.here c.requires.inside
    (GetsBits-or (get_or words c.args.k 0) c.mask-mask.result c.args.first c.args.end c.mask-mask.ensures))

pub returns-else-dirty-clause-flags : goal.returns-else-dirty-clause-flags
returns-else-dirty-clause-flags c =
    let words = c.args.words.now in
    rw c.if-dirty.false
    (Gets-word words c.args.k c.args.first c.args.end _ _ c.requires.here c.requires.inside
    (GetsBits-and (get_or words c.args.k 0) c.mask-mask.result c.args.first c.args.end c.mask-mask.ensures
    c.mask-mask.type_inv))
