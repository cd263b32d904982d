-- A word that begins no command.
use Rattle.std.proofs.Common.{◌∙◌, codes}
use Rattle.vm_memory.specs.LineReading.{other_at}
use Rattle.vm_memory.proofs.SpellingLemmas.{second, other_word}
use Rattle.vm_memory.proofs.script.commands.other.Goals as goal

pub returns-in_default : goal.returns-in_default
unfolding other_at
returns-in_default c =
    let apart = other_word c.args.word.now in
    let tested = c.in_default in
    second _ _ _ (apart (codes "check") tested.not-check)
    ∙ second _ _ _ (apart (codes "copy") tested.not-copy)
    ∙ second _ _ _ (apart (codes "set") tested.not-set)
    ∙ second _ _ _ (apart (codes "invalidate") tested.not-invalidate)
    ∙ second _ _ _ (apart (codes "clear") tested.not-clear)
    ∙ second _ _ _ (apart (codes "lookup") tested.not-lookup)
    ∙ second _ _ _ (apart (codes "dirty") tested.not-dirty)
    ∙ second _ _ _ (apart (codes "harvest") tested.not-harvest)
