-- A word that begins none of these commands.
use Rattle.std.proofs.Common.{◌≡◌, ◌∙◌, codes}
use Rattle.vm_memory.specs.LineReading.{command_at, access_at}
use Rattle.vm_memory.proofs.SpellingLemmas.{second, other_word}
use Rattle.vm_memory.proofs.script.commands.parse.Goals as goal

pub returns-in_default : goal.returns-in_default
unfolding command_at
returns-in_default c =
    let apart = other_word c.args.word.now in
    let tested = c.in_default in
    let same : command_at c.args.word.now c.args.words.now ≡ access_at c.args.word.now c.args.words.now =
    second _ _ _ (apart (codes "layout") tested.not-layout)
    ∙ second _ _ _ (apart (codes "insert") tested.not-insert)
    ∙ second _ _ _ (apart (codes "remove") tested.not-remove)
    ∙ second _ _ _ (apart (codes "plain") tested.not-plain)
    ∙ second _ _ _ (apart (codes "memory") tested.not-memory)
    ∙ second _ _ _ (apart (codes "replace") tested.not-replace)
    ∙ second _ _ _ (apart (codes "enable") tested.not-enable) in
    rw same c.access.ensures
