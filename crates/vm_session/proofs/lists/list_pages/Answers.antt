use Rattle.std.proofs.Common.{◌∙◌, sym}
use Rattle.vm_memory.specs.declared.machine.command.Reply.TheVariants as reply
use Rattle.vm_session.proofs.ListLemmas.{is_short, pages_length}
use Rattle.vm_session.proofs.lists.list_pages.Goals as goal

pub returns-then-output-needed : goal.returns-then-output-needed
returns-then-output-needed c =
    let pages = c.args.pages.now in
    is_short (reply.Pages pages) c.args.output.now c.bytes_for-needed.result c.short.result
    (pages_length pages ∙ sym c.bytes_for-needed.ensures) c.if-output-needed.true c.short.ensures
