use Rattle.vm_memory.proofs.TextLaws.{same_reply, same_setup_reply}
use Rattle.vm_memory.proofs.laws.scripts.replies_that_differ_have_other_texts.Goals as goal

pub returns : goal.returns
returns c = record { replies = same_reply; setup = same_setup_reply }
