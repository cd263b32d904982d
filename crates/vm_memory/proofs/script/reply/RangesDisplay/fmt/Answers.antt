-- The ranges that are kept are those of the list.
use Rattle.std.proofs.Common.{rules}
use Rattle.vm_memory.proofs.ReplyLemmas.{text_of_ranges-map}
use Rattle.vm_memory.proofs.script.reply.RangesDisplay.fmt.Goals as goal

pub returns-clause-writes : goal.returns-clause-writes
returns-clause-writes g c plain ok =
    rw (← c.as_slice.ensures, text_of_ranges-map c.as_slice.result.now) (search rules)
