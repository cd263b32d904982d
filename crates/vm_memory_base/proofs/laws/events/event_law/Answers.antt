use Rattle.std.proofs.Common.{false}
use Rattle.vm_memory_base.proofs.EventLaws.{told, since, found}
use Rattle.vm_memory_base.proofs.laws.events.event_law.Goals as goal

pub returns : goal.returns
returns c =
    record {
      told = told;
      not_invented = λ history page i h. since page history i h;
      not_lost = λ history page j h. found page false history j h;
    }
