use Rattle.vm_memory.specs.declared.machine.command.Reply.TheVariants as reply
use Rattle.vm_memory.proofs.RunLemmas.{still-step}
use Rattle.vm_memory.proofs.StepLemmas.{still-fault}
use Rattle.vm_memory.proofs.laws.machine.refusals_change_nothing.Goals as goal

pub returns : goal.returns
returns c =
    let stays = still-step c.refused_transfers_in_change_nothing.ensures in
    record {
      fault = λ old new d f whole step. stays old new d (reply.Fault f) (still-fault f whole) step;
      no_such = λ old new d step. stays old new d reply.NoSuch tt step;
      memory = λ old new d step. stays old new d reply.Memory tt step;
      read = λ old new d bytes step. stays old new d (reply.Bytes bytes) tt step;
      load = λ old new d value step. stays old new d (reply.Value value) tt step;
      check = λ old new d truth step. stays old new d (reply.Truth truth) tt step;
      pieces = λ old new d pieces step. stays old new d (reply.Pieces pieces) tt step;
      fails = λ old new d fails step. stays old new d (reply.Fails fails) tt step;
      sent = λ old new d ending taken step. stays old new d (reply.Sent ending taken) tt step;
      bad_range = λ old new d step. stays old new d reply.BadRange tt step;
    }
