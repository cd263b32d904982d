use Rattle.vm_memory_guest.specs.Error.{of_window}
use Rattle.vm_memory_guest.proofs.GivenLaws.{taken_is}
use Rattle.vm_memory_guest.proofs.laws.transfers.sinks_take_the_first_bytes.Goals as goal

pub returns : goal.returns
returns g c fault ws total before old new blocks answer keeps so =
    let t = taken_is g.S.WriteVolatile.sink g.S.WriteVolatile.taken g.S.WriteVolatile.may_want
    g.S.WriteVolatile.writes blocks of_window fault ws
    total before old answer new keeps so in
    (t.0, t.1, t.2, t.3)
