use Rattle.vm_memory_guest.specs.Error.{of_window}
use Rattle.vm_memory_guest.proofs.GivenLaws.{given_is}
use Rattle.vm_memory_guest.proofs.laws.transfers.transfers_out_are_computed.Goals as goal

pub returns : goal.returns
returns g c fault ws total state old new blocks answer tells so =
    given_is g.S.WriteVolatile.sink g.S.WriteVolatile.taken g.S.WriteVolatile.may_want
    g.S.WriteVolatile.writes blocks of_window fault ws total state old answer new tells so
