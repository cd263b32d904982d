use Rattle.vm_memory_base.specs.lemmas.Told.{offers_tell}
use Rattle.vm_memory_base.proofs.laws.transfers.offers_are_computed.Goals as goal

pub returns : goal.returns
returns g c old new bytes answer h =
    let w = g.S.WriteVolatile in
    offers_tell w.sink w.taken w.may_want w.writes bytes old new answer h
