use Rattle.vm_memory_base.specs.lemmas.Told.{sends_tell}
use Rattle.vm_memory_base.proofs.laws.transfers.sends_are_computed.Goals as goal

pub returns : goal.returns
returns g c old new bytes count answer h =
    let w = g.S.WriteVolatile in
    sends_tell w.sink w.taken w.may_want w.writes bytes old new count answer h
