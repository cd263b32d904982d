use Rattle.vm_memory_base.specs.lemmas.Told.{fills_tell}
use Rattle.vm_memory_base.proofs.laws.transfers.fills_are_computed.Goals as goal

pub returns : goal.returns
returns g c old new buf after answer h =
    let r = g.S.ReadVolatile in
    fills_tell r.source r.reads r.known_left old new buf after answer h
