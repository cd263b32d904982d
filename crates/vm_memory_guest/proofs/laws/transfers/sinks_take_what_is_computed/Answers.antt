use Rattle.std.proofs.Common.{inl, inr, refl}
use Rattle.vm_memory_guest.specs.Error.{of_window}
use Rattle.vm_memory_guest.proofs.GivenLaws.{taken_is}
use Rattle.vm_memory_guest.proofs.laws.transfers.sinks_take_what_is_computed.Goals as goal

pub returns : goal.returns
returns g c fault ws total state before old new blocks answer tells keeps so =
    let t = taken_is g.S.WriteVolatile.sink g.S.WriteVolatile.taken g.S.WriteVolatile.may_want
    g.S.WriteVolatile.writes blocks of_window fault ws
    total before old answer new keeps so in
    elim (t.4 (state, total) tells refl) [ inl wanted ↦ inl wanted | inr counts ↦ inr (t.0, counts, t.2) ]
