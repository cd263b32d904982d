use Rattle.std.proofs.Common.{◌≡◌, ◌==◌, ◌&&◌, true, length, sym, subst}
use Rattle.vm_memory.specs.Inside.{parts_of}
use Rattle.vm_memory.specs.ScriptMachine.{ScriptParts}
use Rattle.vm_memory.proofs.SetupLemmas.{block_given_back}
use Rattle.vm_memory.proofs.machine.setup.Machine+GuestRegionMmap+TableIommu+ExclusiveBitmap.give_back.Goals as goal

pub returns : goal.returns
returns c =
    let none = subst
    (λ (m : ScriptParts). (length m.regions == 0 && length m.layouts == 0 && length m.memories == 0) ≡ true)
    (sym c.self.view_is) (sym c.if-not-names_no_block.ensures) in
    rw (← c.self.view_is) (block_given_back (parts_of c.self.inside) c.args.block.0 c.in-Ok.bitmap c.give_back.new.self
    (sym c.if-not-has_block.ensures.value) none c.in-Ok.ensures.pages c.give_back.ensures.left)
